-- The text of a type, with unexpanded abbreviations. Parentheses surround a tuple only if the tuple
-- is the single argument of a name, or a component of a tuple.
use Rattle.std.specs.Prelude.{ℕ, Bool, true, false, if◌then◌else◌, List, [], ◌∷◌, ◌++◌, map, codes}
use Rattle.types_spec.specs.types.Ty.{Ty, variable, named, tuple, bracket, part, tag, tag_of}
use Rattle.types_spec.specs.types.Ty.{including}

-- ---- joined texts

-- The texts in one text, with the separator `between` between each two neighbours.
abbrev pub joined_by : List ℕ → List (List ℕ) → List ℕ
joined_by between [] = []
joined_by between (text ∷ []) = text
joined_by between (text ∷ next ∷ texts) = text ++ between ++ joined_by between (next ∷ texts)

-- The text of a part, and whether the part is a tuple.
pub record PartText : Type 0 where
  pub is_tuple : Bool
  pub text : List ℕ

abbrev pub text_of : PartText → List ℕ
text_of chunk = chunk.text

abbrev pub enclosed : PartText → List ℕ
enclosed chunk = if chunk.is_tuple then codes "(" ++ chunk.text ++ codes ")" else chunk.text

-- ---- types

-- The beginning of a type before its parts: a name or variable, a tuple, or a bracket.
pub data Stem : Type 0 where
  word : (text : List ℕ) → Stem
  product : Stem
  brackets : Stem

-- A stem, and the texts of the parts that follow it.
pub record StemAndParts : Type 0 where
  pub stem : Stem
  pub parts : List PartText

abbrev pub encoded : Stem → List PartText → List ℕ
encoded (word text) [] = text
encoded (word text) (one ∷ []) = enclosed one ++ codes " " ++ text
encoded (word text) (one ∷ more) =
    codes "(" ++ joined_by (codes ", ") (map text_of (one ∷ more)) ++ codes ") " ++ text
encoded product all = joined_by (codes " * ") (map enclosed all)
encoded brackets all = codes "[ " ++ joined_by (codes " | ") (map text_of all) ++ codes " ]"

abbrev pub is_product : Stem → Bool
is_product (word text) = false
is_product product = true
is_product brackets = false

-- The text of a type as a part of another type.
abbrev pub as_chunk : StemAndParts → PartText
as_chunk chunks =
    record { is_tuple = is_product chunks.stem; text = encoded chunks.stem chunks.parts }

abbrev pub plain_chunk : List ℕ → PartText
plain_chunk text = record { is_tuple = false; text = text }

abbrev pub started : Stem → StemAndParts
started stem = record { stem = stem; parts = [] }

abbrev pub with_chunk : StemAndParts → PartText → StemAndParts
with_chunk chunks chunk =
    record { stem = chunks.stem; parts = chunks.parts ++ chunk ∷ [] }

abbrev pub chunks_of : Ty → StemAndParts
chunks_of (variable name) = started (word (codes "'" ++ name))
chunks_of (named name) = started (word name)
chunks_of tuple = started product
chunks_of bracket = started brackets
chunks_of (part whole added) = with_chunk (chunks_of whole) (as_chunk (chunks_of added))
chunks_of (tag whole name) = with_chunk (chunks_of whole) (plain_chunk (codes "`" ++ name))
chunks_of (tag_of whole name argument) =
    with_chunk (chunks_of whole)
    (plain_chunk (codes "`" ++ name ++ codes " of " ++ (as_chunk (chunks_of argument)).text))
chunks_of (including whole included) = with_chunk (chunks_of whole) (as_chunk (chunks_of included))

-- The text of a type as OCaml writes type expressions.
unfoldable pub type_text : Ty → List ℕ
type_text t = (as_chunk (chunks_of t)).text
