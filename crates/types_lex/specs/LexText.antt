-- The lexemes of a text, or the first fault of the text. Separators and comments follow the lexical
-- conventions of OCaml's reference manual, except that comments may contain anything. The faults
-- are specific to this project.
use Rattle.std.specs.Prelude.{◌≡◌, ◌≢◌, ◌⊎◌, ℕ, zero, suc, ◌+◌, ◌<◌, ◌≤◌, Bool, false, ◌&&◌, ◌||◌}
use Rattle.std.specs.Prelude.{◌==◌, List, [], ◌∷◌, ◌++◌, length, IsTrue, Result, Ok, Err}
use Rattle.std.specs.List.{flat_map, AllByRecursion}
use Rattle.types_lex.specs.declared.lexeme.Lexeme.{Lexeme}
use Rattle.types_lex.specs.declared.lexeme.LexFault.{LexFault}
use Rattle.types_lex.specs.declared.lexeme.LexFault.TheVariants as faults
use Rattle.types_lex.specs.Lexeme.{is_separator, CharForm, char_bytes, IsCharForm, LexemeForm}
use Rattle.types_lex.specs.Lexeme.{form_bytes}
use Rattle.types_lex.specs.Lexeme.{form_kind, IsForm, IsInRange, IsTooBig, Precedes}

-- ---- comments: 40 is `(`, 42 is `*`, 41 is `)`

-- A unit of the inside of a comment: `(*`, `*)`, or a single byte. The inside of a comment is
-- divided into units from left to right.
pub data Cut : Type 0 where
  Opens : Cut
  Closes : Cut
  Other : (b : ℕ) → Cut

abbrev pub cut_bytes : Cut → List ℕ
cut_bytes Opens = 40 ∷ 42 ∷ []
cut_bytes Closes = 42 ∷ 41 ∷ []
cut_bytes (Other b) = b ∷ []

-- The two bytes are `(*` or `*)`.
abbrev pub is_bracket : ℕ → ℕ → Bool
is_bracket a b = (a == 40 && b == 42) || (a == 42 && b == 41)

abbrev pub begins_bracket : List ℕ → Bool
begins_bracket [] = false
begins_bracket (a ∷ []) = false
begins_bracket (a ∷ b ∷ bs) = is_bracket a b

-- The units divide the inside of a comment from left to right. A single byte is a unit only if
-- neither `(*` nor `*)` begins at the byte.
abbrev pub IsCut : List Cut → List ℕ → Type 0
IsCut [] after = Unit {0}
IsCut (Opens ∷ cuts) after = IsCut cuts after
IsCut (Closes ∷ cuts) after = IsCut cuts after
IsCut (Other b ∷ cuts) after =
    (begins_bracket (b ∷ (flat_map cut_bytes cuts ++ after)) ≡ false) × IsCut cuts after

-- The brackets among the units are balanced, with `depth` brackets open at the start and none at
-- the end.
abbrev pub Nests : ℕ → List Cut → Type 0
Nests depth [] = depth ≡ 0
Nests depth (Opens ∷ cuts) = Nests (suc depth) cuts
Nests zero (Closes ∷ cuts) = ⊥
Nests (suc depth) (Closes ∷ cuts) = Nests depth cuts
Nests depth (Other b ∷ cuts) = Nests depth cuts

-- The units are the inside of a comment. The end of the comment and the bytes `after` follow the
-- units.
abbrev pub IsInside : List Cut → List ℕ → Type 0
IsInside cuts after = Nests 0 cuts × IsCut cuts (42 ∷ 41 ∷ after)

-- ---- parts of a text

-- The form is the lexeme at the start of the text. The bytes `(*` begin no lexeme. Among all forms
-- with which the text begins, the lexeme takes precedence.
pub record IsTaken (form : LexemeForm) (after : List ℕ) : Type 0 where
  pub written : IsForm form
  pub no_comment : (more : List ℕ) → form_bytes form ++ after ≢ 40 ∷ 42 ∷ more
  pub first : (other : LexemeForm) (more : List ℕ) → IsForm other
      → form_bytes other ++ more ≡ form_bytes form ++ after → Precedes form other

-- A part of a text: a separator, a comment, or a lexeme.
pub data TextPart : Type 0 where
  Separator : (b : ℕ) → TextPart
  Comment : (inside : List Cut) → TextPart
  Word : (form : LexemeForm) → TextPart

abbrev pub part_bytes : TextPart → List ℕ
part_bytes (Separator b) = b ∷ []
part_bytes (Comment inside) = 40 ∷ 42 ∷ (flat_map cut_bytes inside ++ 42 ∷ 41 ∷ [])
part_bytes (Word form) = form_bytes form

-- The part may precede the bytes `after`.
abbrev pub IsPart : TextPart → List ℕ → Type 0
IsPart (Separator b) after = IsTrue (is_separator b)
IsPart (Comment inside) after = IsInside inside after
IsPart (Word form) after = IsTaken form after × IsInRange form

-- Each part may precede the later parts and the bytes `rest`.
abbrev pub AreParts : List TextPart → List ℕ → Type 0
AreParts [] rest = Unit {0}
AreParts (part ∷ parts) rest = IsPart part (flat_map part_bytes parts ++ rest) × AreParts parts rest

-- The lexemes among the parts, if the first part begins at position `position`.
abbrev pub lexemes_of : ℕ → List TextPart → List Lexeme
lexemes_of position [] = []
lexemes_of position (Word form ∷ parts) =
    record
    { kind = form_kind form; span = record { first = position; len = length (form_bytes form) } }
    ∷ lexemes_of (position + length (form_bytes form)) parts
lexemes_of position (part ∷ parts) = lexemes_of (position + length (part_bytes part)) parts

-- ---- faults

-- A string begins the text, and the characters of the string are valid up to the bytes `rest`.
abbrev pub OpensString : List ℕ → List ℕ → Type 0
OpensString text rest =
    (chars : List CharForm) × AllByRecursion (IsCharForm 34) chars
    × (text ≡ 34 ∷ (flat_map char_bytes chars ++ rest))

-- The text does not begin with a valid character of a string.
abbrev pub StartsNoChar : List ℕ → Type 0
StartsNoChar text =
    (char : CharForm) (more : List ℕ) → IsCharForm 34 char → char_bytes char ++ more ≢ text

-- The text begins with neither a separator nor a string nor a form.
pub record StartsNothing (text : List ℕ) : Type 0 where
  pub byte : ℕ
  pub others : List ℕ
  pub is : text ≡ byte ∷ others
  pub no_separator : is_separator byte ≡ false
  pub no_string : byte ≢ 34
  pub no_form : (form : LexemeForm) (after : List ℕ) → IsForm form → form_bytes form ++ after ≢ text

-- In a string that begins at position `position`, a backslash begins no valid escape. The fault is
-- at the byte after the backslash.
abbrev pub IsBadEscape : ℕ → List ℕ → ℕ → Type 0
IsBadEscape position text fault =
    (after : List ℕ) × OpensString text (92 ∷ after) × StartsNoChar (92 ∷ after)
    × (fault + length after ≡ position + length text)

-- A string begins the text and reaches a line feed or the end of the text without a closing quote.
abbrev pub IsOpenString : List ℕ → Type 0
IsOpenString text = OpensString text [] ⊎ ((after : List ℕ) × OpensString text (10 ∷ after))

-- A comment begins the text, and no prefix of the text is a complete comment.
abbrev pub IsOpenComment : List ℕ → Type 0
IsOpenComment text =
    ((more : List ℕ) × (text ≡ 40 ∷ 42 ∷ more))
    × ((inside : List Cut) (after : List ℕ) → IsInside inside after
    → part_bytes (Comment inside) ++ after ≢ text)

-- The lexeme at the start of the text is an integer that does not fit in 64 bits.
abbrev pub IsOverlong : List ℕ → Type 0
IsOverlong text =
    (form : LexemeForm) × (after : List ℕ) × (text ≡ form_bytes form ++ after) × IsTaken form after
    × IsTooBig form

-- The fault is at the start of the text. The text begins at position `position`.
abbrev pub Breaks : ℕ → List ℕ → LexFault → Type 0
Breaks position text (faults.BadByte fault) =
    ((fault ≡ position) × StartsNothing text) ⊎ IsBadEscape position text fault
Breaks position text (faults.OpenString fault) = (fault ≡ position) × IsOpenString text
Breaks position text (faults.OpenComment fault) = (fault ≡ position) × IsOpenComment text
Breaks position text (faults.TooBig fault) = (fault ≡ position) × IsOverlong text
Breaks position text faults.Memory = ⊥

-- ---- the lexemes or the fault of a text

-- The text is a sequence of parts, and `lexemes` are the lexemes among the parts.
abbrev pub Lexes : List ℕ → List Lexeme → Type 0
Lexes text lexemes =
    (parts : List TextPart) × AreParts parts [] × (text ≡ flat_map part_bytes parts)
    × (lexemes ≡ lexemes_of 0 parts)

-- The text is a sequence of parts, followed by the fault.
abbrev pub Faults : List ℕ → LexFault → Type 0
Faults text fault =
    (parts : List TextPart) × (rest : List ℕ) × AreParts parts rest
    × (text ≡ flat_map part_bytes parts ++ rest)
    × Breaks (length (flat_map part_bytes parts)) rest fault

-- ---- results of lexer functions

abbrev pub UnlessMemory : (LexFault → Type 0) → LexFault → Type 0
UnlessMemory P faults.Memory = Unit {0}
UnlessMemory P fault = P fault

-- The result of a call, mapped by `view`, is the expected result, unless memory ran out.
abbrev pub Answers : {X Y : Type 0} → (X → Y) → Result X LexFault → Result Y LexFault → Type 0
Answers view (Ok x) expected = expected ≡ Ok (view x)
Answers view (Err fault) expected = UnlessMemory (λ f. expected ≡ Err f) fault

-- ---- the outcome of a text

-- The outcome of the text: the lexemes of the text, or the fault of the text.
abbrev pub Outcome : List ℕ → Result (List Lexeme) LexFault → Type 0
Outcome text (Ok lexemes) = Lexes text lexemes
Outcome text (Err fault) = Faults text fault

-- The text has exactly one outcome: its lexemes or its fault.
abbrev pub HasOneOutcome : List ℕ → Type 0
HasOneOutcome text =
    (outcome : Result (List Lexeme) LexFault) × Outcome text outcome
    × ((other : Result (List Lexeme) LexFault) → Outcome text other → other ≡ outcome)

-- The spans of the lexemes are nonempty and follow one another from position `from` up to position
-- `end`.
abbrev pub SpansWithin : ℕ → List Lexeme → ℕ → Type 0
SpansWithin from [] end = from ≤ end
SpansWithin from (lexeme ∷ lexemes) end =
    (from ≤ lexeme.span.first) × (0 < lexeme.span.len)
    × SpansWithin (lexeme.span.first + lexeme.span.len) lexemes end
