-- Tokens, and the bytes that encode tokens. `intern.c` reads each width and byte order.
use Rattle.std.specs.Prelude.{ℕ, zero, suc, ◌/◌, ◌%◌, ◌<◌, ◌≤◌, ◌≡◌, List, [], ◌∷◌, length, take}
use Rattle.std.specs.Prelude.{drop, ℤ, pos, Option, Some, None, Result, Ok, Err, ◌⊎◌}
use Rattle.base_data.specs.declared.model.value.Obj.{Obj}
use Rattle.base_data.specs.declared.model.value.Obj.TheVariants as objects
use Rattle.base_data.specs.declared.model.code.CodeKind.{CodeKind}
use Rattle.base_data.specs.declared.model.code.CodeKind.TheVariants as kinds
use Rattle.base_data.specs.declared.model.code.CodeFault.{CodeFault}
use Rattle.base_data.specs.declared.model.code.Measure.{Measure}
use Rattle.base_data.specs.declared.model.code.Measure.TheVariants as measures
use Rattle.base_data.specs.model.Bytes.{number, number_in, signed, EncodesDoubles}
use Rattle.base_data.specs.model.Graph.{IsInteger, IsObject}
use Rattle.marshal_spec.specs.format.Code.{kind_of}

-- A token is one of:
-- - an integer,
-- - an atom, by its tag,
-- - a reference, by the distance back from the next object,
-- - a block, by tag and size, whose fields are the values after the token,
-- - an object without fields.
pub data Token : Type 0 where
  integer : ℤ → Token
  atom : ℕ → Token
  shared : ℕ → Token
  block : ℕ → ℕ → Token
  leaf : Obj → Token

-- The object is valid and has no fields.
abbrev pub IsLeaf : Obj → Type 0
IsLeaf (objects.Block tag values) = ⊥
IsLeaf (objects.Bytes bytes) = IsObject 0 (objects.Bytes bytes)
IsLeaf (objects.Double bits) = IsObject 0 (objects.Double bits)
IsLeaf (objects.Doubles all) = IsObject 0 (objects.Doubles all)
IsLeaf (objects.I32 z) = IsObject 0 (objects.I32 z)
IsLeaf (objects.I64 z) = IsObject 0 (objects.I64 z)
IsLeaf (objects.Native z) = IsObject 0 (objects.Native z)

abbrev pub IsToken : Token → Type 0
IsToken (integer z) = IsInteger z
IsToken (atom tag) = tag ≤ 243
IsToken (shared offset) = Unit {0}
IsToken (block tag size) = (tag ≤ 243) × (0 < size)
IsToken (leaf object) = IsLeaf object

-- The measure of an object without fields.
abbrev pub leaf_measure : Obj → Option Measure
leaf_measure (objects.Block tag values) = None
leaf_measure (objects.Bytes bytes) = Some (measures.Bytes (length bytes))
leaf_measure (objects.Double bits) = Some measures.Double
leaf_measure (objects.Doubles all) = Some (measures.Doubles (length all))
leaf_measure (objects.I32 z) = Some (measures.Custom 4 4)
leaf_measure (objects.I64 z) = Some (measures.Custom 8 8)
leaf_measure (objects.Native z) = Some (measures.Custom 4 8)

abbrev pub measure_of : Token → Option Measure
measure_of (integer z) = None
measure_of (atom tag) = None
measure_of (shared offset) = None
measure_of (block tag size) = Some (measures.Block size)
measure_of (leaf object) = leaf_measure object

-- The token of a block's tag and size. A block without fields is an atom.
abbrev pub block_or_atom : ℕ → ℕ → Token
block_or_atom tag zero = atom tag
block_or_atom tag (suc n) = block tag (suc n)

-- The token of a header word: the tag is in bits 0 to 7, and the size begins at bit 10. The token
-- does not depend on bits 8 and 9.
abbrev pub word_token : ℕ → Token
word_token word = block_or_atom (word % 256) (word / 1024)

-- The bytes after the code of a custom block encode the token: the identifier first, and then the
-- data.
abbrev pub EncodesCustom : List ℕ → Token → Type 0
EncodesCustom rest token =
    ((content : List ℕ) × (rest ≡ 95 ∷ 105 ∷ 0 ∷ content) × (length content ≡ 4)
    × (token ≡ leaf (objects.I32 (signed content))))
    ⊎ (((content : List ℕ) × (rest ≡ 95 ∷ 106 ∷ 0 ∷ content) × (length content ≡ 8)
    × (token ≡ leaf (objects.I64 (signed content))))
    ⊎ (((content : List ℕ) × (rest ≡ 95 ∷ 110 ∷ 0 ∷ 1 ∷ content) × (length content ≡ 4)
    × (token ≡ leaf (objects.Native (signed content))))
    ⊎ ((content : List ℕ) × (rest ≡ 95 ∷ 110 ∷ 0 ∷ 2 ∷ content) × (length content ≡ 8)
    × (token ≡ leaf (objects.Native (signed content))))))

-- The bytes `rest` may follow a code of this kind, and encode the token.
abbrev pub EncodesAfter : CodeKind → List ℕ → Token → Type 0
EncodesAfter (kinds.SmallBlock tag size) rest token = (rest ≡ []) × (token ≡ block_or_atom tag size)
EncodesAfter (kinds.SmallInt n) rest token = (rest ≡ []) × (token ≡ integer (pos n))
EncodesAfter (kinds.SmallString n) rest token =
    (length rest ≡ n) × (token ≡ leaf (objects.Bytes rest))
EncodesAfter (kinds.Int width) rest token = (length rest ≡ width) × (token ≡ integer (signed rest))
EncodesAfter (kinds.Shared width) rest token =
    (length rest ≡ width) × (token ≡ shared (number rest))
EncodesAfter (kinds.Block width) rest token =
    (length rest ≡ width) × (token ≡ word_token (number rest))
EncodesAfter (kinds.Str width) rest token =
    (width ≤ length rest) × (length (drop width rest) ≡ number (take width rest))
    × (token ≡ leaf (objects.Bytes (drop width rest)))
EncodesAfter (kinds.Double little) rest token =
    (length rest ≡ 8) × (token ≡ leaf (objects.Double (number_in little rest)))
EncodesAfter (kinds.Doubles width little) rest token =
    (all : List ℕ) × (width ≤ length rest) × (length all ≡ number (take width rest))
    × EncodesDoubles little all (drop width rest)
    × (token ≡ leaf (objects.Doubles all))
EncodesAfter (kinds.Custom old) rest token = EncodesCustom rest token

abbrev pub EncodesFrom : Result CodeKind CodeFault → List ℕ → Token → Type 0
EncodesFrom (Ok kind) rest token = EncodesAfter kind rest token
EncodesFrom (Err fault) rest token = ⊥

-- The bytes, a code and the bytes after the code, encode the token.
abbrev pub Encodes : Token → List ℕ → Type 0
Encodes token [] = ⊥
Encodes token (code ∷ rest) = IsToken token × EncodesFrom (kind_of code) rest token
