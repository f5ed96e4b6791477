-- An input as a sequence of parts: values, and bytes at which no value begins.
use Rattle.std.specs.Prelude.{ℕ, ◌≤◌, ◌≡◌, List, [], ◌∷◌, ◌++◌, length, take}
use Rattle.base_data.specs.declared.model.refusal.ReadRefusal.{ReadRefusal}
use Rattle.marshal_spec.specs.format.Prefix.{IsPrefix, IsRefused}
use Rattle.marshal_spec.specs.format.Encoded.{EncodedUnder}
use Rattle.marshal_spec.specs.format.Tree.{Tree}

-- A part is a byte that is skipped, or the bytes of a value with the tree that they encode.
pub data InputPart : Type 0 where
  passed : ℕ → InputPart
  sighted : List ℕ → Tree → InputPart

abbrev pub part_bytes : InputPart → List ℕ
part_bytes (passed byte) = byte ∷ []
part_bytes (sighted bytes tree) = bytes

abbrev pub bytes_of : List InputPart → List ℕ
bytes_of [] = []
bytes_of (part ∷ parts) = part_bytes part ++ bytes_of parts

-- The bytes do not begin with an encoded value under the limit.
abbrev pub BeginNoValue : ℕ → List ℕ → Type 0
BeginNoValue limit bytes =
    (value rest : List ℕ) (tree : Tree) → bytes ≡ value ++ rest → EncodedUnder limit value tree → ⊥

-- Some prefix of the bytes is refused as a value.
abbrev pub AreRefused : ℕ → List ℕ → Type 0
AreRefused limit bytes =
    (n : ℕ) × (refusal : ReadRefusal) × (n ≤ length bytes) × IsRefused limit (take n bytes) refusal

-- The parts are a valid sequence before the bytes `rest`. The bytes of a value encode its tree. If
-- a byte is skipped, then the condition `None` holds for the bytes from the skipped byte on.
abbrev pub AreParts : ℕ → (List ℕ → Type 0) → List InputPart → List ℕ → Type 0
AreParts limit None [] rest = Unit {0}
AreParts limit None (passed byte ∷ parts) rest =
    None (byte ∷ (bytes_of parts ++ rest)) × AreParts limit None parts rest
AreParts limit None (sighted bytes tree ∷ parts) rest =
    EncodedUnder limit bytes tree × AreParts limit None parts rest

-- The parts and the prefix `pending` after them are a shortest sequence of bytes that determines
-- its beginning. Without its last byte, the sequence may still become a value; with the last byte,
-- it no longer may. The parts are determined without any later byte.
pub record IsStretch (limit : ℕ) (parts : List InputPart) (pending : List ℕ) : Type 0 where
  pub none : IsPrefix limit (bytes_of parts ++ pending) → ⊥
  pub prefix : List ℕ
  pub last : ℕ
  pub bytes_are : bytes_of parts ++ pending ≡ prefix ++ last ∷ []
  pub before : IsPrefix limit prefix
  pub are : AreParts limit (AreRefused limit) parts pending
  pub is_prefix : IsPrefix limit pending
