-- Byte strings as streams: the values, and the bytes after the last value.
use Rattle.std.specs.Prelude.{ℕ, ◌<◌, ◌≤◌, ◌≡◌, List, [], ◌∷◌, ◌++◌, length, take}
use Rattle.base_data.specs.declared.model.refusal.ReadRefusal.{ReadRefusal}
use Rattle.marshal_spec.specs.format.Tree.{Tree}
use Rattle.marshal_spec.specs.format.Encoded.{EncodedUnder}
use Rattle.marshal_spec.specs.format.Prefix.{IsPrefix, IsRefused}

-- The bytes encode the trees one after another, each under the limit, and the bytes `rest` follow
-- the last tree.
abbrev pub EncodeAll : ℕ → List ℕ → List Tree → List ℕ → Type 0
EncodeAll limit bytes [] rest = bytes ≡ rest
EncodeAll limit bytes (tree ∷ trees) rest =
    (first more : List ℕ) × (bytes ≡ first ++ more) × EncodedUnder limit first tree
    × EncodeAll limit more trees rest

-- What follows the last value of a stream: no bytes, refused bytes, or `n` bytes of a truncated
-- value.
pub data StreamEnd : Type 0 where
  clean : StreamEnd
  refused : ReadRefusal → StreamEnd
  cut : ℕ → StreamEnd

abbrev pub IsTail : ℕ → List ℕ → StreamEnd → Type 0
IsTail limit tail clean = tail ≡ []
IsTail limit tail (refused refusal) =
    (n : ℕ) × (n ≤ length tail) × IsRefused limit (take n tail) refusal
IsTail limit tail (cut n) = (0 < n) × (length tail ≡ n) × IsPrefix limit tail

-- The bytes are the encodings of the trees, followed by a tail that ends as `end` states.
abbrev pub Stream : List ℕ → ℕ → List Tree → StreamEnd → Type 0
Stream bytes limit trees end =
    (tail : List ℕ) × EncodeAll limit bytes trees tail × IsTail limit tail end
