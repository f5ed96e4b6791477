-- An encoded header states the numbers from which it was made.
use Rattle.std.proofs.Common.{ℕ, ◌≡◌, ◌^◌, ◌<◌, inl, inr, Bool, true, false, List, [], ◌∷◌, ◌++◌, refl}
use Rattle.std.specs.Prelude.{flat_map}
use Rattle.std.specs.Int.{bytes_high_first}
use Rattle.base_data.specs.declared.model.header.Head.{Head}
use Rattle.marshal_spec.specs.format.Header.{small_magic, big_magic, head_of}
use Rattle.marshal_spec.specs.format.Encoded.{IsHeader}
use Rattle.marshal_spec.proofs.canonical.ByteLemmas.{number-bytes}

-- The length, the objects and the words on 64 bits of the header are below the limit.
pub record FitsHeader (head : Head) (limit : ℕ) : Type 0 where
  pub length : head.length < limit
  pub objects : head.objects < limit
  pub w64 : head.w64 < limit

-- The bytes are a header that states the length `n`, the number `objects` and the words `w64`.
pub record EncodesHead (big : Bool) (n objects w64 : ℕ) (bytes : List ℕ) : Type 0 where
  pub is_header : IsHeader bytes
  pub big_is : (head_of bytes).big ≡ big
  pub length_is : (head_of bytes).length ≡ n
  pub objects_is : (head_of bytes).objects ≡ objects
  pub w64_is : (head_of bytes).w64 ≡ w64

abbrev pub small_bytes : ℕ → ℕ → ℕ → ℕ → List ℕ
small_bytes n objects w32 w64 = flat_map (bytes_high_first 4) (small_magic ∷ n ∷ objects ∷ w32 ∷ w64 ∷ [])

abbrev pub big_bytes : ℕ → ℕ → ℕ → List ℕ
big_bytes n objects w64 = flat_map (bytes_high_first 4) (big_magic ∷ 0 ∷ []) ++ flat_map (bytes_high_first 8) (n ∷ objects ∷ w64 ∷ [])

pub small_head_encoded : (n objects w32 w64 : ℕ) → n < 2 ^ 32 → objects < 2 ^ 32 → w64 < 2 ^ 32 → EncodesHead false n objects w64 (small_bytes n objects w32 w64)
unfolding head_of
small_head_encoded n objects w32 w64 h k l = record {
  is_header = record { magic_is = inl refl; whole = refl };
  big_is = refl;
  length_is = number-bytes 4 n h;
  objects_is = number-bytes 4 objects k;
  w64_is = number-bytes 4 w64 l;
}

pub small_w32_encoded : (n objects w32 w64 : ℕ) → w32 < 2 ^ 32 → (head_of (small_bytes n objects w32 w64)).w32 ≡ w32
unfolding head_of
small_w32_encoded n objects w32 w64 h = number-bytes 4 w32 h

pub big_head_encoded : (n objects w64 : ℕ) → n < 2 ^ 64 → objects < 2 ^ 64 → w64 < 2 ^ 64 → EncodesHead true n objects w64 (big_bytes n objects w64)
unfolding head_of
big_head_encoded n objects w64 h k l = record {
  is_header = record { magic_is = inr refl; whole = refl };
  big_is = refl;
  length_is = number-bytes 8 n h;
  objects_is = number-bytes 8 objects k;
  w64_is = number-bytes 8 w64 l;
}
