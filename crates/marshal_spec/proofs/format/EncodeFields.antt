-- The fields of a raw token are valid if and only if the token's bytes encode a token.
use Rattle.std.proofs.Common.{ℕ, ℤ, pos, negsuc, zero, suc, ◌+◌, ◌*◌, ◌/◌, ◌%◌, ◌^◌, ◌<◌, ◌≤◌, ◌≡◌, Bool, true, List, [], ◌∷◌, length, take, drop, slice_index, All, Option, Some, None, ◌⊎◌, inl, inr, refl, ap, subst, ◌∙◌, arith, length-drop, length-take-le, take_all, lt-ltb, ltb-true, ne_eqb, drop-cons, pos_of_ne-zero}
use Rattle.std.proofs.lemmas.Bool.{cases_eq}
use Rattle.std.proofs.lemmas.List.{nil_from_length}
use Rattle.std.proofs.lemmas.List.Elements.{All-nil, All-cons, All-take, All-drop}
use Rattle.base_data.specs.declared.model.value.Obj.TheVariants as objects
use Rattle.base_data.specs.declared.model.code.CodeKind.{CodeKind}
use Rattle.base_data.specs.declared.model.code.CodeKind.TheVariants as kinds
use Rattle.base_data.specs.declared.model.code.CustomKind.{CustomKind}
use Rattle.base_data.specs.declared.model.code.CustomKind.TheVariants as customs
use Rattle.base_data.specs.model.Bytes.{AreBytes, number, number_in, signed, EncodesDoubles}
use Rattle.base_data.specs.model.Graph.{IsInteger}
use Rattle.marshal_spec.specs.format.Code.{custom_of, native_bytes, IsKind}
use Rattle.marshal_spec.specs.format.Raw.{fixed_bytes, custom_bytes, variable_bytes}
use Rattle.marshal_spec.specs.format.Step.{is_integer}
use Rattle.marshal_spec.specs.format.Token.{Token, integer, shared, leaf, IsToken, block_or_atom, word_token, EncodesCustom, EncodesAfter}
use Rattle.marshal_spec.specs.format.Tree.{RefersBack}
use Rattle.marshal_spec.specs.format.Encoded.{IsNoReference}
use Rattle.marshal_spec.proofs.format.EncodeNumbers.{number_in_lt-at, IsSigned-signed_at}
use Rattle.marshal_spec.proofs.format.EncodeCustoms.{custom_letter, custom_of_parts}
use Rattle.marshal_spec.proofs.format.EncodeLemmas.{custom_of_int32, custom_of_int64, custom_of_native}

-- The data of a known identifier are valid. The number of a `Nativeint` has four or eight bytes.
abbrev pub IsKnownData : Option CustomKind → ℕ → Type 0
IsKnownData None kind = ⊥
IsKnownData (Some customs.Int32) kind = Unit {0}
IsKnownData (Some customs.Int64) kind = Unit {0}
IsKnownData (Some customs.Native) kind = 0 < native_bytes kind

-- The fields are valid for a token before which `n` objects are made, under a header that counts
-- `stated` objects.
abbrev pub AreSoundFields : CodeKind → List ℕ → ℕ → ℕ → Type 0
AreSoundFields (kinds.SmallBlock tag size) rest n stated = Unit {0}
AreSoundFields (kinds.SmallInt i) rest n stated = Unit {0}
AreSoundFields (kinds.SmallString i) rest n stated = Unit {0}
AreSoundFields (kinds.Int width) rest n stated = width ≡ 8 → is_integer (signed (take 8 rest)) ≡ true
AreSoundFields (kinds.Shared width) rest n stated = (1 ≤ number (take width rest)) × (number (take width rest) ≤ n) × (0 < stated)
AreSoundFields (kinds.Block width) rest n stated = number (take width rest) % 256 ≤ 243
AreSoundFields (kinds.Str width) rest n stated = Unit {0}
AreSoundFields (kinds.Double little) rest n stated = Unit {0}
AreSoundFields (kinds.Doubles width little) rest n stated = 0 < number (take width rest)
AreSoundFields (kinds.Custom old) rest n stated = IsKnownData (custom_of (take 3 rest)) (slice_index rest 3)

-- The token is allowed after `n` objects, under a header that counts `stated` objects.
pub record IsTokenThere (t : Token) (n stated : ℕ) : Type 0 where
  pub is_token : IsToken t
  pub refers_back : RefersBack t n
  pub table : stated ≡ 0 → IsNoReference t

-- ---- from bytes to tokens

-- If the test for 63 bits succeeds, then the integer fits 63 bits.
pub IsInteger-is_integer : (z : ℤ) → is_integer z ≡ true → IsInteger z
IsInteger-is_integer (pos n) e = ltb-true n (2 ^ 62) e
IsInteger-is_integer (negsuc n) e = ltb-true n (2 ^ 62) e

-- A block or an atom is allowed after any number of objects.
block_there : (tag size n stated : ℕ) → tag ≤ 243 → IsTokenThere (block_or_atom tag size) n stated
block_there tag zero n stated h = record { is_token = h; refers_back = tt; table = λ _. tt }
block_there tag (suc size) n stated h = record { is_token = (h, omega arith); refers_back = tt; table = λ _. tt }

-- An integer of fewer than eight bytes is valid. An integer of eight bytes is valid if the test for
-- 63 bits succeeds.
width_integer : (width : ℕ) (rest : List ℕ) → width ≤ 8 → length rest ≡ width → AreBytes rest → (width ≡ 8 → is_integer (signed (take 8 rest)) ≡ true) → IsInteger (signed rest)
width_integer width rest k l a f =
    elim (cases_eq width 8) [
      | inl e ↦
          let whole : take 8 rest ≡ rest = take_all 8 rest (omega arith) in
          IsInteger-is_integer (signed rest) (rw whole at (f e))
      | inr n ↦ IsSigned-signed_at 62 rest (omega arith) a
    ]

-- If the number of bytes is 8 * `n`, then the bytes encode `n` doubles.
pub doubles_of : (little : Bool) (n : ℕ) (bytes : List ℕ) → AreBytes bytes → length bytes ≡ 8 * n → (all : List ℕ) × (length all ≡ n) × EncodesDoubles little all bytes × All (λ bits. bits < 2 ^ 64) all
doubles_of little zero bytes a e = ([], refl, nil_from_length bytes e, All-nil (λ bits. bits < 2 ^ 64))
doubles_of little (suc n) bytes a e =
    let long : 8 ≤ length bytes = omega arith in
    let left : length (drop 8 bytes) ≡ 8 * n = omega (arith, length-drop 8 bytes) in
    let rest = doubles_of little n (drop 8 bytes) (All-drop (λ b. b < 256) 8 bytes a) left in
    let first : number_in little (take 8 bytes) < 2 ^ 64 = number_in_lt-at little 8 (2 ^ 64) (take 8 bytes) refl (length-take-le 8 bytes long) (All-take (λ b. b < 256) 8 bytes a) in
    (number_in little (take 8 bytes) ∷ rest.0, ap suc rest.1, (long, refl, rest.2), All-cons (λ bits. bits < 2 ^ 64) (number_in little (take 8 bytes)) rest.0 first rest.3)

-- The bytes after a code of this kind encode some token that is allowed after `n` objects.
abbrev pub EncodesSome : CodeKind → List ℕ → ℕ → ℕ → Type 0
EncodesSome kind rest n stated = (t : Token) × EncodesAfter kind rest t × IsTokenThere t n stated

-- If the first three bytes are an identifier, then `_`, the kind's letter and 0 begin the bytes,
-- and the content follows.
prefix_of_three : (rest : List ℕ) (kind : CustomKind) → 3 ≤ length rest → custom_of (take 3 rest) ≡ Some kind → rest ≡ 95 ∷ custom_letter kind ∷ 0 ∷ drop 3 rest
prefix_of_three [] kind l e = absurd (omega arith)
prefix_of_three (a ∷ []) kind l e = absurd (omega arith)
prefix_of_three (a ∷ b ∷ []) kind l e = absurd (omega arith)
prefix_of_three (a ∷ b ∷ c ∷ content) kind l e =
    let parts = custom_of_parts a b c kind e in
    cc (parts.0, parts.1, parts.2)

-- The kind byte of a `Nativeint` is 1 for four bytes, or 2 for eight bytes.
pub native_cases : (kind : ℕ) → 0 < native_bytes kind → ((kind ≡ 1) × (native_bytes kind ≡ 4)) ⊎ ((kind ≡ 2) × (native_bytes kind ≡ 8))
native_cases kind h =
    elim (cases_eq kind 1) [
      | inl e ↦ inl (e, ap native_bytes e)
      | inr n ↦ elim (cases_eq kind 2) [
        | inl e ↦ inr (e, ap native_bytes e)
        | inr m ↦ let none : native_bytes kind ≡ 0 = simp (ne_eqb kind 1 n, ne_eqb kind 2 m) in absurd (omega arith)
      ]
    ]

-- If the content has the length that the kind byte requires, then the bytes encode a `Nativeint`.
native_there : (old : Bool) (kind : ℕ) (content rest : List ℕ) (n stated : ℕ) → rest ≡ 95 ∷ 110 ∷ 0 ∷ kind ∷ content → AreBytes content → length content ≡ native_bytes kind → 0 < native_bytes kind → EncodesSome (kinds.Custom old) rest n stated
native_there old kind content rest n stated e a l s =
    elim (native_cases kind s) [
      | inl w ↦
          let at : rest ≡ 95 ∷ 110 ∷ 0 ∷ 1 ∷ content = cc (e, w.0) in (
            leaf (objects.Native (signed content)),
            inr (inr (inl (content, at, l ∙ w.1, refl))),
            record { is_token = IsSigned-signed_at 63 content (omega (arith, w.1)) a; refers_back = tt; table = λ _. tt },
          )
      | inr w ↦
          let at : rest ≡ 95 ∷ 110 ∷ 0 ∷ 2 ∷ content = cc (e, w.0) in (
            leaf (objects.Native (signed content)),
            inr (inr (inr (content, at, l ∙ w.1, refl))),
            record { is_token = IsSigned-signed_at 63 content (omega (arith, w.1)) a; refers_back = tt; table = λ _. tt },
          )
    ]

-- If a custom block has a known identifier and valid data, then the bytes encode the custom block.
custom_there : (old : Bool) (known : Option CustomKind) (rest : List ℕ) (n stated : ℕ) → custom_of (take 3 rest) ≡ known → AreBytes rest → length rest ≡ 3 + custom_bytes known (slice_index rest 3) → IsKnownData known (slice_index rest 3) → EncodesSome (kinds.Custom old) rest n stated
custom_there old None rest n stated e a l s = absurd s
custom_there old (Some customs.Int32) rest n stated e a l s =
    let prefix = prefix_of_three rest customs.Int32 (omega arith) e in
    let left : length (drop 3 rest) ≡ 4 = omega (arith, length-drop 3 rest) in
    let content : AreBytes (drop 3 rest) = All-drop (λ b. b < 256) 3 rest a in
    (leaf (objects.I32 (signed (drop 3 rest))), inl (drop 3 rest, prefix, left, refl), record { is_token = IsSigned-signed_at 31 (drop 3 rest) (omega arith) content; refers_back = tt; table = λ _. tt })
custom_there old (Some customs.Int64) rest n stated e a l s =
    let prefix = prefix_of_three rest customs.Int64 (omega arith) e in
    let left : length (drop 3 rest) ≡ 8 = omega (arith, length-drop 3 rest) in
    let content : AreBytes (drop 3 rest) = All-drop (λ b. b < 256) 3 rest a in
    (leaf (objects.I64 (signed (drop 3 rest))), inr (inl (drop 3 rest, prefix, left, refl)), record { is_token = IsSigned-signed_at 63 (drop 3 rest) (omega arith) content; refers_back = tt; table = λ _. tt })
custom_there old (Some customs.Native) rest n stated e a l s =
    let prefix : rest ≡ 95 ∷ 110 ∷ 0 ∷ slice_index rest 3 ∷ drop 4 rest = prefix_of_three rest customs.Native (omega arith) e ∙ ap (λ c. 95 ∷ 110 ∷ 0 ∷ c) (drop-cons rest 3 0 (omega arith)) in
    let left : length (drop 4 rest) ≡ native_bytes (slice_index rest 3) = omega (arith, length-drop 4 rest) in
    native_there old (slice_index rest 3) (drop 4 rest) rest n stated prefix (All-drop (λ b. b < 256) 4 rest a) left s

-- If the fields are valid, then the bytes encode a token.
pub encoded_of : (kind : CodeKind) (rest : List ℕ) (n stated : ℕ) → IsKind kind → AreBytes rest → length rest ≡ fixed_bytes kind + variable_bytes kind rest → AreSoundFields kind rest n stated → EncodesSome kind rest n stated
encoded_of (kinds.SmallBlock tag size) rest n stated k a l s =
    (block_or_atom tag size, (nil_from_length rest l, refl), block_there tag size n stated (omega arith))
encoded_of (kinds.SmallInt i) rest n stated k a l s =
    (integer (pos i), (nil_from_length rest l, refl), record { is_token = omega arith; refers_back = tt; table = λ _. tt })
encoded_of (kinds.SmallString i) rest n stated k a l s =
    (leaf (objects.Bytes rest), (omega arith, refl), record { is_token = a; refers_back = tt; table = λ _. tt })
encoded_of (kinds.Int width) rest n stated k a l s =
    let whole : length rest ≡ width = omega arith in
    (integer (signed rest), (whole, refl), record { is_token = width_integer width rest k.1 whole a s; refers_back = tt; table = λ _. tt })
encoded_of (kinds.Shared width) rest n stated k a l s =
    let whole : take width rest ≡ rest = take_all width rest (omega arith) in
    let f : (1 ≤ number rest) × (number rest ≤ n) × (0 < stated) = rw whole at s in
    (shared (number rest), (omega arith, refl), record { is_token = tt; refers_back = (f.0, f.1); table = λ e. absurd (omega (arith, f.2)) })
encoded_of (kinds.Block width) rest n stated k a l s =
    let whole : take width rest ≡ rest = take_all width rest (omega arith) in
    (word_token (number rest), (omega arith, refl), block_there (number rest % 256) (number rest / 1024) n stated (rw whole at s))
encoded_of (kinds.Str width) rest n stated k a l s =
    (leaf (objects.Bytes (drop width rest)), (omega arith, omega (arith, length-drop width rest), refl), record { is_token = All-drop (λ b. b < 256) width rest a; refers_back = tt; table = λ _. tt })
encoded_of (kinds.Double little) rest n stated k a l s =
    let whole : length rest ≡ 8 = omega arith in
    (leaf (objects.Double (number_in little rest)), (whole, refl), record { is_token = number_in_lt-at little 8 (2 ^ 64) rest refl whole a; refers_back = tt; table = λ _. tt })
encoded_of (kinds.Doubles width little) rest n stated k a l s =
    let left : length (drop width rest) ≡ 8 * number (take width rest) = omega (arith, length-drop width rest) in
    let all = doubles_of little (number (take width rest)) (drop width rest) (All-drop (λ b. b < 256) width rest a) left in
    let some : 0 < length all.0 = omega (arith, all.1) in
    (leaf (objects.Doubles all.0), (all.0, omega arith, all.1, all.2, refl), record { is_token = (some, all.3); refers_back = tt; table = λ _. tt })
encoded_of (kinds.Custom old) rest n stated k a l s = custom_there old (custom_of (take 3 rest)) rest n stated refl a l s

-- ---- from tokens to fields

-- If an integer fits 63 bits, then the test for 63 bits succeeds.
is_integer-IsInteger : (z : ℤ) → IsInteger z → is_integer z ≡ true
is_integer-IsInteger (pos n) e = lt-ltb n (2 ^ 62) e
is_integer-IsInteger (negsuc n) e = lt-ltb n (2 ^ 62) e

-- The tag of a block or an atom is at most 243.
tag_of_block : (tag size : ℕ) → IsToken (block_or_atom tag size) → tag ≤ 243
tag_of_block tag zero t = t
tag_of_block tag (suc n) t = t.0

-- If bytes encode a custom block, then the block's identifier is known and the block's data are
-- valid.
custom_sound : (rest : List ℕ) (t : Token) → EncodesCustom rest t → IsKnownData (custom_of (take 3 rest)) (slice_index rest 3)
custom_sound rest t (inl s) = rw (s.1, custom_of_int32) tt
custom_sound rest t (inr (inl s)) = rw (s.1, custom_of_int64) tt
custom_sound rest t (inr (inr (inl s))) = rw (s.1, custom_of_native) (omega arith)
custom_sound rest t (inr (inr (inr s))) = rw (s.1, custom_of_native) (omega arith)

-- If the bytes after a code encode a token, then the token's fields are valid.
pub sound_of : (kind : CodeKind) (rest : List ℕ) (t : Token) (n stated : ℕ) → EncodesAfter kind rest t → IsTokenThere t n stated → AreSoundFields kind rest n stated
sound_of (kinds.SmallBlock tag size) rest t n stated s there = tt
sound_of (kinds.SmallInt i) rest t n stated s there = tt
sound_of (kinds.SmallString i) rest t n stated s there = tt
sound_of (kinds.Int width) rest t n stated s there = λ e.
    let whole : take 8 rest ≡ rest = take_all 8 rest (omega (arith, s.0)) in
    rw whole (is_integer-IsInteger (signed rest) (subst IsToken s.1 there.is_token))
sound_of (kinds.Shared width) rest t n stated s there =
    let whole : take width rest ≡ rest = take_all width rest (omega (arith, s.0)) in
    let at : IsTokenThere (shared (number rest)) n stated = subst (λ u. IsTokenThere u n stated) s.1 there in
    rw whole (at.refers_back.0, at.refers_back.1, pos_of_ne-zero at.table)
sound_of (kinds.Block width) rest t n stated s there =
    let whole : take width rest ≡ rest = take_all width rest (omega (arith, s.0)) in
    rw whole (tag_of_block (number rest % 256) (number rest / 1024) (subst IsToken s.1 there.is_token))
sound_of (kinds.Str width) rest t n stated s there = tt
sound_of (kinds.Double little) rest t n stated s there = tt
sound_of (kinds.Doubles width little) rest t n stated s there =
    let at : IsToken (leaf (objects.Doubles s.0)) = subst IsToken s.4 there.is_token in
    omega (arith, s.2, at.0)
sound_of (kinds.Custom old) rest t n stated s there = custom_sound rest t s
