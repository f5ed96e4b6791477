-- An encoded token is a raw token with the same measure, and the bytes of an encoded token encode
-- no other token.
use Rattle.std.proofs.Common.{ℕ, pos, Bool, le_refl, zero, suc, ◌+◌, ◌*◌, ◌/◌, ◌%◌, ◌≡◌, List, [], ◌∷◌, length, take, drop, slice_index, Option, Some, None, Result, Ok, Err, inl, inr, refl, sym, ap, ◌∙◌, arith, length-drop, take_all}
use Rattle.base_data.specs.declared.model.value.Obj.TheVariants as objects
use Rattle.base_data.specs.declared.model.code.CodeKind.{CodeKind}
use Rattle.base_data.specs.declared.model.code.CodeKind.TheVariants as kinds
use Rattle.base_data.specs.declared.model.code.CodeFault.{CodeFault}
use Rattle.base_data.specs.declared.model.code.CustomKind.{CustomKind}
use Rattle.base_data.specs.declared.model.code.CustomKind.TheVariants as customs
use Rattle.base_data.specs.model.Bytes.{number, signed, EncodesDoubles}
use Rattle.marshal_spec.specs.format.Code.{kind_of, custom_of}
use Rattle.marshal_spec.specs.format.Raw.{fixed_bytes, custom_bytes, custom_measure, variable_bytes, block_measure, measure_after, length_after, measure_from, raw_measure, IsRaw}
use Rattle.marshal_spec.specs.format.Token.{Token, integer, leaf, measure_of, block_or_atom, EncodesCustom, EncodesAfter, EncodesFrom, Encodes}

-- If bytes begin with `_i` and 0, then the bytes begin with the identifier of an `Int32`.
pub custom_of_int32 : (content : List ℕ) → custom_of (take 3 (95 ∷ 105 ∷ 0 ∷ content)) ≡ Some customs.Int32
unfolding custom_of
custom_of_int32 content = refl

pub custom_of_int64 : (content : List ℕ) → custom_of (take 3 (95 ∷ 106 ∷ 0 ∷ content)) ≡ Some customs.Int64
unfolding custom_of
custom_of_int64 content = refl

pub custom_of_native : (content : List ℕ) → custom_of (take 3 (95 ∷ 110 ∷ 0 ∷ content)) ≡ Some customs.Native
unfolding custom_of
custom_of_native content = refl

-- Doubles take eight bytes each.
pub EncodesDoubles-length : (little : Bool) (all bytes : List ℕ) → EncodesDoubles little all bytes → length bytes ≡ 8 * length all
EncodesDoubles-length little [] bytes s = ap length s
EncodesDoubles-length little (d ∷ ds) bytes s = omega (arith, EncodesDoubles-length little ds (drop 8 bytes) s.2, length-drop 8 bytes)

-- If bytes encode a custom block, then the bytes have the length of an identifier and its data.
custom_length : (rest : List ℕ) (t : Token) → EncodesCustom rest t → length rest ≡ 3 + custom_bytes (custom_of (take 3 rest)) (slice_index rest 3)
custom_length rest t (inl s) = rw (s.1, custom_of_int32) (omega (arith, s.2))
custom_length rest t (inr (inl s)) = rw (s.1, custom_of_int64) (omega (arith, s.2))
custom_length rest t (inr (inr (inl s))) = rw (s.1, custom_of_native) (omega (arith, s.2))
custom_length rest t (inr (inr (inr s))) = rw (s.1, custom_of_native) (omega (arith, s.2))

-- If the bytes after a code encode a token, then the bytes are as many as the raw token has after
-- the code.
pub encoded_length : (kind : CodeKind) (rest : List ℕ) (t : Token) → EncodesAfter kind rest t → length rest ≡ fixed_bytes kind + variable_bytes kind rest
encoded_length (kinds.SmallBlock tag size) rest t s = omega (arith, ap length s.0)
encoded_length (kinds.SmallInt n) rest t s = omega (arith, ap length s.0)
encoded_length (kinds.SmallString n) rest t s = omega (arith, s.0)
encoded_length (kinds.Int width) rest t s = omega (arith, s.0)
encoded_length (kinds.Shared width) rest t s = omega (arith, s.0)
encoded_length (kinds.Block width) rest t s = omega (arith, s.0)
encoded_length (kinds.Str width) rest t s = omega (arith, s.0, s.1, length-drop width rest)
encoded_length (kinds.Double little) rest t s = omega (arith, s.0)
encoded_length (kinds.Doubles width little) rest t s = omega (arith, s.1, s.2, EncodesDoubles-length little s.0 (drop width rest) s.3, length-drop width rest)
encoded_length (kinds.Custom old) rest t s = custom_length rest t s

-- The measure of a block's size is the measure of the token with this size.
block_or_atom_measure : (tag size : ℕ) → block_measure size ≡ measure_of (block_or_atom tag size)
block_or_atom_measure tag zero = refl
block_or_atom_measure tag (suc n) = refl

-- The measure of a custom block's identifier is the measure of the encoded token.
custom_measure_is : (rest : List ℕ) (t : Token) → EncodesCustom rest t → custom_measure (custom_of (take 3 rest)) ≡ measure_of t
custom_measure_is rest t (inl s) = rw (s.1, custom_of_int32) (sym (ap measure_of s.3))
custom_measure_is rest t (inr (inl s)) = rw (s.1, custom_of_int64) (sym (ap measure_of s.3))
custom_measure_is rest t (inr (inr (inl s))) = rw (s.1, custom_of_native) (sym (ap measure_of s.3))
custom_measure_is rest t (inr (inr (inr s))) = rw (s.1, custom_of_native) (sym (ap measure_of s.3))

-- The raw token has the measure of the encoded token.
pub encoded_measure : (kind : CodeKind) (rest : List ℕ) (t : Token) → EncodesAfter kind rest t → measure_after kind rest ≡ measure_of t
encoded_measure (kinds.SmallBlock tag size) rest t s = block_or_atom_measure tag size ∙ sym (ap measure_of s.1)
encoded_measure (kinds.SmallInt n) rest t s = sym (ap measure_of s.1)
encoded_measure (kinds.SmallString n) rest t s = rw (← s.0) (sym (ap measure_of s.1))
encoded_measure (kinds.Int width) rest t s = sym (ap measure_of s.1)
encoded_measure (kinds.Shared width) rest t s = sym (ap measure_of s.1)
encoded_measure (kinds.Block width) rest t s = rw (← s.0, take_all (length rest) rest (le_refl (length rest))) (block_or_atom_measure (number rest % 256) (number rest / 1024) ∙ sym (ap measure_of s.1))
encoded_measure (kinds.Str width) rest t s = rw (← s.1) (sym (ap measure_of s.2))
encoded_measure (kinds.Double little) rest t s = sym (ap measure_of s.1)
encoded_measure (kinds.Doubles width little) rest t s = rw (← s.2) (sym (ap measure_of s.4))
encoded_measure (kinds.Custom old) rest t s = custom_measure_is rest t s

-- If the bytes after a code encode a token, then the number of bytes is the raw token's, by the
-- code's table entry.
encoded_length_from : (r : Result CodeKind CodeFault) (rest : List ℕ) (t : Token) → EncodesFrom r rest t → length rest ≡ length_after r rest
encoded_length_from (Ok kind) rest t s = encoded_length kind rest t s
encoded_length_from (Err fault) rest t s = absurd s

-- If the bytes after a code encode a token, then the raw token has the token's measure, by the
-- code's entry in the table.
encoded_measure_from : (r : Result CodeKind CodeFault) (rest : List ℕ) (t : Token) → EncodesFrom r rest t → measure_from r rest ≡ measure_of t
encoded_measure_from (Ok kind) rest t s = encoded_measure kind rest t s
encoded_measure_from (Err fault) rest t s = absurd s

-- The encoding of a token is a raw token.
pub IsRaw-encoded : (t : Token) (chunk : List ℕ) → Encodes t chunk → IsRaw chunk
IsRaw-encoded t [] s = absurd s
IsRaw-encoded t (code ∷ rest) s = omega (arith, encoded_length_from (kind_of code) rest t s.1)

-- The encoding of a token has the token's measure.
pub raw_measure-encoded : (t : Token) (chunk : List ℕ) → Encodes t chunk → raw_measure chunk ≡ measure_of t
raw_measure-encoded t [] s = absurd s
raw_measure-encoded t (code ∷ rest) s = encoded_measure_from (kind_of code) rest t s.1

-- Bytes encode at most one list of doubles.
pub EncodesDoubles-same : (little : Bool) (ds es bytes : List ℕ) → EncodesDoubles little ds bytes → EncodesDoubles little es bytes → ds ≡ es
EncodesDoubles-same little [] [] bytes s u = refl
EncodesDoubles-same little [] (e ∷ es) bytes s u = absurd (omega (arith, ap length s, u.0))
EncodesDoubles-same little (d ∷ ds) [] bytes s u = absurd (omega (arith, ap length u, s.0))
EncodesDoubles-same little (d ∷ ds) (e ∷ es) bytes s u =
    let rest : ds ≡ es = EncodesDoubles-same little ds es (drop 8 bytes) s.2 u.2 in
    let first : d ≡ e = s.1 ∙ sym u.1 in
    cc (rest, first)

-- The token of a custom block, computed from the identifier's kind and the bytes after the code.
abbrev custom_token : Option CustomKind → List ℕ → Token
custom_token None rest = integer (pos 0)
custom_token (Some customs.Int32) rest = leaf (objects.I32 (signed (drop 3 rest)))
custom_token (Some customs.Int64) rest = leaf (objects.I64 (signed (drop 3 rest)))
custom_token (Some customs.Native) rest = leaf (objects.Native (signed (drop 4 rest)))

-- If bytes encode a custom block's token, then the token is the computed token `custom_token`.
custom_token_is : (rest : List ℕ) (t : Token) → EncodesCustom rest t → t ≡ custom_token (custom_of (take 3 rest)) rest
custom_token_is rest t (inl s) = rw (s.1, custom_of_int32) s.3
custom_token_is rest t (inr (inl s)) = rw (s.1, custom_of_int64) s.3
custom_token_is rest t (inr (inr (inl s))) = rw (s.1, custom_of_native) s.3
custom_token_is rest t (inr (inr (inr s))) = rw (s.1, custom_of_native) s.3

-- The bytes after a code of this kind encode at most one token.
encoded_same : (kind : CodeKind) (rest : List ℕ) (t u : Token) → EncodesAfter kind rest t → EncodesAfter kind rest u → t ≡ u
encoded_same (kinds.SmallBlock tag size) rest t u s v = s.1 ∙ sym v.1
encoded_same (kinds.SmallInt n) rest t u s v = s.1 ∙ sym v.1
encoded_same (kinds.SmallString n) rest t u s v = s.1 ∙ sym v.1
encoded_same (kinds.Int width) rest t u s v = s.1 ∙ sym v.1
encoded_same (kinds.Shared width) rest t u s v = s.1 ∙ sym v.1
encoded_same (kinds.Block width) rest t u s v = s.1 ∙ sym v.1
encoded_same (kinds.Str width) rest t u s v = s.2 ∙ sym v.2
encoded_same (kinds.Double little) rest t u s v = s.1 ∙ sym v.1
encoded_same (kinds.Doubles width little) rest t u s v = s.4 ∙ ap (λ ds. leaf (objects.Doubles ds)) (EncodesDoubles-same little s.0 v.0 (drop width rest) s.3 v.3) ∙ sym v.4
encoded_same (kinds.Custom old) rest t u s v = custom_token_is rest t s ∙ sym (custom_token_is rest u v)

-- The bytes after a code encode at most one token, by the code's entry in the table.
encoded_same_from : (r : Result CodeKind CodeFault) (rest : List ℕ) (t u : Token) → EncodesFrom r rest t → EncodesFrom r rest u → t ≡ u
encoded_same_from (Ok kind) rest t u s v = encoded_same kind rest t u s v
encoded_same_from (Err fault) rest t u s v = absurd s

-- Bytes encode at most one token.
pub Encodes-same : (t u : Token) (chunk : List ℕ) → Encodes t chunk → Encodes u chunk → t ≡ u
Encodes-same t u [] s v = absurd s
Encodes-same t u (code ∷ rest) s v = encoded_same_from (kind_of code) rest t u s.1 v.1
