-- The contents of consecutive doubles and of custom blocks, if the bytes after a code encode a
-- token (`EncodesAfter`).
use Rattle.std.proofs.Common.{ℕ, ◌≡◌, ◌+◌, ◌*◌, ◌≤◌, Bool, List, [], ◌∷◌, ◌++◌, length, take, drop, Option, Some, None, inl, inr, refl, sym, arith, length-drop, length-append, subst, length-take-le, take_all, take-add, FitsSigned, w32, ℤ, pos, negsuc, ◌<◌}
use Rattle.std.proofs.lemmas.List.{take-append-le, drop-append-le, drop_all}
use Rattle.std.proofs.lemmas.List.Elements.{All-drop}
use Rattle.base_data.specs.declared.model.value.Obj.TheVariants as objects
use Rattle.base_data.specs.declared.model.code.CodeKind.TheVariants as kinds
use Rattle.base_data.specs.declared.model.code.CustomKind.{CustomKind}
use Rattle.base_data.specs.declared.model.code.CustomKind.TheVariants as customs
use Rattle.base_data.specs.model.Bytes.{AreBytes, number, number_in, signed, EncodesDoubles}
use Rattle.marshal_spec.specs.format.Code.{custom_of}
use Rattle.marshal_spec.specs.format.Token.{Token, leaf, EncodesCustom, EncodesAfter}
use Rattle.base_data.specs.model.Graph.{IsSigned}
use Rattle.marshal_spec.proofs.format.EncodeNumbers.{IsSigned-signed_at}
use Rattle.marshal_spec.proofs.format.EncodeLemmas.{encoded_length, custom_of_int32, custom_of_int64, custom_of_native}

-- ---- doubles

-- If eight bytes are appended to the bytes of doubles, then the result encodes one more double.
doubles_push : (little : Bool) (ds : List ℕ) (xs eight : List ℕ) (d : ℕ) → EncodesDoubles little ds xs → length eight ≡ 8 → d ≡ number_in little eight → EncodesDoubles little (ds ++ d ∷ []) (xs ++ eight)
doubles_push little [] xs eight d s l e =
    let whole : take 8 eight ≡ eight = take_all 8 eight (omega arith) in
    rw s (omega arith, rw whole e, drop_all 8 eight (omega arith))
doubles_push little (x ∷ ds) xs eight d s l e =
    rw (take-append-le 8 xs eight s.0, drop-append-le 8 xs eight s.0)
    (omega (arith, s.0, length-append xs eight), s.1, doubles_push little ds (drop 8 xs) eight d s.2 l e)

-- If the first 8 * `i` bytes encode `ds`, and the next eight bytes encode `d`, then all these bytes
-- encode `ds` and `d`.
pub doubles_more : (little : Bool) (ds bytes : List ℕ) (i d : ℕ) → 8 * i + 8 ≤ length bytes → EncodesDoubles little ds (take (8 * i) bytes) → d ≡ number_in little (take 8 (drop (8 * i) bytes)) → EncodesDoubles little (ds ++ d ∷ []) (take (8 * (i + 1)) bytes)
doubles_more little ds bytes i d h s e =
    let more : 8 * (i + 1) ≡ 8 * i + 8 = omega arith in
    let whole : length (take 8 (drop (8 * i) bytes)) ≡ 8 = length-take-le 8 (drop (8 * i) bytes) (omega (arith, length-drop (8 * i) bytes)) in
    rw (more, take-add (8 * i) 8 bytes) (doubles_push little ds (take (8 * i) bytes) (take 8 (drop (8 * i) bytes)) d s whole e)

-- An array of doubles has eight bytes for each double after the bytes of its length.
pub doubles_whole : (width : ℕ) (little : Bool) (rest : List ℕ) (t : Token) → EncodesAfter (kinds.Doubles width little) rest t
    → length (drop width rest) ≡ 8 * number (take width rest)
doubles_whole width little rest t s = omega (arith, encoded_length (kinds.Doubles width little) rest t s, length-drop width rest)

-- ---- a custom block

-- The bytes `rest` are an identifier of the kind and data, and encode the token.
abbrev pub EncodesData : Option CustomKind → List ℕ → Token → Type 0
EncodesData None rest t = ⊥
EncodesData (Some customs.Int32) rest t = (length rest ≡ 7) × (t ≡ leaf (objects.I32 (signed (drop 3 rest))))
EncodesData (Some customs.Int64) rest t = (length rest ≡ 11) × (t ≡ leaf (objects.I64 (signed (drop 3 rest))))
EncodesData (Some customs.Native) rest t = (5 ≤ length rest) × (length rest ≤ 12) × (t ≡ leaf (objects.Native (signed (drop 4 rest))))

data_of_custom : (rest : List ℕ) (t : Token) → EncodesCustom rest t → EncodesData (custom_of (take 3 rest)) rest t
data_of_custom rest t (inl s) = rw (s.1, custom_of_int32) (omega (arith, s.2), s.3)
data_of_custom rest t (inr (inl s)) = rw (s.1, custom_of_int64) (omega (arith, s.2), s.3)
data_of_custom rest t (inr (inr (inl s))) = rw (s.1, custom_of_native) (omega (arith, s.2), omega (arith, s.2), s.3)
data_of_custom rest t (inr (inr (inr s))) = rw (s.1, custom_of_native) (omega (arith, s.2), omega (arith, s.2), s.3)

-- If bytes encode a custom block and the identifier's kind is known, then the data encode the token
-- by the kind.
pub data_at : (kind : Option CustomKind) (rest : List ℕ) (t : Token) → EncodesCustom rest t → kind ≡ custom_of (take 3 rest) → EncodesData kind rest t
data_at kind rest t s e = subst (λ (k : Option CustomKind). EncodesData k rest t) (sym e) (data_of_custom rest t s)

native_data : (kind : Option CustomKind) (rest : List ℕ) (t : Token) → (kind ≡ Some customs.Int32 → ⊥) → (kind ≡ Some customs.Int64 → ⊥) → EncodesData kind rest t → EncodesData (Some customs.Native) rest t
native_data None rest t n m s = absurd s
native_data (Some customs.Int32) rest t n m s = absurd (n refl)
native_data (Some customs.Int64) rest t n m s = absurd (m refl)
native_data (Some customs.Native) rest t n m s = s

-- If the identifier of an encoded custom block is neither `_i` nor `_j`, then the custom block is a
-- `Nativeint`.
pub native_at : (kind : Option CustomKind) (rest : List ℕ) (t : Token) → EncodesCustom rest t → kind ≡ custom_of (take 3 rest) → (kind ≡ Some customs.Int32 → ⊥) → (kind ≡ Some customs.Int64 → ⊥) → EncodesData (Some customs.Native) rest t
native_at kind rest t s e n m = native_data kind rest t n m (data_at kind rest t s e)

-- If an integer lies between -2 ^ 31 and 2 ^ 31 - 1, then the integer fits a signed 32-bit type.
fits_i32 : (z : ℤ) → IsSigned 31 z → FitsSigned w32 z
fits_i32 (pos n) h = record { sfits = h }
fits_i32 (negsuc n) h = record { sfits = h }

-- Four bytes encode a signed number of 32 bits.
pub fits_four : (rest : List ℕ) → AreBytes rest → length rest ≡ 7 → FitsSigned w32 (signed (drop 3 rest))
fits_four rest a l =
    fits_i32 (signed (drop 3 rest)) (IsSigned-signed_at 31 (drop 3 rest) (omega (arith, length-drop 3 rest)) (All-drop (λ b. b < 256) 3 rest a))
