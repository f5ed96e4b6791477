-- The first bytes of a raw token determine the token's length and object. No raw token is a proper
-- prefix of another raw token.
use Rattle.std.proofs.Common.{◌≡◌, ℕ, zero, suc, ◌+◌, ◌<◌, ◌≤◌, ◌==◌, List, [], ◌∷◌, ◌++◌, length, take, drop, Option, Some, None, Result, Ok, Err, inl, inr, refl, sym, ◌∙◌, ap, arith, eqb-true, slice_index, length-append, length-take, length-take-le, take-take, get_or-take, take_at, if◌then◌else◌}
use Rattle.std.proofs.lemmas.List.{take-append-le, take-append-drop}
use Rattle.std.proofs.lemmas.Bool.{cases_lt, cond_both}
use Rattle.base_data.specs.declared.model.code.CodeKind.{CodeKind}
use Rattle.base_data.specs.declared.model.code.CodeKind.TheVariants as kinds
use Rattle.base_data.specs.declared.model.code.CodeFault.{CodeFault}
use Rattle.base_data.specs.declared.model.code.CustomKind.{CustomKind}
use Rattle.base_data.specs.declared.model.code.CustomKind.TheVariants as customs
use Rattle.marshal_spec.specs.format.Code.{kind_of, custom_of, native_bytes}
use Rattle.marshal_spec.specs.format.Raw.{fixed_bytes, field_bytes, custom_bytes, kind_bytes, custom_measure, variable_bytes, measure_after, sizing_bytes, length_after, raw_length, measure_from, raw_measure, IsRaw, IsPart}

-- ---- a kind

int_fields : (width : ℕ) → (if width == 8 then 8 else 0) ≤ width
int_fields width = cond_both (width == 8) 8 0 (λ n. n ≤ width) (λ e. omega (arith, eqb-true width 8 e)) (λ e. omega arith)

-- The field bytes of a kind are at most as many as its fixed bytes.
pub fields_fit : (kind : CodeKind) → field_bytes kind ≤ fixed_bytes kind
fields_fit (kinds.SmallBlock tag size) = omega arith
fields_fit (kinds.SmallInt n) = omega arith
fields_fit (kinds.SmallString n) = omega arith
fields_fit (kinds.Int width) = int_fields width
fields_fit (kinds.Shared width) = omega arith
fields_fit (kinds.Block width) = omega arith
fields_fit (kinds.Str width) = omega arith
fields_fit (kinds.Double little) = omega arith
fields_fit (kinds.Doubles width little) = omega arith
fields_fit (kinds.Custom old) = omega arith

pub kind_fits : (o : Option CustomKind) (b : ℕ) → kind_bytes o ≤ custom_bytes o b
kind_fits None b = omega arith
kind_fits (Some customs.Int32) b = omega arith
kind_fits (Some customs.Int64) b = omega arith
kind_fits (Some customs.Native) b = omega arith

-- The bytes that determine a token's size are among the token's bytes.
pub sizing_fits : (kind : CodeKind) (rest : List ℕ) → sizing_bytes kind rest ≤ fixed_bytes kind + variable_bytes kind rest
sizing_fits (kinds.SmallBlock tag size) rest = omega arith
sizing_fits (kinds.SmallInt n) rest = omega arith
sizing_fits (kinds.SmallString n) rest = omega arith
sizing_fits (kinds.Int width) rest = omega (arith, int_fields width)
sizing_fits (kinds.Shared width) rest = omega arith
sizing_fits (kinds.Block width) rest = omega arith
sizing_fits (kinds.Str width) rest = omega arith
sizing_fits (kinds.Double little) rest = omega arith
sizing_fits (kinds.Doubles width little) rest = omega arith
sizing_fits (kinds.Custom old) rest = omega (arith, kind_fits (custom_of (take 3 rest)) (slice_index rest 3))

-- The field bytes are among the bytes that determine a token's size.
pub fields_first : (kind : CodeKind) (rest : List ℕ) → field_bytes kind ≤ sizing_bytes kind rest
fields_first (kinds.SmallBlock tag size) rest = omega arith
fields_first (kinds.SmallInt n) rest = omega arith
fields_first (kinds.SmallString n) rest = omega arith
fields_first (kinds.Int width) rest = omega arith
fields_first (kinds.Shared width) rest = omega arith
fields_first (kinds.Block width) rest = omega arith
fields_first (kinds.Str width) rest = omega arith
fields_first (kinds.Double little) rest = omega arith
fields_first (kinds.Doubles width little) rest = omega arith
fields_first (kinds.Custom old) rest = omega arith

-- ---- the first `m` bytes after the code

pub custom_take : (m : ℕ) (rest : List ℕ) → 3 ≤ m → custom_of (take 3 (take m rest)) ≡ custom_of (take 3 rest)
custom_take m rest l = ap custom_of (take-take 3 m rest l)

-- If the first `m` bytes include the fields, then the first `m` bytes determine the number of
-- sizing bytes.
pub sizing_bytes-take : (kind : CodeKind) (m : ℕ) (rest : List ℕ) → field_bytes kind ≤ m → sizing_bytes kind (take m rest) ≡ sizing_bytes kind rest
sizing_bytes-take (kinds.SmallBlock tag size) m rest l = refl
sizing_bytes-take (kinds.SmallInt n) m rest l = refl
sizing_bytes-take (kinds.SmallString n) m rest l = refl
sizing_bytes-take (kinds.Int width) m rest l = refl
sizing_bytes-take (kinds.Shared width) m rest l = refl
sizing_bytes-take (kinds.Block width) m rest l = refl
sizing_bytes-take (kinds.Str width) m rest l = refl
sizing_bytes-take (kinds.Double little) m rest l = refl
sizing_bytes-take (kinds.Doubles width little) m rest l = refl
sizing_bytes-take (kinds.Custom old) m rest l = ap (λ o. 3 + kind_bytes o) (custom_take m rest l)

-- If the first `m` bytes include the fields, then the first `m` bytes determine the measure of the
-- token's object.
pub measure_after-take : (kind : CodeKind) (m : ℕ) (rest : List ℕ) → field_bytes kind ≤ m → measure_after kind (take m rest) ≡ measure_after kind rest
measure_after-take (kinds.SmallBlock tag size) m rest l = refl
measure_after-take (kinds.SmallInt n) m rest l = refl
measure_after-take (kinds.SmallString n) m rest l = refl
measure_after-take (kinds.Int width) m rest l = refl
measure_after-take (kinds.Shared width) m rest l = refl
measure_after-take (kinds.Block width) m rest l = rw take-take
measure_after-take (kinds.Str width) m rest l = rw take-take
measure_after-take (kinds.Double little) m rest l = refl
measure_after-take (kinds.Doubles width little) m rest l = rw take-take
measure_after-take (kinds.Custom old) m rest l = ap custom_measure (custom_take m rest l)

-- The length of a custom block's data depends on the kind byte only if the kind byte is one of the
-- sizing bytes.
custom_same : (o : Option CustomKind) (a b m : ℕ) → 3 + kind_bytes o ≤ m → (3 < m → a ≡ b) → custom_bytes o a ≡ custom_bytes o b
custom_same None a b m l e = refl
custom_same (Some customs.Int32) a b m l e = refl
custom_same (Some customs.Int64) a b m l e = refl
custom_same (Some customs.Native) a b m l e = ap (λ k. 1 + native_bytes k) (e (omega arith))

-- The bytes that determine the size also determine the number of variable bytes.
pub variable_bytes-take : (kind : CodeKind) (m : ℕ) (rest : List ℕ) → sizing_bytes kind rest ≤ m → variable_bytes kind (take m rest) ≡ variable_bytes kind rest
variable_bytes-take (kinds.SmallBlock tag size) m rest l = refl
variable_bytes-take (kinds.SmallInt n) m rest l = refl
variable_bytes-take (kinds.SmallString n) m rest l = refl
variable_bytes-take (kinds.Int width) m rest l = refl
variable_bytes-take (kinds.Shared width) m rest l = refl
variable_bytes-take (kinds.Block width) m rest l = refl
variable_bytes-take (kinds.Str width) m rest l = rw take-take
variable_bytes-take (kinds.Double little) m rest l = refl
variable_bytes-take (kinds.Doubles width little) m rest l = rw take-take
variable_bytes-take (kinds.Custom old) m rest l =
    ap (λ o. custom_bytes o (slice_index (take m rest) 3)) (custom_take m rest (omega arith))
    ∙ custom_same (custom_of (take 3 rest)) (slice_index (take m rest) 3) (slice_index rest 3) m l (λ h. get_or-take m rest 3 0 h)

-- If the bytes do not include all sizing bytes, then the token is incomplete.
variable_part : (kind : CodeKind) (m : ℕ) (rest : List ℕ) → m < sizing_bytes kind rest → m < fixed_bytes kind + variable_bytes kind (take m rest)
variable_part kind m rest l =
    elim (cases_lt m (field_bytes kind)) [
      | inl u ↦ omega (arith, fields_fit kind)
      | inr g ↦ omega (arith, sizing_bytes-take kind m rest g, sizing_fits kind (take m rest))
    ]

-- ---- after a code

pub length_after-take : (r : Result CodeKind CodeFault) (m : ℕ) (rest : List ℕ) → length_after r rest ≤ m → length_after r (take m rest) ≡ length_after r rest
length_after-take (Ok kind) m rest l = ap (λ n. fixed_bytes kind + n) (variable_bytes-take kind m rest (omega (arith, sizing_fits kind rest)))
length_after-take (Err fault) m rest l = refl

pub measure_from-take : (r : Result CodeKind CodeFault) (m : ℕ) (rest : List ℕ) → length_after r rest ≤ m → measure_from r (take m rest) ≡ measure_from r rest
measure_from-take (Ok kind) m rest l = measure_after-take kind m rest (omega (arith, sizing_fits kind rest, fields_first kind rest))
measure_from-take (Err fault) m rest l = refl

pub length_after-part : (r : Result CodeKind CodeFault) (m : ℕ) (rest : List ℕ) → m < length_after r rest → m < length_after r (take m rest)
length_after-part (Ok kind) m rest l =
    elim (cases_lt m (sizing_bytes kind rest)) [
      | inl u ↦ variable_part kind m rest u
      | inr g ↦ omega (arith, variable_bytes-take kind m rest g)
    ]
length_after-part (Err fault) m rest l = omega arith

-- ---- a token

-- A raw token has at least one byte, its code.
pub one-le-raw_length : (bytes : List ℕ) → 1 ≤ raw_length bytes
one-le-raw_length [] = omega arith
one-le-raw_length (code ∷ rest) = omega arith

-- If the first `n` bytes include the token, then the first `n` bytes determine the token's length.
pub raw_length-take : (n : ℕ) (bytes : List ℕ) → raw_length bytes ≤ n → raw_length (take n bytes) ≡ raw_length bytes
raw_length-take zero bytes l = absurd (omega (arith, one-le-raw_length bytes))
raw_length-take (suc m) [] l = refl
raw_length-take (suc m) (code ∷ rest) l = ap (λ n. 1 + n) (length_after-take (kind_of code) m rest (omega arith))

-- If the first `n` bytes include the token, then the first `n` bytes determine the token's object.
pub raw_measure-take : (n : ℕ) (bytes : List ℕ) → raw_length bytes ≤ n → raw_measure (take n bytes) ≡ raw_measure bytes
raw_measure-take zero bytes l = absurd (omega (arith, one-le-raw_length bytes))
raw_measure-take (suc m) [] l = refl
raw_measure-take (suc m) (code ∷ rest) l = measure_from-take (kind_of code) m rest (omega arith)

-- If the token has more than `n` bytes, then a token that begins with the first `n` bytes has more
-- than `n` bytes.
pub raw_length-part : (n : ℕ) (bytes : List ℕ) → n < raw_length bytes → n < raw_length (take n bytes)
raw_length-part zero bytes l = omega arith
raw_length-part (suc m) [] l = omega arith
raw_length-part (suc m) (code ∷ rest) l = omega (arith, length_after-part (kind_of code) m rest (omega arith))

-- If bytes are fewer than a raw token has, then the bytes are a proper prefix of a raw token.
pub IsPart-take : (n : ℕ) (bytes : List ℕ) → n < raw_length bytes → IsPart (take n bytes)
IsPart-take n bytes l = omega (arith, raw_length-part n bytes l, length-take n bytes)

-- If the bytes include the whole token, then a raw token is at the beginning of the bytes.
pub IsRaw-take : (bytes : List ℕ) → raw_length bytes ≤ length bytes → IsRaw (take (raw_length bytes) bytes)
IsRaw-take bytes l = length-take-le (raw_length bytes) bytes l ∙ sym (raw_length-take (raw_length bytes) bytes (omega arith))

-- If a code has the kind `kind`, then the fixed and variable bytes of `kind` determine the raw
-- token's length.
pub raw_length-ok : (code : ℕ) (kind : CodeKind) (rest : List ℕ) → kind_of code ≡ Ok kind → raw_length (code ∷ rest) ≡ 1 + (fixed_bytes kind + variable_bytes kind rest)
raw_length-ok code kind rest e = ap (λ r. 1 + length_after r rest) e

pub raw_measure-ok : (code : ℕ) (kind : CodeKind) (rest : List ℕ) → kind_of code ≡ Ok kind → raw_measure (code ∷ rest) ≡ measure_after kind rest
raw_measure-ok code kind rest e = ap (λ r. measure_from r rest) e

-- ---- a token, and bytes after it

-- If a raw token is at the beginning of bytes, then the token determines its own length.
pub raw_length-append : (token more : List ℕ) → IsRaw token → raw_length (token ++ more) ≡ raw_length token
raw_length-append token more raw =
    let same : take (length token) (token ++ more) ≡ token = take_at token more (length token) refl in
    elim (cases_lt (length token) (raw_length (token ++ more))) [
      | inl u ↦
          let p : length token < raw_length (take (length token) (token ++ more)) = raw_length-part (length token) (token ++ more) u in
          let q : length token < raw_length token = rw same at p in absurd (omega arith)
      | inr g ↦ sym (raw_length-take (length token) (token ++ more) g) ∙ ap raw_length same
    ]

-- If two lists of the same length begin the same bytes, then the lists are equal.
pub same_prefix : (xs ys x y : List ℕ) → length xs ≡ length ys → xs ++ x ≡ ys ++ y → xs ≡ ys
same_prefix xs ys x y l e = sym (take_at xs x (length xs) refl) ∙ (ap (take (length xs)) e ∙ take_at ys y (length xs) (sym l))

-- If two lists begin the same bytes, then the shorter list is a prefix of the longer one.
pub prefix_within : (p u x y : List ℕ) → length u ≤ length p → p ++ x ≡ u ++ y → p ≡ u ++ drop (length u) p
prefix_within p u x y l e =
    let prefix : take (length u) p ≡ u = sym (take-append-le (length u) p x l) ∙ (ap (take (length u)) e ∙ take_at u y (length u) refl) in
    sym (take-append-drop (length u) p) ∙ ap (λ t. t ++ drop (length u) p) prefix

-- No raw token is a proper prefix of another raw token.
pub IsRaw-same : (t u x y : List ℕ) → IsRaw t → IsRaw u → t ++ x ≡ u ++ y → t ≡ u
IsRaw-same t u x y p q e =
    same_prefix t u x y (p ∙ (sym (raw_length-append t x p) ∙ (ap raw_length e ∙ (raw_length-append u y q ∙ sym q)))) e

-- No raw token is at the beginning of a proper prefix of a token.
pub not_in_part : (p u y : List ℕ) → IsPart p → IsRaw u → p ≡ u ++ y → ⊥
not_in_part p u y part raw e =
    let l : raw_length p ≡ raw_length u = ap raw_length e ∙ raw_length-append u y raw in
    omega (arith, ap length e, length-append u y)

-- If a proper prefix of a token and a raw token begin the same bytes, then the proper prefix is
-- shorter.
pub part_shorter : (p u x y : List ℕ) → IsPart p → IsRaw u → p ++ x ≡ u ++ y → length p < length u
part_shorter p u x y part raw e =
    elim (cases_lt (length p) (length u)) [
      | inl l ↦ l
      | inr g ↦
          absurd (not_in_part p u (drop (length u) p) part raw (prefix_within p u x y g e))
    ]
