-- An incomplete token has no fault in its fields: each fault needs all bytes of its token.
use Rattle.std.proofs.Common.{ℕ, zero, suc, ◌+◌, ◌*◌, ◌<◌, ◌≤◌, ◌≡◌, ◌∙◌, Bool, true, false, eqb, if◌then◌else◌, List, [], ◌∷◌, length, take, drop, get_or, slice_index, Option, Some, None, is_none, Ok, refl, sym, ap, subst, arith, eqb-true, ne_eqb, length-take}
use Rattle.base_data.specs.declared.model.refusal.ReadRefusal.{ReadRefusal}
use Rattle.base_data.specs.declared.model.refusal.ReadRefusal.TheVariants.{ZeroArray, OtherCustom}
use Rattle.base_data.specs.declared.model.code.CodeKind.{CodeKind}
use Rattle.base_data.specs.declared.model.code.CodeKind.TheVariants as kinds
use Rattle.base_data.specs.declared.model.code.CustomKind.{CustomKind}
use Rattle.base_data.specs.model.Bytes.{number, signed}
use Rattle.marshal_spec.specs.format.Code.{kind_of, custom_of}
use Rattle.marshal_spec.specs.format.Raw.{fixed_bytes, field_bytes, variable_bytes, custom_bytes, raw_length}
use Rattle.marshal_spec.specs.format.Step.{fails_if, Context, position, integer_refusal, field_refusal}
use Rattle.marshal_spec.proofs.format.RawLemmas.{fields_fit, raw_length-ok}
use Rattle.marshal_spec.proofs.format.TokenStepLemmas.{field_refusal-take}

part_int : (b : Bool) (c : Context) (width : ℕ) (rest : List ℕ) → eqb width 8 ≡ b → length rest < width + 0 → (if b then 8 else 0) ≤ length rest → (if b then integer_refusal c (signed (take 8 rest)) else None) ≡ None
part_int true c width rest is short fields = let same : width ≡ 8 = eqb-true width 8 is in absurd (omega (arith, same, short, fields))
part_int false c width rest is short fields = refl

part_count : (count width long : ℕ) (r : ReadRefusal) → long < width + 8 * count → width ≤ long → fails_if (eqb count 0) r ≡ None
part_count count width long r short some = ap (λ b. fails_if b r) (ne_eqb count 0 (λ e. omega (arith, e, short, some)))

part_custom : (known : Option CustomKind) (b long : ℕ) (r : ReadRefusal) → long < 3 + custom_bytes known b → 3 ≤ long → fails_if (is_none known) r ≡ None
part_custom None b long r short some = absurd (omega (arith, short, some))
part_custom (Some kind) b long r short some = refl

-- If the bytes after a code are incomplete but include the checked fields, then the fields are not
-- refused.
part_fields : (c : Context) (code : ℕ) (kind : CodeKind) (rest : List ℕ) → length rest < fixed_bytes kind + variable_bytes kind rest → field_bytes kind ≤ length rest → field_refusal c code kind rest ≡ None
part_fields c code (kinds.SmallBlock tag size) rest short fields = refl
part_fields c code (kinds.SmallInt n) rest short fields = refl
part_fields c code (kinds.SmallString n) rest short fields = refl
part_fields c code (kinds.Int width) rest short fields = part_int (eqb width 8) c width rest refl short fields
part_fields c code (kinds.Shared width) rest short fields = absurd (omega (arith, short, fields))
part_fields c code (kinds.Block width) rest short fields = absurd (omega (arith, short, fields))
part_fields c code (kinds.Str width) rest short fields = refl
part_fields c code (kinds.Double little) rest short fields = refl
part_fields c code (kinds.Doubles width little) rest short fields =
    part_count (number (take width rest)) width (length rest) (ZeroArray (position c)) short fields
part_fields c code (kinds.Custom old) rest short fields =
    part_custom (custom_of (take 3 rest)) (slice_index rest 3) (length rest) (OtherCustom (position c) code) short fields

-- If the first `m` bytes end before the token ends but include the checked fields, then the fields
-- are not refused.
more_fields : (c : Context) (code : ℕ) (kind : CodeKind) (rest : List ℕ) (m : ℕ) → kind_of code ≡ Ok kind → length (take m (code ∷ rest)) < raw_length (take m (code ∷ rest)) → 1 + fixed_bytes kind ≤ m → field_bytes kind ≤ length rest → field_refusal c code kind rest ≡ None
more_fields c code kind rest zero is short room fields = absurd (omega (arith, room))
more_fields c code kind rest (suc m) is short room fields =
    let fit = fields_fit kind in
    let own : length (take m rest) < fixed_bytes kind + variable_bytes kind (take m rest) = omega (arith, short, raw_length-ok code kind (take m rest) is) in
    let whole : field_bytes kind ≤ length (take m rest) = omega (arith, length-take m rest, fields, room, fit) in
    sym (field_refusal-take c code kind m rest (omega (arith, fit, room))) ∙ part_fields c code kind (take m rest) own whole

-- The statement of `more_fields` for bytes that begin with the code.
pub more_sound : (c : Context) (bytes rest : List ℕ) (kind : CodeKind) (m : ℕ) → 0 < length bytes → rest ≡ drop 1 bytes → kind_of (get_or bytes 0 0) ≡ Ok kind → length (take m bytes) < raw_length (take m bytes) → 1 + fixed_bytes kind ≤ m → field_bytes kind ≤ length rest → field_refusal c (get_or bytes 0 0) kind rest ≡ None
more_sound c [] rest kind m some tail is short room fields = absurd (omega (arith, some))
more_sound c (code ∷ after) rest kind m some tail is short room fields =
    subst (λ xs. field_refusal c code kind xs ≡ None) (sym tail)
    (more_fields c code kind after m is short room (subst (λ xs. field_bytes kind ≤ length xs) tail fields))
