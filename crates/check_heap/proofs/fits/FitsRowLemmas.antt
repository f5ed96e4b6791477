-- Headers and integer words determine matches.
use Rattle.std.proofs.Common.{ℕ, Some, ◌+◌, ◌-◌, ◌%◌, ◌^◌, ◌<◌, ◌≤◌, ◌≡◌, ◌∙◌, ◌⊎◌, ⊎_elim, List, [], ◌∷◌, length, true, refl, sym, ap, subst, arith}
use Rattle.std.specs.Prelude.{ℤ, pos, negsuc, Bool, IsSome, IsTrue, ◌==◌, slice_get}
use Rattle.std.proofs.lemmas.Bool.Decides.{eqb_tells}
use Rattle.std.proofs.lemmas.Option.{none-some, same_Some}
use Rattle.base_data.proofs.model.Options.{same_or_not}
use Rattle.base_data.specs.model.Graph.{IsInteger, IsObject}
use Rattle.base_data.specs.declared.model.value.Val.TheVariants as vals
use Rattle.base_data.specs.declared.model.value.Obj.{Obj}
use Rattle.base_data.specs.declared.model.value.Obj.TheVariants as objects
use Rattle.types_spec.specs.declared.types.shape.Constr.{Constr}
use Rattle.types_spec.specs.declared.types.shape.ShapeOf.{ShapeOf}
use Rattle.types_spec.specs.declared.types.shape.ShapeOf.TheVariants as shapes
use Rattle.types_spec.specs.types.Fitting.{fits_int, fields_if, object_fields}
use Rattle.marshal_heap.specs.heap.Heap.{integer_word, IsFieldWord, IsReferenceWord}
use Rattle.marshal_heap.specs.heap.ObjectWords.{header_of}
use Rattle.check_heap.specs.fits.ObjectRow.{IsRowOf, Agree, AgreeTo}

same_number : (n : ℕ) → (n == n) ≡ true
same_number n = ⊎_elim (λ same. same.0) (λ other. absurd (other.1 refl)) (eqb_tells n n)

-- ---- headers

-- No object has the tag 1023.
pub never_1023 : (n : ℕ) (object : Obj) → IsObject n object → ¬ (header_of object % 1024 ≡ 1023)
never_1023 n (objects.Block tag values) is same = let small = is.0 in omega (arith, small, same)
never_1023 n (objects.Bytes bytes) is same = omega (arith, same)
never_1023 n (objects.Double bits) is same = omega (arith, same)
never_1023 n (objects.Doubles all) is same = omega (arith, same)
never_1023 n (objects.I32 z) is same = omega (arith, same)
never_1023 n (objects.I64 z) is same = omega (arith, same)
never_1023 n (objects.Native z) is same = omega (arith, same)

-- ---- rows of shapes

none_by_header :
    (shape : ShapeOf ℕ) (header more n : ℕ) (object : Obj) → header ≡ 1023 → more ≡ 0 → IsObject n object
    → (header ≤ header_of object) × (header_of object ≤ header + more) → IsSome (object_fields shape object)
none_by_header shape header more n object none no_more is near =
    let same : header_of object ≡ 1023 = omega (arith, none, no_more, near.0, near.1) in
    absurd (never_1023 n object is (ap (λ h. h % 1024) same))

-- No integer has the word 0.
no_ints : (shape : ShapeOf ℕ) (z : ℤ) → IsInteger z → integer_word z ≤ 0 → IsTrue (fits_int shape z)
no_ints shape (pos n) is less = absurd (omega (arith, less))
no_ints shape (negsuc n) is less = absurd (omega (arith, is, less))

by_tag :
    (shape : ShapeOf ℕ) (tag : ℕ) → ((n : ℕ) (object : Obj) → IsObject n object → header_of object % 1024 ≡ tag → IsSome (object_fields shape object))
    → IsRowOf shape (record { most = 0; header = 1023; more = 0; tag = tag })
by_tag shape tag tags = record {
  ints = no_ints shape;
  headers = λ n object is same. none_by_header shape 1023 0 n object refl refl is same;
  tags = tags;
}

-- A block with as many fields as types matches.
fields_fit : (test : Bool) (ts : List ℕ) → test ≡ true → IsSome (fields_if test ts)
fields_fit test ts is = subst (λ b. IsSome (fields_if b ts)) (sym is) refl

-- If the next constructor has as many fields as the first, then one more constructor agrees.
pub agree_more :
    (blocks : List (Constr ℕ)) (more : ℕ) (first next : Constr ℕ) → AgreeTo blocks more → more < 243 → more + 1 < length blocks
    → slice_get blocks 0 ≡ Some first → slice_get blocks (more + 1) ≡ Some next → length next.fields ≡ length first.fields
    → AgreeTo blocks (more + 1)
agree_more blocks more first next to few inside at_0 at_next same = record {
  few = omega (arith, few);
  there = inside;
  agree = λ k f constr least at_f at_k. ⊎_elim
      (λ last.
      let one = same_Some next constr (sym at_next ∙ ap (slice_get blocks) (sym last) ∙ at_k) in
      let zero = same_Some first f (sym at_0 ∙ at_f) in
      ap (λ (c : Constr ℕ). length c.fields) (sym one) ∙ same ∙ ap (λ (c : Constr ℕ). length c.fields) zero)
      (λ other. to.agree k f constr (omega (arith, least, other)) at_f at_k)
      (same_or_not k (more + 1));
}

-- If the first `more + 1` constructors agree, then `Agree` holds.
pub all_agree :
    (blocks : List (Constr ℕ)) (more size : ℕ) (first : Constr ℕ) → slice_get blocks 0 ≡ Some first → size ≡ length first.fields
    → (2 ^ 53 ≤ size → more ≡ 0) → AgreeTo blocks more → Agree blocks more
all_agree [] more size first at_0 is small to = absurd (none-some first at_0)
all_agree (constr ∷ blocks) more size first at_0 is small to =
    let same : constr ≡ first = same_Some constr first at_0 in
    record {
      few = to.few;
      there = to.there;
      small = λ large. small (omega (arith, is, large, ap (λ (c : Constr ℕ). length c.fields) same));
      agree = λ k other least at_k. to.agree k constr other least refl at_k;
    }

-- ---- 64-bit words

pub is_reference : (graph : List Obj) (word : ℕ) → IsFieldWord graph word → word % 8 ≡ 0 → IsReferenceWord graph word
is_reference graph word (vals.Int (pos n), is, same) even = absurd (omega (arith, same, even))
is_reference graph word (vals.Int (negsuc n), is, same) even = absurd (omega (arith, is, same, even))
is_reference graph word (vals.Atom tag, is, same) even = absurd (omega (arith, same, even))
is_reference graph word (vals.Ref k, is, same) even = (k, is, same)
