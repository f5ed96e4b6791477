-- The indices of an object's typed fields increase.
use Rattle.std.proofs.Common.{ℕ, zero, suc, ◌+◌, ◌<◌, ◌≤◌, ◌≡◌, ◌∙◌, ◌⊎◌, ⊎_elim, List, [], ◌∷◌, length, Bool, true, false, Option, Some, None, sym, ap, arith}
use Rattle.std.specs.Prelude.{slice_get, option_and_then, if◌then◌else◌, ◌&&◌, ◌==◌, replicate}
use Rattle.std.proofs.lemmas.Option.{same_Some, none-some, slice_get_within}
use Rattle.base_data.proofs.model.Options.{slice_get_there}
use Rattle.base_data.specs.declared.model.value.Val.{Val}
use Rattle.base_data.specs.declared.model.value.Val.TheVariants as vals
use Rattle.base_data.specs.declared.model.value.Obj.{Obj}
use Rattle.base_data.specs.declared.model.value.Obj.TheVariants as objects
use Rattle.base_data.proofs.model.Numbers.{less_same_more}
use Rattle.types_spec.specs.declared.types.shape.Constr.{Constr}
use Rattle.types_spec.specs.declared.types.shape.PolyTag.{PolyTag}
use Rattle.types_spec.specs.declared.types.shape.ShapeOf.{ShapeOf}
use Rattle.types_spec.specs.declared.types.shape.ShapeOf.TheVariants as shapes
use Rattle.types_spec.specs.types.Fitting.{tag_with, numbered_from, fields_if, none_if, constr_fields, or_none, argument_field, tag_fields, block_fields, object_fields, fields_of, fits_int, fits_atom, is_double, is_bytes, has_doubles, is_int32, is_int64, is_native}

module _ {T : Type 0} where
  -- The field indices in the list increase.
  abbrev pub Increase : List (ℕ × T) → Type 0
  Increase needs =
      (j k i l : ℕ) (a b : T) → j < k → slice_get needs j ≡ Some (i, a) → slice_get needs k ≡ Some (l, b) → i < l

  pub numbered : (s : ℕ) (ts : List T) (k i : ℕ) (a : T) → slice_get (numbered_from s ts) k ≡ Some (i, a) → i ≡ s + k
  numbered s [] k i a at = absurd (none-some (i, a) at)
  numbered s (t ∷ ts) zero i a at =
      let number : s ≡ i = ap (λ (need : ℕ × T). need.0) (same_Some (s, t) (i, a) at) in omega (arith, number)
  numbered s (t ∷ ts) (suc k) i a at = omega (arith, numbered (suc s) ts k i a at)

  increase_numbered : (ts : List T) → Increase (numbered_from 0 ts)
  increase_numbered ts j k i l a b less one other = omega (arith, numbered 0 ts j i a one, numbered 0 ts k l b other)

  increase_none : Increase []
  increase_none j k i l a b less one other = absurd (none-some (i, a) one)

  increase_if : (test : Bool) (ts : List T) → Increase (or_none (fields_if test ts))
  increase_if true ts = increase_numbered ts
  increase_if false ts = increase_none

  increase_none_if : (test : Bool) → Increase (or_none (none_if {T = T} test))
  increase_none_if true = increase_none
  increase_none_if false = increase_none

  increase_constr : (size : ℕ) (found : Option (Constr T)) → Increase (or_none (constr_fields size found))
  increase_constr size None = increase_none
  increase_constr size (Some c) = increase_if (length c.fields == size) c.fields

  increase_one : (t : T) → Increase ((1, t) ∷ [])
  increase_one t j zero i l a b less one other = absurd (omega arith)
  increase_one t j (suc k) i l a b less one other = absurd (none-some (l, b) other)

  increase_argument : (arg : Option T) → Increase (or_none (argument_field arg))
  increase_argument None = increase_none
  increase_argument (Some t) = increase_one t

  increase_found : (found : Option (PolyTag T)) → Increase (or_none (option_and_then (λ (tag : PolyTag T). argument_field tag.arg) found))
  increase_found None = increase_none
  increase_found (Some tag) = increase_argument tag.arg

  increase_tags : (tags : List (PolyTag T)) (values : List Val) → Increase (or_none (tag_fields tags values))
  increase_tags tags (vals.Int z ∷ argument ∷ []) = increase_found (tag_with tags z)
  increase_tags tags values = increase_none

  increase_when : (test : Bool) (needs : Option (List (ℕ × T))) → Increase (or_none needs) → Increase (or_none (if test then needs else None))
  increase_when true needs increase = increase
  increase_when false needs increase = increase_none

  increase_block : (s : ShapeOf T) (tag : ℕ) (values : List Val) → Increase (or_none (block_fields s tag values))
  increase_block (shapes.Sum k blocks) tag values = increase_constr (length values) (slice_get blocks tag)
  increase_block (shapes.Product mutable ts) tag values = increase_if ((tag == 0) && (length ts == length values)) ts
  increase_block (shapes.ArrayOf t) tag values = increase_if (tag == 0) (replicate (length values) t)
  increase_block (shapes.ArrayOfAnything t) tag values = increase_if (tag == 0) (replicate (length values) t)
  increase_block (shapes.Poly tags) tag values = increase_when (tag == 0) (tag_fields tags values) (increase_tags tags values)
  increase_block s tag values = increase_none

  increase_object : (s : ShapeOf T) (object : Obj) → Increase (or_none (object_fields s object))
  increase_object s (objects.Block tag values) = increase_block s tag values
  increase_object s (objects.Bytes bytes) = increase_none_if (is_bytes s)
  increase_object s (objects.Double bits) = increase_none_if (is_double s)
  increase_object s (objects.Doubles all) = increase_none_if (has_doubles s (length all))
  increase_object s (objects.I32 z) = increase_none_if (is_int32 s)
  increase_object s (objects.I64 z) = increase_none_if (is_int64 s)
  increase_object s (objects.Native z) = increase_none_if (is_native s)

  increase_at : (s : ShapeOf T) (object : Option Obj) → Increase (or_none (option_and_then (object_fields s) object))
  increase_at s None = increase_none
  increase_at s (Some object) = increase_object s object

  pub needs_increase : (s : ShapeOf T) (graph : List Obj) (v : Val) → Increase (or_none (fields_of graph v s))
  needs_increase s graph (vals.Int z) = increase_none_if (fits_int s z)
  needs_increase s graph (vals.Atom tag) = increase_none_if (fits_atom s tag)
  needs_increase s graph (vals.Ref o) = increase_at s (slice_get graph o)

  -- Each field index in the list is at least the index's position.
  pub position_within : (needs : List (ℕ × T)) → Increase needs → (k i : ℕ) (a : T) → slice_get needs k ≡ Some (i, a) → k ≤ i
  position_within needs increase zero i a at_k = omega arith
  position_within needs increase (suc k) i a at_k =
      let inside = slice_get_within needs (suc k) (i, a) at_k in
      let before = slice_get_there needs k (omega (arith, inside)) in
      let rest = position_within needs increase k before.0.0 before.0.1 before.1 in
      let less = increase k (suc k) before.0.0 i before.0.1 a (omega arith) before.1 at_k in
      omega (arith, rest, less)

  -- If a field index is smaller than another, then the position of the first index is smaller.
  pub position_before :
      (needs : List (ℕ × T)) → Increase needs → (j k i l : ℕ) (a b : T) → slice_get needs j ≡ Some (i, a) → slice_get needs k ≡ Some (l, b)
      → i < l → j < k
  position_before needs increase j k i l a b at_j at_k less = ⊎_elim
      (λ before. before)
      (λ others. ⊎_elim
      (λ same. let number = ap (λ (need : ℕ × T). need.0) (same_Some (i, a) (l, b) (sym at_j ∙ ap (slice_get needs) same ∙ at_k)) in absurd (omega (arith, less, number)))
      (λ after. let more = increase k j l i b a after at_k at_j in absurd (omega (arith, less, more)))
      others)
      (less_same_more j k)

  -- A field index occurs at one position only.
  pub position_same :
      (needs : List (ℕ × T)) → Increase needs → (j k i l : ℕ) (a b : T) → slice_get needs j ≡ Some (i, a) → slice_get needs k ≡ Some (l, b)
      → i ≡ l → a ≡ b
  position_same needs increase j k i l a b at_j at_k number = ⊎_elim
      (λ before. let less = increase j k i l a b before at_j at_k in absurd (omega (arith, less, number)))
      (λ others. ⊎_elim
      (λ same. ap (λ (need : ℕ × T). need.1) (same_Some (i, a) (l, b) (sym at_j ∙ ap (slice_get needs) same ∙ at_k)))
      (λ after. let more = increase k j l i b a after at_k at_j in absurd (omega (arith, more, number)))
      others)
      (less_same_more j k)
