-- If a value matches a type, then the value matches each instance of the type. The types of the
-- fields at an instance are instances of the types of the fields.
use Rattle.std.proofs.Common.{ℕ, ◌==◌, ◌≡◌, ◌∙◌, inl, inr, List, [], ◌∷◌, Bool, true, false}
use Rattle.std.proofs.Common.{Option, Some, None, refl, ap, subst, sym}
use Rattle.std.specs.Prelude.{IsSome, map, option_map, option_and_then, slice_get}
use Rattle.std.proofs.lemmas.Option.{same_Some, none-some}
use Rattle.base_data.specs.declared.model.value.Val.{Val}
use Rattle.base_data.specs.declared.model.value.Val.TheVariants as vals
use Rattle.base_data.specs.declared.model.value.Obj.{Obj}
use Rattle.base_data.specs.declared.model.value.Obj.TheVariants as objects
use Rattle.types_spec.specs.declared.types.decl.Predeclared.{Predeclared}
use Rattle.types_spec.specs.declared.types.decl.Predeclared.TheVariants as bases
use Rattle.types_spec.specs.declared.types.decl.Decl.{Decl}
use Rattle.types_spec.specs.declared.types.head.HeadOf.{HeadOf}
use Rattle.types_spec.specs.declared.types.head.HeadOf.TheVariants as heads
use Rattle.types_spec.specs.declared.types.shape.ShapeOf.{ShapeOf}
use Rattle.types_spec.specs.declared.types.shape.ShapeOf.TheVariants as shapes
use Rattle.types_spec.specs.types.Ty.{Ty, instance}
use Rattle.types_spec.specs.types.Head.{head}
use Rattle.types_spec.specs.types.Shape.{array_of, head_shape, shape}
use Rattle.types_spec.specs.types.Fitting.{none_if, object_fields, fields_of, is_mutable, is_asked}
use Rattle.types_spec.specs.types.WellFormed.{IsSoundType, AreWellFormed}
use Rattle.types_spec.specs.types.Table.{head_with_parts}
use Rattle.types_theory.proofs.equality.EqualityPartsLemmas.{fields_of_mapped, mutable_same, asked_same}
use Rattle.types_theory.proofs.type_variables.InstanceShapes.{Becomes, IsArray, becomes, replaced}

-- If an optional result exists, then the result is `Some x` for some `x`.
pub some_is : {X : Type 0} (found : Option X) → IsSome found → (x : X) × (found ≡ Some x)
some_is None some = absurd (never some) where
  never : false ≡ true → ⊥
  never is = cc
some_is (Some x) some = (x, refl)

-- ---- variables, and arrays of them

module _ {T : Type 0} where
  no_object : (object : Obj) → object_fields {T = T} shapes.Variable object ≡ None
  no_object (objects.Block tag values) = refl
  no_object (objects.Bytes bytes) = refl
  no_object (objects.Double bits) = refl
  no_object (objects.Doubles all) = refl
  no_object (objects.I32 z) = refl
  no_object (objects.I64 z) = refl
  no_object (objects.Native z) = refl

  no_object_in_array : (object : Obj) → object_fields {T = T} shapes.ArrayOfVariable object ≡ None
  no_object_in_array (objects.Block tag values) = refl
  no_object_in_array (objects.Bytes bytes) = refl
  no_object_in_array (objects.Double bits) = refl
  no_object_in_array (objects.Doubles all) = refl
  no_object_in_array (objects.I32 z) = refl
  no_object_in_array (objects.I64 z) = refl
  no_object_in_array (objects.Native z) = refl

  at_none : (s : ShapeOf T) → ((object : Obj) → object_fields s object ≡ None) → (object : Option Obj)
      → option_and_then (object_fields s) object ≡ None
  at_none s none None = refl
  at_none s none (Some object) = none object

  -- No value matches a variable.
  pub no_fields : (graph : List Obj) (v : Val) → fields_of {T = T} graph v shapes.Variable ≡ None
  no_fields graph (vals.Int z) = refl
  no_fields graph (vals.Atom tag) = refl
  no_fields graph (vals.Ref o) = at_none shapes.Variable no_object (slice_get graph o)

  pub no_array_fields : (graph : List Obj) (o : ℕ) → fields_of {T = T} graph (vals.Ref o) shapes.ArrayOfVariable ≡ None
  no_array_fields graph o = at_none shapes.ArrayOfVariable no_object_in_array (slice_get graph o)

-- An atom matches an array type if and only if the atom is 0.
pub array_atom : (graph : List Obj) (tag : ℕ) (h : HeadOf Ty) (a : Ty)
    → fields_of graph (vals.Atom tag) (array_of h a) ≡ none_if (tag == 0)
array_atom graph tag (heads.Variable x) a = refl
array_atom graph tag (heads.Predeclared b ts) a = by_base b where
  by_base : (base : Predeclared) → fields_of graph (vals.Atom tag) (array_of (heads.Predeclared base ts) a) ≡ none_if (tag == 0)
  by_base bases.Float = refl
  by_base bases.Any = refl
  by_base base = refl
array_atom graph tag (heads.Datatype n ts) a = refl
array_atom graph tag (heads.Tuple ts) a = refl
array_atom graph tag (heads.Variants tags) a = refl
array_atom graph tag heads.Absent a = refl

-- No array type is a wildcard.
array_asked : (h : HeadOf Ty) (a : Ty) → is_asked (array_of h a) ≡ true
array_asked (heads.Variable x) a = refl
array_asked (heads.Predeclared b ts) a = by_base b where
  by_base : (base : Predeclared) → is_asked (array_of (heads.Predeclared base ts) a) ≡ true
  by_base bases.Float = refl
  by_base bases.Any = refl
  by_base base = refl
array_asked (heads.Datatype n ts) a = refl
array_asked (heads.Tuple ts) a = refl
array_asked (heads.Variants tags) a = refl
array_asked heads.Absent a = refl

module _ (decls : List Decl) (well : AreWellFormed decls) (value : List ℕ → Ty) (graph : List Obj) where
  abbrev new : Ty → Ty
  new t = instance value t

  abbrev pub new_need : ℕ × Ty → ℕ × Ty
  new_need n = (n.0, new n.1)

  abbrev pub fields_at : Val → Ty → Option (List (ℕ × Ty))
  fields_at v t = fields_of graph v (shape decls t)

  if_none : (test : Bool) (needs : List (ℕ × Ty)) → none_if test ≡ Some needs → none_if test ≡ Some (map new_need needs)
  if_none true needs is = subst (λ (all : List (ℕ × Ty)). Some [] ≡ Some (map new_need all)) (same_Some [] needs is) refl
  if_none false needs is = absurd (none-some needs is)

  array_needs : (v : Val) (h : HeadOf Ty) (a : Ty) (needs : List (ℕ × Ty))
      → fields_of graph v shapes.ArrayOfVariable ≡ Some needs
      → fields_of graph v (array_of h a) ≡ Some (map new_need needs)
  array_needs (vals.Int z) h a needs is = absurd (none-some needs is)
  array_needs (vals.Atom tag) h a needs is = array_atom graph tag h a ∙ if_none (tag == 0) needs is
  array_needs (vals.Ref o) h a needs is = absurd (none-some needs (sym (no_array_fields graph o) ∙ is))

  pub array_shape : (t a : Ty) → head decls t ≡ heads.Predeclared bases.Array (a ∷ []) → shape decls t ≡ array_of (head decls a) a
  array_shape t a is = ap (head_shape decls) is

  module _ (v : Val) (t : Ty) (s : IsSoundType decls t) where
    by_becoming : (needs : List (ℕ × Ty)) → fields_at v t ≡ Some needs → Becomes decls well value t
        → fields_at v (new t) ≡ Some (map new_need needs)
    by_becoming needs is (inl at) =
        absurd (none-some needs (sym (ap (λ h. fields_of graph v (head_shape decls h)) at.1 ∙ no_fields graph v) ∙ is))
    by_becoming needs is (inr (commuted, inl same)) =
        ap (fields_of graph v) same ∙ fields_of_mapped new graph v (shape decls t) ∙ ap (option_map (map new_need)) is
    by_becoming needs is (inr (commuted, inr array)) =
        let first : shape decls t ≡ shapes.ArrayOfVariable =
        array_shape t array.0 array.2 ∙ ap (λ h. array_of h array.0) array.3 in
        let later : shape decls (new t) ≡ array_of (head decls (new array.0)) (new array.0) =
        array_shape (new t) (new array.0) (commuted ∙ ap (head_with_parts new) array.2) in
        ap (fields_of graph v) later
        ∙ array_needs v (head decls (new array.0)) (new array.0) needs (sym (ap (fields_of graph v) first) ∙ is)

    -- If a value matches a type, then the value matches an instance of the type, and the types of
    -- its fields become their instances.
    pub fields_become : (needs : List (ℕ × Ty)) → fields_at v t ≡ Some needs → fields_at v (new t) ≡ Some (map new_need needs)
    fields_become needs is = by_becoming needs is (becomes decls well value t s)

  pub fits_become : (v : Val) (t : Ty) → IsSoundType decls t → IsSome (fields_at v t) → IsSome (fields_at v (new t))
  fits_become v t s fits =
      let found = some_is (fields_at v t) fits in
      subst (λ (f : Option (List (ℕ × Ty))). IsSome f) (sym (fields_become v t s found.0 found.1)) refl

  -- If an object matches a type, then the object is mutable at an instance of the type if and only
  -- if the object is mutable at the type.
  module _ (o : ℕ) (t : Ty) (s : IsSoundType decls t) where
    mutable_by : IsSome (fields_at (vals.Ref o) t) → Becomes decls well value t
        → is_mutable (shape decls (new t)) (slice_get graph o) ≡ is_mutable (shape decls t) (slice_get graph o)
    mutable_by fits (inl at) =
        let found = some_is (fields_at (vals.Ref o) t) fits in
        absurd (none-some found.0 (sym (ap (λ h. fields_of graph (vals.Ref o) (head_shape decls h)) at.1
        ∙ no_fields graph (vals.Ref o)) ∙ found.1))
    mutable_by fits (inr (commuted, inl same)) =
        ap (λ (all : ShapeOf Ty). is_mutable all (slice_get graph o)) same ∙ mutable_same new (shape decls t) (slice_get graph o)
    mutable_by fits (inr (commuted, inr array)) =
        let found = some_is (fields_at (vals.Ref o) t) fits in
        let first : shape decls t ≡ shapes.ArrayOfVariable =
        array_shape t array.0 array.2 ∙ ap (λ h. array_of h array.0) array.3 in
        absurd (none-some found.0 (sym (ap (fields_of graph (vals.Ref o)) first ∙ no_array_fields graph o) ∙ found.1))

    pub mutable_becomes : IsSome (fields_at (vals.Ref o) t)
        → is_mutable (shape decls (new t)) (slice_get graph o) ≡ is_mutable (shape decls t) (slice_get graph o)
    mutable_becomes fits = mutable_by fits (becomes decls well value t s)

  -- ---- types that are checked

  abbrev pub asked_at : Ty → Bool
  asked_at t = is_asked (shape decls t)

  array_first : (t : Ty) → IsArray decls well value t → asked_at t ≡ true
  array_first t array =
      ap is_asked (array_shape t array.0 array.2) ∙ array_asked (head decls array.0) array.0

  module _ (t : Ty) (s : IsSoundType decls t) where
    back_by : asked_at (new t) ≡ true → Becomes decls well value t → asked_at t ≡ true
    back_by asked (inl at) = ap (λ h. is_asked (head_shape decls h)) at.1
    back_by asked (inr (commuted, inl same)) = sym (ap is_asked same ∙ asked_same new (shape decls t)) ∙ asked
    back_by asked (inr (commuted, inr array)) = array_first t array

    -- If an instance of a type restricts its values, then the type restricts its values.
    pub asked_back : asked_at (new t) ≡ true → asked_at t ≡ true
    asked_back asked = back_by asked (becomes decls well value t s)

    same_by : ((x : List ℕ) → asked_at (value x) ≡ true) → Becomes decls well value t → asked_at (new t) ≡ asked_at t
    same_by stand (inl at) =
        ap (λ h. is_asked (head_shape decls h)) (replaced decls well value t s at.0 at.1) ∙ stand at.0
        ∙ sym (ap (λ h. is_asked (head_shape decls h)) at.1)
    same_by stand (inr (commuted, inl same)) = ap is_asked same ∙ asked_same new (shape decls t)
    same_by stand (inr (commuted, inr array)) =
        ap is_asked (array_shape (new t) (new array.0) (commuted ∙ ap (head_with_parts new) array.2))
        ∙ array_asked (head decls (new array.0)) (new array.0) ∙ sym (array_first t array)

    -- If `_` replaces no variable, then an instance restricts its values if and only if the type
    -- restricts its values.
    pub asked_becomes : ((x : List ℕ) → asked_at (value x) ≡ true) → asked_at (new t) ≡ asked_at t
    asked_becomes stand = same_by stand (becomes decls well value t s)
