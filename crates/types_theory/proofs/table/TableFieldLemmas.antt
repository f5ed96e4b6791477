-- The fields that a shape requires exist, and each required field has one type.
use Rattle.std.proofs.Common.{ℕ, zero, suc, ◌+◌, ◌≡◌, ◌∙◌, ⊎_elim, List, []}
use Rattle.std.proofs.Common.{◌∷◌, length}
use Rattle.std.proofs.Common.{Bool, true, false, Option, Some, None, refl, ap, sym, arith}
use Rattle.std.proofs.Common.{◌==◌}
use Rattle.std.specs.Prelude.{Contains, slice_get, replicate, option_and_then, if◌then◌else◌, ◌&&◌}
use Rattle.std.proofs.lemmas.Bool.Decides.{Decides-eqb, Decides-and}
use Rattle.std.proofs.lemmas.Option.{same_Some, slice_get_within}
use Rattle.base_data.specs.declared.model.value.Val.{Val}
use Rattle.base_data.specs.declared.model.value.Val.TheVariants as vals
use Rattle.base_data.specs.declared.model.value.Obj.{Obj}
use Rattle.base_data.specs.declared.model.value.Obj.TheVariants as objects
use Rattle.types_spec.specs.declared.types.shape.Constr.{Constr}
use Rattle.types_spec.specs.declared.types.shape.PolyTag.{PolyTag}
use Rattle.types_spec.specs.declared.types.shape.ShapeOf.{ShapeOf}
use Rattle.types_spec.specs.declared.types.shape.ShapeOf.TheVariants as shapes
use Rattle.types_spec.specs.types.Fitting.{tag_with, numbered_from, fields_if, none_if, constr_fields}
use Rattle.types_spec.specs.types.Fitting.{or_none}
use Rattle.types_spec.specs.types.Fitting.{argument_field, tag_fields, block_fields, object_fields}
use Rattle.types_spec.specs.types.Fitting.{fields_of}
use Rattle.types_spec.specs.types.Fitting.{fits_int, fits_atom, is_double, is_bytes, has_doubles, is_int32}
use Rattle.types_spec.specs.types.Fitting.{is_int64, is_native}
use Rattle.types_spec.specs.types.Typing.{values_of}
use Rattle.types_spec.specs.types.Fault.{field_of}
use Rattle.base_data.proofs.model.Options.{Contains-none, Contains-cases, slice_get_there}

-- ---- fields that exist

module _ {T : Type 0} where
  -- If the list numbered from `k` contains the pair of `i` and a type, the type is at index `i - k`
  -- of the list.
  numbered_at : (k : ℕ) (ts : List T) (i : ℕ) (a : T) → Contains (numbered_from k ts) (i, a)
      → (j : ℕ) × (i ≡ k + j) × (slice_get ts j ≡ Some a)
  numbered_at k [] i a among = absurd (Contains-none (i, a) among)
  numbered_at k (t ∷ ts) i a among = ⊎_elim
      (λ here. let number : k ≡ i = ap (λ (need : ℕ × T). need.0) here in
      (0, omega (arith, number), ap (λ (need : ℕ × T). Some need.1) here))
      (λ later. let found = numbered_at (suc k) ts i a later in
      (suc found.0, omega (arith, found.1), found.2))
      (Contains-cases (k, t) (numbered_from (suc k) ts) (i, a) among)

  from_zero : (ts : List T) (i : ℕ) (a : T) → Contains (numbered_from 0 ts) (i, a)
      → slice_get ts i ≡ Some a
  from_zero ts i a among =
      let found = numbered_at 0 ts i a among in
      let same : found.0 ≡ i = omega (arith, found.1) in
      ap (slice_get ts) (sym same) ∙ found.2

  -- For each field in `needs`, the list `values` has a value.
  abbrev There : List Val → Option (List (ℕ × T)) → Type 0
  There values needs =
      (i : ℕ) (a : T) → Contains (or_none needs) (i, a) → (w : Val) × (slice_get values i ≡ Some w)

  abbrev Once : Option (List (ℕ × T)) → Type 0
  Once needs = (i : ℕ) (a b : T) → Contains (or_none needs) (i, a) → Contains (or_none needs) (i, b)
      → a ≡ b

  if_there : (test : Bool) (ts : List T) (values : List Val)
      → (test ≡ true → length ts ≡ length values) → There values (fields_if test ts)
  if_there true ts values sized i a among =
      let at = from_zero ts i a among in
      slice_get_there values i (omega (arith, slice_get_within ts i a at, sized refl))
  if_there false ts values sized i a among = absurd (Contains-none (i, a) among)

  if_once : (test : Bool) (ts : List T) → Once (fields_if test ts)
  if_once true ts i a b one other =
      same_Some a b (sym (from_zero ts i a one) ∙ from_zero ts i b other)
  if_once false ts i a b one other = absurd (Contains-none (i, a) one)

  none_there : (test : Bool) (values : List Val) → There values (none_if test)
  none_there true values i a among = absurd (Contains-none (i, a) among)
  none_there false values i a among = absurd (Contains-none (i, a) among)

  none_once : (test : Bool) → Once (none_if test)
  none_once true i a b one other = absurd (Contains-none (i, a) one)
  none_once false i a b one other = absurd (Contains-none (i, a) one)

  repeated_length : (n : ℕ) (t : T) → length (replicate n t) ≡ n
  repeated_length zero t = refl
  repeated_length (suc n) t = ap suc (repeated_length n t)

  constr_there : (values : List Val) (found : Option (Constr T))
      → There values (constr_fields (length values) found)
  constr_there values None i a among = absurd (Contains-none (i, a) among)
  constr_there values (Some c) i a among =
      if_there (length c.fields == length values) c.fields values
      (λ same. (Decides-eqb (length c.fields) (length values)).0 same) i a among

  constr_once : (size : ℕ) (found : Option (Constr T)) → Once (constr_fields size found)
  constr_once size None i a b one other = absurd (Contains-none (i, a) one)
  constr_once size (Some c) i a b one other =
      if_once (length c.fields == size) c.fields i a b one other

  -- The only typed field of a tag's block is field 1, whose type is the type of the tag's argument.
  argument_is : (arg : Option T) (i : ℕ) (a : T) → Contains (or_none (argument_field arg)) (i, a)
      → (i ≡ 1) × (arg ≡ Some a)
  argument_is None i a among = absurd (Contains-none (i, a) among)
  argument_is (Some t) i a among = ⊎_elim
      (λ here. (sym (ap (λ (need : ℕ × T). need.0) here), ap (λ (need : ℕ × T). Some need.1) here))
      (λ never. absurd (Contains-none (i, a) never))
      (Contains-cases (1, t) [] (i, a) among)

  abbrev its_field : Option (PolyTag T) → Option (List (ℕ × T))
  its_field found = option_and_then (λ (tag : PolyTag T). argument_field tag.arg) found

  found_there : (z argument : Val) (found : Option (PolyTag T))
      → There (z ∷ argument ∷ []) (its_field found)
  found_there z argument None i a among = absurd (Contains-none (i, a) among)
  found_there z argument (Some tag) i a among =
      (argument, ap (slice_get (z ∷ argument ∷ [])) (argument_is tag.arg i a among).0)

  found_once : (found : Option (PolyTag T)) → Once (its_field found)
  found_once None i a b one other = absurd (Contains-none (i, a) one)
  found_once (Some tag) i a b one other =
      same_Some a b (sym (argument_is tag.arg i a one).1 ∙ (argument_is tag.arg i b other).1)

  tags_there : (tags : List (PolyTag T)) (values : List Val) → There values (tag_fields tags values)
  tags_there tags (vals.Int z ∷ argument ∷ []) i a among =
      found_there (vals.Int z) argument (tag_with tags z) i a among
  tags_there tags values i a among = absurd (Contains-none (i, a) among)

  tags_once : (tags : List (PolyTag T)) (values : List Val) → Once (tag_fields tags values)
  tags_once tags (vals.Int z ∷ argument ∷ []) i a b one other =
      found_once (tag_with tags z) i a b one other
  tags_once tags values i a b one other = absurd (Contains-none (i, a) one)

  when_there : (test : Bool) (needs : Option (List (ℕ × T))) (values : List Val)
      → There values needs → There values (if test then needs else None)
  when_there true needs values there i a among = there i a among
  when_there false needs values there i a among = absurd (Contains-none (i, a) among)

  when_once : (test : Bool) (needs : Option (List (ℕ × T))) → Once needs
      → Once (if test then needs else None)
  when_once true needs once i a b one other = once i a b one other
  when_once false needs once i a b one other = absurd (Contains-none (i, a) one)

  block_there : (s : ShapeOf T) (tag : ℕ) (values : List Val)
      → There values (block_fields s tag values)
  block_there (shapes.Sum k blocks) tag values i a among =
      constr_there values (slice_get blocks tag) i a among
  block_there (shapes.Product mutable ts) tag values i a among =
      if_there ((tag == 0) && (length ts == length values)) ts values
      (λ same. ((Decides-and (tag == 0) (length ts == length values) (Decides-eqb tag 0)
      (Decides-eqb (length ts) (length values))).0 same).1) i a among
  block_there (shapes.ArrayOf t) tag values i a among =
      if_there (tag == 0) (replicate (length values) t) values
      (λ is. repeated_length (length values) t) i a among
  block_there (shapes.ArrayOfAnything t) tag values i a among =
      if_there (tag == 0) (replicate (length values) t) values
      (λ is. repeated_length (length values) t) i a among
  block_there (shapes.Poly tags) tag values i a among =
      when_there (tag == 0) (tag_fields tags values) values (tags_there tags values) i a among
  block_there s tag values i a among = absurd (Contains-none (i, a) among)

  block_once : (s : ShapeOf T) (tag : ℕ) (values : List Val) → Once (block_fields s tag values)
  block_once (shapes.Sum k blocks) tag values i a b one other =
      constr_once (length values) (slice_get blocks tag) i a b one other
  block_once (shapes.Product mutable ts) tag values i a b one other =
      if_once ((tag == 0) && (length ts == length values)) ts i a b one other
  block_once (shapes.ArrayOf t) tag values i a b one other =
      if_once (tag == 0) (replicate (length values) t) i a b one other
  block_once (shapes.ArrayOfAnything t) tag values i a b one other =
      if_once (tag == 0) (replicate (length values) t) i a b one other
  block_once (shapes.Poly tags) tag values i a b one other =
      when_once (tag == 0) (tag_fields tags values) (tags_once tags values) i a b one other
  block_once s tag values i a b one other = absurd (Contains-none (i, a) one)

  object_there : (s : ShapeOf T) (object : Obj) → There (values_of object) (object_fields s object)
  object_there s (objects.Block tag values) i a among = block_there s tag values i a among
  object_there s (objects.Bytes bytes) i a among = none_there (is_bytes s) [] i a among
  object_there s (objects.Double bits) i a among = none_there (is_double s) [] i a among
  object_there s (objects.Doubles all) i a among =
      none_there (has_doubles s (length all)) [] i a among
  object_there s (objects.I32 z) i a among = none_there (is_int32 s) [] i a among
  object_there s (objects.I64 z) i a among = none_there (is_int64 s) [] i a among
  object_there s (objects.Native z) i a among = none_there (is_native s) [] i a among

  object_once : (s : ShapeOf T) (object : Obj) → Once (object_fields s object)
  object_once s (objects.Block tag values) i a b one other = block_once s tag values i a b one other
  object_once s (objects.Bytes bytes) i a b one other = none_once (is_bytes s) i a b one other
  object_once s (objects.Double bits) i a b one other = none_once (is_double s) i a b one other
  object_once s (objects.Doubles all) i a b one other =
      none_once (has_doubles s (length all)) i a b one other
  object_once s (objects.I32 z) i a b one other = none_once (is_int32 s) i a b one other
  object_once s (objects.I64 z) i a b one other = none_once (is_int64 s) i a b one other
  object_once s (objects.Native z) i a b one other = none_once (is_native s) i a b one other

  at_there : (s : ShapeOf T) (object : Option Obj) (i : ℕ) (a : T)
      → Contains (or_none (option_and_then (object_fields s) object)) (i, a) → (w : Val)
      × (option_and_then (λ o. slice_get (values_of o) i) object ≡ Some w)
  at_there s None i a among = absurd (Contains-none (i, a) among)
  at_there s (Some object) i a among = object_there s object i a among

  at_once : (s : ShapeOf T) (object : Option Obj) → Once (option_and_then (object_fields s) object)
  at_once s None i a b one other = absurd (Contains-none (i, a) one)
  at_once s (Some object) i a b one other = object_once s object i a b one other

  -- If a field has a type, then the field exists.
  pub fields_there :
      (s : ShapeOf T) (graph : List Obj) (v : Val) (i : ℕ) (a : T)
      → Contains (or_none (fields_of graph v s)) (i, a) → (w : Val) × (field_of graph v i ≡ Some w)
  fields_there s graph (vals.Int z) i a among = absurd (nothing (fits_int s z) among) where
    nothing : (test : Bool) → Contains (or_none (none_if {T = T} test)) (i, a) → ⊥
    nothing true among = Contains-none (i, a) among
    nothing false among = Contains-none (i, a) among
  fields_there s graph (vals.Atom tag) i a among = absurd (nothing (fits_atom s tag) among) where
    nothing : (test : Bool) → Contains (or_none (none_if {T = T} test)) (i, a) → ⊥
    nothing true among = Contains-none (i, a) among
    nothing false among = Contains-none (i, a) among
  fields_there s graph (vals.Ref o) i a among = at_there s (slice_get graph o) i a among

  -- No field has two types.
  pub fields_once : (s : ShapeOf T) (graph : List Obj) (v : Val) → Once (fields_of graph v s)
  fields_once s graph (vals.Int z) i a b one other = none_once (fits_int s z) i a b one other
  fields_once s graph (vals.Atom tag) i a b one other = none_once (fits_atom s tag) i a b one other
  fields_once s graph (vals.Ref o) i a b one other = at_once s (slice_get graph o) i a b one other
