-- Two shapes that agree, part by part: the same values match, the same fields are required at
-- related parts, and the same objects are mutable.
use Rattle.std.proofs.Common.{ℕ, zero, suc, ◌≡◌, List, [], ◌∷◌, length, Bool, true, false}
use Rattle.std.proofs.Common.{Option, Some, None, refl, ap, subst}
use Rattle.std.specs.Prelude.{slice_get, option_and_then, replicate, ◌==◌, ◌&&◌, ℤ, is_some, not}
use Rattle.std.specs.Prelude.{if◌then◌else◌}
use Rattle.base_data.specs.declared.model.value.Val.{Val}
use Rattle.base_data.specs.declared.model.value.Val.TheVariants as vals
use Rattle.base_data.specs.declared.model.value.Obj.{Obj}
use Rattle.base_data.specs.declared.model.value.Obj.TheVariants as objects
use Rattle.types_spec.specs.declared.types.shape.Constr.{Constr}
use Rattle.types_spec.specs.declared.types.shape.PolyTag.{PolyTag}
use Rattle.types_spec.specs.declared.types.shape.ShapeOf.{ShapeOf}
use Rattle.types_spec.specs.declared.types.shape.ShapeOf.TheVariants as shapes
use Rattle.types_spec.specs.types.Equal.{Pairwise, ArgumentsAgree}
use Rattle.types_theory.proofs.equality.NeedAgreement.{NeedsAgree, FieldsAgree}
use Rattle.types_spec.specs.types.Fitting.{tag_with, is_bare, fits_int, fits_atom, numbered_from, fields_if}
use Rattle.types_spec.specs.types.Fitting.{constr_fields, argument_field, tag_fields, block_fields, none_if}
use Rattle.types_spec.specs.types.Fitting.{is_double, is_bytes, has_doubles, is_int32, is_int64, is_native}
use Rattle.types_spec.specs.types.Fitting.{object_fields, fields_of, is_mutable, is_mutable_block}
use Rattle.types_spec.specs.types.Fitting.{tag_of_block, is_asked}

module _ {T : Type 0} (Similar : T → T → Type 0) where
  abbrev pub BlocksAgree : List (Constr T) → List (Constr T) → Type 0
  BlocksAgree [] [] = Unit {0}
  BlocksAgree (c ∷ cs) (d ∷ ds) =
      (c.mutable ≡ d.mutable) × Pairwise Similar c.fields d.fields × BlocksAgree cs ds
  BlocksAgree cs ds = ⊥

  abbrev pub FoundAgree : Option (PolyTag T) → Option (PolyTag T) → Type 0
  FoundAgree None None = Unit {0}
  FoundAgree (Some one) (Some other) = ArgumentsAgree Similar one.arg other.arg
  FoundAgree one other = ⊥

  -- For each hash, either neither list has a tag, or each list has a tag and the arguments of the
  -- two tags agree.
  abbrev pub PolysAgree : List (PolyTag T) → List (PolyTag T) → Type 0
  PolysAgree tags others = (z : ℤ) → FoundAgree (tag_with tags z) (tag_with others z)

  pub data ShapesAgree : ShapeOf T → ShapeOf T → Type 0 where
    same_any_int : ShapesAgree shapes.AnyInt shapes.AnyInt
    same_below : (k : ℕ) → ShapesAgree (shapes.Below k) (shapes.Below k)
    same_bytes : (mutable : Bool) → ShapesAgree (shapes.Bytes mutable) (shapes.Bytes mutable)
    same_double : ShapesAgree shapes.Double shapes.Double
    same_int32 : ShapesAgree shapes.Int32 shapes.Int32
    same_int64 : ShapesAgree shapes.Int64 shapes.Int64
    same_native : ShapesAgree shapes.Native shapes.Native
    same_sum : (k : ℕ) (bs cs : List (Constr T)) → BlocksAgree bs cs → ShapesAgree (shapes.Sum k bs)
        (shapes.Sum k cs)
    same_product : (mutable : Bool) (ts us : List T) → Pairwise Similar ts us
        → ShapesAgree (shapes.Product mutable ts) (shapes.Product mutable us)
    same_flat : (mutable : Bool) (n : ℕ) → ShapesAgree (shapes.FlatFloats mutable n)
        (shapes.FlatFloats mutable n)
    same_array : (t u : T) → Similar t u → ShapesAgree (shapes.ArrayOf t) (shapes.ArrayOf u)
    same_float_array : ShapesAgree shapes.FloatArray shapes.FloatArray
    same_poly : (tags others : List (PolyTag T)) → PolysAgree tags others
        → ShapesAgree (shapes.Poly tags) (shapes.Poly others)
    same_variable : ShapesAgree shapes.Variable shapes.Variable
    same_array_of_variable : ShapesAgree shapes.ArrayOfVariable shapes.ArrayOfVariable
    same_anything : ShapesAgree shapes.Anything shapes.Anything
    same_array_of_anything : (t u : T) → Similar t u
        → ShapesAgree (shapes.ArrayOfAnything t) (shapes.ArrayOfAnything u)

  -- ---- required fields

  numbered_agree :
      (i : ℕ) (ts us : List T) → Pairwise Similar ts us → NeedsAgree Similar (numbered_from i ts)
      (numbered_from i us)
  numbered_agree i [] [] agree = tt
  numbered_agree i (t ∷ ts) (u ∷ us) agree = (refl, agree.0, numbered_agree (suc i) ts us agree.1)
  numbered_agree i [] (u ∷ us) agree = absurd agree
  numbered_agree i (t ∷ ts) [] agree = absurd agree

  if_agree : (test : Bool) (ts us : List T) → Pairwise Similar ts us
      → FieldsAgree Similar (fields_if test ts)
      (fields_if test us)
  if_agree true ts us agree = numbered_agree 0 ts us agree
  if_agree false ts us agree = tt

  lengths_same : (ts us : List T) → Pairwise Similar ts us → length ts ≡ length us
  lengths_same [] [] agree = refl
  lengths_same (t ∷ ts) (u ∷ us) agree = ap suc (lengths_same ts us agree.1)
  lengths_same [] (u ∷ us) agree = absurd agree
  lengths_same (t ∷ ts) [] agree = absurd agree

  none_agree : (one other : Bool) → one ≡ other → FieldsAgree Similar (none_if one) (none_if other)
  none_agree one other same =
      subst (λ b. FieldsAgree Similar (none_if one) (none_if b)) same (own one) where
        own : (b : Bool) → FieldsAgree Similar (none_if b) (none_if b)
        own true = tt
        own false = tt

  -- ---- the functions on shapes

  argument_same : (t u : Option T) → ArgumentsAgree Similar t u → is_some t ≡ is_some u
  argument_same None None agree = refl
  argument_same (Some t) (Some u) agree = refl
  argument_same None (Some u) agree = absurd agree
  argument_same (Some t) None agree = absurd agree

  bare_same : (one other : Option (PolyTag T)) → FoundAgree one other → is_bare one ≡ is_bare other
  bare_same None None agree = refl
  bare_same (Some a) (Some b) agree = ap not (argument_same a.arg b.arg agree)
  bare_same None (Some b) agree = absurd agree
  bare_same (Some a) None agree = absurd agree

  int_same : {s r : ShapeOf T} → ShapesAgree s r → (z : ℤ) → fits_int s z ≡ fits_int r z
  int_same (same_poly tags others agree) z =
      bare_same (tag_with tags z) (tag_with others z) (agree z)
  int_same same z = refl

  atom_same : {s r : ShapeOf T} → ShapesAgree s r → (tag : ℕ) → fits_atom s tag ≡ fits_atom r tag
  atom_same (same_array t u similar) tag = refl
  atom_same same tag = refl

  bytes_same : {s r : ShapeOf T} → ShapesAgree s r → is_bytes s ≡ is_bytes r
  bytes_same (same_bytes mutable) = refl
  bytes_same same = refl

  double_same : {s r : ShapeOf T} → ShapesAgree s r → is_double s ≡ is_double r
  double_same same_double = refl
  double_same same = refl

  doubles_same : {s r : ShapeOf T} → ShapesAgree s r → (n : ℕ) → has_doubles s n ≡ has_doubles r n
  doubles_same same_float_array n = refl
  doubles_same same n = refl

  int32_same : {s r : ShapeOf T} → ShapesAgree s r → is_int32 s ≡ is_int32 r
  int32_same same_int32 = refl
  int32_same same = refl

  int64_same : {s r : ShapeOf T} → ShapesAgree s r → is_int64 s ≡ is_int64 r
  int64_same same_int64 = refl
  int64_same same = refl

  native_same : {s r : ShapeOf T} → ShapesAgree s r → is_native s ≡ is_native r
  native_same same_native = refl
  native_same same = refl

  -- If two shapes agree, then `is_asked` is the same for the two shapes.
  pub asked_same : {s r : ShapeOf T} → ShapesAgree s r → is_asked s ≡ is_asked r
  asked_same same_anything = refl
  asked_same same = refl

  -- ---- blocks

  -- Either neither shape has a constructor at a block tag, or each shape has a constructor there
  -- and the two constructors agree.
  abbrev pub BothConstr : Option (Constr T) → Option (Constr T) → Type 0
  BothConstr None None = Unit {0}
  BothConstr (Some c) (Some d) = (c.mutable ≡ d.mutable) × Pairwise Similar c.fields d.fields
  BothConstr c d = ⊥

  constr_at : (bs cs : List (Constr T)) (k : ℕ) → BlocksAgree bs cs → BothConstr (slice_get bs k)
      (slice_get cs k)
  constr_at [] [] zero agree = tt
  constr_at [] [] (suc k) agree = tt
  constr_at (b ∷ bs) (c ∷ cs) zero agree = (agree.0, agree.1)
  constr_at (b ∷ bs) (c ∷ cs) (suc k) agree = constr_at bs cs k agree.2
  constr_at [] (c ∷ cs) k agree = absurd agree
  constr_at (b ∷ bs) [] k agree = absurd agree

  sized_agree : (one other : Bool) (ts us : List T) → one ≡ other → Pairwise Similar ts us
      → FieldsAgree Similar (fields_if one ts) (fields_if other us)
  sized_agree one other ts us same agree =
      subst (λ b. FieldsAgree Similar (fields_if one ts) (fields_if b us)) same
      (if_agree one ts us agree)

  constr_agree : (size : ℕ) (c d : Option (Constr T)) → BothConstr c d
      → FieldsAgree Similar (constr_fields size c) (constr_fields size d)
  constr_agree size None None both = tt
  constr_agree size (Some c) (Some d) both =
      sized_agree (length c.fields == size) (length d.fields == size) c.fields d.fields
      (ap (λ n. n == size) (lengths_same c.fields d.fields both.1)) both.1
  constr_agree size None (Some d) both = absurd both
  constr_agree size (Some c) None both = absurd both

  argument_agree :
      (t u : Option T) → ArgumentsAgree Similar t u → FieldsAgree Similar (argument_field t)
      (argument_field u)
  argument_agree None None agree = tt
  argument_agree (Some t) (Some u) agree = (refl, agree, tt)
  argument_agree None (Some u) agree = absurd agree
  argument_agree (Some t) None agree = absurd agree

  abbrev its_argument : PolyTag T → Option (List (ℕ × T))
  its_argument tag = argument_field tag.arg

  found_agree : (one other : Option (PolyTag T)) → FoundAgree one other
      → FieldsAgree Similar (option_and_then its_argument one) (option_and_then its_argument other)
  found_agree None None agree = tt
  found_agree (Some a) (Some b) agree = argument_agree a.arg b.arg agree
  found_agree None (Some b) agree = absurd agree
  found_agree (Some a) None agree = absurd agree

  tags_agree : (tags others : List (PolyTag T)) → PolysAgree tags others → (values : List Val)
      → FieldsAgree Similar (tag_fields tags values) (tag_fields others values)
  tags_agree tags others agree (vals.Int z ∷ argument ∷ []) =
      found_agree (tag_with tags z) (tag_with others z) (agree z)
  tags_agree tags others agree values = tt

  when_agree : (test : Bool) (ns ms : Option (List (ℕ × T))) → FieldsAgree Similar ns ms
      → FieldsAgree Similar (if test then ns else None) (if test then ms else None)
  when_agree true ns ms agree = agree
  when_agree false ns ms agree = tt

  repeated : (n : ℕ) (t u : T) → Similar t u → Pairwise Similar (replicate n t) (replicate n u)
  repeated zero t u similar = tt
  repeated (suc n) t u similar = (similar, repeated n t u similar)

  block_agree : {s r : ShapeOf T} → ShapesAgree s r → (tag : ℕ) (values : List Val)
      → FieldsAgree Similar (block_fields s tag values) (block_fields r tag values)
  block_agree (same_sum k bs cs agree) tag values =
      constr_agree (length values) (slice_get bs tag) (slice_get cs tag) (constr_at bs cs tag agree)
  block_agree (same_product m ts us agree) tag values =
      sized_agree ((tag == 0) && (length ts == length values))
      ((tag == 0) && (length us == length values)) ts us
      (ap (λ n. (tag == 0) && (n == length values)) (lengths_same ts us agree)) agree
  block_agree (same_array t u similar) tag values =
      if_agree (tag == 0) (replicate (length values) t) (replicate (length values) u)
      (repeated (length values) t u similar)
  block_agree (same_array_of_anything t u similar) tag values =
      if_agree (tag == 0) (replicate (length values) t) (replicate (length values) u)
      (repeated (length values) t u similar)
  block_agree (same_poly tags others agree) tag values =
      when_agree (tag == 0) (tag_fields tags values) (tag_fields others values)
      (tags_agree tags others agree values)
  block_agree same tag values = tt

  -- ---- values

  object_agree : {s r : ShapeOf T} → ShapesAgree s r → (object : Obj)
      → FieldsAgree Similar (object_fields s object) (object_fields r object)
  object_agree same (objects.Block tag values) = block_agree same tag values
  object_agree {s} {r} same (objects.Bytes bytes) =
      none_agree (is_bytes s) (is_bytes r) (bytes_same same)
  object_agree {s} {r} same (objects.Double bits) =
      none_agree (is_double s) (is_double r) (double_same same)
  object_agree {s} {r} same (objects.Doubles all) =
      none_agree (has_doubles s (length all)) (has_doubles r (length all))
      (doubles_same same (length all))
  object_agree {s} {r} same (objects.I32 z) = none_agree (is_int32 s) (is_int32 r) (int32_same same)
  object_agree {s} {r} same (objects.I64 z) = none_agree (is_int64 s) (is_int64 r) (int64_same same)
  object_agree {s} {r} same (objects.Native z) =
      none_agree (is_native s) (is_native r) (native_same same)

  at_object : {s r : ShapeOf T} → ShapesAgree s r → (object : Option Obj)
      → FieldsAgree Similar (option_and_then (object_fields s) object)
      (option_and_then (object_fields r)
      object)
  at_object same None = tt
  at_object same (Some object) = object_agree same object

  -- If two shapes agree, then the same values match, and the typed fields of the values agree.
  pub fields_agree :
      {s r : ShapeOf T} → ShapesAgree s r → (graph : List Obj) (v : Val)
      → FieldsAgree Similar (fields_of graph v s) (fields_of graph v r)
  fields_agree {s} {r} same graph (vals.Int z) =
      none_agree (fits_int s z) (fits_int r z) (int_same same z)
  fields_agree {s} {r} same graph (vals.Atom tag) =
      none_agree (fits_atom s tag) (fits_atom r tag) (atom_same same tag)
  fields_agree same graph (vals.Ref o) = at_object same (slice_get graph o)

  block_mutable : (c d : Option (Constr T)) → BothConstr c d → is_mutable_block c ≡ is_mutable_block
      d
  block_mutable None None both = refl
  block_mutable (Some c) (Some d) both = both.0
  block_mutable None (Some d) both = absurd both
  block_mutable (Some c) None both = absurd both

  -- If two shapes agree, then the shapes make the same objects mutable.
  pub mutable_agrees :
      {s r : ShapeOf T} → ShapesAgree s r → (object : Option Obj) → is_mutable s object ≡ is_mutable
      r object
  mutable_agrees (same_sum k bs cs agree) object =
      block_mutable (slice_get bs (tag_of_block object)) (slice_get cs (tag_of_block object))
      (constr_at bs cs (tag_of_block object) agree)
  mutable_agrees same object = refl
