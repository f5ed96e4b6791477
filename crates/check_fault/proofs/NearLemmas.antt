-- The first mismatch among paths of one length, field by field, and the first mismatch near the
-- root.
use Rattle.std.proofs.Common.{ℕ, zero, suc, ◌+◌, ◌<◌, ◌≤◌, ◌≡◌, ◌∙◌, ⊎_elim, List, [], ◌∷◌, length, Option, Some, None, pos, refl, sym, ap, subst, arith}
use Rattle.std.specs.Prelude.{IsSome, IfSome, IsSomeAnd, MatchOption, option_map, option_and_then, slice_get}
use Rattle.std.proofs.lemmas.Bool.{false≢true}
use Rattle.std.proofs.lemmas.Option.{slice_get_past, slice_get-get_or}
use Rattle.base_data.specs.declared.model.value.Val.{Val}
use Rattle.base_data.specs.declared.model.value.Val.TheVariants as vals
use Rattle.base_data.specs.declared.model.value.Obj.{Obj}
use Rattle.base_data.specs.declared.model.value.Obj.TheVariants as objects
use Rattle.base_data.specs.model.Graph.{IsValue}
use Rattle.base_data.proofs.model.Numbers.{less_same_more}
use Rattle.types_spec.specs.declared.types.fault.Fault.{Fault}
use Rattle.types_spec.specs.declared.types.fault.Fault.TheVariants.{Mismatch, Conflict}
use Rattle.types_spec.specs.declared.types.shape.ShapeOf.{ShapeOf}
use Rattle.types_spec.specs.types.Shapes.{Shapes}
use Rattle.types_spec.specs.types.Fault.{IsLexicallyBefore, IsMismatch, IsFault, field_of, type_of_field, step, value_at}
use Rattle.types_spec.specs.types.Fitting.{fields_of, or_none, asked_of}
use Rattle.types_spec.specs.types.LeastFault.{IsKnownBefore, IsLeastFault}
use Rattle.types_spec.specs.types.Table.{Table, table_shapes, node_or_none, typed_fields}
use Rattle.types_spec.specs.types.Typing.{values_of}
use Rattle.marshal_heap.specs.declared.heap.kind.Kind.{Kind}
use Rattle.marshal_heap.specs.heap.Heap.{object_at, kind_of}
use Rattle.types_table.specs.type_table.Made.{IsLawful}
use Rattle.check_fault.specs.declared.near.UnfitField.{UnfitField}
use Rattle.check_fault.specs.declared.near.NearPath.TheVariants as ways
use Rattle.check_fault.specs.Near.{NoneOf, IsFirstOf, IsThere, IsNear, fields_of_kind}
use Rattle.check_fault.proofs.FaultStepLemmas.{needed_below}

module _ (Is : List ℕ → Type 0) where
  abbrev pub NoneBelow : ℕ → ℕ → Type 0
  NoneBelow n i = (j : ℕ) → j < i → NoneOf (λ path. Is (j ∷ path)) n

  pub none_more : (n i : ℕ) → NoneBelow n i → NoneOf (λ path. Is (i ∷ path)) n
      → NoneBelow n (i + 1)
  none_more n i below here j less = ⊎_elim
      (λ before. below j before)
      (λ others. ⊎_elim
      (λ same. subst (λ k. NoneOf (λ path. Is (k ∷ path)) n) (sym same) here)
      (λ after. absurd (omega (arith, less, after)))
      others)
      (less_same_more j i)

  -- Suppose `Is` holds for no path of length `n + 1` that begins with a field below `count`, nor
  -- for a path that begins with another field. Then `Is` holds for no path of length `n + 1`.
  pub none_at_all :
      (n count : ℕ) → NoneBelow n count → ((j : ℕ) (path : List ℕ) → count ≤ j → ¬ Is (j ∷ path))
      → NoneOf Is (n + 1)
  none_at_all n count below past [] long is = absurd (omega (arith, long))
  none_at_all n count below past (j ∷ path) long is = ⊎_elim
      (λ before. below j before path (omega (arith, long)) is)
      (λ others. past j path (⊎_elim (λ same. omega (arith, same)) (λ after. omega (arith, after)) others) is)
      (less_same_more j count)

  pub first_by : (i : ℕ) (path : List ℕ) → NoneBelow (length path) i
      → IsFirstOf (λ rest. Is (i ∷ rest)) path → IsFirstOf Is (i ∷ path)
  first_by i path below found = record { is = found.is; first = none } where
    none : (other : List ℕ) → length other ≡ length (i ∷ path)
        → IsLexicallyBefore other (i ∷ path) → Is other → ⊥
    none [] long before is = before
    none (j ∷ rest) long before is = ⊎_elim
        (λ less. below j less rest (omega (arith, long)) is)
        (λ same. found.first rest (omega (arith, long)) same.1
        (subst (λ k. Is (k ∷ rest)) same.0 is))
        before

  -- If the empty path satisfies `Is`, then the empty path is the first path of length 0.
  pub first_empty : Is [] → IsFirstOf Is []
  first_empty here = record { is = here; first = none } where
    none : (other : List ℕ) → length other ≡ 0 → IsLexicallyBefore other [] → Is other → ⊥
    none [] long before is = before
    none (j ∷ rest) long before is = before

  pub none_empty : ¬ Is [] → NoneOf Is 0
  none_empty unlike [] long is = unlike is
  none_empty unlike (j ∷ rest) long is = absurd (omega (arith, long))

module _ {T : Type 0} (shapes : Shapes T) (graph : List Obj) (v : Val) (t : T) where
  -- ---- one step

  -- The value and the type at the end of a path that begins at `position`.
  abbrev end_from : List ℕ → Option (Val × T) → Option (Val × T)
  end_from path position =
      option_and_then (λ (next : Val × T). value_at shapes graph next.0 next.1 path) position

  abbrev IsMismatchFrom : List ℕ → Option (Val × T) → Type 0
  IsMismatchFrom path position =
      IsSomeAnd (end_from path position) (λ (end : Val × T). ¬ shapes.fits graph end.0 end.1)

  pub leads_on : (i : ℕ) (path : List ℕ) (w : Val) (u : T) → Some (w, u) ≡ step shapes graph v t i
      → value_at shapes graph v t (i ∷ path) ≡ value_at shapes graph w u path
  leads_on i path w u there = ap (end_from path) (sym there)

  pub step_there : (i : ℕ) (path : List ℕ) (w : Val) (u : T) → Some (w, u) ≡ step shapes graph v t i
      → IsMismatch shapes graph w u path → IsMismatch shapes graph v t (i ∷ path)
  step_there i path w u there is = subst (IsMismatchFrom path) there is

  pub step_back : (i : ℕ) (path : List ℕ) (w : Val) (u : T) → Some (w, u) ≡ step shapes graph v t i
      → IsMismatch shapes graph v t (i ∷ path) → IsMismatch shapes graph w u path
  step_back i path w u there is = subst (IsMismatchFrom path) (sym there) is

  pub no_step : (i : ℕ) (path : List ℕ) → None ≡ step shapes graph v t i
      → IsMismatch shapes graph v t (i ∷ path) → ⊥
  no_step i path none is = subst (IsMismatchFrom path) (sym none) is

  no_field : (i : ℕ) (path : List ℕ) → field_of graph v i ≡ None
      → IsMismatch shapes graph v t (i ∷ path) → ⊥
  no_field i path none is =
      no_step i path
      (sym (ap (option_and_then (λ (w : Val). option_map (λ (u : T). (w, u)) (type_of_field (shapes.needs graph v t) i))) none))
      is

  pub nothing_behind : (i n : ℕ) → None ≡ step shapes graph v t i
      → NoneOf (λ path. IsMismatch shapes graph v t (i ∷ path)) n
  nothing_behind i n none path long is = no_step i path none is

  -- ---- field by field

  pub first_field : (i : ℕ) → NoneBelow (IsMismatch shapes graph v t) 0 i
      → IsMismatch shapes graph v t (i ∷ []) → IsFirstOf (IsMismatch shapes graph v t) (i ∷ [])
  first_field i below unfit =
      first_by (IsMismatch shapes graph v t) i [] below
      (first_empty (λ path. IsMismatch shapes graph v t (i ∷ path)) unfit)

  pub field_more : (i : ℕ) → NoneBelow (IsMismatch shapes graph v t) 0 i
      → ¬ IsMismatch shapes graph v t (i ∷ []) → NoneBelow (IsMismatch shapes graph v t) 0 (i + 1)
  field_more i below fit =
      none_more (IsMismatch shapes graph v t) 0 i below
      (none_empty (λ path. IsMismatch shapes graph v t (i ∷ path)) fit)

  pub all_fields :
      (n count : ℕ) → NoneBelow (IsMismatch shapes graph v t) n count
      → ((i : ℕ) → count ≤ i → field_of graph v i ≡ None)
      → NoneOf (IsMismatch shapes graph v t) (n + 1)
  all_fields n count below past =
      none_at_all (IsMismatch shapes graph v t) n count below
      (λ i path more is. no_field i path (past i more) is)

  -- ---- the first fault

  -- If a path is the first mismatch of its length, and no shorter path is a mismatch, then the path
  -- is the first fault.
  least_mismatch : (path : List ℕ) → IsFirstOf (IsMismatch shapes graph v t) path
      → ((n : ℕ) → n < length path → NoneOf (IsMismatch shapes graph v t) n)
      → IsLeastFault shapes graph v t (Mismatch path)
  least_mismatch path found shorter = record { is_fault = found.is; least = none } where
    none : (other : Fault) → IsFault shapes graph v t other → IsKnownBefore other (Mismatch path) → ⊥
    none (Mismatch other) is known = ⊎_elim
        (λ less. shorter (length other) less other refl is)
        (λ same. found.first other same.0 same.1 is)
        known
    none (Conflict first second) is known = known

  root_fits : shapes.fits graph v t → NoneOf (IsMismatch shapes graph v t) 0
  root_fits fit = none_empty (IsMismatch shapes graph v t) (λ unfit. unfit fit)

  least_root : ¬ shapes.fits graph v t → IsLeastFault shapes graph v t (Mismatch [])
  least_root unfit =
      least_mismatch [] (first_empty (IsMismatch shapes graph v t) unfit)
      (λ n less. absurd (omega (arith, less)))

  least_field : (i : ℕ) → shapes.fits graph v t → IsFirstOf (IsMismatch shapes graph v t) (i ∷ [])
      → IsLeastFault shapes graph v t (Mismatch (i ∷ []))
  least_field i fit found = least_mismatch (i ∷ []) found shorter where
    shorter : (n : ℕ) → n < 1 → NoneOf (IsMismatch shapes graph v t) n
    shorter zero less = root_fits fit
    shorter (suc n) less = absurd (omega (arith, less))

  least_part : (i j : ℕ) → shapes.fits graph v t → NoneOf (IsMismatch shapes graph v t) 1
      → IsFirstOf (IsMismatch shapes graph v t) (i ∷ j ∷ [])
      → IsLeastFault shapes graph v t (Mismatch (i ∷ j ∷ []))
  least_part i j fit fields found = least_mismatch (i ∷ j ∷ []) found shorter where
    shorter : (n : ℕ) → n < 2 → NoneOf (IsMismatch shapes graph v t) n
    shorter zero less = root_fits fit
    shorter (suc zero) less = fields
    shorter (suc (suc n)) less = absurd (omega (arith, less))

-- ---- numbers of fields

past_fields : (object : Obj) (i : ℕ) → fields_of_kind (kind_of object) ≤ i
    → slice_get (values_of object) i ≡ None
past_fields (objects.Block tag values) i past = slice_get_past values i past
past_fields (objects.Bytes bytes) i past = refl
past_fields (objects.Double bits) i past = refl
past_fields (objects.Doubles all) i past = refl
past_fields (objects.I32 z) i past = refl
past_fields (objects.I64 z) i past = refl
past_fields (objects.Native z) i past = refl

pub no_more_fields :
    (graph : List Obj) (v : Val) (o i size : ℕ) (kind : Kind) → v ≡ vals.Ref o → o < length graph
    → kind ≡ kind_of (object_at graph o) → size ≡ fields_of_kind kind → size ≤ i
    → field_of graph v i ≡ None
no_more_fields graph v o i size kind is there has many past =
    ap (λ w. field_of graph w i) is
    ∙ ap (option_and_then (λ (object : Obj). slice_get (values_of object) i))
    (slice_get-get_or graph o (objects.I32 (pos 0)) there)
    ∙ past_fields (object_at graph o) i
    (subst (λ n. n ≤ i) (many ∙ ap fields_of_kind has) past)

pub no_fields : (graph : List Obj) (v : Val) (i : ℕ) → ((o : ℕ) → v ≡ vals.Ref o → ⊥)
    → field_of graph v i ≡ None
no_fields graph (vals.Int z) i other = refl
no_fields graph (vals.Atom tag) i other = refl
no_fields graph (vals.Ref o) i other = absurd (other o refl)

-- ---- by the numbers of a table

abbrev at_type : Val → ℕ → Val × ℕ
at_type w u = (w, u)

module _ (table : Table) (graph : List Obj) (v : Val) (t : ℕ) where
  abbrev Is : List ℕ → Type 0
  Is path = IsMismatch (table_shapes table) graph v t path

  -- If a step leads to a value and a type, then the path with this one step leads to the value and
  -- the type.
  pub field_there : (i : ℕ) (w : Val) (u : ℕ) → Some (w, u) ≡ step (table_shapes table) graph v t i
      → IsValue (length graph) w → u < length table.nodes → IsThere table graph v t (i ∷ []) w u
  field_there i w u there valid node = record {
    leads = leads_on (table_shapes table) graph v t i [] w u there;
    valid = valid;
    node = node;
  }

  -- If a field's value has a mismatch, then the value has the mismatch at the path that begins with
  -- the field.
  pub found_behind :
      (i : ℕ) (w : Val) (u : ℕ) (found : Option UnfitField) → Some (w, u) ≡ step (table_shapes table) graph v t i
      → MatchOption found (NoneOf (IsMismatch (table_shapes table) graph w u) 1)
      (λ unfit. IsFirstOf (IsMismatch (table_shapes table) graph w u) (unfit.field ∷ [])
      × IsThere table graph w u (unfit.field ∷ []) unfit.value unfit.at)
      → MatchOption found (NoneOf (λ path. IsMismatch (table_shapes table) graph v t (i ∷ path)) 1)
      (λ unfit. IsFirstOf (λ path. IsMismatch (table_shapes table) graph v t (i ∷ path)) (unfit.field ∷ [])
      × IsThere table graph v t (i ∷ unfit.field ∷ []) unfit.value unfit.at)
  found_behind i w u None there none =
      λ path long is. none path long (step_back (table_shapes table) graph v t i path w u there is)
  found_behind i w u (Some unfit) there found = (
    record {
      is = step_there (table_shapes table) graph v t i (unfit.field ∷ []) w u there found.0.is;
      first = λ other long before is.
          found.0.first other long before (step_back (table_shapes table) graph v t i other w u there is);
    },
    record {
      leads = leads_on (table_shapes table) graph v t i (unfit.field ∷ []) w u there ∙ found.1.leads;
      valid = found.1.valid;
      node = found.1.node;
    },
  )

  -- If field `i` is a mismatch, and no earlier field is, then field `i` is the first mismatch of
  -- length 1.
  pub field_found :
      (i : ℕ) (unfit : UnfitField) → NoneBelow Is 0 i
      → (unfit.field ≡ i) × Is (i ∷ []) × IsThere table graph v t (i ∷ []) unfit.value unfit.at
      → IsFirstOf (IsMismatch (table_shapes table) graph v t) (unfit.field ∷ [])
      × IsThere table graph v t (unfit.field ∷ []) unfit.value unfit.at
  field_found i unfit below found =
      subst (λ k. IsFirstOf (IsMismatch (table_shapes table) graph v t) (k ∷ [])
      × IsThere table graph v t (k ∷ []) unfit.value unfit.at) (sym found.0)
      (first_field (table_shapes table) graph v t i below found.1, found.2)

  module _ (shape : ShapeOf ℕ) (is : slice_get table.nodes t ≡ Some shape) where
    abbrev node_of : ℕ → ShapeOf ℕ
    node_of k = node_or_none (slice_get table.nodes k)

    fields_are : fields_of graph v (node_or_none (slice_get table.nodes t)) ≡ fields_of graph v shape
    fields_are = ap (λ n. fields_of graph v (node_or_none n)) is

    -- If a value matches its type, then the fields of the shape are the value's typed fields.
    pub typed_are : (needs : List (ℕ × ℕ)) → Some needs ≡ fields_of graph v shape
        → needs ≡ typed_fields table graph v t
    typed_are needs fields = sym (ap or_none fields_are ∙ ap or_none (sym fields))

    pub fits_by : (needs : List (ℕ × ℕ)) → Some needs ≡ fields_of graph v shape
        → (table_shapes table).fits graph v t
    fits_by needs fields = subst (λ found. IsSome found) (fields ∙ sym fields_are) refl

    unfit_by : None ≡ fields_of graph v shape → ¬ (table_shapes table).fits graph v t
    unfit_by none fit = false≢true (subst (λ found. IsSome found) (fields_are ∙ sym none) fit)

    type_below : (lawful : IsLawful table) (i u : ℕ) → Some u ≡ type_of_field (typed_fields table graph v t) i
        → u < length table.nodes
    type_below lawful i u found =
        needed_below table graph v t shape is lawful i u
        (sym (ap (λ fields. type_of_field (or_none fields) i) fields_are) ∙ sym found)

    pub types_below : (lawful : IsLawful table) (i : ℕ) (found : Option ℕ)
        → found ≡ type_of_field (typed_fields table graph v t) i
        → IfSome found (λ u. u < length table.nodes)
    types_below lawful i None found = tt
    types_below lawful i (Some u) found = type_below lawful i u found

    no_type : (found : Option Val) (type : Option ℕ) → type ≡ None
        → option_and_then (λ (w : Val). option_map (at_type w) type) found ≡ None
    no_type None type none = refl
    no_type (Some w) type none = ap (option_map (at_type w)) none

    -- If a value does not match its type, then no path of at least one step is a mismatch.
    pub nothing_below : (n : ℕ) → None ≡ fields_of graph v shape
        → NoneOf (IsMismatch (table_shapes table) graph v t) (n + 1)
    nothing_below n none [] long mismatch = absurd (omega (arith, long))
    nothing_below n none (i ∷ path) long mismatch =
        no_step (table_shapes table) graph v t i path
        (sym (no_type (field_of graph v i) (type_of_field ((table_shapes table).needs graph v t) i)
        (ap (λ fields. type_of_field (asked_of node_of (or_none fields)) i) (fields_are ∙ sym none))))
        mismatch

-- ---- near the root

module _ (table : Table) (graph : List Obj) (root : Val) where
  pub near_root : (shape : ShapeOf ℕ) → slice_get table.nodes 0 ≡ Some shape
      → None ≡ fields_of graph root shape → IsValue (length graph) root → IsLawful table
      → IsNear table graph root (record { way = ways.Root; value = root; at = 0 })
  near_root shape is none valid lawful = record {
    least = least_root (table_shapes table) graph root 0 (unfit_by table graph root 0 shape is none);
    there = record { leads = refl; valid = valid; node = lawful.rooted };
  }

  pub near_field : (unfit : UnfitField) → (table_shapes table).fits graph root 0
      → IsFirstOf (IsMismatch (table_shapes table) graph root 0) (unfit.field ∷ [])
      × IsThere table graph root 0 (unfit.field ∷ []) unfit.value unfit.at
      → IsNear table graph root (record { way = ways.Field unfit.field; value = unfit.value; at = unfit.at })
  near_field unfit fit found = record {
    least = least_field (table_shapes table) graph root 0 unfit.field fit found.0;
    there = found.1;
  }

  pub near_part : (i : ℕ) (unfit : UnfitField) → (table_shapes table).fits graph root 0
      → NoneOf (IsMismatch (table_shapes table) graph root 0) 1
      → IsFirstOf (IsMismatch (table_shapes table) graph root 0) (i ∷ unfit.field ∷ [])
      × IsThere table graph root 0 (i ∷ unfit.field ∷ []) unfit.value unfit.at
      → IsNear table graph root (record { way = ways.Part i unfit.field; value = unfit.value; at = unfit.at })
  near_part i unfit fit fields found = record {
    least = least_part (table_shapes table) graph root 0 i unfit.field fit fields found.0;
    there = found.1;
  }
