-- If closed types replace variables, then finitely many types are reachable from the instances of
-- the reached types. The shapes are lawful at the finitely many types.
use Rattle.std.proofs.Common.{ℕ, ◌≡◌, ◌∙◌, ⊎_elim, inl, inr, List, [], ◌∷◌, ◌++◌, refl, ap, subst, sym}
use Rattle.std.specs.Prelude.{Contains, map}
use Rattle.std.specs.List.{flat_map}
use Rattle.std.proofs.lemmas.List.Elements.{Contains-append_left, Contains-append_right, Contains-append_cases}
use Rattle.base_data.proofs.model.Options.{Contains-first, Contains-none, Contains-cases, Contains-map, Contains-flat_map, map-Contains, flat_map-Contains}
use Rattle.types_spec.specs.declared.types.decl.Predeclared.{Predeclared}
use Rattle.types_spec.specs.declared.types.decl.Predeclared.TheVariants as bases
use Rattle.types_spec.specs.declared.types.decl.Decl.{Decl}
use Rattle.types_spec.specs.declared.types.head.HeadOf.{HeadOf}
use Rattle.types_spec.specs.declared.types.head.HeadOf.TheVariants as heads
use Rattle.types_spec.specs.declared.types.shape.ShapeOf.{ShapeOf}
use Rattle.types_spec.specs.types.Ty.{Ty, instance}
use Rattle.types_spec.specs.types.Head.{head}
use Rattle.types_spec.specs.types.Shape.{array_of, head_shape, shape}
use Rattle.types_spec.specs.types.WellFormed.{IsSoundType, AreWellFormed, AreKnownByHash}
use Rattle.types_spec.specs.types.Equal.{declared_shapes}
use Rattle.types_spec.specs.types.LawfulShapes.{AreLawful}
use Rattle.types_spec.specs.types.Reached.{named_in, parts_of, reached_from}
use Rattle.types_spec.proofs.types.TypeShapeLemmas.{named_in-map}
use Rattle.types_spec.specs.types.Table.{head_with_parts}
use Rattle.types_theory.proofs.equality.HeadMapLemmas.{parts_of-map}
use Rattle.types_theory.proofs.equality.EqualityLawfulLemmas.{listed_lawful}
use Rattle.types_theory.proofs.equality.EqualityReachedLemmas.{parts_here, named_here}
use Rattle.types_theory.proofs.equality.EqualitySoundLemmas.{sound-instance, shape_hashed, HashedShape}
use Rattle.types_theory.specs.type_variables.TypeVariables.{AreClosed}
use Rattle.types_theory.proofs.type_variables.InstanceShapes.{Becomes, becomes, replaced, IsArray, Same, Commutes}

-- The only type in the shape of an array is the type of the array's elements.
array_names : (h : HeadOf Ty) (t a : Ty) → Contains (named_in (array_of h t)) a → Contains (t ∷ []) a
array_names (heads.Variable x) t a among = absurd (Contains-none a among)
array_names (heads.Predeclared b ts) t a among = by_base b among where
  by_base : (base : Predeclared) → Contains (named_in (array_of (heads.Predeclared base ts) t)) a → Contains (t ∷ []) a
  by_base bases.Float has = absurd (Contains-none a has)
  by_base bases.Any has = has
  by_base base has = has
array_names (heads.Datatype n ts) t a among = among
array_names (heads.Tuple ts) t a among = among
array_names (heads.Variants tags) t a among = among
array_names heads.Absent t a among = among

module _ (decls : List Decl) (well : AreWellFormed decls) (value : List ℕ → Ty) (closed : AreClosed decls value)
    (types : List Ty) (sound : (u : Ty) → Contains types u → IsSoundType decls u)
    (listed : (u a : Ty) → Contains types u → Contains (reached_from decls u) a → Contains types a) where
  abbrev pub new : Ty → Ty
  new t = instance value t

  -- ---- the list

  abbrev pub behind : HeadOf Ty → List Ty
  behind (heads.Variable x) = (closed x).types
  behind h = []

  abbrev pub later : List Ty
  later = flat_map (λ t. behind (head decls t)) types

  abbrev pub all : List Ty
  all = map new types ++ later

  pub new_among : (t : Ty) → Contains types t → Contains all (new t)
  new_among t among = Contains-append_left (map new types) later (new t) (Contains-map new types t among)

  behind_has : (t a : Ty) (x : List ℕ) → Contains types t → head decls t ≡ heads.Variable x → Contains (closed x).types a
      → Contains all a
  behind_has t a x among is has =
      Contains-append_right (map new types) later a
      (Contains-flat_map (λ u. behind (head decls u)) types t a among
      (subst (λ h. Contains (behind h) a) (sym is) has))

  behind_is : (h : HeadOf Ty) (u : Ty) → Contains (behind h) u → (x : List ℕ) × (h ≡ heads.Variable x) × Contains (closed x).types u
  behind_is (heads.Variable x) u among = (x, refl, among)
  behind_is (heads.Predeclared b ts) u among = absurd (Contains-none u among)
  behind_is (heads.Datatype n ts) u among = absurd (Contains-none u among)
  behind_is (heads.Tuple ts) u among = absurd (Contains-none u among)
  behind_is (heads.Variants tags) u among = absurd (Contains-none u among)
  behind_is heads.Absent u among = absurd (Contains-none u among)

  -- ---- the list is closed under reachability

  mapped_in : (ts us : List Ty) (a : Ty) → us ≡ map new ts → Contains us a → ((t : Ty) → Contains ts t → Contains types t)
      → Contains all a
  mapped_in ts us a is among listed' =
      let source = map-Contains new ts a (subst (λ (ws : List Ty). Contains ws a) is among) in
      subst (Contains all) source.2 (new_among source.0 (listed' source.0 source.1))

  module _ (t : Ty) (among : Contains types t) where
    parts_in : Commutes decls well value t → (a : Ty) → Contains (parts_of (head decls (new t))) a → Contains all a
    parts_in commuted a has =
        mapped_in (parts_of (head decls t)) (parts_of (head decls (new t))) a
        (ap (λ (h : HeadOf Ty). parts_of h) commuted ∙ parts_of-map new (head decls t)) has
        (λ p in_head. parts_here decls types listed t p among in_head)

    named_same : Same decls well value t → (a : Ty) → Contains (named_in (shape decls (new t))) a → Contains all a
    named_same same a has =
        mapped_in (named_in (shape decls t)) (named_in (shape decls (new t))) a
        (ap (λ (s : ShapeOf Ty). named_in s) same ∙ named_in-map new (shape decls t)) has
        (λ p in_shape. named_here decls types listed t p among in_shape)

    named_array : Commutes decls well value t → IsArray decls well value t → (a : Ty)
        → Contains (named_in (shape decls (new t))) a → Contains all a
    named_array commuted array a has =
        let element : Ty = array.0 in
        let shape_is : shape decls (new t) ≡ array_of (head decls (new element)) (new element) =
        ap (head_shape decls) (commuted ∙ ap (head_with_parts new) array.2) in
        let in_array = array_names (head decls (new element)) (new element) a
        (subst (λ (s : ShapeOf Ty). Contains (named_in s) a) shape_is has) in
        let element_among = parts_here decls types listed t element among
        (subst (λ (h : HeadOf Ty). Contains (parts_of h) element) (sym array.2) (Contains-first element [])) in
        ⊎_elim (λ here. subst (Contains all) here (new_among element element_among))
        (λ never. absurd (Contains-none a never)) (Contains-cases (new element) [] a in_array)

    abbrev reached_by : HeadOf Ty → List Ty
    reached_by h = named_in (head_shape decls h) ++ parts_of h

    by_becoming : Becomes decls well value t → (a : Ty) → Contains (reached_from decls (new t)) a → Contains all a
    by_becoming (inl at) a has =
        let x : List ℕ = at.0 in
        let same = replaced decls well value t (sound t among) x at.1 in
        behind_has t a x among at.1
        ((closed x).reached (value x) a (closed x).own (subst (λ h. Contains (reached_by h) a) same has))
    by_becoming (inr (commuted, inl same)) a has = ⊎_elim
        (λ named'. named_same same a named') (λ part'. parts_in commuted a part')
        (Contains-append_cases (named_in (shape decls (new t))) (parts_of (head decls (new t))) a has)
    by_becoming (inr (commuted, inr array)) a has = ⊎_elim
        (λ named'. named_array commuted array a named') (λ part'. parts_in commuted a part')
        (Contains-append_cases (named_in (shape decls (new t))) (parts_of (head decls (new t))) a has)

    new_reaches : (a : Ty) → Contains (reached_from decls (new t)) a → Contains all a
    new_reaches a has = by_becoming (becomes decls well value t (sound t among)) a has

  from_behind : (u : Ty) → Contains later u → (t : Ty) × (x : List ℕ) × Contains types t × (head decls t ≡ heads.Variable x)
      × Contains (closed x).types u
  from_behind u among =
      let source = flat_map-Contains (λ t. behind (head decls t)) types u among in
      let at = behind_is (head decls source.0) u source.2 in
      (source.0, at.0, source.1, at.1, at.2)

  pub all_listed : (u a : Ty) → Contains all u → Contains (reached_from decls u) a → Contains all a
  all_listed u a among has = ⊎_elim
      (λ in_prefix. let source = map-Contains new types u in_prefix in
      new_reaches source.0 source.1 a (subst (λ w. Contains (reached_from decls w) a) (sym source.2) has))
      (λ in_later. let at = from_behind u in_later in
      behind_has at.0 a at.1 at.2 at.3 ((closed at.1).reached u a at.4 has))
      (Contains-append_cases (map new types) later u among)

  pub all_sound : (u : Ty) → Contains all u → IsSoundType decls u
  all_sound u among = ⊎_elim
      (λ in_prefix. let source = map-Contains new types u in_prefix in
      subst (IsSoundType decls) source.2
      (sound-instance decls well value (λ x. (closed x).sound (value x) (closed x).own) source.0 (sound source.0 source.1)))
      (λ in_later. let at = from_behind u in_later in (closed at.1).sound u at.4)
      (Contains-append_cases (map new types) later u among)

  known : AreKnownByHash decls all
  known u tags among is = subst (HashedShape decls well) is (shape_hashed decls well u (all_sound u among))

  pub all_lawful : AreLawful (declared_shapes decls) (λ u. Contains all u)
  all_lawful = listed_lawful decls well.sound all all_listed known
