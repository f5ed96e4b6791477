-- If two types are equal, then their instances are equal.
use Rattle.std.proofs.Common.{ℕ, ◌≡◌, ◌∙◌, ◌⊎◌, ⊎_elim, inl, inr, List, [], ◌∷◌, ◌++◌, ap, subst, sym}
use Rattle.std.specs.Prelude.{Contains, map}
use Rattle.std.specs.List.{flat_map}
use Rattle.std.proofs.lemmas.List.Elements.{Contains-append_left, Contains-append_right, Contains-append_cases}
use Rattle.base_data.proofs.model.Options.{Contains-first, Contains-later, Contains-none, Contains-cases, Contains-map, Contains-flat_map, map-Contains, flat_map-Contains}
use Rattle.types_spec.specs.declared.types.decl.Decl.{Decl}
use Rattle.types_spec.specs.declared.types.head.HeadOf.{HeadOf}
use Rattle.types_spec.specs.declared.types.head.HeadOf.TheVariants as heads
use Rattle.types_spec.specs.types.Ty.{Ty, instance}
use Rattle.types_spec.specs.types.Head.{head}
use Rattle.types_spec.specs.types.WellFormed.{IsSoundType, AreWellFormed}
use Rattle.types_spec.specs.types.Equal.{HeadsAgree, Holds, IsClosed, Equal}
use Rattle.types_spec.specs.types.Reached.{reached_from}
use Rattle.types_spec.specs.types.Table.{head_with_parts}
use Rattle.types_theory.proofs.equality.EqualityAgreeLemmas.{HeadsAgree-more}
use Rattle.types_theory.proofs.equality.EqualLemmas.{HeadsAgree-own}
use Rattle.types_theory.proofs.equality.HeadInstance.{IsNoVariable}
use Rattle.types_theory.proofs.equality.HeadMapLemmas.{HeadsAgree-map}
use Rattle.types_theory.proofs.equality.EqualityReachedLemmas.{parts_here}
use Rattle.types_theory.proofs.equality.TyEquality.{types_same_or_not}
use Rattle.types_theory.specs.type_variables.TypeVariables.{AreClosed}
use Rattle.types_theory.proofs.type_variables.InstanceShapes.{variable_or_not, commutes, replaced}
use Rattle.types_theory.proofs.type_variables.ReachedInstances.{all, all_listed, new_among}

-- ---- membership in the list of types

pub among_or_not : (types : List Ty) (t : Ty) → Contains types t ⊎ (Contains types t → ⊥)
among_or_not [] t = inr (Contains-none t)
among_or_not (u ∷ types) t = by (types_same_or_not u t) (among_or_not types t) where
  by : (u ≡ t) ⊎ (u ≡ t → ⊥) → Contains types t ⊎ (Contains types t → ⊥) → Contains (u ∷ types) t ⊎ (Contains (u ∷ types) t → ⊥)
  by (inl same) rest = inl (subst (Contains (u ∷ types)) same (Contains-first u types))
  by (inr different) (inl later) = inl (Contains-later u types t later)
  by (inr different) (inr never) = inr (λ has. ⊎_elim different never (Contains-cases u types t has))

-- ---- heads that agree: both are variables, or neither is

pub free_too : (P : Ty → Ty → Type 0) (h k : HeadOf Ty) → HeadsAgree P h k → IsNoVariable h → IsNoVariable k
free_too P (heads.Predeclared b ts) (heads.Predeclared c us) agree free = tt
free_too P (heads.Datatype m ts) (heads.Datatype n us) agree free = tt
free_too P (heads.Tuple ts) (heads.Tuple us) agree free = tt
free_too P (heads.Variants tags) (heads.Variants others) agree free = tt
free_too P heads.Absent heads.Absent agree free = tt
free_too P (heads.Variable x) k agree free = absurd free
free_too P h k agree free = absurd agree

pub variable_too : (P : Ty → Ty → Type 0) (h k : HeadOf Ty) (x : List ℕ) → HeadsAgree P h k → h ≡ heads.Variable x → k ≡ heads.Variable x
variable_too P h k x agree is = by k (subst (λ g. HeadsAgree P g k) is agree) where
  by : (g : HeadOf Ty) → HeadsAgree P (heads.Variable x) g → g ≡ heads.Variable x
  by (heads.Variable y) same = ap (λ z. heads.Variable z) (sym same)
  by (heads.Predeclared c us) never = absurd never
  by (heads.Datatype n us) never = absurd never
  by (heads.Tuple us) never = absurd never
  by (heads.Variants others) never = absurd never
  by heads.Absent never = absurd never

module _ (decls : List Decl) (well : AreWellFormed decls) (value : List ℕ → Ty) (closed : AreClosed decls value)
    (types : List Ty) (sound : (u : Ty) → Contains types u → IsSoundType decls u)
    (listed : (u a : Ty) → Contains types u → Contains (reached_from decls u) a → Contains types a) where
  abbrev new : Ty → Ty
  new t = instance value t

  abbrev here : List Ty
  here = all decls well value closed types sound listed

  abbrev twice : Ty → Ty × Ty
  twice u = (u, u)

  module _ (pairs : List (Ty × Ty)) where
    -- The pair of instances of a pair of types, if the two types are in the list `types`.
    moved_if : (p : Ty × Ty) → Contains types p.0 ⊎ (Contains types p.0 → ⊥) → Contains types p.1 ⊎ (Contains types p.1 → ⊥) → List (Ty × Ty)
    moved_if p (inl one) (inl other) = (new p.0, new p.1) ∷ []
    moved_if p one other = []

    moved_pair : Ty × Ty → List (Ty × Ty)
    moved_pair p = moved_if p (among_or_not types p.0) (among_or_not types p.1)

    moved : List (Ty × Ty)
    moved = flat_map moved_pair pairs

    if_has : (t u : Ty) (one : Contains types t ⊎ (Contains types t → ⊥)) (other : Contains types u ⊎ (Contains types u → ⊥))
        → Contains types t → Contains types u → Contains (moved_if (t, u) one other) (new t, new u)
    unfolding moved_if
    if_has t u (inl one) (inl other) among among' = Contains-first (new t, new u) []
    if_has t u (inr never) other among among' = absurd (never among)
    if_has t u (inl one) (inr never) among among' = absurd (never among')

    moved_has : (t u : Ty) → Contains pairs (t, u) → Contains types t → Contains types u → Contains moved (new t, new u)
    unfolding moved moved_pair
    moved_has t u held among among' =
        Contains-flat_map moved_pair pairs (t, u) (new t, new u) held
        (if_has t u (among_or_not types t) (among_or_not types u) among among')

    if_is : (p q : Ty × Ty) (one : Contains types p.0 ⊎ (Contains types p.0 → ⊥)) (other : Contains types p.1 ⊎ (Contains types p.1 → ⊥))
        → Contains (moved_if p one other) q → Contains types p.0 × Contains types p.1 × (◌≡◌ {A = Ty × Ty} (new p.0, new p.1) q)
    unfolding moved_if
    if_is p q (inl one) (inl other) has = (
      one,
      other,
      ⊎_elim (λ is. is) (λ never. absurd (Contains-none q never)) (Contains-cases (new p.0, new p.1) [] q has),
    )
    if_is p q (inr never) other has = absurd (Contains-none q has)
    if_is p q (inl one) (inr never) has = absurd (Contains-none q has)

    moved_is : (q : Ty × Ty) → Contains moved q
        → (p : Ty × Ty) × Contains pairs p × Contains types p.0 × Contains types p.1 × (◌≡◌ {A = Ty × Ty} (new p.0, new p.1) q)
    unfolding moved moved_pair
    moved_is q has =
        let source = flat_map-Contains moved_pair pairs q has in
        let is = if_is source.0 q (among_or_not types source.0.0) (among_or_not types source.0.1) source.2 in
        (source.0, source.1, is.0, is.1, is.2)

    abbrev list : List (Ty × Ty)
    list = moved ++ map twice here

    module _ (shut : IsClosed (head decls) pairs) where
      itself : (u : Ty) → Contains here u → HeadsAgree (Holds list) (head decls u) (head decls u)
      itself u among =
          HeadsAgree-own (Holds list) (head decls u) (λ a has.
          Contains-append_right moved (map twice here) (a, a) (Contains-map twice here a
          (parts_here decls here (all_listed decls well value closed types sound listed) u a among has)))

      new_heads : (t u : Ty) → Contains pairs (t, u) → Contains types t → Contains types u
          → ((x : List ℕ) × (head decls t ≡ heads.Variable x)) ⊎ IsNoVariable (head decls t)
          → HeadsAgree (Holds list) (head decls (new t)) (head decls (new u))
      new_heads t u held among among' (inl at) =
          let agree = shut t u held in
          let other = variable_too (Holds pairs) (head decls t) (head decls u) at.0 agree at.1 in
          let same : head decls (new t) ≡ head decls (new u) =
          replaced decls well value t (sound t among) at.0 at.1 ∙ sym (replaced decls well value u (sound u among') at.0 other) in
          subst (λ h. HeadsAgree (Holds list) (head decls (new t)) h) same
          (itself (new t) (new_among decls well value closed types sound listed t among))
      new_heads t u held among among' (inr free) =
          let agree = shut t u held in
          let free' = free_too (Holds pairs) (head decls t) (head decls u) agree free in
          let through = HeadsAgree-map new (Holds list) (head decls t) (head decls u)
          (HeadsAgree-more (Holds pairs) (λ a b. Holds list (new a) (new b)) (head decls t) (head decls u)
          (λ a b has has' both. Contains-append_left moved (map twice here) (new a, new b)
          (moved_has a b both (parts_here decls types listed t a among has)
          (parts_here decls types listed u b among' has'))) agree) in
          subst (λ h. HeadsAgree (Holds list) h (head decls (new u))) (sym (commutes decls well value t (sound t among) free))
          (subst (λ h. HeadsAgree (Holds list) (head_with_parts new (head decls t)) h)
          (sym (commutes decls well value u (sound u among') free')) through)

      list_shut : IsClosed (head decls) list
      list_shut a b held = ⊎_elim
          (λ in_prefix. let source = moved_is (a, b) in_prefix in
          let first : new source.0.0 ≡ a = ap (λ (p : Ty × Ty). p.0) source.4 in
          let second : new source.0.1 ≡ b = ap (λ (p : Ty × Ty). p.1) source.4 in
          subst (λ w. HeadsAgree (Holds list) (head decls w) (head decls b)) first
          (subst (λ w. HeadsAgree (Holds list) (head decls (new source.0.0)) (head decls w)) second
          (new_heads source.0.0 source.0.1 source.1 source.2 source.3 (variable_or_not (head decls source.0.0)))))
          (λ in_later. let source = map-Contains twice here (a, b) in_later in
          let first : source.0 ≡ a = ap (λ (p : Ty × Ty). p.0) source.2 in
          let second : source.0 ≡ b = ap (λ (p : Ty × Ty). p.1) source.2 in
          subst (λ w. HeadsAgree (Holds list) (head decls w) (head decls b)) first
          (subst (λ w. HeadsAgree (Holds list) (head decls source.0) (head decls w)) second
          (itself source.0 source.1)))
          (Contains-append_cases moved (map twice here) (a, b) held)

  pub instances_equal : (t u : Ty) → Contains types t → Contains types u → Equal decls t u → Equal decls (new t) (new u)
  instances_equal t u among among' equal = record {
    pairs = list equal.pairs;
    holds = Contains-append_left (moved equal.pairs) (map twice here) (new t, new u)
        (moved_has equal.pairs t u equal.holds among among');
    closed = list_shut equal.pairs equal.closed;
  }
