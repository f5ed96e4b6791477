-- If two types are equivalent (`Similar`), and the second is in a finite list that is closed under
-- the parts of heads, then the two types are equal.
use Rattle.std.proofs.Common.{◌≡◌, ◌∙◌, ◌⊎◌, ⊎_elim, inl, inr, List, [], ◌∷◌, ◌++◌, refl, sym, ap}
use Rattle.std.proofs.Common.{subst}
use Rattle.std.specs.Prelude.{Contains, map}
use Rattle.std.specs.List.{flat_map}
use Rattle.std.proofs.lemmas.List.Elements.{Contains-append_left, Contains-append_right}
use Rattle.std.proofs.lemmas.List.Elements.{Contains-append_cases}
use Rattle.types_spec.specs.declared.types.head.HeadOf.{HeadOf}
use Rattle.types_spec.specs.types.Ty.{Ty, variable, named, tuple, bracket, part, tag, tag_of, including}
use Rattle.types_spec.specs.types.Equal.{HeadsAgree, Holds, EqualBy}
use Rattle.types_spec.specs.types.Reached.{parts_of}
use Rattle.base_data.proofs.model.Options.{Contains-first, Contains-later, Contains-none, Contains-cases, Contains-map, Contains-flat_map, map-Contains, flat_map-Contains}
use Rattle.types_theory.proofs.equality.EqualityAgreeLemmas.{HeadsAgree-more}
use Rattle.types_theory.proofs.equality.SimilarLemmas.{Whole, Similar}

-- ---- elements of constructed lists

pair_is : (p : Ty × Ty) (t u : Ty) → p.0 ≡ t → p.1 ≡ u → p ≡ (t, u)
pair_is p t u first second = ap (λ a. (a, p.1)) first ∙ ap (λ b. (t, b)) second

-- Applies `f` to each pair of an element of `ts` and an element of `us`.
both : (Ty → Ty → Ty) → List Ty → List Ty → List Ty
both f ts us = flat_map (λ t. map (λ u. f t u) us) ts

both_has : (f : Ty → Ty → Ty) (ts us : List Ty) (t u : Ty) → Contains ts t → Contains us u
    → Contains (both f ts us) (f t u)
unfolding both
both_has f ts us t u among among' =
    Contains-flat_map (λ a. map (λ b. f a b) us) ts t (f t u) among
    (Contains-map (λ b. f t b) us u among')

both_is : (f : Ty → Ty → Ty) (ts us : List Ty) (v : Ty) → Contains (both f ts us) v → (t u : Ty)
    × Contains ts t × Contains us u × (f t u ≡ v)
unfolding both
both_is f ts us v among =
    let one = flat_map-Contains (λ a. map (λ b. f a b) us) ts v among in
    let other = map-Contains (λ b. f one.0 b) us v one.2 in
    (one.0, other.0, one.1, other.1, other.2)

module _ (same_or_not : (t u : Ty) → (t ≡ u) ⊎ (t ≡ u → ⊥)) (pairs : List (Ty × Ty)) where
  -- If the second component of the pair `p` is `u`, the first component of `p` is added to the
  -- list.
  firsts_if : (p : Ty × Ty) (u : Ty) → (p.1 ≡ u) ⊎ (p.1 ≡ u → ⊥) → List Ty → List Ty
  firsts_if p u (inl same) ts = p.0 ∷ ts
  firsts_if p u (inr different) ts = ts

  firsts : List (Ty × Ty) → Ty → List Ty
  firsts [] u = []
  firsts (p ∷ ps) u = firsts_if p u (same_or_not p.1 u) (firsts ps u)

  -- All types that are equal to the given type, up to parts that are pairs of the list.
  wholes : Ty → List Ty
  wholes (variable x) = variable x ∷ []
  wholes (named n) = named n ∷ []
  wholes tuple = tuple ∷ []
  wholes bracket = bracket ∷ []
  wholes (part u b) = both (λ t a. part t a) (wholes u) (firsts pairs b ++ wholes b)
  wholes (tag u x) = map (λ t. tag t x) (wholes u)
  wholes (tag_of u x b) = both (λ t a. tag_of t x a) (wholes u) (firsts pairs b ++ wholes b)
  wholes (including u b) = both (λ t a. including t a) (wholes u) (firsts pairs b ++ wholes b)

  sources : Ty → List Ty
  sources u = firsts pairs u ++ wholes u

  if_has : (p : Ty × Ty) (t u : Ty) (test : (p.1 ≡ u) ⊎ (p.1 ≡ u → ⊥)) (ts : List Ty) → (p ≡ (t, u))
      ⊎ Contains ts t → Contains (firsts_if p u test ts) t
  unfolding firsts_if
  if_has p t u (inl same) ts (inl is) =
      subst (λ a. Contains (p.0 ∷ ts) a) (ap (λ (q : Ty × Ty). q.0) is) (Contains-first p.0 ts)
  if_has p t u (inr different) ts (inl is) = absurd (different (ap (λ (q : Ty × Ty). q.1) is))
  if_has p t u (inl same) ts (inr later) = Contains-later p.0 ts t later
  if_has p t u (inr different) ts (inr later) = later

  if_is : (p : Ty × Ty) (t u : Ty) (test : (p.1 ≡ u) ⊎ (p.1 ≡ u → ⊥)) (ts : List Ty)
      → Contains (firsts_if p u test ts) t → (p ≡ (t, u)) ⊎ Contains ts t
  unfolding firsts_if
  if_is p t u (inl same) ts among =
      ⊎_elim (λ here. inl (pair_is p t u here same)) (λ later. inr later)
      (Contains-cases p.0 ts t among)
  if_is p t u (inr different) ts among = inr among

  firsts_has : (ps : List (Ty × Ty)) (t u : Ty) → Contains ps (t, u) → Contains (firsts ps u) t
  unfolding firsts
  firsts_has [] t u among = absurd (Contains-none (t, u) among)
  firsts_has (p ∷ ps) t u among =
      if_has p t u (same_or_not p.1 u) (firsts ps u)
      (⊎_elim (λ here. inl here) (λ later. inr (firsts_has ps t u later))
      (Contains-cases p ps (t, u) among))

  firsts_is : (ps : List (Ty × Ty)) (t u : Ty) → Contains (firsts ps u) t → Contains ps (t, u)
  unfolding firsts
  firsts_is [] t u among = absurd (Contains-none t among)
  firsts_is (p ∷ ps) t u among = ⊎_elim
      (λ here. subst (λ q. Contains (p ∷ ps) q) here (Contains-first p ps))
      (λ later. Contains-later p ps (t, u) (firsts_is ps t u later))
      (if_is p t u (same_or_not p.1 u) (firsts ps u) among)

  -- ---- these are exactly the equivalent types

  part_has : (a b : Ty) → Holds pairs a b ⊎ Contains (wholes b) a
      → Contains (firsts pairs b ++ wholes b) a
  part_has a b (inl held) =
      Contains-append_left (firsts pairs b) (wholes b) a (firsts_has pairs a b held)
  part_has a b (inr among) = Contains-append_right (firsts pairs b) (wholes b) a among

  wholes_has : (t u : Ty) → Whole pairs t u → Contains (wholes u) t
  unfolding wholes
  wholes_has (variable x) (variable y) whole =
      subst (λ z. Contains (variable y ∷ []) (variable z)) (sym whole)
      (Contains-first (variable y) [])
  wholes_has (named m) (named n) whole =
      subst (λ k. Contains (named n ∷ []) (named k)) (sym whole) (Contains-first (named n) [])
  wholes_has tuple tuple whole = Contains-first tuple []
  wholes_has bracket bracket whole = Contains-first bracket []
  wholes_has (part t a) (part u b) whole =
      both_has (λ w x. part w x) (wholes u) (firsts pairs b ++ wholes b) t a
      (wholes_has t u whole.0)
      (part_has a b (⊎_elim (λ held. inl held) (λ w. inr (wholes_has a b w)) whole.1))
  wholes_has (tag t x) (tag u y) whole =
      subst (λ z. Contains (map (λ w. tag w y) (wholes u)) (tag t z)) (sym whole.1)
      (Contains-map (λ w. tag w y) (wholes u) t (wholes_has t u whole.0))
  wholes_has (tag_of t x a) (tag_of u y b) whole =
      subst (λ z. Contains (both (λ w v. tag_of w y v) (wholes u) (firsts pairs b ++ wholes b))
      (tag_of t z a)) (sym whole.1) (both_has (λ w v. tag_of w y v) (wholes u)
      (firsts pairs b ++ wholes b) t a (wholes_has t u whole.0)
      (part_has a b (⊎_elim (λ held. inl held) (λ w. inr (wholes_has a b w)) whole.2)))
  wholes_has (including t a) (including u b) whole =
      both_has (λ w x. including w x) (wholes u) (firsts pairs b ++ wholes b) t a
      (wholes_has t u whole.0)
      (part_has a b (⊎_elim (λ held. inl held) (λ w. inr (wholes_has a b w)) whole.1))
  wholes_has t u whole = absurd whole

  part_is : (a b : Ty) → (Contains (wholes b) a → Whole pairs a b)
      → Contains (firsts pairs b ++ wholes b) a → Similar pairs a b
  part_is a b known among = ⊎_elim
      (λ first. inl (firsts_is pairs a b first))
      (λ later. inr (known later))
      (Contains-append_cases (firsts pairs b) (wholes b) a among)

  one_is : (u t : Ty) → Contains (u ∷ []) t → u ≡ t
  one_is u t among =
      ⊎_elim (λ here. here) (λ never. absurd (Contains-none t never)) (Contains-cases u [] t among)

  wholes_is : (u t : Ty) → Contains (wholes u) t → Whole pairs t u
  unfolding wholes
  wholes_is (variable x) t among =
      subst (λ w. Whole pairs w (variable x)) (one_is (variable x) t among) refl
  wholes_is (named n) t among = subst (λ w. Whole pairs w (named n)) (one_is (named n) t among) refl
  wholes_is tuple t among = subst (λ w. Whole pairs w tuple) (one_is tuple t among) tt
  wholes_is bracket t among = subst (λ w. Whole pairs w bracket) (one_is bracket t among) tt
  wholes_is (part u b) t among =
      let found = both_is (λ w x. part w x) (wholes u) (firsts pairs b ++ wholes b) t among in
      subst (λ w. Whole pairs w (part u b)) found.4 (
        wholes_is u found.0 found.2,
        part_is found.1 b
            (wholes_is b found.1) found.3,
      )
  wholes_is (tag u x) t among =
      let found = map-Contains (λ w. tag w x) (wholes u) t among in
      subst (λ w. Whole pairs w (tag u x)) found.2 (wholes_is u found.0 found.1, refl)
  wholes_is (tag_of u x b) t among =
      let found = both_is (λ w y. tag_of w x y) (wholes u) (firsts pairs b ++ wholes b) t among in
      subst (λ w. Whole pairs w (tag_of u x b)) found.4 (
        wholes_is u found.0 found.2,
        refl,
        part_is
            found.1 b (wholes_is b found.1) found.3,
      )
  wholes_is (including u b) t among =
      let found = both_is (λ w x. including w x) (wholes u) (firsts pairs b ++ wholes b) t among in
      subst (λ w. Whole pairs w (including u b)) found.4 (
        wholes_is u found.0 found.2,
        part_is
            found.1 b (wholes_is b found.1) found.3,
      )

  sources_has : (t u : Ty) → Similar pairs t u → Contains (sources u) t
  unfolding sources
  sources_has t u (inl held) =
      Contains-append_left (firsts pairs u) (wholes u) t (firsts_has pairs t u held)
  sources_has t u (inr whole) =
      Contains-append_right (firsts pairs u) (wholes u) t (wholes_has t u whole)

  sources_is : (t u : Ty) → Contains (sources u) t → Similar pairs t u
  unfolding sources
  sources_is t u among = part_is t u (wholes_is u t) among

  -- ---- a closed list of pairs

  module _ (head : Ty → HeadOf Ty) (agree : (t u : Ty) → Similar pairs t u
      → HeadsAgree (Similar pairs) (head t) (head u)) (types : List Ty) (reached : (u a : Ty)
      → Contains types u → Contains (parts_of (head u)) a → Contains types a) where
    pairs_to : Ty → List (Ty × Ty)
    pairs_to u = map (λ t. (t, u)) (sources u)

    all : List (Ty × Ty)
    all = flat_map pairs_to types

    all_has : (t u : Ty) → Contains types u → Similar pairs t u → Contains all (t, u)
    unfolding all pairs_to
    all_has t u among similar =
        Contains-flat_map pairs_to types u (t, u) among (Contains-map (λ w. (w, u)) (sources u) t
        (sources_has t u similar))

    all_is : (t u : Ty) → Contains all (t, u) → Contains types u × Similar pairs t u
    unfolding all pairs_to
    all_is t u held =
        let found = flat_map-Contains pairs_to types (t, u) held in
        let source = map-Contains (λ w. (w, found.0)) (sources found.0) (t, u) found.2 in
        let second : found.0 ≡ u = ap (λ (p : Ty × Ty). p.1) source.2 in
        let first : source.0 ≡ t = ap (λ (p : Ty × Ty). p.0) source.2 in (
          subst (λ w. Contains types w) second found.1,
          subst (λ w. Similar pairs w u) first
              (subst (λ w. Similar pairs source.0 w) second (sources_is source.0 found.0 source.1)),
        )

    -- If two types are equivalent and the second type is in the list, then the two types are equal.
    pub similar_is_equal : (t u : Ty) → Contains types u → Similar pairs t u → EqualBy head t u
    similar_is_equal t u among similar = record {
      pairs = all;
      holds = all_has t u among similar;
      closed = λ a b held.
          let is = all_is a b held in
          HeadsAgree-more (Similar pairs) (Holds all) (head a) (head b) (λ x y has has' same.
          all_has x y (reached b y is.0 has') same) (agree a b is.1);
    }
