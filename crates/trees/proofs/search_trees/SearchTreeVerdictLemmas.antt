-- Each value has one verdict.
use Rattle.std.proofs.Common.{ℕ, suc, ◌≡◌, ◌<◌, ◌≤◌, ◌∙◌, ◌⊎◌, ⊎_elim, inl, inr, List, [], ◌∷◌, length, Some, refl, sym, ap, subst, arith}
use Rattle.std.specs.Prelude.{Contains, slice_get}
use Rattle.base_data.proofs.model.Options.{slice_get-Contains}
use Rattle.base_data.specs.declared.model.value.Val.{Val}
use Rattle.base_data.specs.declared.model.value.Obj.{Obj}
use Rattle.types_spec.specs.declared.types.names.Names.{Names}
use Rattle.types_spec.specs.declared.types.shape.ShapeOf.{ShapeOf}
use Rattle.types_spec.specs.types.Fault.{IsBefore}
use Rattle.types_theory.proofs.typing.Choices.{without}
use Rattle.types_theory.proofs.typing.TypingPathLemmas.{OneOfThree, paths_compare}
use Rattle.trees.specs.declared.search_trees.tree_node.TreeKind.{TreeKind}
use Rattle.trees.specs.declared.search_trees.tree_node.TreeKind.TheVariants as kinds
use Rattle.trees.specs.declared.search_trees.tree_verdict.TreeVerdict.{TreeVerdict}
use Rattle.trees.specs.declared.search_trees.tree_verdict.TreeVerdict.TheVariants.{Sound, Faulty}
use Rattle.trees.specs.search_trees.NodeJudgement.{rank_of}
use Rattle.trees.specs.search_trees.TreeVerdict.{IsLessFault, AreNodes, IsTreeVerdict}

-- ---- the order of faults

abbrev KindsCompare : TreeKind → TreeKind → Type 0
KindsCompare kind other = (rank_of kind < rank_of other) ⊎ ((kind ≡ other) ⊎ (rank_of other < rank_of kind))

kinds_compare : (kind other : TreeKind) → KindsCompare kind other
kinds_compare kinds.Height kinds.Height = inr (inl refl)
kinds_compare kinds.Height kinds.Balance = inl (omega arith)
kinds_compare kinds.Height kinds.Order = inl (omega arith)
kinds_compare kinds.Balance kinds.Height = inr (inr (omega arith))
kinds_compare kinds.Balance kinds.Balance = inr (inl refl)
kinds_compare kinds.Balance kinds.Order = inl (omega arith)
kinds_compare kinds.Order kinds.Height = inr (inr (omega arith))
kinds_compare kinds.Order kinds.Balance = inr (inr (omega arith))
kinds_compare kinds.Order kinds.Order = inr (inl refl)

-- If neither of two faults is less than the other fault, then the two faults are equal.
same_fault :
    (kind other : TreeKind) (path second : List ℕ) → (¬ IsLessFault kind path other second) → (¬ IsLessFault other second kind path)
    → (kind ≡ other) × (path ≡ second)
same_fault kind other path second not_less not_more = by_kinds (kinds_compare kind other) where
  by_paths : kind ≡ other → OneOfThree (IsBefore path second) (path ≡ second) (IsBefore second path) → (kind ≡ other) × (path ≡ second)
  by_paths same (inl before) = absurd (not_less (inr (same, before)))
  by_paths same (inr (inl one)) = (same, one)
  by_paths same (inr (inr after)) = absurd (not_more (inr (sym same, after)))

  by_kinds : KindsCompare kind other → (kind ≡ other) × (path ≡ second)
  by_kinds (inl less) = absurd (not_less (inl less))
  by_kinds (inr (inl same)) = by_paths same (paths_compare path second)
  by_kinds (inr (inr more)) = absurd (not_more (inl more))

-- ---- equal numbers of nodes

module _ {T : Type 0} (Equal : T → T → Type 0) (symmetric : (t u : T) → Equal t u → Equal u t)
    (transitive : (t u w : T) → Equal t u → Equal u w → Equal t w) where
  -- Each object occurs once for each class of equal types.
  abbrev AreApart : List (ℕ × T) → Type 0
  AreApart nodes =
      (j k o : ℕ) (u w : T) → slice_get nodes j ≡ Some (o, u) → slice_get nodes k ≡ Some (o, w) → Equal u w → j ≡ k

  -- Each object of `xs` is among `ys` at an equal type.
  abbrev AreAmong : List (ℕ × T) → List (ℕ × T) → Type 0
  AreAmong xs ys = (j o : ℕ) (u : T) → slice_get xs j ≡ Some (o, u) → (w : T) × Contains ys (o, w) × Equal w u

  no_more : (xs ys : List (ℕ × T)) → AreApart xs → AreAmong xs ys → length xs ≤ length ys
  no_more [] ys apart among = omega arith
  no_more ((o, u) ∷ xs) ys apart among =
      let first = among 0 o u refl in
      let left = without ys (o, first.0) first.1 in
      let shorter = left.shorter in
      let fewer = no_more xs left.rest
      (λ j k p v w one other same. let next : suc j ≡ suc k = apart (suc j) (suc k) p v w one other same in omega (arith, next))
      (λ j p v at.
      let found = among (suc j) p v at in (
        found.0,
        ⊎_elim
            (λ taken. absurd (twice j p v at found.0 found.2 taken))
            (λ later. later)
            (left.others (p, found.0) found.1),
        found.2,
      )) in
      omega (arith, shorter, fewer) where
        twice : (j p : ℕ) (v : T) → slice_get xs j ≡ Some (p, v) → (w : T) → Equal w v → ◌≡◌ {A = ℕ × T} (o, (among 0 o u refl).0) (p, w) → ⊥
        twice j p v at w same taken =
            let object : o ≡ p = ap (λ (pair : ℕ × T). pair.0) taken in
            let type : (among 0 o u refl).0 ≡ w = ap (λ (pair : ℕ × T). pair.1) taken in
            let first : Equal (among 0 o u refl).0 u = (among 0 o u refl).2 in
            let both : Equal u v = transitive u w v (symmetric w u (subst (λ x. Equal x u) type first)) same in
            let one : 0 ≡ suc j = apart 0 (suc j) o u v refl (at ∙ ap (λ q. Some (q, v)) (sym object)) both in
            omega (arith, one)

  module _ (shape : T → ShapeOf T) (names : T → Names) (graph : List Obj) (root : Val) (t : T) where
    as_many : (xs ys : List (ℕ × T)) → AreNodes shape names Equal graph root t xs → AreNodes shape names Equal graph root t ys → length xs ≤ length ys
    as_many xs ys one other = no_more xs ys one.apart (λ j o u at.
        let led = one.led o u (slice_get-Contains xs j (o, u) at) in
        other.all led.0 o u led.1)

    pub one_verdict : (one other : TreeVerdict) → IsTreeVerdict shape names Equal graph root t one → IsTreeVerdict shape names Equal graph root t other → one ≡ other
    one_verdict (Sound n) (Sound m) first second =
        let less = as_many first.1 second.1 first.2 second.2 in
        let more = as_many second.1 first.1 second.2 first.2 in
        let left = first.3 in
        let right = second.3 in
        let same : n ≡ m = omega (arith, less, more, left, right) in
        ap Sound same
    one_verdict (Sound n) (Faulty kind path) first second = absurd (first.0 kind path second.0)
    one_verdict (Faulty kind path) (Sound n) first second = absurd (second.0 kind path first.0)
    one_verdict (Faulty kind path) (Faulty other way) first second =
        let same = same_fault kind other path way (second.1 kind path first.0) (first.1 other way second.0) in
        ap (λ k. Faulty k path) same.0 ∙ ap (λ p. Faulty other p) same.1
