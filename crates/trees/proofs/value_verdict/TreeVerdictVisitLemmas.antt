-- The nodes among the first visits, visit by visit.
use Rattle.std.proofs.Common.{ℕ, ◌+◌, ◌<◌, ◌≡◌, ◌∙◌, ◌⊎◌, inl, inr, ⊎_elim, ◌++◌, List, [], ◌∷◌, length, length-append, Some, sym, ap, subst, arith}
use Rattle.std.specs.Prelude.{slice_get, IfSome, ◌↔◌}
use Rattle.std.proofs.lemmas.Bool.{cases_lt}
use Rattle.std.proofs.lemmas.Option.{same_Some, none-some, slice_get_within}
use Rattle.base_data.proofs.model.Options.{slice_get_there}
use Rattle.base_data.proofs.model.Lists.{slice_get-append_left, slice_get-last}
use Rattle.check_heap.specs.declared.check.visits.Visit.{Visit}
use Rattle.check_heap.proofs.scan.ScanPositionLemmas.{slice_get-push_cases}
use Rattle.trees.specs.declared.value_verdict.tree_nodes.TreeNodes.{TreeNodes}
use Rattle.trees.specs.value_verdict.NodeVisits.{IsVisitAt, AreNodeVisits}

module _ (IsTree : ℕ → Type 0) (all : List Visit) where
  -- If there are no visits, then there are no nodes.
  pub none_yet :
      (nodes : TreeNodes) → nodes.objects.items ≡ [] → nodes.visits.items ≡ []
      → AreNodeVisits IsTree all 0 nodes
  none_yet nodes no_objects no_visits = record {
    many = ap length no_visits ∙ sym (ap length no_objects);
    below = λ i k at_i. absurd (nowhere i k at_i);
    at = λ i k o at_i at_o. absurd (nowhere i k at_i);
    each = λ k v below. absurd (omega (arith, below));
    rising = λ i j k m less at_i. absurd (nowhere i k at_i);
  } where
    nowhere : (i k : ℕ) → slice_get nodes.visits.items i ≡ Some k → ⊥
    nowhere i k at_i = none-some k (subst (λ xs. slice_get xs i ≡ Some k) no_visits at_i)

  -- If the next visit is at a type that is not marked, then the nodes stay the same.
  pub not_taken :
      (nodes : TreeNodes) (n : ℕ) (v : Visit) → slice_get all n ≡ Some v → (¬ IsTree v.ty)
      → AreNodeVisits IsTree all n nodes → AreNodeVisits IsTree all (n + 1) nodes
  not_taken nodes n v at_n other so_far = record {
    many = so_far.many;
    below = λ i k at_i. let less = so_far.below i k at_i in omega (arith, less);
    at = so_far.at;
    each = λ k w below at_k tree. ⊎_elim
        (λ before. so_far.each k w before at_k tree)
        (λ last.
        let here : k ≡ n = omega (arith, below, last) in
        let same : v ≡ w = same_Some v w (sym at_n ∙ ap (slice_get all) (sym here) ∙ at_k) in
        absurd (other (subst (λ (x : Visit). IsTree x.ty) (sym same) tree)))
        (cases_lt k n);
    rising = so_far.rising;
  }

  -- If the next visit is at a marked type, then the nodes gain the visit.
  pub taken :
      (old new : TreeNodes) (n : ℕ) (v : Visit) → slice_get all n ≡ Some v → IsTree v.ty
      → new.objects.items ≡ old.objects.items ++ v.object ∷ []
      → new.visits.items ≡ old.visits.items ++ n ∷ []
      → AreNodeVisits IsTree all n old → AreNodeVisits IsTree all (n + 1) new
  taken old new n v at_n tree objects visits so_far = record {
    many = many;
    below = λ i k at_i. ⊎_elim
        (λ before. let less = so_far.below i k before in omega (arith, less))
        (λ last. let here = last.1 in omega (arith, here))
        (number i k at_i);
    at = λ i k o at_i at_o. by_cases i k o (number i k at_i) (object i o at_o);
    each = each;
    rising = rising;
  } where
    many : length new.visits.items ≡ length new.objects.items
    many =
        let were = so_far.many in
        let one : length new.visits.items ≡ length old.visits.items + 1 =
        ap length visits ∙ length-append old.visits.items (n ∷ []) in
        let other : length new.objects.items ≡ length old.objects.items + 1 =
        ap length objects ∙ length-append old.objects.items (v.object ∷ []) in
        omega (arith, were, one, other)

    number : (i k : ℕ) → slice_get new.visits.items i ≡ Some k
        → (slice_get old.visits.items i ≡ Some k) ⊎ ((i ≡ length old.visits.items) × (n ≡ k))
    number i k at_i = slice_get-push_cases old.visits.items n i k
        (subst (λ xs. slice_get xs i ≡ Some k) visits at_i)

    object : (i o : ℕ) → slice_get new.objects.items i ≡ Some o
        → (slice_get old.objects.items i ≡ Some o)
        ⊎ ((i ≡ length old.objects.items) × (v.object ≡ o))
    object i o at_i = slice_get-push_cases old.objects.items v.object i o
        (subst (λ xs. slice_get xs i ≡ Some o) objects at_i)

    by_cases : (i k o : ℕ)
        → (slice_get old.visits.items i ≡ Some k) ⊎ ((i ≡ length old.visits.items) × (n ≡ k))
        → (slice_get old.objects.items i ≡ Some o)
        ⊎ ((i ≡ length old.objects.items) × (v.object ≡ o))
        → IsVisitAt IsTree all k o
    by_cases i k o (inl at_k) (inl at_o) = so_far.at i k o at_k at_o
    by_cases i k o (inl at_k) (inr last) =
        let within = slice_get_within old.visits.items i k at_k in
        let were = so_far.many in
        let here = last.0 in
        absurd (omega (arith, within, were, here))
    by_cases i k o (inr last) (inl at_o) =
        let within = slice_get_within old.objects.items i o at_o in
        let were = so_far.many in
        let here = last.0 in
        absurd (omega (arith, within, were, here))
    by_cases i k o (inr last) (inr same) = record {
      visit = v;
      at = ap (slice_get all) (sym last.1) ∙ at_n;
      object = same.1;
      tree = tree;
    }

    there : (i k : ℕ) → slice_get old.visits.items i ≡ Some k
        → slice_get new.visits.items i ≡ Some k
    there i k at_i = subst (λ xs. slice_get xs i ≡ Some k) (sym visits)
        (slice_get-append_left old.visits.items (n ∷ []) i k at_i)

    each : (k : ℕ) (w : Visit) → k < n + 1 → slice_get all k ≡ Some w → IsTree w.ty
        → (i : ℕ) × (slice_get new.visits.items i ≡ Some k)
    each k w below at_k is = ⊎_elim
        (λ before. let found = so_far.each k w before at_k is in
        (found.0, there found.0 k found.1))
        (λ last.
        let here : n ≡ k = omega (arith, below, last) in (
          length old.visits.items,
          subst (λ m. slice_get new.visits.items (length old.visits.items) ≡ Some m) here
              (subst (λ xs. slice_get xs (length old.visits.items) ≡ Some n) (sym visits)
              (slice_get-last old.visits.items n)),
        ))
        (cases_lt k n)

    rising : (i j k m : ℕ) → i < j → slice_get new.visits.items i ≡ Some k
        → slice_get new.visits.items j ≡ Some m → k < m
    rising i j k m less at_i at_j = by_positions (number i k at_i) (number j m at_j) where
      by_positions :
          (slice_get old.visits.items i ≡ Some k) ⊎ ((i ≡ length old.visits.items) × (n ≡ k))
          → (slice_get old.visits.items j ≡ Some m) ⊎ ((j ≡ length old.visits.items) × (n ≡ m))
          → k < m
      by_positions (inl one) (inl other) = so_far.rising i j k m less one other
      by_positions (inl one) (inr last) =
          let below = so_far.below i k one in
          let same = last.1 in
          omega (arith, below, same)
      by_positions (inr last) (inl other) =
          let within = slice_get_within old.visits.items j m other in
          let here = last.0 in
          absurd (omega (arith, within, here, less))
      by_positions (inr last) (inr again) =
          let here = last.0 in
          let there' = again.0 in
          absurd (omega (arith, here, there', less))

-- The nodes are the same for equivalent sets of types.
pub same_visits :
    (P Q : ℕ → Type 0) (all : List Visit) (n : ℕ) (nodes : TreeNodes) → ((t : ℕ) → P t ↔ Q t)
    → AreNodeVisits P all n nodes → AreNodeVisits Q all n nodes
same_visits P Q all n nodes same are = record {
  many = are.many;
  below = are.below;
  at = λ i k o at_i at_o.
      let visit = are.at i k o at_i at_o in
      record {
        visit = visit.visit;
        at = visit.at;
        object = visit.object;
        tree = (same visit.visit.ty).0 visit.tree;
      };
  each = λ k v below at_k tree. are.each k v below at_k ((same v.ty).1 tree);
  rising = are.rising;
}

-- If the code reads visit `k`, then the object and the type are those of the visit.
pub visit_read :
    (all : List Visit) (k o t : ℕ) → k < length all
    → IfSome (slice_get all k) (λ (v : Visit). (o ≡ v.object) × (t ≡ v.ty))
    → (v : Visit) × (slice_get all k ≡ Some v) × (o ≡ v.object) × (t ≡ v.ty)
visit_read all k o t inside read =
    let v = slice_get_there all k inside in
    let is : (o ≡ v.0.object) × (t ≡ v.0.ty) =
    subst (λ found. IfSome found (λ (w : Visit). (o ≡ w.object) × (t ≡ w.ty))) v.1 read in
    (v.0, v.1, is.0, is.1)
