-- The first fault of a list of nodes.
use Rattle.std.proofs.Common.{ℕ, ◌≡◌, ◌<◌, ◌≤◌, ◌+◌, ◌∙◌, ⊎_elim, List, length, Option, Some, None, sym, ap, subst, arith}
use Rattle.std.specs.Prelude.{Contains, slice_get, ◌↔◌}
use Rattle.std.proofs.lemmas.Option.{same_Some, slice_get_within}
use Rattle.std.proofs.lemmas.Bool.{cases_lt}
use Rattle.base_data.proofs.model.Options.{IsSomeAnd-at, IsSomeAnd-some, slice_get-Contains}
use Rattle.base_data.specs.declared.model.value.Obj.{Obj}
use Rattle.trees.specs.declared.search_trees.element_span.SettledNode.{SettledNode}
use Rattle.trees.specs.search_trees.TreeFault.{IsDisordered}
use Rattle.trees.specs.search_trees.Span.{IsSettled, IsMarked}
use Rattle.trees.specs.search_trees.NodeJudgement.{HasAt, IsFirst}

module _ (Has : ℕ → Type 0) (nodes : List ℕ) where
  -- No node before index `i` has the property.
  abbrev pub NoneBefore : ℕ → Type 0
  NoneBefore i = (j : ℕ) → j < i → ¬ HasAt Has nodes j

  pub none_more : (i o : ℕ) → NoneBefore i → slice_get nodes i ≡ Some o → (¬ Has o) → NoneBefore (i + 1)
  none_more i o none at never j below has = ⊎_elim
      (λ before. none j before has)
      (λ last.
      let same : j ≡ i = omega (arith, below, last) in
      let some = IsSomeAnd-some (slice_get nodes j) Has has in
      never (subst Has (same_Some some.0 o (sym some.1 ∙ ap (slice_get nodes) same ∙ at)) some.2))
      (cases_lt j i)

  pub none_at_all : (i : ℕ) → length nodes ≤ i → NoneBefore i → IsFirst Has nodes None
  none_at_all i end none j has =
      let some = IsSomeAnd-some (slice_get nodes j) Has has in
      let within = slice_get_within nodes j some.0 some.1 in
      none j (omega (arith, end, within)) has

module _ (graph : List Obj) (nodes : List ℕ) where
  -- ---- marks

  marked_is : (all : List SettledNode) (o : ℕ) → IsSettled graph all o → IsMarked all o ↔ IsDisordered graph o
  marked_is all o known = (
    λ marked.
        let same : known.0 ≡ marked.0 = same_Some known.0 marked.0 (sym known.1 ∙ marked.1) in
        known.2.disordered.0 (ap (λ (s : SettledNode). s.disordered) same ∙ marked.2),
    λ wrong. (known.0, known.1, known.2.disordered.1 wrong),
  )

  like : (all : List SettledNode) → ((o : ℕ) → Contains nodes o → IsSettled graph all o) → (i : ℕ) → HasAt (IsMarked all) nodes i → HasAt (IsDisordered graph) nodes i
  like all known i has =
      let some = IsSomeAnd-some (slice_get nodes i) (IsMarked all) has in
      IsSomeAnd-at (slice_get nodes i) some.0 (IsDisordered graph) some.1
      ((marked_is all some.0 (known some.0 (slice_get-Contains nodes i some.0 some.1))).0 some.2)

  unlike : (all : List SettledNode) → ((o : ℕ) → Contains nodes o → IsSettled graph all o) → (i : ℕ) → HasAt (IsDisordered graph) nodes i → HasAt (IsMarked all) nodes i
  unlike all known i has =
      let some = IsSomeAnd-some (slice_get nodes i) (IsDisordered graph) has in
      IsSomeAnd-at (slice_get nodes i) some.0 (IsMarked all) some.1
      ((marked_is all some.0 (known some.0 (slice_get-Contains nodes i some.0 some.1))).1 some.2)

  -- If all nodes are settled, then the first marked node is the first node out of order.
  pub first_disordered :
      (all : List SettledNode) (found : Option ℕ) → ((o : ℕ) → Contains nodes o → IsSettled graph all o) → IsFirst (IsMarked all) nodes found
      → IsFirst (IsDisordered graph) nodes found
  first_disordered all None known none = λ j has. none j (unlike all known j has)
  first_disordered all (Some i) known first = (like all known i first.0, λ j less has. first.1 j less (unlike all known j has))
