-- A sweep over nodes, and the 64-bit words of their fields.
use Rattle.std.proofs.Common.{ℕ, zero, suc, ◌≡◌, ◌<◌, ◌≤◌, ◌+◌, ◌∙◌, ◌⊎◌, ⊎_elim, inl, inr, Bool, true, false, ◌-◌, ◌^◌, List, length, set, replicate, Option, Some, None, refl, sym, ap, subst, arith}
use Rattle.std.specs.Prelude.{slice_get, slice_index, map, pos, nat_lt, if◌then◌else◌}
use Rattle.std.proofs.lemmas.Bool.{cases_lt, ltb-true, ltb-false}
use Rattle.std.proofs.lemmas.List.Elements.{All-contains}
use Rattle.std.proofs.lemmas.Option.{same_Some, none-some, get_or_from_slice_get, slice_get-get_or}
use Rattle.base_data.proofs.model.Options.{IsSomeAnd-at, IsSomeAnd-some, same_or_not, slice_get_there, slice_get-Contains}
use Rattle.base_data.specs.model.Graph.{IsValue, IsObject, IsGraph}
use Rattle.base_data.specs.declared.model.value.Val.{Val}
use Rattle.base_data.specs.declared.model.value.Val.TheVariants as vals
use Rattle.base_data.specs.declared.model.value.Obj.{Obj}
use Rattle.base_data.specs.declared.model.value.Obj.TheVariants as objects
use Rattle.base_data.proofs.model.Lists.{slice_get-set_other, slice_get-set_here}
use Rattle.marshal_heap.specs.heap.Heap.{object_at, fields_of, field_at, word_of}
use Rattle.marshal_heap.proofs.heap.HeapReadLemmas.{field_word-at, word_of-inj}
use Rattle.marshal_heap.proofs.heap.HeapFieldLemmas.{values_there}
use Rattle.trees.specs.declared.search_trees.judging.NodesVerdict.{NodesVerdict}
use Rattle.trees.specs.declared.search_trees.judging.NodesVerdict.TheVariants.{Sound, Faulty}
use Rattle.trees.specs.declared.search_trees.tree_node.TreeKind.{TreeKind}
use Rattle.trees.specs.declared.search_trees.tree_node.TreeKind.TheVariants as kinds
use Rattle.trees.specs.declared.search_trees.element_span.SettledNode.{SettledNode}
use Rattle.trees.specs.search_trees.NodeJudgement.{rank_of, IsFaultAt, IsKnownBefore, IsJudgement}
use Rattle.trees.specs.search_trees.Span.{IsSettledAs}
use Rattle.trees.specs.search_trees.Sweep.{AreKnown, HasKind, IsMostSevere, replaced, more_severe, IsMostSevereFrom}
use Rattle.trees.specs.search_trees.TreeFault.{IsMiscounted, IsUnbalanced, IsDisordered}

-- ---- the words of fields

module _ (graph : List Obj) (o i : ℕ) (inside : o < length graph)
    (short : i < length (fields_of (object_at graph o))) where
  field_valid : IsGraph graph → IsValue (length graph) (field_at graph o i)
  field_valid is_graph =
      let there = slice_get_there graph o inside in
      let is : object_at graph o ≡ there.0 =
      get_or_from_slice_get graph o there.0 (objects.I32 (pos 0)) there.1 in
      let valid = All-contains (IsObject (length graph)) graph there.0 is_graph
      (slice_get-Contains graph o there.0 there.1) in
      values_there (length graph) (object_at graph o) i (field_at graph o i)
      (subst (IsObject (length graph)) (sym is) valid)
      (slice_get-get_or (fields_of (object_at graph o)) i (vals.Int (pos 0)) short)

  -- If a value is decoded from the word of a field, then the value is the field.
  pub value_is_field :
      (words : List ℕ) (word : ℕ) (v : Val) → IsGraph graph
      → words ≡ map (word_of graph) (fields_of (object_at graph o)) → word ≡ slice_index words i
      → word ≡ word_of graph v → IsValue (length graph) v → v ≡ field_at graph o i
  value_is_field words word v is_graph are is named valid =
      word_of-inj graph v (field_at graph o i) is_graph valid (field_valid is_graph)
      (sym named ∙ is ∙ ap (λ ws. slice_index ws i) are
      ∙ field_word-at graph (fields_of (object_at graph o)) i (vals.Int (pos 0)) short)

-- ---- settled nodes

all_agree : {X : Type 0} (n : ℕ) (x : X) (i : ℕ) (y : X) → slice_get (replicate n x) i ≡ Some y
    → x ≡ y
all_agree zero x i y at = absurd (none-some y at)
all_agree (suc n) x zero y at = same_Some x y at
all_agree (suc n) x (suc i) y at = all_agree n x i y at

pub none_known : (graph : List Obj) (n : ℕ) (unknown : SettledNode)
    → unknown.span.least ≡ 2 ^ 64 - 1 → AreKnown graph (replicate n unknown)
none_known graph n unknown marked o settled at clear =
    absurd (clear (ap (λ (s : SettledNode). s.span.least) (sym (all_agree n unknown o settled at))
    ∙ marked))

pub one_more_known : (graph : List Obj) (all : List SettledNode) (o : ℕ) (new : SettledNode)
    → o < length all → AreKnown graph all → IsSettledAs graph o new
    → AreKnown graph (set all o new)
one_more_known graph all o new below known is p settled at clear = ⊎_elim
    (λ same.
    let here : new ≡ settled = same_Some new settled
    (sym (slice_get-set_here all o new below) ∙ ap (slice_get (set all o new)) (sym same) ∙ at) in
    subst (λ q. IsSettledAs graph q settled) (sym same) (subst (IsSettledAs graph o) here is))
    (λ other. known p settled (sym (slice_get-set_other all o p new other) ∙ at) clear)
    (same_or_not p o)

-- ---- the first fault so far

module _ (graph : List Obj) (nodes : List ℕ) (i o : ℕ) (at : slice_get nodes i ≡ Some o) where
  -- If a property holds for node `i` and for all later nodes, then the property holds for all nodes
  -- from `i` on.
  here_or_later : (P : ℕ → ℕ → Type 0) → P i o
      → ((j p : ℕ) → i + 1 ≤ j → slice_get nodes j ≡ Some p → P j p)
      → (j p : ℕ) → i ≤ j → slice_get nodes j ≡ Some p → P j p
  here_or_later P here later j p from at_j = ⊎_elim
      (λ less.
      let same : i ≡ j = omega (arith, less, from) in
      let object : o ≡ p =
      same_Some o p (sym at ∙ ap (slice_get nodes) same ∙ at_j) in
      subst (λ q. P j q) object (subst (λ k. P k o) same here))
      (λ not_less. later j p (omega (arith, not_less)) at_j)
      (cases_lt j (i + 1))

  -- If no later fault has a lower rank, then the fault of node `i` is the first fault from `i` on.
  write_here : (kind : TreeKind) → IsMostSevere graph o (Some kind)
      → ((other : TreeKind) (j p : ℕ) → i + 1 ≤ j → slice_get nodes j ≡ Some p
      → HasKind graph other p → ¬ (rank_of other < rank_of kind))
      → IsMostSevereFrom graph nodes i (Faulty kind i)
  write_here kind own later = (
    (o, at, own.0),
    λ other j p from at_j.
        here_or_later (λ k q. HasKind graph other q → ¬ IsKnownBefore other k kind i)
        (λ has before. by_order other i before (own.1 other has) (λ less. omega (arith, less)))
        (λ k q after at_k has before. by_order other k before (later other k q after at_k has)
        (λ less. omega (arith, less, after)))
        j p from at_j,
  ) where
    by_order : (other : TreeKind) (k : ℕ) → IsKnownBefore other k kind i
        → (¬ (rank_of other < rank_of kind)) → (¬ (k < i)) → ⊥
    by_order other k (inl less) never not_less = never less
    by_order other k (inr same) never not_less = not_less same.1

  -- If node `i` has no fault of an equal or a lower rank, then the first fault after `i` is the
  -- first fault from `i` on.
  keep : (kind : TreeKind) (n : ℕ) → IsMostSevereFrom graph nodes (i + 1) (Faulty kind n)
      → ((other : TreeKind) → HasKind graph other o → rank_of kind < rank_of other)
      → IsMostSevereFrom graph nodes i (Faulty kind n)
  keep kind n so_far lesser = (
    so_far.0,
    λ other j p from at_j.
        here_or_later (λ k q. HasKind graph other q → ¬ IsKnownBefore other k kind n)
        (λ has before. by_order other before (lesser other has))
        (λ k q after at_k. so_far.1 other k q after at_k)
        j p from at_j,
  ) where
    by_order : (other : TreeKind) → IsKnownBefore other i kind n → rank_of kind < rank_of other → ⊥
    by_order other (inl less) more = omega (arith, less, more)
    by_order other (inr same) more =
        let one : rank_of other ≡ rank_of kind = ap rank_of same.0 in omega (arith, one, more)

  replaced_from : (most_severe : NodesVerdict) (kind : TreeKind)
      → IsMostSevereFrom graph nodes (i + 1) most_severe → IsMostSevere graph o (Some kind)
      → IsMostSevereFrom graph nodes i (replaced most_severe kind i)
  replaced_from Sound kind so_far own =
      write_here kind own (λ other j p after at_j has. absurd (so_far j p after at_j other has))
  replaced_from (Faulty other n) kind so_far own =
      by_test (nat_lt (rank_of other) (rank_of kind)) refl where
        by_test : (b : Bool) → nat_lt (rank_of other) (rank_of kind) ≡ b
            → IsMostSevereFrom graph nodes i (if b then Faulty other n else Faulty kind i)
        by_test true is =
            let less = ltb-true (rank_of other) (rank_of kind) is in
            keep other n so_far (λ x has.
            let never = own.1 x has in
            ⊎_elim (λ under. absurd (never under))
            (λ not_under. omega (arith, less, not_under))
            (cases_lt (rank_of x) (rank_of kind)))
        by_test false is =
            let not_less = ltb-false (rank_of other) (rank_of kind) is in
            write_here kind own (λ x j p after at_j has less.
            so_far.1 x j p after at_j has (inl (omega (arith, less, not_less))))

  pub more_severe_from : (most_severe : NodesVerdict) (fault : Option TreeKind)
      → IsMostSevereFrom graph nodes (i + 1) most_severe → IsMostSevere graph o fault
      → IsMostSevereFrom graph nodes i (more_severe most_severe fault i)
  more_severe_from Sound None so_far own = λ j p from at_j kind.
      here_or_later (λ k q. ¬ HasKind graph kind q) (own kind)
      (λ k q after at_k. so_far k q after at_k kind) j p from at_j
  more_severe_from (Faulty other n) None so_far own =
      keep other n so_far (λ x has. absurd (own x has))
  more_severe_from most_severe (Some kind) so_far own = replaced_from most_severe kind so_far own

module _ (graph : List Obj) (nodes : List ℕ) where
  wrong_at : (kind : TreeKind) (i : ℕ) → IsFaultAt graph nodes kind i
      → (o : ℕ) × (slice_get nodes i ≡ Some o) × HasKind graph kind o
  wrong_at kinds.Height i fault = IsSomeAnd-some (slice_get nodes i) (IsMiscounted graph) fault
  wrong_at kinds.Balance i fault = IsSomeAnd-some (slice_get nodes i) (IsUnbalanced graph) fault
  wrong_at kinds.Order i fault = IsSomeAnd-some (slice_get nodes i) (IsDisordered graph) fault.0

  fault_at : (kind : TreeKind) (i : ℕ) → IsMostSevereFrom graph nodes 0 (Faulty kind i)
      → IsFaultAt graph nodes kind i
  fault_at kinds.Height i is =
      IsSomeAnd-at (slice_get nodes i) is.0.0 (IsMiscounted graph) is.0.1 is.0.2
  fault_at kinds.Balance i is =
      IsSomeAnd-at (slice_get nodes i) is.0.0 (IsUnbalanced graph) is.0.1 is.0.2
  fault_at kinds.Order i is = (
    IsSomeAnd-at (slice_get nodes i) is.0.0 (IsDisordered graph) is.0.1 is.0.2,
    λ j wrong.
        let some = IsSomeAnd-some (slice_get nodes j) (IsMiscounted graph) wrong in
        is.1 kinds.Height j some.0 (omega arith) some.1 some.2 (inl (omega arith)),
  )

  pub swept : (most_severe : NodesVerdict) (from : ℕ) → from ≡ 0 → IsMostSevereFrom graph nodes from most_severe
      → IsJudgement graph nodes most_severe
  swept Sound from start is = λ kind i fault.
      let wrong = wrong_at kind i fault in
      is i wrong.0 (omega (arith, start)) wrong.1 kind wrong.2
  swept (Faulty kind i) from start is = (
    fault_at kind i (subst (λ n. IsMostSevereFrom graph nodes n (Faulty kind i)) start is),
    λ other j fault.
        let wrong = wrong_at other j fault in
        is.1 other j wrong.0 (omega (arith, start)) wrong.1 wrong.2,
  )
