-- Nodes that are settled one after the other.
use Rattle.std.proofs.Common.{ℕ, ◌≡◌, ◌<◌, ◌+◌, ◌∙◌, ◌⊎◌, ⊎_elim, inl, inr, List, [], ◌∷◌, ◌++◌, length, get_or, take, set, Some, refl, sym, ap, subst, arith}
use Rattle.std.specs.Prelude.{Contains, slice_get}
use Rattle.std.specs.Global.{Vec}
use Rattle.std.proofs.Math.ListN.{length-set}
use Rattle.std.proofs.lemmas.Bool.{cases_lt}
use Rattle.std.proofs.lemmas.Option.{same_Some}
use Rattle.std.proofs.lemmas.List.{take_more}
use Rattle.std.proofs.lemmas.List.Elements.{Contains-push_cases}
use Rattle.base_data.proofs.model.Options.{Contains-none, same_or_not}
use Rattle.base_data.specs.declared.model.value.Val.{Val}
use Rattle.base_data.specs.declared.model.value.Val.TheVariants as vals
use Rattle.base_data.specs.declared.model.value.Obj.{Obj}
use Rattle.base_data.proofs.model.Lists.{slice_get-set_other, slice_get-set_here}
use Rattle.trees.specs.declared.search_trees.element_span.SettledNode.{SettledNode}
use Rattle.trees.specs.search_trees.NodeParts.{node_at}
use Rattle.trees.specs.search_trees.Span.{IsSettledAs, IsSettled, IsPartSettled, IsReady}
use Rattle.trees.specs.search_trees.TreeLevels.{Has, IsEarlier, AreRising}

-- The nodes `nodes` are settled, and each node that was settled before is still settled.
pub record AreSettledSoFar (graph : List Obj) (nodes : List ℕ) (old new : List SettledNode) : Type 0 where
  pub many : length new ≡ length old
  pub settled : (o : ℕ) → Contains nodes o → IsSettled graph new o
  pub kept : (o : ℕ) → IsSettled graph old o → IsSettled graph new o

module _ (graph : List Obj) where
  pub none_yet : (old : List SettledNode) → AreSettledSoFar graph [] old old
  none_yet old = record { many = refl; settled = λ o among. absurd (Contains-none o among); kept = λ o known. known }

  -- If a settled node is written to the list, then the node and all nodes settled before are
  -- settled.
  with_one : (all : List SettledNode) (o : ℕ) (s : SettledNode) → o < length all → IsSettledAs graph o s → (p : ℕ) → (o ≡ p) ⊎ IsSettled graph all p → IsSettled graph (set all o s) p
  with_one all o s below known p (inl same) = subst (λ q. IsSettled graph (set all o s) q) same (s, slice_get-set_here all o s below, known)
  with_one all o s below known p (inr before) = ⊎_elim
      (λ same. subst (λ q. IsSettled graph (set all o s) q) (sym same) (s, slice_get-set_here all o s below, known))
      (λ other. (before.0, slice_get-set_other all o p s other ∙ before.1, before.2))
      (same_or_not p o)

  pub one_more :
      (nodes : List ℕ) (o : ℕ) (old now : List SettledNode) (s : SettledNode) → AreSettledSoFar graph nodes old now → o < length now
      → IsSettledAs graph o s → AreSettledSoFar graph (nodes ++ o ∷ []) old (set now o s)
  one_more nodes o old now s so_far below known = record {
    many = length-set now o s ∙ so_far.many;
    settled = λ p among. with_one now o s below known p (⊎_elim
        (λ before. inr (so_far.settled p before))
        (λ last. inl last)
        (Contains-push_cases nodes o p among));
    kept = λ p before. with_one now o s below known p (inr (so_far.kept p before));
  }

  pub one_more_taken :
      (nodes : List ℕ) (i : ℕ) (old now : List SettledNode) (s : SettledNode) → AreSettledSoFar graph (take i nodes) old now → i < length nodes
      → get_or nodes i 0 < length now → IsSettledAs graph (get_or nodes i 0) s → AreSettledSoFar graph (take (i + 1) nodes) old (set now (get_or nodes i 0) s)
  one_more_taken nodes i old now s so_far there below known =
      subst (λ done. AreSettledSoFar graph done old (set now (get_or nodes i 0) s)) (sym (take_more nodes i 0 there))
      (one_more (take i nodes) (get_or nodes i 0) old now s so_far below known)

  part_still : (old new : List SettledNode) → ((o : ℕ) → IsSettled graph old o → IsSettled graph new o) → (v : Val) → IsPartSettled graph old v → IsPartSettled graph new v
  part_still old new kept (vals.Int z) ready = tt
  part_still old new kept (vals.Atom tag) ready = tt
  part_still old new kept (vals.Ref o) ready = kept o ready

  pub still_ready : (old new : List SettledNode) → ((o : ℕ) → IsSettled graph old o → IsSettled graph new o) → (o : ℕ) → IsReady graph old o → IsReady graph new o
  still_ready old new kept o ready = record {
    inside = ready.inside;
    left = part_still old new kept (node_at graph o).left ready.left;
    right = part_still old new kept (node_at graph o).right ready.right;
  }

  -- ---- level by level

  module _ (levels : List (Vec ℕ)) (all : List SettledNode) (i : ℕ) (level : Vec ℕ) (at : slice_get levels i ≡ Some level)
      (so_far : (g o : ℕ) → g < i → Has levels g o → IsSettled graph all o) where
    part_ready : (v : Val) → IsEarlier levels i v → IsPartSettled graph all v
    part_ready (vals.Int z) earlier = tt
    part_ready (vals.Atom tag) earlier = tt
    part_ready (vals.Ref p) earlier = so_far earlier.0 p earlier.1 earlier.2

    pub level_ready : AreRising graph levels → (o : ℕ) → Contains level.items o → IsReady graph all o
    level_ready rising o among = record {
      inside = rising.inside i o (level, at, among);
      left = part_ready (node_at graph o).left (rising.left i o (level, at, among));
      right = part_ready (node_at graph o).right (rising.right i o (level, at, among));
    }

    pub level_settled :
        (new : List SettledNode) → ((o : ℕ) → Contains level.items o → IsSettled graph new o) → ((o : ℕ) → IsSettled graph all o → IsSettled graph new o)
        → (g o : ℕ) → g < i + 1 → Has levels g o → IsSettled graph new o
    level_settled new settled kept g o below has = ⊎_elim
        (λ before. kept o (so_far g o before has))
        (λ last.
        let same : g ≡ i = omega (arith, below, last) in
        settled o (subst (λ (v : Vec ℕ). Contains v.items o) (same_Some has.0 level (sym has.1 ∙ ap (slice_get levels) same ∙ at)) has.2))
        (cases_lt g i)
