-- The nodes below a value, by the first step of a path and the later steps.
use Rattle.std.proofs.Common.{ℕ, ◌≡◌, List, [], ◌∷◌, refl}
use Rattle.std.specs.Prelude.{ℤ}
use Rattle.base_data.specs.declared.model.value.Val.TheVariants as vals
use Rattle.base_data.specs.declared.model.value.Obj.{Obj}
use Rattle.trees.specs.search_trees.NodeParts.{Side, to_left, to_right, empty_value, node_at, led_to, IsAtOrBelow}

module _ (graph : List Obj) where
  pub at_itself : (o : ℕ) → IsAtOrBelow graph (vals.Ref o) o
  at_itself o = ([], refl)

  pub below_left : (o p : ℕ) → IsAtOrBelow graph (node_at graph o).left p → IsAtOrBelow graph (vals.Ref o) p
  below_left o p below = (to_left ∷ below.0, below.1)

  pub below_right : (o p : ℕ) → IsAtOrBelow graph (node_at graph o).right p → IsAtOrBelow graph (vals.Ref o) p
  below_right o p below = (to_right ∷ below.0, below.1)

  -- There are no nodes below `Empty`.
  nowhere : (sides : List Side) (p : ℕ) → led_to graph empty_value sides ≡ vals.Ref p → ⊥
  nowhere [] p is = cc
  nowhere (side ∷ sides) p is = nowhere sides p is

  pub none_below_int : (z : ℤ) (p : ℕ) → IsAtOrBelow graph (vals.Int z) p → ⊥
  none_below_int z p ([], is) = cc
  none_below_int z p (side ∷ sides, is) = nowhere sides p is

  pub none_below_atom : (tag : ℕ) (p : ℕ) → IsAtOrBelow graph (vals.Atom tag) p → ⊥
  none_below_atom tag p ([], is) = cc
  none_below_atom tag p (side ∷ sides, is) = nowhere sides p is

  -- A node at or below a node `o` is `o`, a node in the left subtree, or a node in the right
  -- subtree.
  pub data AtNode (o p : ℕ) : Type 0 where
    itself : o ≡ p → AtNode o p
    on_left : IsAtOrBelow graph (node_at graph o).left p → AtNode o p
    on_right : IsAtOrBelow graph (node_at graph o).right p → AtNode o p

  pub at_node : (o p : ℕ) → IsAtOrBelow graph (vals.Ref o) p → AtNode o p
  at_node o p ([], is) = itself (cc)
  at_node o p (to_left ∷ sides, is) = on_left (sides, is)
  at_node o p (to_right ∷ sides, is) = on_right (sides, is)
