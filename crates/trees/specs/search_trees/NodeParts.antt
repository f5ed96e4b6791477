-- The parts of the nodes of a search tree, the nodes below a value, and the order of elements
-- (`set.ml` and `map.ml` of OCaml's standard library).
use Rattle.std.specs.Prelude.{ℕ, ◌≡◌, ◌==◌, nat_lt, ◌||◌, ◌&&◌, Bool, true, false, List, [], ◌∷◌, ℤ}
use Rattle.std.specs.Prelude.{pos}
use Rattle.std.specs.Prelude.{int_lt}
use Rattle.base_data.specs.declared.model.value.Val.{Val}
use Rattle.base_data.specs.declared.model.value.Val.TheVariants as vals
use Rattle.base_data.specs.declared.model.value.Obj.{Obj}
use Rattle.marshal_heap.specs.heap.Heap.{object_at, fields_of, bytes_of}
use Rattle.trees.specs.declared.search_trees.tree_node.TreeNode.{TreeNode}

-- ---- the parts of a node

-- The value `Empty`.
abbrev pub empty_value : Val
empty_value = vals.Int (pos 0)

-- The integer of a value. A value that is not an integer counts as 0.
abbrev pub number_in : Val → ℤ
number_in (vals.Int z) = z
number_in v = pos 0

abbrev pub no_node : TreeNode
no_node = record {
  left = empty_value;
  element = empty_value;
  right = empty_value;
  height = pos 0;
}

-- The parts of a node by position. A node of a set has the fields l, v, r and h, and a node of a
-- map has the fields l, v, d, r and h.
abbrev pub node_of : List Val → TreeNode
node_of (l ∷ v ∷ r ∷ h ∷ []) =
    record { left = l; element = v; right = r; height = number_in h }
node_of (l ∷ v ∷ d ∷ r ∷ h ∷ []) =
    record { left = l; element = v; right = r; height = number_in h }
node_of values = no_node

-- The node that is stored in object o.
abbrev pub node_at : List Obj → ℕ → TreeNode
node_at graph o = node_of (fields_of (object_at graph o))

-- The height of a value. The height of `Empty` is 0, and the height of a node is the number that
-- the node stores.
abbrev pub height_of : List Obj → Val → ℤ
height_of graph (vals.Int z) = pos 0
height_of graph (vals.Atom tag) = pos 0
height_of graph (vals.Ref o) = (node_at graph o).height

-- ---- nodes below

pub data Side : Type 0 where
  to_left : Side
  to_right : Side

-- The left or the right part of a value. The two parts of `Empty` are `Empty`.
abbrev pub part_of : List Obj → Val → Side → Val
part_of graph (vals.Int z) side = empty_value
part_of graph (vals.Atom tag) side = empty_value
part_of graph (vals.Ref o) to_left = (node_at graph o).left
part_of graph (vals.Ref o) to_right = (node_at graph o).right

-- The part of a value that is reached by the steps `sides` to the left and to the right.
abbrev pub led_to : List Obj → Val → List Side → Val
led_to graph v [] = v
led_to graph v (side ∷ sides) = led_to graph (part_of graph v side) sides

-- Zero or more steps to the left and to the right lead from the value to a reference to the object
-- `o`.
abbrev pub IsAtOrBelow : List Obj → Val → ℕ → Type 0
IsAtOrBelow graph v o = (sides : List Side) × (led_to graph v sides ≡ vals.Ref o)

-- ---- the order of elements

-- An element is a number or a text.
pub data Key : Type 0 where
  number : ℤ → Key
  text : List ℕ → Key

abbrev pub key_of : List Obj → Val → Key
key_of graph (vals.Int z) = number z
key_of graph (vals.Atom tag) = number (pos 0)
key_of graph (vals.Ref o) = text (bytes_of (object_at graph o))

-- Texts are ordered bytewise. A proper prefix of a text comes before the text.
abbrev pub are_before : List ℕ → List ℕ → Bool
are_before bytes [] = false
are_before [] (b ∷ others) = true
are_before (a ∷ bytes) (b ∷ others) = nat_lt a b || ((a == b) && are_before bytes others)

-- Numbers come before texts. No type of elements has both numbers and texts.
abbrev pub is_key_less : Key → Key → Bool
is_key_less (number z) (number y) = int_lt z y
is_key_less (number z) (text others) = true
is_key_less (text bytes) (number y) = false
is_key_less (text bytes) (text others) = are_before bytes others

abbrev pub is_less : List Obj → Val → Val → Bool
is_less graph v w = is_key_less (key_of graph v) (key_of graph w)
