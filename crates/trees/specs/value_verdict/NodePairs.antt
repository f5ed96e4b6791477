-- The nodes among the pairs of a check that found no fault.
use Rattle.std.specs.Prelude.{ℕ, ◌≡◌, Bool, false, List, filter, map, slice_index_or}
use Rattle.base_data.specs.declared.model.value.Val.{Val}
use Rattle.base_data.specs.declared.model.value.Obj.{Obj}
use Rattle.types_table.specs.declared.type_table.tabled.Tabled.{Tabled}
use Rattle.trees.specs.search_trees.TreeType.{shape_in, names_in, SameClass}
use Rattle.trees.specs.search_trees.TreeVerdict.{AreNodes}

-- The type of the pair is marked.
abbrev pub is_node_pair : List Bool → ℕ × ℕ → Bool
is_node_pair found pair = slice_index_or found pair.1 false

abbrev pub objects_of : List (ℕ × ℕ) → List ℕ
objects_of pairs = map (λ (pair : ℕ × ℕ). pair.0) pairs

-- The objects of the pairs at marked types.
abbrev pub marked_objects : List Bool → List (ℕ × ℕ) → List ℕ
marked_objects found pairs = objects_of (filter (is_node_pair found) pairs)

-- `objects` are the objects of the nodes in a value. An object occurs once for each class of types
-- at which the object is a node.
pub record AreNodeObjects (table : Tabled) (graph : List Obj) (root : Val) (objects : List ℕ)
    : Type 0 where
  pub pairs : List (ℕ × ℕ)
  pub nodes : AreNodes (shape_in table) (names_in table) (SameClass table) graph root 0 pairs
  pub all : objects ≡ objects_of pairs
