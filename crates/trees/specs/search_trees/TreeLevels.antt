-- Nodes grouped by height.
use Rattle.std.specs.Prelude.{ℕ, ◌<◌, ◌≤◌, ◌≡◌, ◌⊎◌, List, length, Some, slice_get, Contains, pos}
use Rattle.std.specs.Global.{Vec}
use Rattle.base_data.specs.declared.model.value.Val.{Val}
use Rattle.base_data.specs.declared.model.value.Val.TheVariants as vals
use Rattle.base_data.specs.declared.model.value.Obj.{Obj}
use Rattle.trees.specs.search_trees.NodeParts.{node_at}

-- Level `h` contains the node `o`.
abbrev pub Has : List (Vec ℕ) → ℕ → ℕ → Type 0
Has levels h o = (level : Vec ℕ) × (slice_get levels h ≡ Some level) × Contains level.items o

-- There are at least `many` levels, and each level has the nodes that the level had before.
pub record HasRooms (old : List (Vec ℕ)) (many : ℕ) (new : List (Vec ℕ)) : Type 0 where
  pub enough : many ≤ length new
  pub kept : (h o : ℕ) → Has old h o → Has new h o
  pub back : (h o : ℕ) → Has new h o → Has old h o

-- The node `o` was added to the level `at`.
pub record IsWritten (old : List (Vec ℕ)) (at o : ℕ) (new : List (Vec ℕ)) : Type 0 where
  pub there : Has new at o
  pub kept : (h p : ℕ) → Has old h p → Has new h p
  pub back : (h p : ℕ) → Has new h p → Has old h p ⊎ ((h ≡ at) × (p ≡ o))

-- Each node is at the level of its height, and a level contains only nodes of the list.
pub record AreLevels (graph : List Obj) (nodes : List ℕ) (levels : List (Vec ℕ)) : Type 0 where
  pub has : (h o : ℕ) → Contains nodes o → (node_at graph o).height ≡ pos h → Has levels h o
  pub only : (h o : ℕ) → Has levels h o → Contains nodes o × ((node_at graph o).height ≡ pos h)

-- The height of the node is not negative.
abbrev pub HasLevel : List Obj → ℕ → Type 0
HasLevel graph o = (h : ℕ) × ((node_at graph o).height ≡ pos h)

-- If the value is a reference, then its object is at a lower level.
abbrev pub IsEarlier : List (Vec ℕ) → ℕ → Val → Type 0
IsEarlier levels h (vals.Int z) = Unit {0}
IsEarlier levels h (vals.Atom tag) = Unit {0}
IsEarlier levels h (vals.Ref p) = (g : ℕ) × (g < h) × Has levels g p

-- The parts of each node are at lower levels.
pub record AreRising (graph : List Obj) (levels : List (Vec ℕ)) : Type 0 where
  pub inside : (h o : ℕ) → Has levels h o → o < length graph
  pub left : (h o : ℕ) → Has levels h o → IsEarlier levels h (node_at graph o).left
  pub right : (h o : ℕ) → Has levels h o → IsEarlier levels h (node_at graph o).right
