-- Copies of a value after the objects of a graph.
use Rattle.std.specs.Prelude.{ℕ, ◌+◌, ◌<◌, ◌≤◌, ◌≡◌, List, ◌++◌, length, All, Some, slice_get}
use Rattle.base_data.specs.declared.model.value.Val.{Val}
use Rattle.base_data.specs.declared.model.value.Val.TheVariants as vals
use Rattle.base_data.specs.declared.model.value.Obj.{Obj}
use Rattle.base_data.specs.declared.model.value.Obj.TheVariants as objects
use Rattle.marshal_spec.specs.format.Tree.{Tree, root, objects_of}
use Rattle.marshal_spec.specs.format.Isomorphism.{Isomorphism, IsTreeOf}

-- `objects` are copies of the objects that `v` reaches, in the order of their first visit, depth
-- first, numbered from `c`. The value `value` refers to these copies as `v` refers to the
-- originals.
pub record IsCopy (graph : List Obj) (v : Val) (c : ℕ) (objects : List Obj) (value : Val)
    : Type 0 where
  pub tree : Tree
  pub is : IsTreeOf graph v tree
  pub all : objects ≡ objects_of tree c
  pub top : value ≡ root tree c

-- The objects are in the graph, from number `c` on.
abbrev pub StandFrom : List Obj → ℕ → List Obj → Type 0
StandFrom graph c objects =
    (i : ℕ) (o : Obj) → slice_get objects i ≡ Some o → slice_get graph (c + i) ≡ Some o

-- If the value refers to an object, then the object's number is at least `c` and less than `n`.
abbrev pub IsWithin : ℕ → ℕ → Val → Type 0
IsWithin c n (vals.Int z) = Unit {0}
IsWithin c n (vals.Atom tag) = Unit {0}
IsWithin c n (vals.Ref k) = (c ≤ k) × (k < n)

-- Each field of the object that refers to an object refers to a number that is at least `c` and
-- less than `n`.
abbrev pub AreWithin : ℕ → ℕ → Obj → Type 0
AreWithin c n (objects.Block tag values) = All (IsWithin c n) values
AreWithin c n object = Unit {0}

-- The graph `new` is the graph `old` followed by a copy of the value `v`. The copy is the same
-- value as `v`, with its sharing and cycles, and refers to new objects only.
pub record HasCopy (old new : List Obj) (graph : List Obj) (v value : Val) : Type 0 where
  pub copied : List Obj
  pub is : IsCopy graph v (length old) copied value
  pub behind : new ≡ old ++ copied
  pub same : Isomorphism new value graph v
  pub top_is_new : IsWithin (length old) (length new) value
  pub all_are_new : All (AreWithin (length old) (length new)) copied
