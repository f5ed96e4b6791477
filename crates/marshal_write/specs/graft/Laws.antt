-- The laws of copies of values.
use Rattle.std.specs.Prelude.{ℕ, ◌+◌, ◌≡◌, List, length, All}
use Rattle.base_data.specs.declared.model.value.Val.{Val}
use Rattle.base_data.specs.declared.model.value.Obj.{Obj}
use Rattle.base_data.specs.model.Graph.{IsValue, IsGraph}
use Rattle.marshal_spec.specs.format.Isomorphism.{Isomorphism}
use Rattle.marshal_write.specs.graft.Copies.{IsCopy, StandFrom, IsWithin, AreWithin}

-- If a graph contains the objects of a copy from number `c` on, then the copy is the same value as
-- the original.
abbrev pub CopiesAreTheSame : Type 0
CopiesAreTheSame =
    (graph : List Obj) (v : Val) (c : ℕ) (objects : List Obj) (value : Val)
    → IsCopy graph v c objects value
    → (other : List Obj) → StandFrom other c objects → Isomorphism other value graph v

-- A value of a graph has exactly one copy after `c` objects.
pub record HasOneCopy (graph : List Obj) (v : Val) (c : ℕ) : Type 0 where
  pub copied : List Obj
  pub value : Val
  pub is : IsCopy graph v c copied value
  pub only : (others : List Obj) (other : Val) → IsCopy graph v c others other
      → (others ≡ copied) × (other ≡ value)

abbrev pub OneCopyFollows : Type 0
OneCopyFollows =
    (graph : List Obj) (v : Val) (c : ℕ) → IsGraph graph → IsValue (length graph) v
    → HasOneCopy graph v c

-- A copy refers only to its own objects, which come after the `c` objects before the copy.
abbrev pub CopiesAreClosed : Type 0
CopiesAreClosed =
    (graph : List Obj) (v : Val) (c : ℕ) (copied : List Obj) (value : Val)
    → IsCopy graph v c copied value
    → IsWithin c (c + length copied) value × All (AreWithin c (c + length copied)) copied
