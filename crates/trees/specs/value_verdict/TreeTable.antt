-- Tables with which the sets and maps in a value can be checked.
use Rattle.std.specs.Prelude.{ℕ, ◌↔◌, Bool, false, List, IsTrue, slice_index_or}
use Rattle.base_data.specs.declared.model.value.Val.{Val}
use Rattle.base_data.specs.declared.model.value.Obj.{Obj}
use Rattle.types_table.specs.declared.type_table.tabled.Tabled.{Tabled}
use Rattle.trees.specs.declared.search_trees.tree_verdict.TreeVerdict.{TreeVerdict}
use Rattle.trees.specs.search_trees.TreeType.{shape_in, names_in, SameClass, IsTreeNumber}
use Rattle.trees.specs.search_trees.TreeVerdict.{IsTreeVerdict}

-- If a type is equal to the type of a set or a map, then the type is the type of a set or a map.
abbrev pub IsTreeTable : Tabled → Type 0
IsTreeTable table =
    (i j : ℕ) → SameClass table i j → IsTreeNumber table j → IsTreeNumber table i

-- Exactly the types of sets and maps are marked.
abbrev pub AreMarked : Tabled → List Bool → Type 0
AreMarked table found =
    (t : ℕ) → IsTrue (slice_index_or found t false) ↔ IsTreeNumber table t

-- The verdict on the value at type 0.
abbrev pub IsTableVerdict : Tabled → List Obj → Val → TreeVerdict → Type 0
IsTableVerdict table graph root verdict =
    IsTreeVerdict (shape_in table) (names_in table) (SameClass table) graph root 0 verdict
