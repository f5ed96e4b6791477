-- A verdict with a table is the verdict with the types of which the table was made.
use Rattle.std.specs.Prelude.{◌↔◌, List, IsTrue}
use Rattle.base_data.specs.declared.model.value.Val.{Val}
use Rattle.base_data.specs.declared.model.value.Obj.{Obj}
use Rattle.types_spec.specs.declared.types.decl.Decl.{Decl}
use Rattle.types_spec.specs.types.Ty.{Ty}
use Rattle.types_spec.specs.types.WellFormed.{AreWellFormed, IsSoundType}
use Rattle.types_spec.specs.types.Equal.{declared_shapes}
use Rattle.types_spec.specs.types.Reached.{IsReached}
use Rattle.types_spec.specs.types.Typing.{HasType}
use Rattle.types_table.specs.declared.type_table.tabled.Tabled.{Tabled}
use Rattle.types_table.specs.type_table.Made.{IsTypeTable}
use Rattle.trees.specs.declared.search_trees.tree_verdict.TreeVerdict.{TreeVerdict}
use Rattle.trees.specs.search_trees.Laws.{HasSearchTrees, IsVerdictOf}
use Rattle.trees.specs.value_verdict.TreeTable.{IsTreeTable, IsTableVerdict}
use Rattle.trees.specs.value_verdict.TreeVerdictText.{is_sound}

-- Sets and maps can be checked with the table of a sound type over well-formed declarations.
abbrev pub TablesJudgeTrees : Type 0
TablesJudgeTrees =
    (decls : List Decl) (t : Ty) (table : Tabled) → AreWellFormed decls → IsSoundType decls t
    → IsTypeTable decls t table → IsTreeTable table

-- The verdict with the table of a type is the verdict with the type.
abbrev pub TablesHaveTheVerdict : Type 0
TablesHaveTheVerdict =
    (decls : List Decl) (t : Ty) (table : Tabled) → IsTypeTable decls t table
    → (graph : List Obj) (root : Val) (verdict : TreeVerdict)
    → IsTableVerdict table graph root verdict ↔ IsVerdictOf decls graph root t verdict

-- If a value has its type, then the verdict is `sound` if and only if each set and each map in the
-- value is a search tree. A search tree is finite and balanced, with increasing elements and
-- correct heights.
abbrev pub SoundVerdictsReportSearchTrees : Type 0
SoundVerdictsReportSearchTrees =
    (decls : List Decl) (t : Ty) (types : List Ty) → AreWellFormed decls → IsSoundType decls t
    → IsReached decls t types
    → (graph : List Obj) (root : Val) → HasType (declared_shapes decls) graph root t
    → (verdict : TreeVerdict) → IsVerdictOf decls graph root t verdict
    → IsTrue (is_sound verdict) ↔ HasSearchTrees decls graph root t

-- Suppose a value has its type. Then the verdict with the type's table is `sound` if and only if
-- each set and each map in the value is a search tree.
abbrev pub SoundTableVerdictsReportSearchTrees : Type 0
SoundTableVerdictsReportSearchTrees =
    (decls : List Decl) (t : Ty) (table : Tabled) → AreWellFormed decls → IsSoundType decls t
    → IsTypeTable decls t table
    → (graph : List Obj) (root : Val) → HasType (declared_shapes decls) graph root t
    → (verdict : TreeVerdict) → IsTableVerdict table graph root verdict
    → IsTrue (is_sound verdict) ↔ HasSearchTrees decls graph root t
