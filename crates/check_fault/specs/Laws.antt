-- The text of a fault by type numbers of a table equals the text by types.
use Rattle.std.specs.Prelude.{ℕ, List}
use Rattle.base_data.specs.declared.model.value.Val.{Val}
use Rattle.base_data.specs.declared.model.value.Obj.{Obj}
use Rattle.types_spec.specs.declared.types.decl.Decl.{Decl}
use Rattle.types_spec.specs.declared.types.fault.Fault.{Fault}
use Rattle.types_spec.specs.types.Equal.{declared_shapes}
use Rattle.types_spec.specs.types.Table.{table_shapes}
use Rattle.types_spec.specs.types.Ty.{Ty}
use Rattle.types_spec.specs.types.TypeText.{type_text}
use Rattle.types_spec.specs.types.VerdictText.{IsFaultText}
use Rattle.types_table.specs.declared.type_table.tabled.Tabled.{Tabled}
use Rattle.types_table.specs.type_table.Made.{table_of, IsTypeTable}
use Rattle.check_fault.specs.FaultText.{text_at}

abbrev pub TextsAreOfTypes : Type 0
TextsAreOfTypes =
    (decls : List Decl) (t : Ty) (table : Tabled) → IsTypeTable decls t table
    → (graph : List Obj) (v : Val) (fault : Fault) (text : List ℕ)
    → IsFaultText (table_shapes (table_of table)) (text_at table) graph v 0 fault text
    → IsFaultText (declared_shapes decls) type_text graph v t fault text
