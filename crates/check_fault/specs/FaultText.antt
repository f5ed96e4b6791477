-- The texts of types by number, of kinds, and of faults.
use Rattle.std.specs.Prelude.{ℕ, ◌≡◌, List, [], ◌++◌, Option, Some, None, codes, decimal, slice_get}
use Rattle.base_data.specs.declared.model.code.Custom.TheVariants as customs
use Rattle.base_data.specs.declared.model.value.Val.{Val}
use Rattle.base_data.specs.declared.model.value.Obj.{Obj}
use Rattle.marshal_heap.specs.declared.heap.kind.Kind.{Kind}
use Rattle.marshal_heap.specs.declared.heap.kind.Kind.TheVariants as kinds
use Rattle.types_spec.specs.declared.types.fault.Fault.{Fault}
use Rattle.types_spec.specs.types.Table.{table_shapes}
use Rattle.types_spec.specs.types.Ty.{Ty}
use Rattle.types_spec.specs.types.TypeText.{type_text}
use Rattle.types_spec.specs.types.VerdictText.{IsFaultText, kind_text}
use Rattle.types_table.specs.declared.type_table.tabled.Tabled.{Tabled}
use Rattle.types_table.specs.type_table.Made.{types_of, table_of}

-- The text of a type. If there is no type, the text is empty.
abbrev pub text_or_none : Option Ty → List ℕ
text_or_none None = []
text_or_none (Some t) = type_text t

-- The text of the type with this number.
abbrev pub text_at : Tabled → ℕ → List ℕ
text_at table number = text_or_none (slice_get (types_of table) number)

-- The text of a step: a dot and the index of the field.
abbrev pub step_text : ℕ → List ℕ
step_text step = codes "." ++ decimal step

-- The description of an object, by its kind.
abbrev pub text_of_kind : Kind → List ℕ
text_of_kind (kinds.Block tag size) =
    codes "block " ++ decimal tag ++ codes " of " ++ decimal size
text_of_kind (kinds.Bytes len) = codes "string"
text_of_kind kinds.Double = codes "float"
text_of_kind (kinds.Doubles len) = codes "float array of " ++ decimal len
text_of_kind (kinds.Custom (customs.I32 z)) = codes "int32"
text_of_kind (kinds.Custom (customs.I64 z)) = codes "int64"
text_of_kind (kinds.Custom (customs.Native z)) = codes "nativeint"

-- The text after the path of a mismatch: the expected type, given by its number, and what was
-- found.
abbrev pub found_text : Tabled → List Obj → Val → ℕ → List ℕ
found_text table graph v number =
    codes ": expected " ++ text_at table number ++ codes ", found " ++ kind_text graph v

-- The text of the fault is appended to the old text.
abbrev pub WritesFault : Tabled → List Obj → Val → Fault → List ℕ → List ℕ → Type 0
WritesFault table graph v fault old new =
    (text : List ℕ)
    × IsFaultText (table_shapes (table_of table)) (text_at table) graph v 0 fault text
    × (new ≡ old ++ text)
