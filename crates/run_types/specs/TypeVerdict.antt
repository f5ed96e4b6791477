-- The verdict on a value at the type.
use Rattle.std.specs.Prelude.{ℕ, ◌≡◌, List, ◌++◌}
use Rattle.base_data.specs.declared.model.value.Val.{Val}
use Rattle.base_data.specs.declared.model.value.Obj.{Obj}
use Rattle.types_spec.specs.types.Equal.{declared_shapes}
use Rattle.types_spec.specs.types.TypeText.{type_text}
use Rattle.types_spec.specs.types.VerdictText.{IsNoLine}
use Rattle.types_table.specs.type_table.Made.{table_of}
use Rattle.types_theory.specs.type_variables.TypeVariables.{HasEachInstance}
use Rattle.check_heap.specs.check.Verdict.{IsVerdict}
use Rattle.check_heap.specs.declared.check.verdict.Verdict.{Verdict}
use Rattle.run_types.specs.declared.requested.Prepared.{Prepared}
use Rattle.run_types.specs.Language.{TypeOver}

-- The verdict is on the value at the first type of the table.
abbrev pub IsVerdictOf : Prepared → List Obj → Val → Verdict → Type 0
IsVerdictOf r graph root verdict = IsVerdict (table_of r.table) graph root verdict

-- The value does not have every closed instance of the type, and the line of its first fault is
-- appended to a text.
abbrev pub WritesNo : TypeOver → List Obj → Val → List ℕ → List ℕ → Type 0
WritesNo t graph root old new =
    (line : List ℕ) × IsNoLine (declared_shapes t.decls) type_text graph root t.type line
    × (¬ HasEachInstance t.decls graph root t.type) × (new ≡ old ++ line)
