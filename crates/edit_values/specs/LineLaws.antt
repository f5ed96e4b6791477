-- The result of a call for a script line. Answers to lines by the numbers of a table correspond to
-- answers by the types.
use Rattle.std.specs.Prelude.{ℕ, ◌≡◌, Option, Some, None, Result, Ok, Err, List, ⊤}
use Rattle.base_data.specs.declared.model.value.Val.{Val}
use Rattle.base_data.specs.declared.model.value.Obj.{Obj}
use Rattle.types_spec.specs.declared.types.decl.Decl.{Decl}
use Rattle.types_spec.specs.types.Equal.{Equal}
use Rattle.types_spec.specs.types.Names.{names_of}
use Rattle.types_spec.specs.types.Shape.{shape}
use Rattle.types_spec.specs.types.Ty.{Ty}
use Rattle.types_table.specs.declared.type_table.tabled.Tabled.{Tabled}
use Rattle.types_table.specs.type_table.Made.{IsTypeTable}
use Rattle.text_literal.specs.parser.LiteralAnswers.{shape_in, names_in}
use Rattle.text_path.specs.declared.edits.Action.{Action}
use Rattle.edit_values.specs.declared.edit_refusal.EditRefusal.{EditRefusal}
use Rattle.edit_values.specs.EditedLines.{IsLineAnswer}
use Rattle.edit_values.specs.EditedValues.{EditAnswer}
use Rattle.edit_values.specs.Grafts.{Other}
use Rattle.edit_values.specs.Laws.{SayTheSame}
use Rattle.edit_values.specs.Reasons.{Reason, reason_of}
use Rattle.edit_values.specs.TableEdits.{SameClass}

-- The answer to a line for a value at a declared type. `others` are the earlier values.
abbrev pub IsDeclaredLine : List Decl → Ty → List Other → Action → List Obj → Val → EditAnswer Ty
    → Type 0
IsDeclaredLine decls t others action graph root answer =
    IsLineAnswer (shape decls) (names_of decls) (Equal decls) t others action graph root answer

-- The answer to a line at type 0 of a table.
abbrev pub IsLineAnswerIn : Tabled → List Other → Action → List Obj → Val → EditAnswer ℕ → Type 0
IsLineAnswerIn table others action graph root answer =
    IsLineAnswer (shape_in table) (names_in table) (SameClass table) 0 others action graph root
    answer

abbrev pub IsLineRefusedFor : Tabled → List Other → Action → List Obj → Val → Option (Reason ℕ)
    → Type 0
IsLineRefusedFor table others action graph root None = ⊤
IsLineRefusedFor table others action graph root (Some reason) =
    IsLineAnswerIn table others action graph root (Err reason)

-- The result of a call. If the result is `Ok`, the line is executed. If the result is a refusal,
-- the value is unchanged, and the refusal states a reason or that memory ran out.
abbrev pub IsLineApplied : Tabled → List Other → Action → List Obj → Val → List Obj → Val
    → Result (Unit {0}) EditRefusal → Type 0
IsLineApplied table others action old old_root new new_root (Ok unit) =
    IsLineAnswerIn table others action old old_root (Ok (new, new_root))
IsLineApplied table others action old old_root new new_root (Err refusal) =
    (new ≡ old) × (new_root ≡ old_root)
    × IsLineRefusedFor table others action old old_root (reason_of refusal)

-- An answer by the numbers of a table corresponds to an answer by the types.
abbrev pub TablesAnswerLinesAgree : Type 0
TablesAnswerLinesAgree =
    (decls : List Decl) (t : Ty) (table : Tabled) → IsTypeTable decls t table
    → (others : List Other) (action : Action) (graph : List Obj) (root : Val)
    (answer : EditAnswer ℕ)
    → IsLineAnswerIn table others action graph root answer
    → (declared : EditAnswer Ty) × IsDeclaredLine decls t others action graph root declared
    × SayTheSame table answer declared
