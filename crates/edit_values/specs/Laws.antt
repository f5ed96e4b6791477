-- Laws on edits. The answer is unique, and answers by the numbers of a table correspond to answers
-- by the types.
use Rattle.std.specs.Prelude.{ℕ, ◌≡◌, Ok, Err, List}
use Rattle.base_data.specs.declared.model.value.Val.{Val}
use Rattle.base_data.specs.declared.model.value.Obj.{Obj}
use Rattle.types_spec.specs.declared.types.decl.Decl.{Decl}
use Rattle.types_spec.specs.types.WellFormed.{AreWellFormed, IsSoundType}
use Rattle.types_spec.specs.types.Equal.{Equal}
use Rattle.types_spec.specs.types.Names.{names_of}
use Rattle.types_spec.specs.types.Reached.{IsReached}
use Rattle.types_spec.specs.types.Shape.{shape}
use Rattle.types_spec.specs.types.Ty.{Ty}
use Rattle.types_spec.specs.types.TypeText.{type_text}
use Rattle.types_table.specs.declared.type_table.tabled.Tabled.{Tabled}
use Rattle.types_table.specs.type_table.Made.{table_of, IsLawful, IsTypeTable}
use Rattle.check_fault.specs.FaultText.{text_at}
use Rattle.text_path.specs.declared.edits.Edit.{Edit}
use Rattle.text_path.specs.declared.edits.ScriptLine.{ScriptLine}
use Rattle.edit_values.specs.EditedLines.{AreEdited}
use Rattle.edit_values.specs.EditedValues.{EditAnswer, Edited, IsAnswer}
use Rattle.edit_values.specs.Grafts.{Other}
use Rattle.edit_values.specs.Reasons.{reason_text}
use Rattle.edit_values.specs.TableEdits.{IsAnswerIn}

-- The answer to an edit of a value at a declared type.
abbrev pub IsDeclaredAnswer : List Decl → Ty → Edit → List Obj → Val → EditAnswer Ty → Type 0
IsDeclaredAnswer decls t edit graph root answer =
    IsAnswer (shape decls) (names_of decls) (Equal decls) t edit graph root answer

-- The result of consecutive lines for a value of a declared type. `others` are the earlier values.
abbrev pub AreDeclaredEdits : List Decl → Ty → List Other → List ScriptLine → List Obj → Val
    → Edited Ty → Type 0
AreDeclaredEdits decls t others lines graph root all =
    AreEdited (shape decls) (names_of decls) (Equal decls) t others lines graph root all

-- At most one answer satisfies the predicate.
abbrev pub IsAtMostOne : {A : Type 0} → (A → Type 0) → Type 0
IsAtMostOne {A} Is = (answer other : A) → Is answer → Is other → answer ≡ other

-- An edit has at most one answer, by the numbers of a table and by types. A list of script lines
-- has at most one answer, too.
pub record EditsHaveOneAnswer : Type 0 where
  pub by_numbers : (table : Tabled) → IsLawful (table_of table)
      → (edit : Edit) (graph : List Obj) (root : Val)
      → IsAtMostOne (IsAnswerIn table edit graph root)
  pub by_types : (decls : List Decl) (t : Ty) (types : List Ty) → AreWellFormed decls
      → IsSoundType decls t → IsReached decls t types
      → (edit : Edit) (graph : List Obj) (root : Val)
      → IsAtMostOne (IsDeclaredAnswer decls t edit graph root)
  pub in_order : (decls : List Decl) (t : Ty) (types : List Ty) → AreWellFormed decls
      → IsSoundType decls t → IsReached decls t types
      → (others : List Other) (lines : List ScriptLine) (graph : List Obj) (root : Val)
      → IsAtMostOne (AreDeclaredEdits decls t others lines graph root)

-- The answers are one value, or are reasons with one text for every form of printing positions.
abbrev pub SayTheSame : Tabled → EditAnswer ℕ → EditAnswer Ty → Type 0
SayTheSame table (Ok edited) (Ok other) = edited ≡ other
SayTheSame table (Err reason) (Err other) =
    (known : ℕ → List ℕ)
    → reason_text (text_at table) known reason ≡ reason_text type_text known other
SayTheSame table (Ok edited) (Err other) = ⊥
SayTheSame table (Err reason) (Ok other) = ⊥

-- An answer by the numbers of a table corresponds to an answer by the types.
abbrev pub TablesEditAgree : Type 0
TablesEditAgree =
    (decls : List Decl) (t : Ty) (table : Tabled) → IsTypeTable decls t table
    → (edit : Edit) (graph : List Obj) (root : Val) (answer : EditAnswer ℕ)
    → IsAnswerIn table edit graph root answer
    → (other : EditAnswer Ty) × IsDeclaredAnswer decls t edit graph root other
    × SayTheSame table answer other
