-- Values that are edited.
use Rattle.std.specs.Prelude.{ℕ, ◌≡◌, List, ◌∷◌, length, option_map, Option, None, Some, Result, Ok}
use Rattle.std.specs.Prelude.{Err}
use Rattle.base_data.specs.declared.model.value.Val.{Val}
use Rattle.base_data.specs.declared.model.value.Obj.{Obj}
use Rattle.base_data.specs.model.Graph.{IsValue}
use Rattle.types_spec.specs.types.Equal.{Equal}
use Rattle.types_spec.specs.types.Names.{names_of}
use Rattle.types_spec.specs.types.Shape.{shape}
use Rattle.types_spec.specs.types.Ty.{Ty}
use Rattle.types_spec.specs.types.TypeText.{type_text}
use Rattle.edit_values.specs.EditedLines.{AreEdited}
use Rattle.edit_values.specs.EditedValues.{Edited}
use Rattle.edit_values.specs.Grafts.{Other}
use Rattle.base_data.specs.lines.Lines.{position_on}
use Rattle.edit_values.specs.Reasons.{Reason, reason_text}
use Rattle.check_fault.specs.FaultText.{text_at}
use Rattle.base_io.specs.StreamState.{ByteState, Change}
use Rattle.text_path.specs.declared.edits.ScriptLine.{ScriptLine}
use Rattle.marshal_read.specs.declared.returned_value.Value.{Value}
use Rattle.cli_spec.specs.Outcome.{Unedited, line_past}
use Rattle.cli_spec.specs.declared.exit.Exit.{Exit}
use Rattle.cli_spec.specs.declared.exit.Exit.TheVariants.{Script as script_line}
use Rattle.session.specs.declared.edit_lines.Edits.{Edits}
use Rattle.cli_errors.specs.declared.exit_line.Error.{Error}
use Rattle.cli_errors.specs.declared.exit_line.Error.TheVariants as aborts
use Rattle.run_types.specs.declared.requested.Prepared.{Prepared}
use Rattle.run_types.specs.Language.{declared_types, IsBytesLine, lines_of_value}
use Rattle.run_types.specs.RequestedTexts.{type_over}
use Rattle.run_types.specs.ValueBytes.{WritesAnswer}
use Rattle.run_types.specs.Checked.{OrMemory}

-- ---- lines

-- The result of script lines on a value at the type `r`, after the earlier values `others`.
abbrev pub Edit : Prepared → List Other → List ScriptLine → List Obj → Val → Edited Ty → Type 0
Edit r others lines graph v all =
    AreEdited (shape r.decls) (names_of r.decls) (Equal r.decls) r.ty others lines graph v all

-- A line was applied to a value: further lines on the new value give the result of the line and the
-- further lines on the old value. A line for a value other than `k` changes nothing.
pub record EditsOn (r : Prepared) (others : List Other) (k : ℕ) (line : ScriptLine)
    (old new : Value) : Type 0 where
  pub valid : IsValue (length new.heap) new.root
  pub goes_on : (rest : List ScriptLine) (all : Edited Ty)
      → Edit r others (lines_of_value k rest) new.heap new.root all
      → Edit r others (lines_of_value k (line ∷ rest)) old.heap old.root all

-- The exit reason for line `number`, which is refused for a reason. If there is no reason, there is
-- no exit reason.
abbrev pub IsReasonExit : Prepared → ℕ → Option (Reason ℕ) → Exit → Type 0
IsReasonExit r number None exit = ⊥
IsReasonExit r number (Some reason) exit =
    exit ≡ script_line number (reason_text (text_at r.table) (position_on r.lines number) reason)

-- The line is refused with the exit reason `exit`, whatever lines follow the line.
abbrev pub IsRefusedLine : Prepared → List Other → ℕ → ScriptLine → Value → Exit → Type 0
IsRefusedLine r others k line old exit =
    (reason : Reason Ty)
    × ((rest : List ScriptLine)
    → Edit r others (lines_of_value k (line ∷ rest)) old.heap old.root (Err (line.number, reason)))
    × (exit
    ≡ script_line line.number (reason_text type_text (position_on r.lines line.number) reason))

abbrev pub EditsLine : {U : Type 0} → Prepared → List Other → ℕ → ScriptLine → Value → Value
    → Result U Error → Type 0
EditsLine r others k line old new (Ok unit) = EditsOn r others k line old new
EditsLine r others k line old new (Err (aborts.Exit exit)) =
    OrMemory (IsRefusedLine r others k line old) exit
EditsLine r others k line old new (Err aborts.WriteFault) = ⊥

-- Some line of value `k` is refused.
abbrev pub AreRefusedLines : Prepared → List Other → ℕ → List ScriptLine → Value → Exit → Type 0
AreRefusedLines r others k lines old exit =
    (number : ℕ) × (reason : Reason Ty)
    × Edit r others (lines_of_value k lines) old.heap old.root (Err (number, reason))
    × (exit ≡ script_line number (reason_text type_text (position_on r.lines number) reason))

-- The result of the lines of value `k`.
pub record EditsAll (r : Prepared) (others : List Other) (k : ℕ) (lines : List ScriptLine)
    (old new : Value) : Type 0 where
  pub valid : IsValue (length new.heap) new.root
  pub made : Edit r others (lines_of_value k lines) old.heap old.root (Ok (new.heap, new.root))

abbrev pub EditsLines : {U : Type 0} → Prepared → List Other → ℕ → List ScriptLine → Value → Value
    → Result U Error → Type 0
EditsLines r others k lines old new (Ok unit) = EditsAll r others k lines old new
EditsLines r others k lines old new (Err (aborts.Exit exit)) =
    OrMemory (AreRefusedLines r others k lines old) exit
EditsLines r others k lines old new (Err aborts.WriteFault) = ⊥

-- ---- bytes

-- The output for value `k`, after the earlier values `others`.
abbrev pub AnswersOf : Edits → List Other → ℕ → List Obj → Val → Result (List ℕ) Unedited → Type 0
AnswersOf e others k graph v answer =
    IsBytesLine (type_over e.requested.now) others (lines_of_value k e.script.now.lines) e.compat
    graph v answer

abbrev pub WritesEdited : {U : Type 0} → Edits → List Other → ℕ → List Obj → Val → Change ByteState
    → Result U Error → Type 0
WritesEdited e others k graph v out result =
    WritesAnswer k (AnswersOf e others k graph v) out result

-- ---- the end

-- The number of the first line that edits none of the first `n` values.
abbrev pub IsPast : List ScriptLine → ℕ → Option ℕ → Type 0
IsPast lines n number = number ≡ option_map (λ line. line.number) (line_past declared_types lines n)
