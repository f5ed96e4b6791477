-- Definitions for the contracts of the line parser.
use Rattle.std.specs.Prelude.{ℕ, ◌≡◌, ◌≤◌, nat_le, if◌then◌else◌, Option, Some, None, Result, Ok}
use Rattle.std.specs.Prelude.{Err, List, [], length, take}
use Rattle.types_lex.specs.declared.lexeme.Lexeme.{Lexeme}
use Rattle.types_parse.specs.grammar.TypeMachine.{run}
use Rattle.types_parse.specs.grammar.Refusals.{IsSyntax}
use Rattle.types_parse.specs.grammar.LexemeKinds.{kinds_of}
use Rattle.text_path.specs.PathMachine.{at, accepted}
use Rattle.text_path.specs.LineGrammar.{line_kinds}
use Rattle.text_path.specs.LineMachine.{reading, literal, line_start, line_step}
use Rattle.text_path.specs.declared.edits.Action.{Action}
use Rattle.text_path.specs.declared.edits.Action.TheVariants as actions
use Rattle.text_path.specs.declared.edits.Edit.TheVariants as edits
use Rattle.text_path.specs.declared.edits.ScriptFault.{ScriptFault}
use Rattle.text_path.specs.declared.edits.ScriptFault.TheVariants as faults
use Rattle.text_path.specs.declared.edits.ScriptLine.{ScriptLine}
use Rattle.text_path.specs.declared.line_prefix.Role.{Role}
use Rattle.text_path.specs.declared.line_prefix.Role.TheVariants as roles
use Rattle.text_path.specs.declared.line_prefix.LinePrefix.{LinePrefix}
use Rattle.text_path.specs.declared.line_prefix.LinePrefix.TheVariants as prefixes
use Rattle.text_path.specs.declared.line_prefix.LineLexemes.{LineLexemes}
use Rattle.text_path.specs.declared.line_prefix.LineLexemes.TheVariants as tolds

abbrev pub IsKnown : List Lexeme → LineLexemes → Type 0
IsKnown lexemes (tolds.All f) = run line_step line_start (kinds_of lexemes) ≡ Some (reading f)
IsKnown lexemes (tolds.Literal value path position) =
    (position ≤ length lexemes)
    × (run line_step line_start (take position (kinds_of lexemes)) ≡ Some (literal value path []))
IsKnown lexemes (tolds.Stuck position) = IsSyntax line_kinds (kinds_of lexemes) position

abbrev pub action_of : Role → List ℕ → Option Action
action_of (roles.Source target) path = Some (actions.Edit (edits.Link target path))
action_of roles.Unshare path = Some (actions.Edit (edits.Unshare path))
action_of (roles.Part target other) path = Some (actions.Graft target other path)
action_of role path = None

abbrev pub numbered : ℕ → ℕ → Option Action → Option ScriptLine
numbered number value None = None
numbered number value (Some action) =
    Some (record { number = number; value = value; action = action })

abbrev pub whole_line : ℕ → ℕ → Role → Option (List ℕ) → Option ScriptLine
whole_line number value role None = None
whole_line number value role (Some path) = numbered number value (action_of role path)

abbrev pub ended_line : ℕ → LinePrefix → Option ScriptLine
ended_line number (prefixes.Steps value role path after_dot) =
    whole_line number value role (accepted (at path after_dot))
ended_line number f = None

-- The line. If the line copies from a value that does not come before the edited value, the error
-- `Later`.
abbrev pub in_time_by : ScriptLine → Action → Result ScriptLine ScriptFault
in_time_by line (actions.Edit edit) = Ok line
in_time_by line (actions.Graft path other source) =
    if nat_le line.value other then Err (faults.Later line.number) else Ok line

abbrev pub in_time : ScriptLine → Result ScriptLine ScriptFault
in_time line = in_time_by line line.action
