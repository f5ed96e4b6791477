-- Lines copy from values that come before the edited values, whatever the offsets of literals are.
use Rattle.std.proofs.Common.{ℕ, List, [], ◌∷◌, map}
use Rattle.text_path.specs.ScriptAnswer.{IsInTime, AreInTime}
use Rattle.text_path.specs.declared.edits.Action.{Action}
use Rattle.text_path.specs.declared.edits.Action.TheVariants as actions
use Rattle.text_path.specs.declared.edits.ScriptLine.{ScriptLine}
use Rattle.text_decimal.specs.declared.texts.decimals.Decimal.{Decimal}
use Rattle.text_decimal.specs.scripts.Scripts.{decimals_on, given_action, given_line}

one_in_time : (value : ℕ) (decimals : List Decimal) (action : Action) → IsInTime value action → IsInTime value (given_action decimals action)
one_in_time value decimals (actions.Edit edit) is = tt
one_in_time value decimals (actions.Graft path other source) is = is

pub given_in_time : (all : List (List Decimal)) (lines : List ScriptLine) → AreInTime lines → AreInTime (map (given_line all) lines)
given_in_time all [] is = tt
given_in_time all (line ∷ lines) is = (one_in_time line.value (decimals_on all line.number) line.action is.0, given_in_time all lines is.1)
