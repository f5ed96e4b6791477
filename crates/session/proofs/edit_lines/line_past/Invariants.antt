use Rattle.std.proofs.Common.{◌≡◌, length}
use Rattle.cli_spec.specs.Outcome.{line_past}
use Rattle.run_types.specs.Language.{declared_types}
use Rattle.session.proofs.edit_lines.line_past.Given as goal

abbrev pub invariant-loop-line : goal.invariant-loop-line
invariant-loop-line l = line_past declared_types l.initial.lines l.count ≡ line_past declared_types l.rest l.count

abbrev pub decreases-loop-line : goal.decreases-loop-line
decreases-loop-line l = length l.rest
