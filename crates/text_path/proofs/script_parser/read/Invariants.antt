use Rattle.std.proofs.Common.{◌≤◌, ◌+◌, ◌-◌, length}
use Rattle.text_path.proofs.PathScriptLemmas.{Continues}
use Rattle.text_path.proofs.script_parser.read.Given as goal

abbrev pub invariant-loop-lines : goal.invariant-loop-lines
invariant-loop-lines l = record {
  within : l.at ≤ length l.text;
  counted : l.number ≤ l.at + 1;
  continues : Continues l.text l.at l.number l.lines;
}

abbrev pub decreases-loop-lines : goal.decreases-loop-lines
decreases-loop-lines l = length l.text - l.at
