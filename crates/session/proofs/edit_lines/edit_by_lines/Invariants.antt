use Rattle.std.proofs.Common.{List, length}
use Rattle.edit_values.specs.Grafts.{Other}
use Rattle.session.specs.Earlier.{AreMade, AreServed}
use Rattle.session.proofs.EditLemmas.{EditedSoFar}
use Rattle.session.proofs.edit_lines.edit_by_lines.Given as goal

abbrev pub invariant-loop-line : goal.invariant-loop-line
invariant-loop-line l =
    ((others : List Other) → AreMade others l.kept
    → EditedSoFar l.requested others l.number l.script.lines l.rest l.initial.value l.value)
    × AreServed l.kept l.rest

abbrev pub decreases-loop-line : goal.decreases-loop-line
decreases-loop-line l = length l.rest
