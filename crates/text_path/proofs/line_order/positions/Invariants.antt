use Rattle.std.proofs.Common.{◌≡◌, ◌+◌, ◌++◌, length}
use Rattle.text_path.specs.LineOrder.{positions_from}
use Rattle.text_path.proofs.line_order.positions.Given as goal

abbrev pub invariant-loop-line : goal.invariant-loop-line
invariant-loop-line l = record {
  counted : l.position + length l.rest ≡ length l.initial.rest;
  placed : l.positions.items ++ positions_from l.position l.rest ≡ positions_from 0 l.initial.rest;
}

abbrev pub decreases-loop-line : goal.decreases-loop-line
decreases-loop-line l = length l.rest
