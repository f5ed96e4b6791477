use Rattle.std.proofs.Common.{◌≡◌, ◌-◌, ◌^◌}
use Rattle.marshal_write.proofs.write.WriterSumLemmas.{AreTotals}
use Rattle.marshal_write.specs.write.WriteWalk.{IsWalk}
use Rattle.marshal_write.proofs.write.measure.measure.Given as goal

abbrev pub invariant-tokens : goal.invariant-tokens
invariant-tokens l = record {
  walk : IsWalk l.heap l.walk;
  root : l.walk.root ≡ l.fn.walk.root;
  totals : AreTotals l.heap l.walk l.totals;
}

abbrev pub decreases-tokens : goal.decreases-tokens
decreases-tokens l = 2 ^ 64 - l.walk.given
