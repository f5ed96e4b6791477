use Rattle.std.proofs.Common.{◌≡◌, take}
use Rattle.std.specs.Prelude.{map}
use Rattle.cert_produce.specs.LeastFaults.{at_least}
use Rattle.cert_produce.proofs.normal.at_least_faults.Given as goal

abbrev pub invariant-loop-k : goal.invariant-loop-k
invariant-loop-k l = l.pairs.items ≡ map (at_least l.least_faults) (take l.k l.typing)
