use Rattle.std.proofs.Common.{◌-◌}
use Rattle.cert_verify.specs.certificate.Testing.{IsBetween}
use Rattle.cert_verify.proofs.certificate.held.start_of.Given as goal

abbrev pub invariant-loop-low : goal.invariant-loop-low
invariant-loop-low l = IsBetween l.pairs l.object l.low l.high

abbrev pub decreases-loop-low : goal.decreases-loop-low
decreases-loop-low l = l.high - l.low
