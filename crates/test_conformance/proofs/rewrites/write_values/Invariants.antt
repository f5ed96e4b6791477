use Rattle.std.proofs.Common.{◌≤◌, length}
use Rattle.test_conformance.proofs.rewrites.write_values.Given as goal

abbrev pub invariant-loop : goal.invariant-loop
invariant-loop g l = length l.rest ≤ length l.bytes
