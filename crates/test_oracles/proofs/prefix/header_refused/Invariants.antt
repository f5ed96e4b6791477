use Rattle.std.proofs.Common.{ℕ, ◌≡◌, ◌≤◌, take, None}
use Rattle.marshal_spec.specs.format.Prefix.{header_refusal}
use Rattle.test_oracles.proofs.prefix.header_refused.Given as goal

abbrev pub invariant-loop-i : goal.invariant-loop-i
invariant-loop-i l = (k : ℕ) → k ≤ l.i → header_refusal l.limit (take k l.bytes) ≡ None
