use Rattle.std.proofs.Common.{ℕ, ◌≡◌, ◌≤◌, take, None}
use Rattle.test_oracles.specs.Step.{context_of}
use Rattle.test_oracles.specs.Prefix.{refusal_at}
use Rattle.test_oracles.proofs.prefix.token_refused.Given as goal

abbrev pub invariant-loop-i : goal.invariant-loop-i
invariant-loop-i l = (k : ℕ) → k ≤ l.i → refusal_at (context_of l.c) (take k l.bytes) ≡ None
