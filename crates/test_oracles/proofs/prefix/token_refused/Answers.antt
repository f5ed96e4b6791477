use Rattle.std.proofs.Common.{ℕ, zero, suc, ◌≡◌, ◌≤◌, List, take, None, refl, arith}
use Rattle.marshal_spec.specs.format.Step.{Context, token_steps}
use Rattle.test_oracles.specs.Step.{context_of}
use Rattle.test_oracles.specs.Prefix.{refusal_at}
use Rattle.test_oracles.proofs.prefix.token_refused.Goals as goal

-- The empty prefix is not refused.
none_refused : (c : Context) (bytes : List ℕ) (k : ℕ) → k ≤ 0 → refusal_at c (take k bytes) ≡ None
unfolding token_steps
none_refused c bytes zero l = refl
none_refused c bytes (suc k) l = absurd (omega arith)

pub loop-i-init : goal.loop-i-init
loop-i-init c = none_refused (context_of c.args.c.now) c.args.bytes.now
