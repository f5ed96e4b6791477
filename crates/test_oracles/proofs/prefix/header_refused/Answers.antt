use Rattle.std.proofs.Common.{ℕ, zero, suc, ◌≡◌, ◌≤◌, List, take, None, refl, arith}
use Rattle.marshal_spec.specs.format.Step.{header_steps}
use Rattle.marshal_spec.specs.format.Prefix.{header_refusal}
use Rattle.test_oracles.proofs.prefix.header_refused.Goals as goal

-- The empty prefix is not refused.
none_refused : (limit : ℕ) (bytes : List ℕ) (k : ℕ) → k ≤ 0 → header_refusal limit (take k bytes) ≡ None
unfolding header_steps
none_refused limit bytes zero l = refl
none_refused limit bytes (suc k) l = absurd (omega arith)

pub loop-i-init : goal.loop-i-init
loop-i-init c = none_refused c.args.limit c.args.bytes.now
