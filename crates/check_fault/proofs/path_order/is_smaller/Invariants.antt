use Rattle.std.proofs.Common.{ℕ, ◌≡◌, ◌<◌, get_or}
use Rattle.check_fault.proofs.path_order.is_smaller.Given as goal

-- The steps of the two paths before index `i` are equal.
abbrev pub invariant-loop-i : goal.invariant-loop-i
invariant-loop-i l = (k : ℕ) → k < l.i → get_or l.first k 0 ≡ get_or l.second k 0
