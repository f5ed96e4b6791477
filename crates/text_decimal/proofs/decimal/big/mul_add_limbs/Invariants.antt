use Rattle.std.proofs.Common.{◌≡◌, ℕ, ◌+◌, ◌*◌, ◌≤◌, get_or}
use Rattle.text_decimal.specs.decimal.Limbs.{limb_weight, number_below}
use Rattle.text_decimal.proofs.decimal.big.mul_add_limbs.Given as goal

abbrev pub invariant-loop-i : goal.invariant-loop-i
invariant-loop-i l =
    (number_below l.limbs l.i + l.carry * limb_weight l.i ≡ number_below l.fn.limbs l.i * l.by + l.add) × ((k : ℕ) → l.i ≤ k → get_or l.limbs k 0 ≡ get_or l.fn.limbs k 0)
