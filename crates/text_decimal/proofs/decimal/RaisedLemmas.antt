-- Let the decimal `digits`, `power` read as the double. At the next power, the decimal's neighbours
-- have the digits `digits / 10` and `digits / 10 + 1`. If neither neighbour reads as the double,
-- then no decimal of a greater power reads as the double.
use Rattle.std.proofs.Common.{◌≡◌, ℕ, ◌+◌, ◌-◌, ◌*◌, ◌/◌, ◌^◌, ◌<◌, inl, inr, arith, sym, subst}
use Rattle.std.proofs.lemmas.Bool.{cases_lt}
use native.Mathlib.Nat.{mul-pos}
use Rattle.fast_float.proofs.ExactLemmas.{ten_to_pos}
use Rattle.text_decimal.specs.decimal.Doubles.{IsSome, IsNearest, Reads, IsHighest}
use Rattle.text_decimal.proofs.decimal.NearestLemmas.{between, lowered, lifted}

pub none_higher : (size digits power : ℕ) → IsSome size → Reads size digits power → ¬ Reads size (digits / 10) (power + 1) → ¬ Reads size (digits / 10 + 1) (power + 1)
    → (other : ℕ) → 0 < other → ¬ IsNearest size other (power + 1)
none_higher size digits power some r low high other O q =
    let ten : IsNearest size (other * 10 ^ 1) power = lowered size other power 1 q in
    elim (cases_lt (digits / 10) other) [
      | inl g ↦ high (record {
        some = omega arith;
        few = omega (arith, r.few);
        nearest = lifted size (digits / 10 + 1) power 1 (between size digits ((digits / 10 + 1) * 10 ^ 1) (other * 10 ^ 1) power some (omega arith) (omega arith) r.nearest ten);
      })
      | inr l ↦ low (record {
        some = omega arith;
        few = omega (arith, r.few);
        nearest = lifted size (digits / 10) power 1 (between size (other * 10 ^ 1) (digits / 10 * 10 ^ 1) digits power some (omega arith) (omega arith) ten r.nearest);
      })
    ]

pub highest_is : (size power : ℕ) → ((other : ℕ) → 0 < other → ¬ IsNearest size other (power + 1)) → IsHighest size power
highest_is size power none digits above r =
    elim (cases_lt power above) [
      | inr l ↦ l
      | inl g ↦
          let e : power + 1 + (above - (power + 1)) ≡ above = omega arith in
          let k = above - (power + 1) in
          absurd (none (digits * 10 ^ k) (mul-pos r.some (ten_to_pos k)) (lowered size digits (power + 1) k (subst (IsNearest size digits) (sym e) r.nearest)))
    ]
