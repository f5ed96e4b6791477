-- A search for the least digits whose decimal reads as no lesser double.
use Rattle.std.proofs.Common.{◌≢◌, ℕ, ◌+◌, ◌<◌, ◌≤◌, ◌^◌, inl, inr, arith}
use Rattle.std.proofs.lemmas.Bool.{cases_lt}
use Rattle.text_decimal.specs.decimal.Doubles.{IsNearest, Reads}
use Rattle.text_decimal.proofs.decimal.NearestLemmas.{power_mono}

-- All digits below `low` read as doubles below the given double.
abbrev pub AreLess : (size power low : ℕ) → Type 0
AreLess size power low =
    (digits : ℕ) → 0 < digits → digits < low → (other : ℕ) → IsNearest other digits power
    → other < size

-- The digits `high` read as a double that is not below the given double.
abbrev pub IsNoLess : (size power high : ℕ) → Type 0
IsNoLess size power high = (other : ℕ) → IsNearest other high power → size ≤ other

pub less_up_to : (size power middle bits : ℕ) → IsNearest bits middle power → bits < size → AreLess size power (middle + 1)
less_up_to size power middle bits p l digits some h other q = omega (arith, l, power_mono other bits power digits middle (omega arith) q p)

pub no_less : (size power middle bits : ℕ) → IsNearest bits middle power → size ≤ bits → IsNoLess size power middle
no_less size power middle bits p l other q = omega (arith, l, power_mono bits other power middle middle (omega arith) p q)

-- If the least digits do not read as the double, then no digits with the power `power` read as the
-- double.
pub none_at : (size power least bits : ℕ) → least < 10 ^ 19 → AreLess size power least → (least + 1 < 10 ^ 19 → IsNoLess size power least) → IsNearest bits least power → bits ≢ size
    → (digits : ℕ) → ¬ Reads size digits power
none_at size power least bits few less reaches p n digits r =
    elim (cases_lt digits least) [
      | inl l ↦ omega (arith, less digits r.some l size r.nearest)
      | inr g ↦
          let above : bits ≤ size = power_mono bits size power least digits g p r.nearest in
          elim (cases_lt (least + 1) (10 ^ 19)) [
            | inl l ↦ n (omega (arith, above, reaches l bits p))
            | inr h ↦ n (omega (arith, above, power_mono size bits power digits least (omega (arith, r.few)) r.nearest p))
          ]
    ]
