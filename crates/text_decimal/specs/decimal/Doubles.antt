-- Doubles and the decimals that read as doubles. A decimal denotes digits * 10 ^ (power - 342). The
-- size of a double is its bits without the sign.
use Rattle.std.specs.Prelude.{ℕ, ◌+◌, ◌-◌, ◌*◌, ◌/◌, ◌%◌, ◌^◌, ◌<◌, ◌≤◌, ◌≡◌, ◌≢◌, Bool, nat_lt}
use Rattle.std.specs.Prelude.{nat_le, if◌then◌else◌}
use Rattle.std.specs.Float.Ieee.{binary64}
use Rattle.fast_float.specs.Rounding.{IsNearestBits}

abbrev pub is_negative : ℕ → Bool
is_negative bits = nat_le (2 ^ 63) bits

abbrev pub size_of : ℕ → ℕ
size_of bits = bits % 2 ^ 63

-- The size of the infinities. The sizes of NaNs are greater.
abbrev pub infinite : ℕ
infinite = 2047 * 2 ^ 52

-- The double is neither 0 nor infinite nor a NaN.
abbrev pub IsSome : ℕ → Type 0
IsSome size = (0 < size) × (size < infinite)

-- The double with size `size` is the double nearest to the decimal.
abbrev pub IsNearest : (size digits power : ℕ) → Type 0
IsNearest size digits power =
    IsNearestBits binary64 (digits * 10 ^ (power - 342)) (10 ^ (342 - power)) size

-- The decimal has 1 to 19 digits and reads as the double with size `size`.
pub record Reads (size digits power : ℕ) : Type 0 where
  pub some : 0 < digits
  pub few : digits < 10 ^ 19
  pub nearest : IsNearest size digits power

-- ---- the distance between a decimal and a double

-- A double's size in units of the least double above 0, computed from its exponent field.
abbrev pub units_of : ℕ → ℕ
units_of size =
    if nat_lt size (2 ^ 52) then size else (2 ^ 52 + size % 2 ^ 52) * 2 ^ (size / 2 ^ 52 - 1)

-- A decimal with the power `power`, as a multiple of a unit that the decimal shares with the
-- double.
abbrev pub decimal_units : ℕ → ℕ → ℕ
decimal_units digits power = digits * 10 ^ (power - 342) * 2 ^ 1074

abbrev pub double_units : ℕ → ℕ → ℕ
double_units size power = units_of size * 10 ^ (342 - power)

-- The distance between the decimal and the double.
abbrev pub distance : (size digits power : ℕ) → ℕ
distance size digits power =
    (decimal_units digits power - double_units size power)
    + (double_units size power - decimal_units digits power)

-- ---- the shortest decimal

-- No decimal with a power greater than `power` reads as the double.
abbrev pub IsHighest : ℕ → ℕ → Type 0
IsHighest size power = (digits above : ℕ) → Reads size digits above → above ≤ power

-- The decimal has the greatest power among the decimals that read as the double. Among the decimals
-- with the greatest power, the decimal is the nearest. If two decimals are equally near, the
-- decimal has even digits.
pub record IsShortest (size digits power : ℕ) : Type 0 where
  pub reads : Reads size digits power
  pub highest : IsHighest size power
  pub closest : (other : ℕ) → Reads size other power
      → distance size digits power ≤ distance size other power
  pub even : (other : ℕ) → Reads size other power → other ≢ digits
      → distance size digits power ≡ distance size other power → digits % 2 ≡ 0

-- No decimal of at most 19 digits reads as the double.
abbrev pub HasNone : ℕ → Type 0
HasNone size = (digits power : ℕ) → ¬ Reads size digits power

-- ---- steps of the search

-- The digits `digits + 1` are no better choice than `digits`. If `digits + 1` reads as the double,
-- then the double is at most the halfway point. If the double is the halfway point, `digits` is
-- even.
abbrev pub IsNoBetterAbove : (size digits power : ℕ) → Type 0
IsNoBetterAbove size digits power =
    Reads size (digits + 1) power
    → (2 * double_units size power ≤ decimal_units (2 * digits + 1) power)
    × (2 * double_units size power ≡ decimal_units (2 * digits + 1) power → digits % 2 ≡ 0)

-- The digits `digits - 1` are no better choice than `digits`.
abbrev pub IsNoBetterBelow : (size digits power : ℕ) → Type 0
IsNoBetterBelow size digits power =
    Reads size (digits - 1) power
    → (decimal_units (2 * (digits - 1) + 1) power ≤ 2 * double_units size power)
    × (2 * double_units size power ≡ decimal_units (2 * (digits - 1) + 1) power
    → digits % 2 ≡ 0)
