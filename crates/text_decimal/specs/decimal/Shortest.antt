-- The shortest decimal of a double, found by a search of all decimals, and the double's text.
use Rattle.std.specs.Prelude.{ℕ, zero, suc, ◌+◌, ◌-◌, ◌*◌, ◌%◌, ◌^◌, Bool, false, ◌&&◌, ◌==◌}
use Rattle.std.specs.Prelude.{nat_lt, nat_le, if◌then◌else◌, List, ◌++◌, codes, Option, Some, None}
use Rattle.std.specs.Prelude.{to_bits}
use Rattle.std.specs.Float.Ieee.{binary64, round}
use Rattle.std.specs.Fmt.{sign_text}
use Rattle.text_print.specs.leaves.LeafTexts.{float_text}
use Rattle.text_decimal.specs.decimal.Doubles.{is_negative, size_of, infinite, distance}
use Rattle.text_decimal.specs.decimal.Layout.{size_text}

-- True if a decimal that is not 0 reads as the double with size `size`.
unfoldable pub reads : (size digits power : ℕ) → Bool
reads size digits power =
    nat_lt 0 digits
    && to_bits binary64 (round binary64 false (digits * 10 ^ (power - 342)) (10 ^ (342 - power)))
    == size

-- The rank of a decimal. A decimal nearer to the double has a lower rank. If two decimals are
-- equally near, the decimal with even digits has the lower rank.
abbrev pub rank : (size digits power : ℕ) → ℕ
rank size digits power = 2 * distance size digits power + digits % 2

abbrev pub better_of : (ℕ → ℕ) → ℕ → Option ℕ → ℕ
better_of rank digits None = digits
better_of rank digits (Some other) = if nat_lt (rank digits) (rank other) then digits else other

-- The digits with the lowest rank, among the digits below `n` that read as the double.
unfoldable pub best_below : (size power n : ℕ) → Option ℕ
best_below size power zero = None
best_below size power (suc digits) =
    let fewer = best_below size power digits in
    if reads size digits power then Some (better_of (λ d. rank size d power) digits fewer)
    else fewer

abbrev pub or_lower : ℕ → Option ℕ → Option (ℕ × ℕ) → Option (ℕ × ℕ)
or_lower power None lower = lower
or_lower power (Some digits) lower = Some (digits, power)

-- The best digits and the power. The power is the greatest power below `n` of a decimal with at
-- most 19 digits that reads as the double.
unfoldable pub shortest_below : (size n : ℕ) → Option (ℕ × ℕ)
shortest_below size zero = None
shortest_below size (suc power) =
    or_lower power (best_below size power (10 ^ 19)) (shortest_below size power)

-- The shortest decimal of a double, or `None` if no decimal reads as the double. Decimals with
-- powers from 651 on read as infinity.
unfoldable pub shortest_of : ℕ → Option (ℕ × ℕ)
shortest_of size = shortest_below size 651

abbrev pub decimal_or_bits : ℕ → Option (ℕ × ℕ) → List ℕ
decimal_or_bits bits None = float_text bits
decimal_or_bits bits (Some decimal) =
    sign_text (is_negative bits) ++ size_text decimal.0 decimal.1

-- The text of the double with the bits `bits`.
unfoldable pub double_text : ℕ → List ℕ
double_text bits =
    if size_of bits == 0 then sign_text (is_negative bits) ++ codes "0."
    else
    (if nat_le infinite (size_of bits) then float_text bits
    else decimal_or_bits bits (shortest_of (size_of bits)))
