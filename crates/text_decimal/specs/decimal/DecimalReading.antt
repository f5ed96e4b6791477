-- Decimals in a text, and the doubles that they denote.
use Rattle.std.specs.Prelude.{ℕ, ◌+◌, ◌≡◌, ◌≢◌, Bool, false, ◌&&◌, ◌||◌, ◌==◌, nat_lt}
use Rattle.std.specs.Prelude.{if◌then◌else◌, List, [], ◌∷◌, ◌++◌, length, drop, slice_index, Option}
use Rattle.std.specs.Prelude.{Some, None, to_bits}
use Rattle.std.specs.Char.{is_ascii_digit}
use Rattle.std.specs.Float.Ieee.{binary64}
use Rattle.fast_float.specs.Text.{Parts, scan, nearest}

-- The text begins with a minus, the byte 45.
abbrev pub begins_with_minus : List ℕ → Bool
begins_with_minus text = slice_index text 0 == 45

abbrev pub minus_len : List ℕ → ℕ
minus_len text = if begins_with_minus text then 1 else 0

-- The longest numeral at the beginning of the text, after an optional minus.
abbrev pub numeral_in : List ℕ → Parts
numeral_in text = scan (drop (minus_len text) text)

-- The numeral has digits before the point, and has a point or an exponent.
abbrev pub is_decimal : Parts → Bool
is_decimal p = nat_lt 0 (length p.whole) && (p.point || nat_lt 0 (length p.exponent))

-- The bits of the double nearest to the number of a numeral.
abbrev pub bits_of : Bool → Parts → ℕ
bits_of negative p = to_bits binary64 (nearest binary64 negative p)

-- The decimal at the beginning of a text: the bits of its double, and its length in bytes.
abbrev pub decimal_at : List ℕ → Option (ℕ × ℕ)
decimal_at text =
    if is_decimal (numeral_in text)
    then Some (
      bits_of (begins_with_minus text) (numeral_in text),
      minus_len text + (numeral_in text).len,
    )
    else None

-- No decimal continues with the bytes. The byte 46 is the point, and 101 and 69 are `e` and `E`.
abbrev pub Stops : List ℕ → Type 0
Stops [] = Unit {0}
Stops (b ∷ bs) = (is_ascii_digit b ≡ false) × (b ≢ 46) × (b ≢ 101) × (b ≢ 69)

-- If bytes that continue no decimal follow the text, then the whole text is read as a decimal of
-- the double with the bits `bits`.
abbrev pub IsRead : List ℕ → ℕ → Type 0
IsRead text bits =
    (after : List ℕ) → Stops after → decimal_at (text ++ after) ≡ Some (bits, length text)
