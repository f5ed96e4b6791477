-- The laws of doubles as decimals.
use Rattle.std.specs.Prelude.{ℕ, ◌^◌, ◌<◌, ◌≡◌, ◌⊎◌, List}
use Rattle.text_print.specs.leaves.LeafTexts.{float_text}
use Rattle.text_decimal.specs.decimal.Layout.{IsDoubleText}
use Rattle.text_decimal.specs.decimal.DecimalReading.{IsRead}
use Rattle.text_decimal.specs.decimal.Shortest.{double_text}

-- A double has exactly one text, which is `double_text` of the double's bits.
abbrev pub DoublesHaveOneText : Type 0
DoublesHaveOneText =
    (bits : ℕ) → IsDoubleText bits (double_text bits)
    × ((text : List ℕ) → IsDoubleText bits text → text ≡ double_text bits)

-- Reading a double's text gives the same double, with all its bits.
abbrev pub DoublesAreReadBack : Type 0
DoublesAreReadBack =
    (bits : ℕ) → bits < 2 ^ 64 → (text : List ℕ) → IsDoubleText bits text
    → (text ≡ float_text bits) ⊎ IsRead text bits
