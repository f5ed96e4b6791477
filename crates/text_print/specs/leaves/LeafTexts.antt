-- The texts of values that have no parts, as literals of OCaml's reference manual. A double is a
-- `$` and the digits of its bits, a notation of this project.
use Rattle.std.specs.Prelude.{ℕ, ℤ, ◌+◌, ◌/◌, ◌%◌, ◌&&◌, ◌||◌, ◌==◌, nat_le, if◌then◌else◌, Option}
use Rattle.std.specs.Prelude.{Some, None, List, [], ◌∷◌, ◌++◌, codes}
use Rattle.std.specs.List.{flat_map}
use Rattle.std.specs.Fmt.{signed_decimal}
use Rattle.std.specs.Int.{w64, to_be_bytes}
use Rattle.hex.specs.Hex.{encode_lower}

-- ---- characters: 39 is a quote, 34 a double quote, 92 a backslash

-- The letters n, t, b and r denote line feed, tab, backspace and carriage return.
abbrev pub letter_of : ℕ → Option ℕ
letter_of b =
    if b == 10 then Some 110
    else
    (if b == 9 then Some 116
    else (if b == 8 then Some 98 else (if b == 13 then Some 114 else None)))

abbrev pub three_digits : ℕ → List ℕ
three_digits b = (48 + b / 100) ∷ (48 + b / 10 % 10) ∷ (48 + b % 10) ∷ []

-- The text of a byte without a letter: the byte if it is printable, and a backslash with three
-- digits if the byte is not printable.
abbrev pub plain_or_digits : ℕ → List ℕ
plain_or_digits b = if nat_le 32 b && nat_le b 126 then b ∷ [] else 92 ∷ three_digits b

abbrev pub letter_or : ℕ → Option ℕ → List ℕ
letter_or b None = plain_or_digits b
letter_or b (Some letter) = 92 ∷ letter ∷ []

-- The text of a byte between quotes `quote`.
abbrev pub escaped : ℕ → ℕ → List ℕ
escaped quote b = if b == 92 || b == quote then 92 ∷ b ∷ [] else letter_or b (letter_of b)

abbrev pub char_text : ℕ → List ℕ
char_text b = 39 ∷ (escaped 39 b ++ 39 ∷ [])

abbrev pub string_text : List ℕ → List ℕ
string_text bytes = 34 ∷ (flat_map (escaped 34) bytes ++ 34 ∷ [])

-- ---- numbers

abbrev pub int32_text : ℤ → List ℕ
int32_text z = signed_decimal z ++ codes "l"

abbrev pub int64_text : ℤ → List ℕ
int64_text z = signed_decimal z ++ codes "L"

abbrev pub native_text : ℤ → List ℕ
native_text z = signed_decimal z ++ codes "n"

-- The text of a double: a `$` and sixteen hexadecimal digits in lower case.
abbrev pub float_text : ℕ → List ℕ
float_text bits = codes "$" ++ encode_lower (to_be_bytes w64 bits)

-- The text of a value of `unit`, `bool` or `char`. `unit` has 1 value, `bool` has 2, and `char` has
-- 256.
abbrev pub below_text : ℕ → ℕ → List ℕ
below_text many n =
    if many == 1 then codes "()"
    else (if many == 2 then (if n == 0 then codes "false" else codes "true") else char_text n)
