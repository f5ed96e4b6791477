-- The text of a double. A finite double is printed as a decimal, a literal of OCaml's reference
-- manual.
use Rattle.std.specs.Prelude.{ℕ, ◌+◌, ◌-◌, ◌≤◌, ◌≡◌, ◌⊎◌, Bool, true, false, nat_lt, nat_le}
use Rattle.std.specs.Prelude.{if◌then◌else◌, List, [], ◌∷◌, ◌++◌, length, take, drop, replicate}
use Rattle.std.specs.Prelude.{codes}
use Rattle.std.specs.Fmt.{decimal, sign_text}
use Rattle.text_print.specs.leaves.LeafTexts.{float_text}
use Rattle.text_decimal.specs.decimal.Doubles.{is_negative, size_of, infinite, IsSome, IsShortest}
use Rattle.text_decimal.specs.decimal.Doubles.{HasNone}

-- A number of zeros. The byte 48 is `0`, 46 is the point, 101 is `e`, and 45 is the minus.
abbrev pub zeros : ℕ → List ℕ
zeros n = replicate n 48

-- The digits with a point after the first `n` digits. If there are fewer than `n` digits, zeros
-- fill the gap.
abbrev pub pointed : List ℕ → ℕ → List ℕ
pointed digits n = take n digits ++ (zeros (n - length digits) ++ 46 ∷ drop n digits)

-- The digits after the first digit, preceded by a point. If there are no digits, there is no point.
abbrev pub behind_point : List ℕ → List ℕ
behind_point [] = []
behind_point (d ∷ ds) = 46 ∷ d ∷ ds

-- The first digit, the later digits after a point, and an exponent.
abbrev pub scientific : List ℕ → Bool → ℕ → List ℕ
scientific digits negative exponent =
    take 1 digits
    ++ (behind_point (drop 1 digits) ++ 101 ∷ (sign_text negative ++ decimal exponent))

-- The digits, with the point after digit number `position` - 342. From 338 to 342, at most four
-- zeros follow the point. From 343 to 358, at most 16 digits precede the point.
abbrev pub placed : List ℕ → ℕ → List ℕ
placed digits position =
    if nat_lt position 338 then scientific digits true (343 - position)
    else
    (if nat_le position 342 then codes "0." ++ (zeros (342 - position) ++ digits)
    else
    (if nat_le position 358 then pointed digits (position - 342)
    else scientific digits false (position - 343)))

-- The text of the decimal with given digits and a given power.
abbrev pub size_text : ℕ → ℕ → List ℕ
size_text digits power = placed (decimal digits) (length (decimal digits) + power)

-- The double is finite and not 0, and `text` is the double's shortest decimal.
pub record IsDecimalOf (bits : ℕ) (text : List ℕ) : Type 0 where
  pub some : IsSome (size_of bits)
  pub digits : ℕ
  pub power : ℕ
  pub shortest : IsShortest (size_of bits) digits power
  pub text_is : text ≡ sign_text (is_negative bits) ++ size_text digits power

-- The double is infinite, is a NaN, or has no decimal, and `text` shows the double's bits.
pub record IsByBits (bits : ℕ) (text : List ℕ) : Type 0 where
  pub none : (infinite ≤ size_of bits) ⊎ (IsSome (size_of bits) × HasNone (size_of bits))
  pub text_is : text ≡ float_text bits

pub record IsZero (bits : ℕ) (text : List ℕ) : Type 0 where
  pub zero_is : size_of bits ≡ 0
  pub text_is : text ≡ sign_text (is_negative bits) ++ codes "0."

-- `text` is the text of the double with the bits `bits`.
abbrev pub IsDoubleText : ℕ → List ℕ → Type 0
IsDoubleText bits text = IsZero bits text ⊎ (IsDecimalOf bits text ⊎ IsByBits bits text)
