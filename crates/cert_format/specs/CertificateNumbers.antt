-- The texts of numbers in a certificate.
use Rattle.std.specs.Prelude.{ℕ, ◌≡◌, ◌^◌, ◌<◌, List, ◌++◌, decimal}

-- Numbers are below 2^63.
abbrev pub IsNumber : ℕ → Type 0
IsNumber n = n < 2 ^ 63

-- The bytes are the text of the number `n`.
abbrev pub IsNumberText : List ℕ → ℕ → Type 0
IsNumberText bytes n = IsNumber n × (bytes ≡ decimal n)

-- The bytes are not the text of any number.
abbrev pub IsNoNumberText : List ℕ → Type 0
IsNoNumberText bytes = (n : ℕ) → ¬ IsNumberText bytes n

-- The bytes begin with the text of `n`. More digits may follow.
abbrev pub BeginsWithNumber : List ℕ → ℕ → List ℕ → Type 0
BeginsWithNumber bytes n rest = IsNumber n × (bytes ≡ decimal n ++ rest)
