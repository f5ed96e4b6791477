-- Ranges of consecutive numbers.
use Rattle.std.specs.Prelude.{ℕ, zero, suc, ◌+◌, List, [], ◌∷◌, ◌++◌}

-- The `n` consecutive numbers that begin with `first`.
abbrev pub row : ℕ → ℕ → List ℕ
row first zero = []
row first (suc n) = row first n ++ (first + n) ∷ []
