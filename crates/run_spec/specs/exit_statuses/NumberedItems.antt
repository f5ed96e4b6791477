-- Properties of values with their numbers.
use Rattle.std.specs.Prelude.{ℕ, suc, ◌⊎◌, List, [], ◌∷◌}
use Rattle.marshal_spec.specs.format.Tree.{Tree}

-- `Holds` is true of each value with its number, where `number` is the number of the first value.
abbrev pub HoldsOfAll : (ℕ → Tree → Type 0) → ℕ → List Tree → Type 0
HoldsOfAll Holds number [] = Unit {0}
HoldsOfAll Holds number (tree ∷ trees) = Holds number tree × HoldsOfAll Holds (suc number) trees

-- `Holds` is true of some value with its number, where `number` is the number of the first value.
abbrev pub HoldsOfSome : (ℕ → Tree → Type 0) → ℕ → List Tree → Type 0
HoldsOfSome Holds number [] = ⊥
HoldsOfSome Holds number (tree ∷ trees) = Holds number tree ⊎ HoldsOfSome Holds (suc number) trees
