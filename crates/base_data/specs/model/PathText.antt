-- The text of a path.
use Rattle.std.specs.Prelude.{ℕ, List, [], ◌∷◌, ◌++◌, flat_map, codes, decimal}

-- The text of steps: a dot and a number for each step.
abbrev pub steps_text : List ℕ → List ℕ
steps_text steps = flat_map (λ step. codes "." ++ decimal step) steps

-- The text of a path. The root's path is a single dot.
abbrev pub path_text : List ℕ → List ℕ
path_text [] = codes "."
path_text (step ∷ steps) = steps_text (step ∷ steps)
