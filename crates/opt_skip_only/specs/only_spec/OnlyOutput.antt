-- The outputs if only one item is selected.
use Rattle.std.specs.Prelude.{ℕ, zero, suc, List, [], ◌∷◌}
use Rattle.cli_spec.specs.Outcome.{Output, nothing_output}

-- The outputs with `--only`, given the outputs without `--only`. The first `k` outputs become
-- empty.
abbrev pub output_of_one : ℕ → List Output → List Output
output_of_one k [] = []
output_of_one zero (output ∷ known) = output ∷ known
output_of_one (suc k) (output ∷ known) = nothing_output ∷ output_of_one k known
