-- The consumed input and the outputs if one item is selected.
use Rattle.std.specs.Prelude.{ℕ, ◌≤◌, ◌≡◌, ◌⊎◌, Bool, List, length, Option, Some, None, Result, Ok}
use Rattle.std.specs.Prelude.{Err}
use Rattle.cli_spec.specs.Outcome.{Output, Reply, exits}
use Rattle.cli_spec.specs.declared.exit.Exit.TheVariants.{Memory as out_of_memory}
use Rattle.opt_skip_only.specs.only_spec.OnlyCommand.{missing}
use Rattle.opt_skip_only.specs.only_spec.OnlyOutput.{output_of_one}
use Rattle.run_spec.specs.runs.Account.{HaveNoExit}
use Rattle.run_spec.specs.runs.Commands.{Commands}
use Rattle.cli_errors.specs.declared.exit_line.Error.{Error}
use Rattle.cli_errors.specs.declared.exit_line.Error.TheVariants as aborts
use Rattle.run_loop.specs.work.Works.{Has}

abbrev pub output_by : Option ℕ → List Output → List Output
output_by None known = known
output_by (Some k) known = output_of_one k known

-- The selected item is not complete yet, because at most `k` outputs exist.
abbrev pub AreUpTo : Option ℕ → List Output → Type 0
AreUpTo None known = Unit {0}
AreUpTo (Some k) known = length known ≤ k

-- The command consumed the bytes `bytes`, and `known` would be the outputs for the items of the
-- bytes.
pub record HasPicked (picked : Option ℕ) (has : Has) (bytes : List ℕ) (output : List Output)
    : Type 0 where
  pub known : List Output
  pub output_are : output ≡ output_by picked known
  pub up_to : AreUpTo picked known
  pub there : has bytes known

module _ {A : Type 0} (c : Commands A) (a : A) where
  -- The run ends because the input ends before the selected item is complete, or because memory ran
  -- out.
  abbrev pub EndsBefore : Has → Result Bool Error → Type 0
  EndsBefore has (Ok ok) = ⊥
  EndsBefore has (Err (aborts.Exit exit)) =
      (bytes : List ℕ) (output : List Output) → has bytes output
      → (holds : HaveNoExit c a bytes output)
      × (((reply : Reply) × c.Ends a holds.items holds.rest reply
      × (exits exit ≡ missing (length holds.items) reply))
      ⊎ (exit ≡ out_of_memory))
  EndsBefore has (Err aborts.WriteFault) = ⊥
