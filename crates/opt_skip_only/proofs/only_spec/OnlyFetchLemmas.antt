-- With `--only`, commands request the files that they request without `--only`.
use Rattle.std.proofs.Common.{ℕ, List, Option}
use Rattle.base_io.specs.StreamState.{FilesState, Change}
use Rattle.cli_spec.specs.Outcome.{Request}
use Rattle.run_spec.specs.runs.Account.{FetchesFor}
use Rattle.run_spec.specs.runs.Commands.{Fetches, Commands}
use Rattle.run_spec.proofs.command_sum.BesideLemmas.{fetches_beside}
use Rattle.opt_skip_only.specs.only_spec.OnlyCommand.{only_command}

module _ {A : Type 0} (picked_by : Request → Option ℕ) (c : Commands A) (arguments : List (List ℕ)) (found : Fetches) where
  pub fetches_picked :
      (files : Change FilesState) → FetchesFor c arguments files found
      → FetchesFor (only_command picked_by c) arguments files found
  fetches_picked files h = fetches_beside picked_by c (only_command picked_by c) arguments files found h
