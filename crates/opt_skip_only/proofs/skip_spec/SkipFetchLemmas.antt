-- With `--skip`, commands request the files that they request without `--skip`.
use Rattle.std.proofs.Common.{ℕ, List}
use Rattle.base_io.specs.StreamState.{FilesState, Change}
use Rattle.cli_spec.specs.Outcome.{Request}
use Rattle.run_spec.specs.runs.Account.{FetchesFor}
use Rattle.run_spec.specs.runs.Commands.{Fetches, Commands}
use Rattle.run_spec.proofs.command_sum.BesideLemmas.{fetches_beside}
use Rattle.opt_skip_only.specs.skip_spec.Skipping.{SkippedBytes, skipping}

module _ {A : Type 0} (passed_by : Request → SkippedBytes) (c : Commands A) (arguments : List (List ℕ)) (found : Fetches) where
  pub fetches_after :
      (files : Change FilesState) → FetchesFor c arguments files found
      → FetchesFor (skipping passed_by c) arguments files found
  fetches_after files h = fetches_beside passed_by c (skipping passed_by c) arguments files found h
