-- A run of `gen` fetches no file and reads no input.
use Rattle.std.proofs.Common.{◌≡◌, ◌≤◌, ℕ, zero, suc, List, inl, inr, sym, ◌∙◌, subst, arith}
use Rattle.cli_spec.specs.Outcome.{Taken, Language}
use Rattle.base_io.specs.StreamState.{Change, FilesState, change}
use Rattle.run_spec.specs.runs.Account.{FetchesIn, FetchesFor, MayBe}
use Rattle.run_spec.specs.runs.Call.{Call}
use Rattle.run_spec.specs.runs.Commands.{Fetches, Given}
use Rattle.run_spec.specs.runs.Given.{Gathers}
use Rattle.cmd_gen.specs.spec.GenSpec.{gen_spec}
use Rattle.cmd_gen.specs.spec.ExitStatuses.{LeavesEnvironment}

module _ {D T E : Type 0} (language : Language D T E) (arguments : List (List ℕ)) where
  module _ (files : Change FilesState) (found : Fetches)
      (f : FetchesFor (gen_spec language) arguments files found) where
    unfetched_in :
        (turn : ℕ)
        → FetchesIn (gen_spec language) arguments (change (f.state turn) (f.state (suc turn))) found
        turn
        → f.state (suc turn) ≡ f.state turn
    unfetched_in turn (inl (name, wanted, fetched)) = absurd wanted.wants
    unfetched_in turn (inr (same, none)) = same

    files_at : (turn : ℕ) → turn ≤ f.turns → f.state turn ≡ files.before
    files_at zero fits = f.begins
    files_at (suc turn) fits =
        unfetched_in turn (f.each turn (omega arith)) ∙ files_at turn (omega arith)

    files_stay : files.after ≡ files.before
    files_stay = sym f.ends ∙ files_at f.turns (omega arith)

  pub left_environment :
      (call : Call) (given : Given) → MayBe (gen_spec language) arguments call given
      → LeavesEnvironment call
  left_environment call given may_be = record {
    files = files_stay call.files given.files may_be.files;
    input =
        subst (λ (t : Taken). Gathers call.input t)
        (may_be.untaken (λ a prepared reads. reads)) may_be.input;
  }
