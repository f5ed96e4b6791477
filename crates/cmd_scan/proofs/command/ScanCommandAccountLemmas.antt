-- Proves `Account` for a run of the search, which needs no file.
use Rattle.std.proofs.Common.{◌≡◌, ℕ, List, Option, Some, Ok, refl, arith}
use Rattle.cli_spec.specs.declared.status.Status.{Status}
use Rattle.cli_spec.specs.Outcome.{unfetched, Request, Asks}
use Rattle.base_io.specs.StreamState.{ByteState, SourceState, FilesState, Change, change}
use Rattle.run_spec.specs.runs.Call.{call}
use Rattle.run_spec.specs.runs.Account.{FetchesFor, Account}
use Rattle.run_spec.specs.runs.Commands.{Fetches}
use Rattle.run_loop.specs.work.Reported.{HasAccount}
use Rattle.cmd_scan.specs.spec.Searching.{searching}

abbrev unfetched_files : Fetches
unfetched_files turn name = unfetched

module _ (limit_by : Request → Option ℕ) (words : List (List ℕ)) (files : FilesState) where
  -- The search fetches no file.
  none_fetched : FetchesFor (searching limit_by) words (change files files) unfetched_files
  none_fetched = record {
    turns = 0;
    state = λ turn. files;
    begins = refl;
    ends = refl;
    each = λ turn less. absurd (omega (arith, less));
    all = λ turn name wanted. absurd wanted.wants;
  }

  pub search_account :
      (request : Request) (limit : ℕ) → Asks words request → limit_by request ≡ Some limit
      → (input : Change SourceState) (out err : Change ByteState) (status : Status)
      → HasAccount (searching limit_by) limit input out err status
      → Account (searching limit_by) words (call input (change files files) out err status)
  search_account request limit asks is input out err status has =
      has words unfetched_files (change files files) none_fetched
      (Ok request, asks, (limit, is, refl))
