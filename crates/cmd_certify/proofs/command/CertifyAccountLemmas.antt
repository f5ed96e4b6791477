-- The contents of FILE determine `Account` for a run of `check --cert`.
use Rattle.std.proofs.Common.{◌≡◌, ◌⊎◌, ◌<◌, ℕ, zero, suc, Bool, List, Ok, Err, inl, inr, refl, subst, arith}
use Rattle.cli_spec.specs.declared.status.Status.{Status}
use Rattle.cli_spec.specs.declared.read_options.ReadOptions.{ReadOptions}
use Rattle.cli_spec.specs.CommandLine.{certify}
use Rattle.cli_spec.specs.Outcome.{Found, Request, asked_type, own, Asks}
use Rattle.cli_spec.specs.declared.exit.Exit.{Exit}
use Rattle.cli_spec.specs.declared.exit.Exit.TheVariants.{Memory as out_of_memory}
use Rattle.base_io.specs.StreamState.{ByteState, SourceState, FilesState, Change, change}
use Rattle.cli_errors.specs.Exits.{Reports}
use Rattle.run_spec.specs.runs.Account.{IsWanted, FetchesIn, FetchesFor, Account}
use Rattle.run_spec.specs.runs.Call.{call}
use Rattle.run_spec.specs.runs.Commands.{Fetches, Prepares}
use Rattle.run_spec.specs.runs.Given.{Fetched}
use Rattle.run_types.specs.declared.requested.Prepared.{Prepared}
use Rattle.run_types.specs.Language.{TypeOver}
use Rattle.run_types.specs.RequestedTexts.{type_over, GivesType}
use Rattle.run_loop.specs.work.Reported.{HasAccount}
use Rattle.run_loop.proofs.work.ExitLemmas.{exit_account}
use Rattle.cmd_certify.specs.spec.Certification.{CertifyArguments, Certification}
use Rattle.cmd_certify.specs.command.CertifiedOutput.{on_certified_after}
use Rattle.cmd_certify.specs.command.CertifyProgress.{certified_after}
use Rattle.opt_skip_only.specs.skip_spec.Skipping.{SkippedBytes}

module _ (arguments : List (List ℕ)) (file type : List ℕ) (lines : Bool) (reading : ReadOptions)
    (asks : Asks arguments (own (certify file type lines reading))) (files : Change FilesState)
    (found : Found) (fetched : Fetched files file found) where
  abbrev asked : CertifyArguments
  asked = record { file = file; type = asked_type type lines; limit = reading.limit }

  abbrev request : Request
  request = own (certify file type lines reading)

  abbrev all_found : Fetches
  all_found = λ turn name. found

  abbrev InTurn : Change FilesState → ℕ → Type 0
  InTurn change turn = FetchesIn on_certified_after arguments change all_found turn

  wanted : IsWanted on_certified_after arguments all_found 0 file
  wanted = record { request = request; asks = asks; wants = (asked, refl, refl, refl) }

  in_turn : (turn : ℕ) (name : List ℕ) → IsWanted on_certified_after arguments all_found turn name → turn < 1
  in_turn turn name w = let first = w.wants.2 in omega (arith, first)

  fetches : FetchesFor on_certified_after arguments files all_found
  fetches = record {
    turns = 1;
    state = state;
    begins = refl;
    ends = refl;
    each = each;
    all = in_turn;
  } where
    state : ℕ → FilesState
    state zero = files.before
    state (suc n) = files.after

    each : (turn : ℕ) → turn < 1 → InTurn (change (state turn) (state (suc turn))) turn
    each zero less = inl (file, wanted, fetched)
    each (suc n) less = absurd (omega (arith, less))

  gives_exit :
      (exit : Exit) → GivesType file (asked_type type lines) found (Err exit)
      → Prepares on_certified_after arguments all_found (Err exit) ⊎ (exit ≡ out_of_memory)
  gives_exit exit (inl reads) =
      inl (Ok request, asks, (asked, refl, (Err exit, reads, refl)))
  gives_exit exit (inr memory) = inr memory

  -- Case: FILE and TYPE give no type, and the exit reason is reported.
  pub no_type_account :
      (exit : Exit) → GivesType file (asked_type type lines) found (Err exit) → (input : SourceState) (out : ByteState)
      (err : Change ByteState) (status : Status) → Reports exit err status
      → Account on_certified_after arguments (call (change input input) files (change out out) err status)
  no_type_account exit gives input out err status r =
      exit_account on_certified_after arguments all_found input out files fetches err status exit
      (gives_exit exit gives) r

  -- Case: FILE and TYPE give a type, and the values are certified.
  pub values_account :
      (r : Prepared) → GivesType file (asked_type type lines) found (Ok r)
      → (input : Change SourceState) (out err : Change ByteState) (status : Status)
      → HasAccount on_certified_after (certified_after r reading) input out err status
      → Account on_certified_after arguments (call input files out err status)
  values_account r gives input out err status has =
      has arguments all_found files fetches
      (Ok request, asks, (refl, (asked, refl, (Ok (type_over r), gives.0, refl))))

-- Case: memory ran out before the input was read.
pub memory_account :
    (a : SkippedBytes × Certification TypeOver) (input : SourceState) (out : ByteState) (err : Change ByteState)
    (status : Status) → Reports out_of_memory err status
    → HasAccount on_certified_after a (change input input) (change out out) err status
memory_account a input out err status r = λ arguments found files fetches prepared.
    exit_account on_certified_after arguments found input out files fetches err status out_of_memory
    (inr refl) r

-- If the skipped bytes and the tasks are equal, then `Account` holds for both tasks.
pub account_same :
    (over other : SkippedBytes) (a b : Certification TypeOver) (input : Change SourceState) (out err : Change ByteState)
    (status : Status) → over ≡ other → a ≡ b
    → HasAccount on_certified_after (over, a) input out err status
    → HasAccount on_certified_after (other, b) input out err status
account_same over other a b input out err status e f h =
    subst (λ o. HasAccount on_certified_after (o, b) input out err status) e
    (subst (λ a. HasAccount on_certified_after (over, a) input out err status) f h)
