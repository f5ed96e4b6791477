-- Proves `Account` for a run of `build`, from the contents of its file.
use Rattle.std.proofs.Common.{◌≡◌, ◌⊎◌, ◌<◌, ℕ, zero, suc, Bool, List, Ok, Err, inl, inr, refl, arith}
use Rattle.cli_spec.specs.declared.status.Status.{Status}
use Rattle.cli_spec.specs.Outcome.{Found, asked_with, own, build, Asks}
use Rattle.cli_spec.specs.declared.exit.Exit.{Exit}
use Rattle.cli_spec.specs.declared.exit.Exit.TheVariants.{Memory as out_of_memory}
use Rattle.base_io.specs.StreamState.{ByteState, SourceState, FilesState, Change, change}
use Rattle.cli_errors.specs.Exits.{Reports}
use Rattle.run_spec.specs.runs.Account.{IsWanted, FetchesIn, FetchesFor, Account}
use Rattle.run_spec.specs.runs.Call.{call}
use Rattle.run_spec.specs.runs.Commands.{Fetches, Prepares}
use Rattle.run_spec.specs.runs.Given.{Fetched}
use Rattle.run_types.specs.declared.requested.Prepared.{Prepared}
use Rattle.run_types.specs.RequestedTexts.{type_over, GivesType}
use Rattle.run_loop.specs.work.Reported.{HasAccount}
use Rattle.run_loop.proofs.work.ExitLemmas.{exit_account}
use Rattle.session.specs.All.{on_texts}

module _ (arguments : List (List ℕ)) (file type : List ℕ) (lines decimal : Bool)
    (asks : Asks arguments (own (build file type lines decimal))) (files : Change FilesState) (found : Found) (fetched : Fetched files file found) where
  abbrev all_found : Fetches
  all_found = λ turn name. found

  abbrev InTurn : Change FilesState → ℕ → Type 0
  InTurn change turn = FetchesIn on_texts arguments change all_found turn

  wanted : IsWanted on_texts arguments all_found 0 file
  wanted = record { request = own (build file type lines decimal); asks = asks; wants = (refl, asked_with type lines decimal, refl) }

  in_turn : (turn : ℕ) (name : List ℕ) → IsWanted on_texts arguments all_found turn name → turn < 1
  in_turn turn name w = let first = w.wants.0 in omega (arith, first)

  fetches : FetchesFor on_texts arguments files all_found
  fetches = record {
    turns = 1;
    state = state;
    begins = refl;
    ends = refl;
    each = each;
    all = in_turn;
  } where
    state : ℕ → FilesState
    state zero = files.before
    state (suc n) = files.after

    each : (turn : ℕ) → turn < 1 → InTurn (change (state turn) (state (suc turn))) turn
    each zero less = inl (file, wanted, fetched)
    each (suc n) less = absurd (omega (arith, less))

  gives_exit : (exit : Exit) → GivesType file (asked_with type lines decimal) found (Err exit)
      → Prepares on_texts arguments all_found (Err exit) ⊎ (exit ≡ out_of_memory)
  gives_exit exit (inl reads) = inl (Ok (own (build file type lines decimal)), asks, ((file, asked_with type lines decimal), refl, reads))
  gives_exit exit (inr memory) = inr memory

  -- There is no type.
  pub no_type_account : (exit : Exit) → GivesType file (asked_with type lines decimal) found (Err exit)
      → (input : SourceState) (out : ByteState) (err : Change ByteState) (status : Status)
      → Reports exit err status
      → Account on_texts arguments (call (change input input) files (change out out) err status)
  no_type_account exit gives input out err status r =
      let why = gives_exit exit gives in
      exit_account on_texts arguments all_found input out files fetches err status exit why r

  -- The bytes of the values at the type are written.
  pub texts_account : (r : Prepared) → GivesType file (asked_with type lines decimal) found (Ok r)
      → (input : Change SourceState) (out err : Change ByteState) (status : Status)
      → HasAccount on_texts (type_over r) input out err status
      → Account on_texts arguments (call input files out err status)
  texts_account r gives input out err status has =
      has arguments all_found files fetches
      (Ok (own (build file type lines decimal)), asks, ((file, asked_with type lines decimal), refl, gives.0))
