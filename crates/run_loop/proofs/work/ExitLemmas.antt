-- The account of a run that ends before its input is read, for any commands.
use Rattle.std.proofs.Common.{◌≡◌, ◌⊎◌, ◌<◌, ℕ, List, [], Err, inl, inr, refl, ◌∙◌, subst}
use Rattle.cli_spec.specs.declared.status.Status.{Status}
use Rattle.cli_spec.specs.Outcome.{IsUsage, Request, nothing, unfetched, exits as exits_reply, stopped, ending_of}
use Rattle.cli_spec.specs.declared.exit.Exit.{Exit}
use Rattle.cli_spec.specs.declared.exit.Exit.TheVariants.{Usage as usage, Memory as out_of_memory}
use Rattle.base_io.specs.StreamState.{ByteState, SourceState, FilesState, Change, change}
use Rattle.cli_errors.specs.Exits.{Reports}
use Rattle.run_spec.specs.runs.Account.{FetchesFor, MayBe, Account}
use Rattle.run_spec.specs.runs.Call.{Call, call}
use Rattle.run_spec.specs.runs.Commands.{Fetches, Given, Commands, Prepares, RunReplies}
use Rattle.run_spec.specs.runs.Environment.{WritesLine}
use Rattle.run_spec.proofs.runs.RunWriteLemmas.{writes_nothing}
use Rattle.run_spec.proofs.runs.RunTakeLemmas.{took_nothing}

-- The commands request files only in the first `n` turns.
abbrev pub WantsInTurns : {A : Type 0} → ℕ → Commands A → Type 0
WantsInTurns n c = (request : Request) (files : Fetches) (turn : ℕ) (name : List ℕ)
    → c.Wants request files turn name → turn < n

-- A run that fetched no file.
abbrev pub nothing_found : Fetches
nothing_found = λ turn name. unfetched

module _ {A : Type 0} (c : Commands A) (arguments : List (List ℕ)) where
  module _ (found : Fetches) (input : SourceState) (out : ByteState) (files : Change FilesState)
      (fetches : FetchesFor c arguments files found) (err : Change ByteState) (status : Status) where
    abbrev given : Given
    given = record { files = found; input = nothing }

    abbrev ended : Call
    ended = call (change input input) files (change out out) err status

    abbrev WritesExit : Exit → Type 0
    WritesExit s = WritesLine err status (ending_of (stopped s))

    may_be : MayBe c arguments ended given
    may_be = record { input = took_nothing input; files = fetches; untaken = λ none. refl }

    account_of : (s : Exit)
        → (RunReplies c arguments given (stopped s) ⊎ (exits_reply s ≡ exits_reply out_of_memory))
        → WritesLine err status (ending_of (stopped s)) → Account c arguments ended
    account_of s may line = record {
      given = given;
      may_be = may_be;
      output = [];
      first = inl (refl, refl);
      ends =
          inl (record { last = exits_reply s; may_end = may; out = writes_nothing out; line = line });
    }

    memory_account : WritesLine err status (ending_of (stopped out_of_memory)) → Account c arguments ended
    memory_account line = account_of out_of_memory (inr refl) line

    -- If the exit reason of a run is reported, or that memory ran out, then the run has an account.
    pub exit_account : (s : Exit) → (Prepares c arguments found (Err s) ⊎ (s ≡ out_of_memory))
        → Reports s err status → Account c arguments ended
    exit_account s (inl prepared) r = which r.which where
      which : (r.output ≡ s) ⊎ (r.output ≡ out_of_memory) → Account c arguments ended
      which (inl same) =
          account_of s (inl (Err s, prepared, refl)) (subst WritesExit same r.line)
      which (inr same) =
          memory_account (subst WritesExit same r.line)
    exit_account s (inr memory) r = which r.which where
      which : (r.output ≡ s) ⊎ (r.output ≡ out_of_memory) → Account c arguments ended
      which (inl same) =
          memory_account (subst WritesExit (same ∙ memory) r.line)
      which (inr same) =
          memory_account (subst WritesExit same r.line)

  -- ---- no file was fetched

  module _ (n : ℕ) (in_turns : WantsInTurns n c) (files : FilesState) where
    pub none_fetched : FetchesFor c arguments (change files files) nothing_found
    none_fetched = record {
      turns = n;
      state = λ turn. files;
      begins = refl;
      ends = refl;
      each = λ turn less. inr (refl, λ name w. refl);
      all = λ turn name w. in_turns w.request nothing_found turn name w.wants;
    }

    module _ (input : SourceState) (out : ByteState) (err : Change ByteState) (status : Status) where
      abbrev Untouched : Type 0
      Untouched =
          Account c arguments
          (call (change input input) (change files files) (change out out) err status)

      stopped_so : (s : Exit) → (Prepares c arguments nothing_found (Err s) ⊎ (s ≡ out_of_memory))
          → Reports s err status → Untouched
      stopped_so =
          exit_account nothing_found input out (change files files) none_fetched err status

      -- If memory ran out before a file was fetched and is reported, then the run has an account.
      pub unread_account : Reports out_of_memory err status → Untouched
      unread_account r = stopped_so out_of_memory (inr refl) r

      -- If the arguments are invalid and that is reported, then the run has an account.
      pub usage_account : IsUsage arguments → Reports usage err status → Untouched
      usage_account none r = stopped_so usage (inl (Err usage, (none, refl), refl)) r
