-- The account of a run of `gen`. The run ends with an error before the value is generated, or with
-- the line of the value.
use Rattle.std.proofs.Common.{◌≡◌, ◌⊎◌, ℕ, List, [], Ok, Err, inl, inr, refl, ◌∙◌, subst, arith}
use Rattle.cli_spec.specs.declared.status.Status.{Status}
use Rattle.cli_spec.specs.Outcome.{unfetched, nothing, exits as exits_reply, stopped, ending_of, own, generate, Asks}
use Rattle.cli_spec.specs.declared.exit.Exit.{Exit}
use Rattle.cli_spec.specs.declared.exit.Exit.TheVariants.{Memory as out_of_memory}
use Rattle.base_io.specs.StreamState.{ByteState, SourceState, FilesState, Change, change}
use Rattle.run_spec.specs.runs.Call.{call}
use Rattle.run_spec.specs.runs.Account.{FetchesFor, Account}
use Rattle.run_spec.specs.runs.Commands.{Fetches, Given, Prepares, RunReplies}
use Rattle.run_spec.specs.runs.Environment.{WritesLine}
use Rattle.run_spec.proofs.runs.RunWriteLemmas.{writes_nothing}
use Rattle.run_spec.proofs.runs.RunTakeLemmas.{took_nothing}
use Rattle.cli_errors.specs.Exits.{Reports}
use Rattle.run_loop.specs.work.Reported.{HasAccount}
use Rattle.run_types.specs.declared.requested.Prepared.{Prepared}
use Rattle.run_types.specs.Language.{declared_types}
use Rattle.run_types.specs.RequestedTexts.{type_over}
use Rattle.cmd_gen.specs.spec.GenSpec.{gen_spec}
use Rattle.cmd_gen.specs.command.OutputLines.{making_of}
use Rattle.cmd_gen.specs.command.ItemTypes.{GivesItemType}

abbrev unfetched_files : Fetches
unfetched_files turn name = unfetched

module _ (words : List (List ℕ)) (files : FilesState) where
  none_fetched : FetchesFor (gen_spec declared_types) words (change files files) unfetched_files
  none_fetched = record {
    turns = 0;
    state = λ turn. files;
    begins = refl;
    ends = refl;
    each = λ turn less. absurd (omega arith);
    all = λ turn name wanted. absurd wanted.wants;
  }

  module _ (input : SourceState) (out : ByteState) (err : Change ByteState) (status : Status) where
    abbrev given : Given
    given = record { files = unfetched_files; input = nothing }

    abbrev Ended : Type 0
    Ended = Account (gen_spec declared_types) words
        (call (change input input) (change files files) (change out out) err status)

    account_of :
        (s : Exit)
        → (RunReplies (gen_spec declared_types) words given (stopped s)
        ⊎ (exits_reply s ≡ exits_reply out_of_memory))
        → WritesLine err status (ending_of (stopped s)) → Ended
    account_of s may line = record {
      given = given;
      may_be = record {
        input = took_nothing input;
        files = none_fetched;
        untaken = λ none. refl;
      };
      output = [];
      first = inl (refl, refl);
      ends = inl (record {
        last = exits_reply s;
        may_end = may;
        out = writes_nothing out;
        line = line;
      });
    }

    abbrev Line : Exit → Type 0
    Line s = WritesLine err status (ending_of (stopped s))

    -- If the exit reason, or that memory ran out, is reported, then the run has an account.
    exit_account :
        (s : Exit)
        → (Prepares (gen_spec declared_types) words unfetched_files (Err s) ⊎ (s ≡ out_of_memory))
        → Reports s err status → Ended
    exit_account s may r = by r.which may where
      by : (r.output ≡ s) ⊎ (r.output ≡ out_of_memory)
          → (Prepares (gen_spec declared_types) words unfetched_files (Err s)
          ⊎ (s ≡ out_of_memory)) → Ended
      by (inl same) (inl prepared) =
          account_of s (inl (Err s, prepared, refl)) (subst Line same r.line)
      by (inl same) (inr memory) =
          account_of out_of_memory (inr refl) (subst Line (same ∙ memory) r.line)
      by (inr same) may = account_of out_of_memory (inr refl) (subst Line same r.line)

  module _ (number count : ℕ) (type : List ℕ)
      (asks : Asks words (own (generate number count type))) where
    -- Case: TYPE is refused.
    pub type_account :
        (exit : Exit) → GivesItemType type (Err exit)
        → (input : SourceState) (out : ByteState) (err : Change ByteState) (status : Status)
        → Reports exit err status
        → Account (gen_spec declared_types) words
        (call (change input input) (change files files) (change out out) err status)
    type_account exit (inr memory) input out err status r =
        exit_account input out err status exit (inr memory) r
    type_account exit (inl reads) input out err status r =
        exit_account input out err status exit (inl (
          Ok (own (generate number count type)),
          asks,
          (
            record { number = number; count = count; type = type },
            refl,
            (Err exit, reads, refl),
          ),
        )) r

    -- Case: TYPE is valid, and the value is generated.
    pub made_account :
        (r : Prepared) → GivesItemType type (Ok r)
        → (input : Change SourceState) (out err : Change ByteState) (status : Status)
        → HasAccount (gen_spec declared_types) (making_of number count r) input out err status
        → Account (gen_spec declared_types) words
        (call input (change files files) out err status)
    made_account r gives input out err status has =
        has words unfetched_files (change files files) none_fetched (
          Ok (own (generate number count type)),
          asks,
          (
            record { number = number; count = count; type = type },
            refl,
            (Ok (type_over r), gives.0, refl),
          ),
        )
