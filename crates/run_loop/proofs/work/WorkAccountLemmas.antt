-- A run and the report of the run give the account of the run.
use Rattle.std.proofs.Common.{◌≡◌, ◌⊎◌, Bool, List, [], ◌∷◌, ◌++◌, ℕ, Result, Ok, Err, inl, inr, sym, ap, ◌∙◌, subst, append-nil}
use Rattle.cli_spec.specs.declared.status.Status.{Status}
use Rattle.cli_spec.specs.declared.status.Status.TheVariants.{WriteFault}
use Rattle.cli_spec.specs.Outcome.{Taken, nothing, Output, outputs, exits, replies, texts_of, ending_of}
use Rattle.cli_spec.specs.declared.exit.Exit.{Exit}
use Rattle.cli_spec.specs.declared.exit.Exit.TheVariants.{Memory as out_of_memory}
use Rattle.base_io.specs.Sink.{Writes}
use Rattle.base_io.specs.StreamState.{ByteState, SourceState, FilesState, Change}
use Rattle.cli_errors.specs.declared.exit_line.Error.{Error}
use Rattle.cli_errors.specs.declared.exit_line.Error.TheVariants as aborts
use Rattle.cli_errors.specs.Exits.{Reports}
use Rattle.run_spec.specs.runs.Account.{FetchesFor, IsOutputFirst, OutputsOfFirst, Completes, Breaks}
use Rattle.run_spec.specs.runs.Call.{call}
use Rattle.run_spec.specs.runs.Commands.{Fetches, Given, Commands, Prepares, Answers, RunReplies}
use Rattle.run_spec.specs.runs.Environment.{WritesLine}
use Rattle.run_loop.specs.work.Works.{AreOutput}
use Rattle.run_loop.specs.work.Runs.{IsOutputOf, EndsRun, Runs}
use Rattle.run_loop.specs.work.Reported.{ending_status, IsReported, HasAccount}

module _ {A : Type 0} (c : Commands A) (a : A) (arguments : List (List ℕ)) (found : Fetches)
    (files : Change FilesState) (fetches : FetchesFor c arguments files found)
    (prepared : Prepares c arguments found (Ok a)) (taken : Taken) where
  abbrev given : Given
  given = record { files = found; input = taken }

  output_first : (output : List Output) → IsOutputOf c a taken output → IsOutputFirst c arguments given output
  output_first output (inl (reads, paced)) = inr (a, prepared, reads, paced)
  output_first output (inr (unread, none, silent)) = inl (none, silent)

  -- If a command reads no input, then nothing is consumed.
  untaken :
      (output : List Output) → IsOutputOf c a taken output
      → ((a : A) → Prepares c arguments found (Ok a) → c.Reads a → ⊥) → taken ≡ nothing
  untaken output (inl (reads, paced)) none = absurd (none a prepared reads)
  untaken output (inr (unread, is, silent)) none = is

  module _ (output : List Output) (input : Change SourceState) (out err : Change ByteState) (status : Status) where
    abbrev Ended : Type 0
    Ended = Completes c arguments given output (call input files out err status)
        ⊎ Breaks c arguments given output (call input files out err status)

    ends_ok :
        (ok : Bool) → EndsRun c a taken output out (Ok ok) → Writes err []
        → status ≡ ending_status ok → Ended
    ends_ok ok (final, answers, is, write) none same = inl (record {
      last = outputs final;
      may_end = inl (Ok a, prepared, answers);
      out = write;
      line = inl (none, same ∙ ap ending_status is);
    })

    -- The reported exit reason is the exit reason of the run, or memory ran out.
    reports :
        (exit known : Exit) → (Answers c a taken (replies output (exits exit)) ⊎ (exit ≡ out_of_memory))
        → Writes out (texts_of output) → (known ≡ exit) ⊎ (known ≡ out_of_memory)
        → WritesLine err status (ending_of (replies output (exits known))) → Ended
    reports exit known why write which line = inl (record {
      last = exits known;
      may_end = from which why;
      out = subst (λ all. Writes out (texts_of all)) (sym (append-nil output)) write;
      line = line;
    }) where
      from : (known ≡ exit) ⊎ (known ≡ out_of_memory)
          → (Answers c a taken (replies output (exits exit)) ⊎ (exit ≡ out_of_memory))
          → RunReplies c arguments given (replies output (exits known)) ⊎ (exits known ≡ exits out_of_memory)
      from (inl same) (inl answers) =
          inl (
            Ok a,
            prepared,
            subst (λ s. Answers c a taken (replies output (exits s))) (sym same) answers,
          )
      from (inl same) (inr memory) = inr (ap (λ s. exits s) (same ∙ memory))
      from (inr memory) why = inr (ap (λ s. exits s) memory)

    ends_stopped :
        (exit : Exit) → EndsRun c a taken output out (Err (aborts.Exit exit))
        → Reports exit err status → Ended
    ends_stopped exit (why, write) r = reports exit r.output why write r.which r.line

    ends_broken :
        EndsRun c a taken output out (Err aborts.WriteFault) → Writes err []
        → status ≡ WriteFault → Ended
    ends_broken (next, why, part) none same = inr (record {
      next = next;
      is_next = from why;
      out = part;
      err = none;
      status = same;
    }) where
      from : (c.Reads a × AreOutput c a taken.bytes (output ++ next ∷ []))
          ⊎ Answers c a taken (replies output (outputs next))
          → OutputsOfFirst c arguments given (output ++ next ∷ [])
          ⊎ RunReplies c arguments given (replies output (outputs next))
      from (inl (reads, (items, rest, first))) = inl (a, prepared, reads, items, rest, first)
      from (inr answers) = inr (Ok a, prepared, answers)

    ended :
        (result : Result Bool Error) → EndsRun c a taken output out result
        → IsReported result err status → Ended
    ended (Ok ok) ends (none, same) = ends_ok ok ends none same
    ended (Err (aborts.Exit exit)) ends reported = ends_stopped exit ends reported
    ended (Err aborts.WriteFault) ends (none, same) = ends_broken ends none same

-- If a run satisfies `Runs` and is reported, then the run has an account.
pub account :
    {A : Type 0} (c : Commands A) (a : A) (input : Change SourceState) (out err : Change ByteState) (status : Status)
    (result : Result Bool Error) → Runs c a input out result → IsReported result err status
    → HasAccount c a input out err status
account c a input out err status result runs reported arguments found files fetches prepared = record {
  given = record { files = found; input = runs.taken };
  may_be = record {
    input = runs.gathers;
    files = fetches;
    untaken =
        untaken c a arguments found files fetches prepared runs.taken runs.output runs.first;
  };
  output = runs.output;
  first = output_first c a arguments found files fetches prepared runs.taken runs.output runs.first;
  ends = ended c a arguments found files fetches prepared runs.taken runs.output input out err status
      result runs.ends reported;
}
