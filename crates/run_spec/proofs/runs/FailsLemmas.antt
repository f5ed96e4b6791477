-- If the input failed or was too long, then the bytes read contain no exit reason, and the output
-- for the items of the bytes is written. If a file failed or was too long, then no input was read
-- and nothing is written.
use Rattle.std.proofs.Common.{◌≡◌, ◌⊎◌, ℕ, List, [], ◌++◌, Some, Result, Ok, Err, inl, inr, sym, ap, ◌∙◌, subst, append-nil}
use Rattle.cli_spec.specs.declared.status.Status.{Status}
use Rattle.cli_spec.specs.declared.status.Status.TheVariants as statuses
use Rattle.cli_spec.specs.Outcome.{ReadingEnd, unasked, Taken, nothing, opened, Request, Asks, status_of, ending_of, fault_of, ReadsFile, Found, exits, Reply, replies, stopped, texts_of}
use Rattle.cli_spec.specs.declared.exit.Exit.{Exit}
use Rattle.cli_spec.specs.declared.exit.Exit.TheVariants.{Memory as out_of_memory}
use Rattle.base_io.specs.Sink.{Writes}
use Rattle.run_spec.specs.runs.Account.{IsFinishedBehind, IsOutputFirst, HaveNoExit, Completes, Breaks, Account}
use Rattle.run_spec.specs.runs.Call.{Call}
use Rattle.run_spec.specs.runs.RunCauses.{FailsByInput, FailsByFile, IfInputFails}
use Rattle.run_spec.specs.runs.Commands.{Commands, Prepares, RunReplies}
use Rattle.run_spec.specs.runs.Given.{Gathers}
use Rattle.run_spec.specs.runs.Lawful.{FailsAtFile, AreLawful}
use Rattle.run_spec.specs.runs.Environment.{WritesLine, ReportsFault}
use Rattle.run_spec.proofs.runs.RunFaultLemmas.{file_read, file_long}
use Rattle.run_spec.proofs.runs.RunOnceLemmas.{prepares_once}
use Rattle.run_spec.proofs.runs.RunSettledLemmas.{IsOuter, reply_inside, exit_status, Cause, by_reply, by_file, by_input, cause_of}

-- The status is 6 or 10, which the environment causes if bytes are incomplete.
abbrev IsSplit : Status → Type 0
IsSplit status = (status ≡ statuses.ReadFault) ⊎ (status ≡ statuses.TooLong)

split_outer : (status : Status) → IsSplit status → IsOuter status
split_outer status (inl e) = subst IsOuter (sym e) tt
split_outer status (inr e) = subst IsOuter (sym e) tt

not_write : IsSplit statuses.WriteFault → ⊥
not_write (inl e) = cc e
not_write (inr e) = cc e

not_memory : IsSplit statuses.Memory → ⊥
not_memory (inl e) = cc e
not_memory (inr e) = cc e

-- If a file leads to status 6 or 10, then the file was opened.
file_split :
    (name : List ℕ) (found : Found) (exit : Exit) → ReadsFile name found (Err exit)
    → IsSplit (status_of exit) → (taken : Taken) × (found ≡ opened taken)
file_split name found exit fault (inl e) = let ends = file_read name found exit fault e in (ends.taken, ends.is)
file_split name found exit fault (inr e) = let ends = file_long name found exit fault e in (ends.taken, ends.is)

module _ {A : Type 0} (c : Commands A) (arguments : List (List ℕ)) (call : Call) (lawful : AreLawful c)
    (a : Account c arguments call) (split : IsSplit call.status) where
  -- All output and the line of the final reply are written, and the final reply follows from what
  -- was provided.
  record Ended : Type 0 where
    pub last : Reply
    pub outcome : RunReplies c arguments a.given (replies a.output last)
    pub status : call.status ≡ (ending_of (replies a.output last)).status
    pub out : Writes call.out (ending_of (replies a.output last)).out
    pub err : Writes call.err (ending_of (replies a.output last)).err

  ended : Ended
  ended = go a.ends where
    go : Completes c arguments a.given a.output call ⊎ Breaks c arguments a.given a.output call → Ended
    go (inr b) = absurd (not_write (subst IsSplit b.status split))
    go (inl e) = write e.line where
      write : WritesLine call.err call.status (ending_of (replies a.output e.last)) → Ended
      write (inr part) = absurd (not_write (subst IsSplit part.1 split))
      write (inl line) = may e.may_end where
        may : RunReplies c arguments a.given (replies a.output e.last) ⊎ (e.last ≡ exits out_of_memory)
            → Ended
        may (inr memory) =
            absurd (not_memory (subst IsSplit
            (line.1 ∙ exit_status (replies a.output e.last) out_of_memory memory) split))
        may (inl r) = record {
          last = e.last;
          outcome = r;
          status = line.1;
          out = e.out;
          err = line.0;
        }

  -- If the final reply is an exit reason, then the texts before the exit reason and its line are
  -- written.
  module _ (exit : Exit) (is : ended.last ≡ exits exit) where
    texts_written : Writes call.out (texts_of a.output)
    texts_written =
        subst (λ output. Writes call.out (texts_of output)) (append-nil a.output)
        (subst (λ last. Writes call.out (ending_of (replies a.output last)).out) is ended.out)

    status_is : call.status ≡ status_of exit
    status_is = ended.status ∙ exit_status (replies a.output ended.last) exit is

    fault_known : (until : ReadingEnd) → fault_of until ≡ Some exit → ReportsFault until call
    fault_known until f = record {
      exit = exit;
      is_fault = f;
      status = status_is;
      err = subst (λ last. Writes call.err (ending_of (replies a.output last)).err) is ended.err;
    }

  -- If the input ended for the exit reason, then the input caused the status.
  fails_by_input :
      (exit : Exit) → ended.last ≡ exits exit → fault_of a.given.input.until ≡ Some exit
      → IsOutputFirst c arguments a.given a.output → FailsByInput c arguments call
  fails_by_input exit is f (inl (none, output)) =
      let no : fault_of unasked ≡ Some exit = subst (λ t. fault_of t.until ≡ Some exit) none f in
      absurd (cc no)
  fails_by_input exit is f (inr (act, p, reads, paced)) = at paced.asked where
    by_unasked : a.given.input.until ≡ unasked → FailsByInput c arguments call
    by_unasked e =
        let no : fault_of unasked ≡ Some exit = subst (λ u. fault_of u ≡ Some exit) e f in
        absurd (cc no)

    with_all : a.output ≡ paced.before → paced.buffered ≡ [] → FailsByInput c arguments call
    with_all same none =
        let bytes : a.given.input.bytes ≡ paced.earlier =
        paced.bytes_are ∙ (ap (λ more. paced.earlier ++ more) none ∙ append-nil paced.earlier) in
        record {
          taken = a.given.input;
          gathers = a.may_be.input;
          fails = fault_known exit is a.given.input.until f;
          found = a.given.files;
          files = a.may_be.files;
          a = act;
          prepared = p;
          reads = reads;
          output = a.output;
          holds = subst (λ b. HaveNoExit c act b a.output) (sym bytes)
              (subst (λ s. HaveNoExit c act paced.earlier s) (sym same) paced.holds);
          out = texts_written exit is;
        }

    at : (a.given.input.until ≡ unasked) ⊎ (paced.buffered ≡ []) → FailsByInput c arguments call
    at (inl e) = by_unasked e
    at (inr none) = by paced.output_are where
      by : (a.output ≡ paced.before) ⊎ IsFinishedBehind c act a.given.input paced.before a.output
          → FailsByInput c arguments call
      by (inl same) = with_all same none
      by (inr b) = by_unasked b.no_more

  -- If a file ended for the exit reason before the input was read, then the file caused the status.
  fails_by_file :
      (request : Request) → Asks arguments request → (exit : Exit)
      → Prepares c arguments a.given.files (Err exit)
      → (fails : FailsAtFile c request a.given.files (Err exit))
      → replies a.output ended.last ≡ stopped exit → FailsByFile c arguments call
  fails_by_file request asks exit p fails is =
      let both : ◌≡◌ {A = Result A Exit} (Err exit) (Err fails.exit) = fails.is in
      let same : exit ≡ fails.exit = cc both in
      let last : ended.last ≡ exits fails.exit = ap (λ all. all.last) is ∙ ap (λ s. exits s) same in
      let file = file_split fails.name (a.given.files fails.turn fails.name) fails.exit fails.fault
      (subst IsSplit (status_is fails.exit last) split) in
      let none = untaken a.first in
      record {
        found = a.given.files;
        files = a.may_be.files;
        turn = fails.turn;
        name = fails.name;
        wanted = record { request = request; asks = asks; wants = fails.wants };
        taken = file.0;
        is_found = file.1;
        fails = fault_known fails.exit last file.0.until
            (subst (λ o. ReadsFile fails.name o (Err fails.exit)) file.1 fails.fault);
        untaken = subst (λ t. Gathers call.input t) none.0 a.may_be.input;
        out = subst (λ output. Writes call.out (texts_of output)) none.1 (texts_written fails.exit last);
      } where
        untaken : IsOutputFirst c arguments a.given a.output → (a.given.input ≡ nothing) × (a.output ≡ [])
        untaken (inl none) = none
        untaken (inr (act, q, reads, paced)) =
            let no = prepares_once c lawful arguments a.given.files (Ok act) (Err exit) q p in absurd (cc no)

  pub fails : FailsByInput c arguments call ⊎ FailsByFile c arguments call
  fails = by (cause_of c arguments lawful a.given (replies a.output ended.last) ended.outcome) where
    by : Cause c arguments a.given (replies a.output ended.last)
        → FailsByInput c arguments call ⊎ FailsByFile c arguments call
    by (by_reply inside) =
        absurd (reply_inside a.output ended.last inside
        (subst IsOuter ended.status (split_outer call.status split)))
    by (by_file request asks exit p fails is) = inr (fails_by_file request asks exit p fails is)
    by (by_input act p reads s exit f last) = inl (fails_by_input exit last f a.first)

module _ {A : Type 0} (c : Commands A) (arguments : List (List ℕ)) (call : Call) (lawful : AreLawful c)
    (a : Account c arguments call) where
  pub if_input_fails : IfInputFails c arguments call
  if_input_fails split = fails c arguments call lawful a split
