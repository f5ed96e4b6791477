-- If a run returns a status of the environment, then the environment caused the status.
use Rattle.std.proofs.Common.{◌≡◌, ℕ, ◌+◌, ◌^◌, ◌≤◌, Bool, List, [], length, Result, Ok, Err, IfSome, inl, inr, refl, sym, ap, ◌∙◌, subst, length-append, arith}
use Rattle.std.proofs.lemmas.Option.{IfSome_then}
use Rattle.cli_spec.specs.Outcome.{Taken, ReadingEnd, at_end, at_fault, at_length, unasked, Output, exits, replies}
use Rattle.cli_spec.specs.declared.exit.Exit.{Exit}
use Rattle.base_io.specs.IoFaults.{RoseOrLast}
use Rattle.base_io.specs.History.{HasFailed}
use Rattle.base_io.specs.StreamState.{ByteState, SourceState, Change}
use Rattle.cli_errors.specs.declared.exit_line.Error.{Error}
use Rattle.cli_errors.specs.declared.exit_line.Error.TheVariants as aborts
use Rattle.run_spec.specs.runs.Commands.{Item, Commands, Closes, IsLast, Answers}
use Rattle.run_spec.specs.runs.Given.{Gathers, is_fault}
use Rattle.run_spec.specs.runs.Lawful.{IsInner, AreLawfulAt}
use Rattle.run_spec.specs.runs.Environment.{Called, WritesPartAfter}
use Rattle.run_spec.proofs.runs.FailedLemmas.{took_fails}
use Rattle.run_spec.proofs.runs.RunWriteLemmas.{rose_after}
use Rattle.run_loop.specs.work.Runs.{EndsRun}
use Rattle.run_loop.specs.work.Reported.{HasReason, AbortsByEnvironment, ReportsEnvironment}

-- If only a part of a text is written after a whole text, then a call on out failed.
part_rose :
    (out : Change ByteState) (text next : List ℕ) → WritesPartAfter out text next
    → RoseOrLast out.before.faults out.after.faults
part_rose out text next (between, write, part) =
    rose_after out.before.faults between.faults out.after.faults write.cause part.cause

-- If the run ends because of the length of the input, then the input has at least 2^48 bytes.
long_input :
    (input : Change SourceState) (taken : Taken) → Gathers input taken → taken.until ≡ at_length
    → IfSome input.before.bytes (λ bytes. 2 ^ 48 ≤ length bytes)
long_input input taken gathers is =
    IfSome_then input.before.bytes gathers.known (λ bytes known.
    let size : length bytes ≡ length taken.bytes + length known.0 =
    ap length known.1.prefix ∙ length-append taken.bytes known.0 in
    let long = (rw is at gathers.measured).0 in omega (arith, size, long))

module _ {A : Type 0} (c : Commands A) (a : A) (lawful : AreLawfulAt c a)
    (input : Change SourceState) (taken : Taken) (gathers : Gathers input taken) where
  closes_reason :
      (items : List Item) (rest : List ℕ) (until : ReadingEnd) (exit : Exit) → taken.until ≡ until
      → Closes c a items rest until (exits exit) → HasReason input exit
  closes_reason items rest at_end exit is ends = inl (lawful.ends_inside items rest exit ends)
  closes_reason items rest at_fault exit is same = inr (inr (inl (cc same, failed))) where
    failed : Called input.before.calls input.after.calls HasFailed
    failed = took_fails input.before.calls input.after.calls taken gathers.called (ap is_fault is)
  closes_reason items rest at_length exit is same =
      inr (inr (inr (cc same, long_input input taken gathers is)))
  closes_reason items rest unasked exit is same = absurd same

  last_reason :
      (items : List Item) (rest : List ℕ) (exit : Exit)
      → IsLast c a items rest taken.until (exits exit) → HasReason input exit
  last_reason items rest exit (inl (own, at, fine, is)) =
      let same : exit ≡ own = cc is in
      inl (subst IsInner (sym same) (lawful.exits_inside items rest own at))
  last_reason items rest exit (inr (on, closes)) =
      closes_reason items rest taken.until exit refl closes

  answers_reason :
      (output : List Output) (exit : Exit) → Answers c a taken (replies output (exits exit))
      → HasReason input exit
  answers_reason output exit (inl (reads, all)) = last_reason all.items all.rest exit all.last
  answers_reason output exit (inr alone) = inl (lawful.ends_inside [] [] exit alone.last)

  ends_reason :
      (output : List Output) (out : Change ByteState) (result : Result Bool Error)
      → EndsRun c a taken output out result → AbortsByEnvironment input out result
  ends_reason output out (Ok ok) ends = tt
  ends_reason output out (Err (aborts.Exit exit)) (inl answers, write) =
      answers_reason output exit answers
  ends_reason output out (Err (aborts.Exit exit)) (inr memory, write) = inr (inl memory)
  ends_reason output out (Err aborts.WriteFault) (next, why, part) = part_rose out _ _ part

pub reports_environment : {A : Type 0} (c : Commands A) → ReportsEnvironment c
reports_environment c a lawful input out result runs =
    ends_reason c a lawful input runs.taken runs.gathers runs.output out result runs.ends
