-- The status of a run is that of an outcome. The status of an outcome has a cause.
use Rattle.std.proofs.Common.{◌≡◌, ◌⊎◌, ℕ, Bool, true, false, List, [], Some, Result, Ok, Err, inl, inr, refl, sym, ap, ◌∙◌, subst}
use Rattle.std.specs.Prelude.{MatchResult, if◌then◌else◌}
use Rattle.cli_spec.specs.declared.status.Status.{Status}
use Rattle.cli_spec.specs.declared.status.Status.TheVariants as statuses
use Rattle.cli_spec.specs.Outcome.{ReadingEnd, at_end, at_fault, at_length, unasked, Found, opened, missing, failed, unfetched, Request, Asks, status_of, ending_of, fault_of, ReadsFile, Output, Reply, outputs, exits, Replies, replies, stopped, all_ok, all_output}
use Rattle.cli_spec.specs.declared.exit.Exit.{Exit}
use Rattle.cli_spec.specs.declared.exit.Exit.TheVariants.{Usage as usage, BadPath as bad_path, NotTwoValues as not_two_values, CannotOpen as cannot_open, Declarations as declarations, RequestedType as requested_type, Value as value, Script as script_line, Text as text_line, Untyped as untyped_value, LargeValue as large_value, Certificate as certificate_line, Uncertified as uncertified_value, SectionsLeft as sections_left, Short as short_input, Finished as finished, ReadFault as read_fault, TooLong as too_long, Memory as out_of_memory}
use Rattle.run_spec.specs.runs.Account.{Completes, Breaks, Account}
use Rattle.run_spec.specs.runs.Call.{Call}
use Rattle.run_spec.specs.runs.RunCauses.{IfArguments}
use Rattle.run_spec.specs.runs.Commands.{Given, Commands, Prepares, IsLast, Closes, OutputsAll, Answers, RunReplies}
use Rattle.run_spec.specs.runs.Lawful.{IsInner, FailsAtFile, AreLawfulAt, AreLawful}
use Rattle.run_spec.specs.runs.Environment.{WritesLine, IsWriteOrMemoryError}
use Rattle.run_spec.specs.runs.RunSpec.{IsOfOutcome, IsSettled, IfUsage}
use Rattle.run_spec.proofs.runs.RunOnceLemmas.{prepares_once}

-- The replies for the task, or the exit reason before the task.
abbrev pub Goes : {A : Type 0} → Commands A → Given → Replies → Result A Exit → Type 0
Goes c given all found =
    MatchResult found (λ a. Answers c a given.input all) (λ exit. all ≡ stopped exit)

-- Only the environment can cause the status.
abbrev pub IsOuter : Status → Type 0
IsOuter statuses.AllOk = ⊥
IsOuter statuses.No = ⊥
IsOuter statuses.Usage = ⊥
IsOuter statuses.Types = ⊥
IsOuter statuses.Value = ⊥
IsOuter statuses.Script = ⊥
IsOuter statuses.Compat = ⊥
IsOuter statuses.Certificate = ⊥
IsOuter statuses.ReadFault = Unit {0}
IsOuter statuses.WriteFault = Unit {0}
IsOuter statuses.OpenFault = Unit {0}
IsOuter statuses.Memory = Unit {0}
IsOuter statuses.TooLong = Unit {0}

inner_status : (exit : Exit) → IsInner exit → IsOuter (status_of exit) → ⊥
inner_status usage inner outer = outer
inner_status bad_path inner outer = outer
inner_status not_two_values inner outer = outer
inner_status (cannot_open name) inner outer = inner
inner_status (declarations refusal) inner outer = outer
inner_status (requested_type refusal) inner outer = outer
inner_status (value number refusal) inner outer = outer
inner_status (script_line number refusal) inner outer = outer
inner_status (text_line number refusal) inner outer = outer
inner_status (untyped_value number fault) inner outer = outer
inner_status (large_value number refusal) inner outer = outer
inner_status (certificate_line number) inner outer = outer
inner_status (uncertified_value number reason) inner outer = outer
inner_status sections_left inner outer = outer
inner_status (short_input taken) inner outer = outer
inner_status (finished true) inner outer = outer
inner_status (finished false) inner outer = outer
inner_status read_fault inner outer = inner
inner_status too_long inner outer = inner
inner_status out_of_memory inner outer = inner

ok_or_no : (b : Bool) → IsOuter (if b then statuses.AllOk else statuses.No) → ⊥
ok_or_no true outer = outer
ok_or_no false outer = outer

-- The final reply is no exit reason that the environment caused.
abbrev pub IsInside : Reply → Type 0
IsInside last = (exit : Exit) → last ≡ exits exit → IsInner exit

-- If the final reply is no exit reason of the environment, then the environment did not cause the
-- status.
pub reply_inside :
    (output : List Output) (last : Reply) → IsInside last
    → IsOuter (ending_of (replies output last)).status → ⊥
reply_inside output (outputs final) inner outer =
    ok_or_no (all_ok (all_output (replies output (outputs final)))) outer
reply_inside output (exits exit) inner outer = inner_status exit (inner exit refl) outer

pub exit_status :
    (all : Replies) (exit : Exit) → all.last ≡ exits exit → (ending_of all).status ≡ status_of exit
exit_status all exit e = ap (λ last. (ending_of (replies all.output last)).status) e

-- If a file was not read, then the environment caused the exit reason.
pub file_outer :
    (found : Found) (name : List ℕ) (exit : Exit) → ReadsFile name found (Err exit)
    → IsInner exit → ⊥
file_outer (opened taken) name exit fault inner = go taken.until fault where
  go : (u : ReadingEnd) → fault_of u ≡ Some exit → ⊥
  go at_end e = cc e
  go at_fault e = let s : read_fault ≡ exit = cc e in subst IsInner (sym s) inner
  go at_length e = let s : too_long ≡ exit = cc e in subst IsInner (sym s) inner
  go unasked e = cc e
file_outer missing name exit fault inner = subst IsInner fault inner
file_outer failed name exit fault inner = subst IsInner fault inner
file_outer unfetched name exit fault inner = fault

-- The status of an input or a file that failed differs from 7 and 9.
pub read_output : IsWriteOrMemoryError statuses.ReadFault → ⊥
read_output (inl e) = cc e
read_output (inr e) = cc e

pub long_output : IsWriteOrMemoryError statuses.TooLong → ⊥
long_output (inl e) = cc e
long_output (inr e) = cc e

pub open_output : IsWriteOrMemoryError statuses.OpenFault → ⊥
open_output (inl e) = cc e
open_output (inr e) = cc e

pub end_output :
    (u : ReadingEnd) (exit : Exit) → fault_of u ≡ Some exit → IsWriteOrMemoryError (status_of exit) → ⊥
end_output at_end exit f write_or_memory_error = cc f
end_output at_fault exit f write_or_memory_error =
    let s : read_fault ≡ exit = cc f in
    read_output (subst (λ s. IsWriteOrMemoryError (status_of s)) (sym s) write_or_memory_error)
end_output at_length exit f write_or_memory_error =
    let s : too_long ≡ exit = cc f in
    long_output (subst (λ s. IsWriteOrMemoryError (status_of s)) (sym s) write_or_memory_error)
end_output unasked exit f write_or_memory_error = cc f

pub file_output :
    (name : List ℕ) (found : Found) (exit : Exit) → ReadsFile name found (Err exit)
    → IsWriteOrMemoryError (status_of exit) → ⊥
file_output name (opened taken) exit fault write_or_memory_error = end_output taken.until exit fault write_or_memory_error
file_output name missing exit fault write_or_memory_error =
    open_output (subst (λ s. IsWriteOrMemoryError (status_of s)) fault write_or_memory_error)
file_output name failed exit fault write_or_memory_error =
    open_output (subst (λ s. IsWriteOrMemoryError (status_of s)) fault write_or_memory_error)
file_output name unfetched exit fault write_or_memory_error = fault

unsaid_outer : (status : Status) → IsWriteOrMemoryError status → IsOuter status
unsaid_outer status (inl e) = subst IsOuter (sym e) tt
unsaid_outer status (inr e) = subst IsOuter (sym e) tt

module _ {A : Type 0} (c : Commands A) (arguments : List (List ℕ)) where
  -- The cause of an outcome's status: a reply that the environment did not cause, a file that was
  -- not read, or an input that failed or was too long.
  pub data Cause (given : Given) (all : Replies) : Type 0 where
    by_reply : IsInside all.last → Cause given all
    by_file : (request : Request) → Asks arguments request → (exit : Exit)
        → Prepares c arguments given.files (Err exit) → FailsAtFile c request given.files (Err exit) → all ≡ stopped exit → Cause given all
    by_input : (a : A) → Prepares c arguments given.files (Ok a) → c.Reads a → OutputsAll c a given.input all
        → (exit : Exit) → fault_of given.input.until ≡ Some exit → all.last ≡ exits exit
        → Cause given all

  module _ (lawful : AreLawful c) (given : Given) (all : Replies) where
    answer_cause :
        (a : A) → Prepares c arguments given.files (Ok a) → AreLawfulAt c a
        → Answers c a given.input all → Cause given all
    answer_cause a p law (inr alone) =
        by_reply (λ exit e. law.ends_inside [] [] exit (subst (λ r. c.Ends a [] [] r) e alone.last))
    answer_cause a p law (inl (reads, s)) = go s.last where
      closed : (u : ReadingEnd) → given.input.until ≡ u → Closes c a s.items s.rest u all.last
          → Cause given all
      closed at_end at closes =
          by_reply (λ exit e. law.ends_inside s.items s.rest exit
          (subst (λ r. c.Ends a s.items s.rest r) e closes))
      closed at_fault at closes = by_input a p reads s read_fault (ap fault_of at) closes
      closed at_length at closes = by_input a p reads s too_long (ap fault_of at) closes
      closed unasked at closes = absurd closes

      go : IsLast c a s.items s.rest given.input.until all.last → Cause given all
      go (inl (exit, at, fine, is)) = by_reply (λ other e.
          let same : exits exit ≡ exits other = sym is ∙ e in
          let one : exit ≡ other = cc same in
          subst IsInner one (law.exits_inside s.items s.rest exit at))
      go (inr (on, closes)) = closed given.input.until refl closes

    pub cause_of : RunReplies c arguments given all → Cause given all
    cause_of (found, (Ok request, asks, finds), m) = by found finds m where
      by : (found : Result A Exit) → c.Finds request given.files found → Goes c given all found
          → Cause given all
      by (Ok a) finds answers =
          answer_cause a (Ok request, asks, finds) (lawful.at a (request, given.files, finds)) answers
      by (Err exit) finds is = inside (lawful.finds_inside request given.files exit finds) where
        inside : IsInner exit ⊎ FailsAtFile c request given.files (Err exit) → Cause given all
        inside (inl inner) = by_reply (λ other e.
            let same : exits exit ≡ exits other = sym (ap (λ all. all.last) is) ∙ e in
            let one : exit ≡ other = cc same in subst IsInner one inner)
        inside (inr fails) = by_file request asks exit (Ok request, asks, finds) fails is
    cause_of (Ok a, (Err exit, reads, same), m) = absurd (cc same)
    cause_of (Err other, (Err exit, (none, is), same), m) = by_reply (λ last e.
        let one : other ≡ usage = let k : other ≡ exit = cc same in k ∙ is in
        let two : exits other ≡ exits last = sym (ap (λ all. all.last) m) ∙ e in
        let three : other ≡ last = cc two in subst IsInner (sym one ∙ three) tt)

    -- The reply of an outcome can be completed.
    pub outcome_output : RunReplies c arguments given all → IsWriteOrMemoryError (ending_of all).status → ⊥
    outcome_output outcome write_or_memory_error = by (cause_of outcome) where
      by : Cause given all → ⊥
      by (by_reply inside) =
          reply_inside all.output all.last inside (unsaid_outer (ending_of all).status write_or_memory_error)
      by (by_file request asks exit p fails is) =
          let both : ◌≡◌ {A = Result A Exit} (Err exit) (Err fails.exit) = fails.is in
          let same : exit ≡ fails.exit = cc both in
          let status : (ending_of all).status ≡ status_of fails.exit =
          ap (λ all. (ending_of all).status) is ∙ ap status_of same in
          file_output fails.name (given.files fails.turn fails.name) fails.exit fails.fault
          (subst IsWriteOrMemoryError status write_or_memory_error)
      by (by_input a p reads s exit f last) =
          end_output given.input.until exit f (subst IsWriteOrMemoryError (exit_status all exit last) write_or_memory_error)

module _ {A : Type 0} (c : Commands A) (arguments : List (List ℕ)) (call : Call) where
  -- The status of a run is that of an outcome, or the reply could not be completed.
  abbrev pub IsStatus : Type 0
  IsStatus = IsOfOutcome c arguments call call.status ⊎ IsWriteOrMemoryError call.status

  pub some_outcome : Account c arguments call → IsStatus
  some_outcome a = go a.ends where
    go : Completes c arguments a.given a.output call ⊎ Breaks c arguments a.given a.output call → IsStatus
    go (inr b) = inr (inr b.status)
    go (inl e) = write e.line where
      write : WritesLine call.err call.status (ending_of (replies a.output e.last)) → IsStatus
      write (inr part) = inr (inr part.1)
      write (inl line) = may e.may_end where
        may : RunReplies c arguments a.given (replies a.output e.last) ⊎ (e.last ≡ exits out_of_memory)
            → IsStatus
        may (inl r) = inl (record {
          given = a.given;
          may_be = a.may_be;
          all = replies a.output e.last;
          outcome = r;
          is = line.1;
        })
        may (inr memory) =
            inr (inl (line.1 ∙ exit_status (replies a.output e.last) out_of_memory memory))

  -- If `Holds` is true of the status of each outcome, then `Holds` is true of the run's status,
  -- unless the status is 7 or 9.
  pub settled :
      IsStatus → (Holds : Status → Type 0) → IsSettled c arguments call Holds
      → Holds call.status ⊎ IsWriteOrMemoryError call.status
  settled (inl o) Holds all_have =
      inl (subst Holds (sym o.is) (all_have o.given o.may_be o.all o.outcome))
  settled (inr write_or_memory_error) Holds all_have = inr write_or_memory_error

  -- If the arguments end the run, then the status is that of the exit reason, 7 or 9.
  pub if_arguments : AreLawful c → IsStatus → IfArguments c arguments call
  if_arguments lawful status exit always =
      settled status (λ s. s ≡ status_of exit) (λ given may_be all outcome.
      go given all outcome.0
      (prepares_once c lawful arguments given.files (Err exit) outcome.0 (always given.files) outcome.1)
      outcome.2) where
        go : (given : Given) (all : Replies) (found : Result A Exit) → Err exit ≡ found
            → Goes c given all found → (ending_of all).status ≡ status_of exit
        go given all (Ok a) e m = absurd (cc e)
        go given all (Err other) e m =
            let same : exit ≡ other = cc e in
            ap (λ all. (ending_of all).status) m ∙ ap status_of (sym same)

  -- If the arguments are no request, then the status is 2, 7 or 9.
  pub if_usage : AreLawful c → IsStatus → IfUsage c arguments call
  if_usage lawful status none =
      if_arguments lawful status usage (λ files. (Err usage, (none, refl), refl))
