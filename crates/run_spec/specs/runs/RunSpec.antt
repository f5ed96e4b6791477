-- The specification of a run by commands in the general form, and definitions of the
-- specification's consequences.
use Rattle.std.specs.Prelude.{ℕ, ◌^◌, ◌<◌, ◌≡◌, ◌≢◌, ◌⊎◌, List, length, take, Some, IfSome, Ok, Err}
use Rattle.cli_spec.specs.declared.status.Status.{Status}
use Rattle.cli_spec.specs.declared.status.Status.TheVariants.{Usage, ReadFault, Memory, TooLong}
use Rattle.cli_spec.specs.Outcome.{found_of, Request, Asks, IsUsage, status_of, ending_of, Output}
use Rattle.cli_spec.specs.Outcome.{Reply, Replies}
use Rattle.cli_spec.specs.declared.exit.Exit.{Exit}
use Rattle.base_io.specs.Files.{File, contents_of}
use Rattle.base_io.specs.Sink.{Writes}
use Rattle.run_spec.specs.runs.Account.{MayBe, FetchesFor, Account}
use Rattle.run_spec.specs.runs.Answered.{AnswersGiven, AnswersWhole}
use Rattle.run_spec.specs.runs.Call.{Call}
use Rattle.run_spec.specs.runs.Commands.{Item, Fetches, Given, Commands, Prepares, OutputsFirst}
use Rattle.run_spec.specs.runs.Commands.{GoesOn}
use Rattle.run_spec.specs.runs.Commands.{HaveExit, OutputsAlone, RunReplies, Outcome}
use Rattle.run_spec.specs.runs.Given.{IsInputOf}
use Rattle.run_spec.specs.runs.Environment.{AreShort, IsHonest, IsWriteOrMemoryError, IsEnvironment}
use Rattle.run_spec.specs.runs.Environment.{ReportsReadFault}
use Rattle.run_spec.specs.runs.Environment.{ReportsOpenFault, ReportsWriteFault}

-- The known files, with equal results in each turn.
abbrev pub known_files : List File → Fetches
known_files files = λ turn name. found_of (contents_of files name)

-- A failed call is reported: the status is 6, 7, 8 or 9.
pub record ReportsFaults (call : Call) : Type 0 where
  pub reads : ReportsReadFault call
  pub opens : ReportsOpenFault call
  pub writes : ReportsWriteFault call

module _ {A : Type 0} (c : Commands A) where
  -- The bytes contain no exit reason. If the input ends after the bytes, the final reply is `last`.
  pub record HoldEnd (a : A) (bytes : List ℕ) (output : List Output) (last : Reply) : Type 0 where
    pub items : List Item
    pub rest : List ℕ
    pub first : OutputsFirst c a bytes items output rest
    pub goes_on : GoesOn c a items rest
    pub ends : c.Ends a items rest last

  -- The input determines the status `status`. If the input is read, the input contains an exit
  -- reason with the status or ends with a reply that has the status. If the input is not read, the
  -- only reply has the status.
  abbrev pub Gives : A → List ℕ → Status → Type 0
  Gives a input status =
      (c.Reads a × (exit : Exit) × (status_of exit ≡ status) × HaveExit c a input exit)
      ⊎ ((all : Replies) × ((ending_of all).status ≡ status)
      × ((c.Reads a × HoldEnd a input all.output all.last) ⊎ OutputsAlone c a all))

  module _ (arguments : List (List ℕ)) where
    -- The arguments, the files and the input have an outcome, with which `out`, `err` and the
    -- status agree.
    pub record HasOutcome (call : Call) (input : List ℕ) (files : List File) : Type 0 where
      pub all : Replies
      pub outcome : Outcome c arguments (contents_of files) input all
      pub out : Writes call.out (ending_of all).out
      pub err : Writes call.err (ending_of all).err
      pub status : call.status ≡ (ending_of all).status

    -- Unless memory runs out, a fault-free run over known contents has the outcome of the contents,
    -- however the input was split into chunks.
    abbrev pub Headline : Call → Type 0
    Headline call = (input : List ℕ) (files : List File)
        → IsHonest call input files → call.status ≢ Memory → HasOutcome call input files

    -- The status is that of an outcome of what the environment may have provided.
    pub record IsOfOutcome (call : Call) (status : Status) : Type 0 where
      pub given : Given
      pub may_be : MayBe c arguments call given
      pub all : Replies
      pub outcome : RunReplies c arguments given all
      pub is : status ≡ (ending_of all).status

    -- The status is that of some outcome of what the environment may have provided, or the reply
    -- could not be completed.
    abbrev pub HasStatus : Call → Type 0
    HasStatus call = IsOfOutcome call call.status ⊎ IsWriteOrMemoryError call.status

    -- What is promised of each run, whatever the environment provides.
    pub record RunSpec (call : Call) : Type 0 where
      -- The account of the run states what the calls on the environment provided, the output for
      -- what was provided, and how much of the output was written.
      pub account : Account c arguments call
      -- Unless memory runs out or a write fails, the whole answer to what the calls provided is
      -- written.
      pub answered : AnswersGiven c arguments call
      -- If a call on the input found the end, the whole answer to the whole input is written. The
      -- exceptions are exhausted memory and failed writes.
      pub whole : AnswersWhole c arguments call
      -- Failed operations are reported.
      pub faults : ReportsFaults call

    -- ---- consequences

    -- The status of each outcome of what the environment may have provided satisfies `Holds`.
    abbrev pub IsSettled : Call → (Status → Type 0) → Type 0
    IsSettled call Holds = (given : Given) → MayBe c arguments call given
        → (all : Replies) → RunReplies c arguments given all → Holds (ending_of all).status

    -- `Holds` is true of the task that the fetched files determine, and of a whole input. The input
    -- begins with the bytes that were read, and agrees with the known contents.
    abbrev pub AtInput : Call → (A → List ℕ → Type 0) → Type 0
    AtInput call Holds =
        (found : Fetches) × FetchesFor c arguments call.files found
        × (a : A) × Prepares c arguments found (Ok a)
        × (input : List ℕ) × IfSome call.input.before.bytes (λ bytes. bytes ≡ input)
        × IsInputOf call.input input × Holds a input

    -- The run ends with the status `status` before the input is read.
    pub record ExitsBefore (call : Call) (status : Status) : Type 0 where
      pub found : Fetches
      pub files : FetchesFor c arguments call.files found
      pub request : Request
      pub asks : Asks arguments request
      pub exit : Exit
      pub finds : c.Finds request found (Err exit)
      pub is : status_of exit ≡ status

    -- The meaning of a status: the arguments are no request, the run ends before the input, or the
    -- input determines the status.
    abbrev pub Means : Call → Status → Type 0
    Means call status =
        (IsUsage arguments × (status ≡ Usage))
        ⊎ (ExitsBefore call status ⊎ AtInput call (λ a input. Gives a input status))

    -- If the run returns `status`, and the status is none of 6, 7, 9 and 10, then `Means` holds for
    -- the status.
    abbrev pub OnlyMeant : Call → Status → Type 0
    OnlyMeant call status =
        status ≢ ReadFault → status ≢ TooLong → (IsWriteOrMemoryError status → ⊥)
        → call.status ≡ status → Means call status

    -- The files are known and short enough and determine the task, and the input is known and read.
    pub record ReportsTask (call : Call) (a : A) (bytes : List ℕ) : Type 0 where
      pub files : List File
      pub map : call.files.before.map ≡ Some files
      pub short : AreShort files
      pub prepared : Prepares c arguments (known_files files) (Ok a)
      pub reads : c.Reads a
      pub input : call.input.before.bytes ≡ Some bytes

    -- Suppose the first 2^48 bytes of the known input contain an exit reason. Then the status is
    -- that of the exit reason, or a status from 6 to 9.
    abbrev pub IfExit : Call → Type 0
    IfExit call = (a : A) (bytes : List ℕ) (exit : Exit) → ReportsTask call a bytes
        → HaveExit c a (take (2 ^ 48) bytes) exit
        → (call.status ≡ status_of exit) ⊎ IsEnvironment call.status

    -- If the known input is short enough and ends with a reply, then the status is that of the
    -- reply, or a status from 6 to 9.
    abbrev pub IfEnd : Call → Type 0
    IfEnd call = (a : A) (bytes : List ℕ) (all : Replies) → ReportsTask call a bytes
        → length bytes < 2 ^ 48 → HoldEnd a bytes all.output all.last
        → (call.status ≡ (ending_of all).status) ⊎ IsEnvironment call.status

    -- If the arguments are no request, then the status is 2, 7 or 9.
    abbrev pub IfUsage : Call → Type 0
    IfUsage call = IsUsage arguments → (call.status ≡ Usage) ⊎ IsWriteOrMemoryError call.status
