-- The report of a run, and what the status of the run implies about the environment.
use Rattle.std.specs.Prelude.{ℕ, ◌^◌, ◌≤◌, ◌≡◌, ◌⊎◌, Bool, if◌then◌else◌, List, [], length, Result}
use Rattle.std.specs.Prelude.{Ok, Err, IfSome}
use Rattle.cli_spec.specs.declared.status.Status.{Status}
use Rattle.cli_spec.specs.declared.status.Status.TheVariants as statuses
use Rattle.cli_spec.specs.declared.exit.Exit.{Exit}
use Rattle.cli_spec.specs.declared.exit.Exit.TheVariants.{ReadFault as read_fault}
use Rattle.cli_spec.specs.declared.exit.Exit.TheVariants.{TooLong as too_long}
use Rattle.cli_spec.specs.declared.exit.Exit.TheVariants.{Memory as out_of_memory}
use Rattle.base_io.specs.IoFaults.{RoseOrLast}
use Rattle.base_io.specs.History.{HasFailed}
use Rattle.base_io.specs.Sink.{Writes}
use Rattle.base_io.specs.StreamState.{ByteState, SourceState, FilesState, Change}
use Rattle.cli_errors.specs.declared.exit_line.Error.{Error}
use Rattle.cli_errors.specs.declared.exit_line.Error.TheVariants as aborts
use Rattle.cli_errors.specs.Exits.{Reports}
use Rattle.run_spec.specs.runs.Account.{FetchesFor, Account}
use Rattle.run_spec.specs.runs.Call.{call}
use Rattle.run_spec.specs.runs.Commands.{Fetches, Commands, Prepares}
use Rattle.run_spec.specs.runs.Environment.{Called}
use Rattle.run_spec.specs.runs.Lawful.{IsInner, AreLawfulAt}
use Rattle.run_loop.specs.work.Runs.{Runs}

-- The status of a run that reached the end of its input.
abbrev pub ending_status : Bool → Status
ending_status ok = if ok then statuses.AllOk else statuses.No

-- If the run ended early, then the exit reason is reported on `err`. If writing to out failed, or
-- the run reached the end of the input, then nothing is written to `err`.
abbrev pub IsReported : Result Bool Error → Change ByteState → Status → Type 0
IsReported (Ok ok) err status = Writes err [] × (status ≡ ending_status ok)
IsReported (Err (aborts.Exit exit)) err status = Reports exit err status
IsReported (Err aborts.WriteFault) err status = Writes err [] × (status ≡ statuses.WriteFault)

-- Either the exit reason is the command's own, or the environment caused the exit reason. The
-- causes of the environment are that memory ran out, that a read failed, and that the input has
-- 2^48 bytes or more.
abbrev pub HasReason : Change SourceState → Exit → Type 0
HasReason input exit =
    IsInner exit
    ⊎ ((exit ≡ out_of_memory)
    ⊎ (((exit ≡ read_fault) × Called input.before.calls input.after.calls HasFailed)
    ⊎ ((exit ≡ too_long) × IfSome input.before.bytes (λ bytes. 2 ^ 48 ≤ length bytes))))

-- If the run ends early, then the exit reason satisfies `HasReason`. If writing to out fails, then
-- a call on out failed.
abbrev pub AbortsByEnvironment :
    Change SourceState → Change ByteState → Result Bool Error → Type 0
AbortsByEnvironment input out (Ok ok) = Unit {0}
AbortsByEnvironment input out (Err (aborts.Exit exit)) = HasReason input exit
AbortsByEnvironment input out (Err aborts.WriteFault) =
    RoseOrLast out.before.faults out.after.faults

module _ {A : Type 0} (c : Commands A) where
  -- For all arguments and files of the task, a run with these results has an account.
  abbrev pub HasAccount :
      A → Change SourceState → Change ByteState → Change ByteState → Status → Type 0
  HasAccount a input out err status =
      (arguments : List (List ℕ)) (found : Fetches) (files : Change FilesState)
      → FetchesFor c arguments files found → Prepares c arguments found (Ok a)
      → Account c arguments (call input files out err status)

  -- A lawful command returns a status of the environment only if the environment caused the status.
  abbrev pub ReportsEnvironment : Type 0
  ReportsEnvironment = (a : A) → AreLawfulAt c a
      → (input : Change SourceState) (out : Change ByteState) (result : Result Bool Error)
      → Runs c a input out result → AbortsByEnvironment input out result
