-- The environment of a run, for any command: failed operations, and how failures change the state.
use Rattle.std.specs.Prelude.{ℕ, ◌^◌, ◌<◌, ◌≡◌, ◌⊎◌, List, ◌++◌, length, Some, None}
use Rattle.std.specs.Prelude.{IsSomeAnd}
use Rattle.cli_spec.specs.declared.status.Status.{Status}
use Rattle.cli_spec.specs.declared.status.Status.TheVariants.{ReadFault, WriteFault, OpenFault}
use Rattle.cli_spec.specs.declared.status.Status.TheVariants.{Memory}
use Rattle.cli_spec.specs.Outcome.{ReadingEnd, fault_of, status_of, exit_line, Ending}
use Rattle.cli_spec.specs.declared.exit.Exit.{Exit}
use Rattle.base_io.specs.IoFaults.{RoseOrLast}
use Rattle.base_io.specs.Files.{File, contents_of}
use Rattle.base_io.specs.History.{Event, HasFailed, HasOpenFailed, HasOpenFailedAt}
use Rattle.base_io.specs.Sink.{Writes, WritesPart}
use Rattle.base_io.specs.StreamState.{ByteState, FilesState, Change, change}
use Rattle.run_spec.specs.runs.Call.{Call}

-- `Holds` is true of the calls between two moments.
abbrev pub Called : List Event → List Event → (List Event → Type 0) → Type 0
Called before after Holds = (new : List Event) × (after ≡ before ++ new) × Holds new

-- If the line of the ending is written to `err`, the ending's status is returned. If the line could
-- not be written completely, the status is 7.
abbrev pub WritesLine : Change ByteState → Status → Ending → Type 0
WritesLine err status ending =
    (Writes err ending.err × (status ≡ ending.status))
    ⊎ (WritesPart err ending.err × (status ≡ WriteFault))

-- The text `text` was written completely, and the text `next` was not.
abbrev pub WritesPartAfter : Change ByteState → List ℕ → List ℕ → Type 0
WritesPartAfter sink text next =
    (between : ByteState) × Writes (change sink.before between) text
    × WritesPart (change between sink.after) next

-- ---- failed operations

-- Each file has fewer than 2^48 bytes.
abbrev pub AreShort : List File → Type 0
AreShort files = (name bytes : List ℕ) → contents_of files name ≡ Some bytes → length bytes < 2 ^ 48

-- The input and the files are known and short enough, and no operation on the input or the files
-- failed.
pub record IsOkRead (call : Call) (input : List ℕ) (files : List File) : Type 0 where
  pub input_known : call.input.before.bytes ≡ Some input
  pub files_known : call.files.before.map ≡ Some files
  pub input_short : length input < 2 ^ 48
  pub files_short : AreShort files
  pub takes : ¬ Called call.input.before.calls call.input.after.calls HasFailed
  pub opens : ¬ Called call.files.before.calls call.files.after.calls HasOpenFailed
  pub reads : ¬ Called call.files.before.calls call.files.after.calls HasFailed

-- A fault-free run: the input and the files are read without errors, and no operation on `out` or
-- `err` failed.
pub record IsHonest (call : Call) (input : List ℕ) (files : List File) : Type 0 where
  pub ok_read : IsOkRead call input files
  pub out : ¬ RoseOrLast call.out.before.faults call.out.after.faults
  pub err : ¬ RoseOrLast call.err.before.faults call.err.after.faults

-- The reply could not be completed: memory ran out, or `out` or `err` failed.
abbrev pub IsWriteOrMemoryError : Status → Type 0
IsWriteOrMemoryError status = (status ≡ Memory) ⊎ (status ≡ WriteFault)

-- Statuses 6 to 9, which a failed operation or exhausted memory causes, replace every other status.
abbrev pub IsEnvironment : Status → Type 0
IsEnvironment status = (status ≡ ReadFault) ⊎ ((status ≡ OpenFault) ⊎ IsWriteOrMemoryError status)

-- If status 6 is returned, then a call on the input or on an opened file failed.
abbrev pub OnlyReadFault : Call → Type 0
OnlyReadFault call = call.status ≡ ReadFault
    → Called call.input.before.calls call.input.after.calls HasFailed
    ⊎ Called call.files.before.calls call.files.after.calls HasFailed

-- If status 7 is returned, then the fault count of `out` or `err` increased or is at its last
-- value.
abbrev pub OnlyWriteFault : Call → Type 0
OnlyWriteFault call = call.status ≡ WriteFault
    → RoseOrLast call.out.before.faults call.out.after.faults
    ⊎ RoseOrLast call.err.before.faults call.err.after.faults

-- If the fault count of `out` or `err` increased, then the status is 7.
pub record ReportsWriteFault (call : Call) : Type 0 where
  pub out : call.out.before.faults < call.out.after.faults → call.status ≡ WriteFault
  pub err : call.err.before.faults < call.err.after.faults → call.status ≡ WriteFault

-- If a file could not be opened, then the status is 8, unless the reply could not be completed.
abbrev pub ReportsOpenFault : Call → Type 0
ReportsOpenFault call = Called call.files.before.calls call.files.after.calls HasOpenFailed
    → (call.status ≡ OpenFault) ⊎ IsWriteOrMemoryError call.status

-- If a call on the input or on an opened file failed, then the status is 6, unless the reply could
-- not be completed.
pub record ReportsReadFault (call : Call) : Type 0 where
  pub input : Called call.input.before.calls call.input.after.calls HasFailed
      → (call.status ≡ ReadFault) ⊎ IsWriteOrMemoryError call.status
  pub file : Called call.files.before.calls call.files.after.calls HasFailed
      → (call.status ≡ ReadFault) ⊎ IsWriteOrMemoryError call.status

-- Opening the file with the name `name` failed, or the file map is known and does not have the
-- name.
abbrev pub CannotOpen : Change FilesState → List ℕ → Type 0
CannotOpen files name =
    Called files.before.calls files.after.calls (HasOpenFailedAt name)
    ⊎ IsSomeAnd files.before.map (λ all. contents_of all name ≡ None)

-- The bytes ended at a fault, or were too many. The status reports the reason, and `err` has the
-- line of the reason.
pub record ReportsFault (until : ReadingEnd) (call : Call) : Type 0 where
  pub exit : Exit
  pub is_fault : fault_of until ≡ Some exit
  pub status : call.status ≡ status_of exit
  pub err : Writes call.err (exit_line exit)
