-- More consequences of the specification of a run: files and their faults, an input that fails,
-- runs in which memory ran out or writing failed, and fault-free runs.
use Rattle.std.specs.Prelude.{ℕ, ◌+◌, ◌^◌, ◌<◌, ◌≤◌, ◌≡◌, ◌≢◌, ◌⊎◌, List, [], ◌∷◌, ◌++◌, length}
use Rattle.std.specs.Prelude.{take, Some, None, IsSomeAnd, IfSome, Ok, Err}
use Rattle.cli_spec.specs.declared.status.Status.{Status}
use Rattle.cli_spec.specs.declared.status.Status.TheVariants.{AllOk, ReadFault, WriteFault}
use Rattle.cli_spec.specs.declared.status.Status.TheVariants.{OpenFault, Memory, TooLong}
use Rattle.cli_spec.specs.Outcome.{Taken, nothing, whole, opened, exits, status_of, exit_line}
use Rattle.cli_spec.specs.Outcome.{ending_of, Output, Replies, all_output, texts_of}
use Rattle.cli_spec.specs.declared.exit.Exit.{Exit}
use Rattle.cli_spec.specs.declared.exit.Exit.TheVariants.{Memory as out_of_memory}
use Rattle.base_io.specs.Files.{File, contents_of}
use Rattle.base_io.specs.Sink.{Writes, WritesPart}
use Rattle.base_io.specs.StreamState.{FilesState, Change}
use Rattle.run_spec.specs.runs.Account.{IsWanted, FetchesFor, HaveNoExit, OutputsOfFirst}
use Rattle.run_spec.specs.runs.Call.{Call}
use Rattle.run_spec.specs.runs.Commands.{Fetches, Commands, Prepares, OutputsAlone, Outcome}
use Rattle.run_spec.specs.runs.Given.{Gathers, IsFoundOf}
use Rattle.run_spec.specs.runs.Environment.{WritesPartAfter, IsOkRead, IsHonest}
use Rattle.run_spec.specs.runs.Environment.{IsWriteOrMemoryError, IsEnvironment}
use Rattle.run_spec.specs.runs.Environment.{AreShort, CannotOpen, ReportsFault, OnlyReadFault}
use Rattle.run_spec.specs.runs.Environment.{OnlyWriteFault}
use Rattle.run_spec.specs.runs.RunSpec.{known_files, Gives, OnlyMeant}

module _ {A : Type 0} (c : Commands A) (arguments : List (List ℕ)) where
  -- For each status other than 6, 7, 9 and 10, the meaning of the status holds if the run returns
  -- the status.
  abbrev pub AreMeant : Call → Type 0
  AreMeant call = (status : Status) → OnlyMeant c arguments call status

  -- ---- the arguments, and commands without an input

  -- If the arguments end the run, whatever the files are, then the status is that of the exit
  -- reason, 7 or 9.
  abbrev pub IfArguments : Call → Type 0
  IfArguments call = (exit : Exit) → ((files : Fetches) → Prepares c arguments files (Err exit))
      → (call.status ≡ status_of exit) ⊎ IsWriteOrMemoryError call.status

  -- Suppose the files are known and short enough, and no input is read. Then the status is that of
  -- the final reply, or a status from 6 to 9.
  abbrev pub IfAlone : Call → Type 0
  IfAlone call = (files : List File) (a : A) (all : Replies) → call.files.before.map ≡ Some files
      → AreShort files → Prepares c arguments (known_files files) (Ok a) → OutputsAlone c a all
      → (call.status ≡ (ending_of all).status) ⊎ IsEnvironment call.status

  -- ---- the files

  -- A file that is requested, given the results of fetching files in the run.
  pub record IsSought (files : Change FilesState) (name : List ℕ) : Type 0 where
    pub found : Fetches
    pub fetches : FetchesFor c arguments files found
    pub turn : ℕ
    pub wanted : IsWanted c arguments found turn name

  -- If the file map is known, then the result of fetching a requested file agrees with the map.
  abbrev pub AreAsKnown : Call → Type 0
  AreAsKnown call = (found : Fetches) → FetchesFor c arguments call.files found
      → (turn : ℕ) (name : List ℕ) → IsWanted c arguments found turn name
      → IfSome call.files.before.map (λ all. IsFoundOf (contents_of all name) (found turn name))

  -- If status 8 is returned, then a requested file could not be opened, or is known not to exist.
  abbrev pub OnlyOpenFault : Call → Type 0
  OnlyOpenFault call = call.status ≡ OpenFault
      → (name : List ℕ) × IsSought call.files name × CannotOpen call.files name

  -- If status 10 is returned, then the input or a requested file has 2^48 bytes or more, unless its
  -- bytes are not known.
  abbrev pub OnlyTooLong : Call → Type 0
  OnlyTooLong call = call.status ≡ TooLong
      → IfSome call.input.before.bytes (λ bytes. 2 ^ 48 ≤ length bytes)
      ⊎ ((name : List ℕ) × IsSought call.files name
      × IfSome call.files.before.map (λ all.
      IsSomeAnd (contents_of all name) (λ bytes. 2 ^ 48 ≤ length bytes)))

  -- The status is 10, or from 6 to 9, if three conditions hold:
  --
  -- - the files are known and accepted,
  -- - the input is known and read, and has 2^48 bytes or more,
  -- - the bytes that can be read of the input contain no exit reason.
  abbrev pub IfInputTooLong : Call → Type 0
  IfInputTooLong call = (files : List File) (a : A) (bytes : List ℕ) (output : List Output)
      → call.files.before.map ≡ Some files → Prepares c arguments (known_files files) (Ok a)
      → c.Reads a
      → call.input.before.bytes ≡ Some bytes → 2 ^ 48 ≤ length bytes
      → HaveNoExit c a (take (2 ^ 48 + 65535) bytes) output
      → (call.status ≡ TooLong) ⊎ IsEnvironment call.status

  -- The files are known, and the known contents request the file with the name `name` in the turn
  -- `turn`.
  pub record ReportsTurn (call : Call) (turn : ℕ) (name : List ℕ) : Type 0 where
    pub files : List File
    pub map : call.files.before.map ≡ Some files
    pub wanted : IsWanted c arguments (known_files files) turn name

  -- The files that are requested before the turn `turn` are short enough.
  abbrev pub AreShortBefore : List File → ℕ → Type 0
  AreShortBefore files turn = (earlier : ℕ) (name bytes : List ℕ) → earlier < turn
      → IsWanted c arguments (known_files files) earlier name → contents_of files name ≡ Some bytes
      → length bytes < 2 ^ 48

  -- If a requested file does not exist, and the files requested before the missing file are short
  -- enough, then the status is 8, 7 or 9. After turn 0 the status can also be 6, because an earlier
  -- file may fail.
  abbrev pub IfMissing : Call → Type 0
  IfMissing call = (turn : ℕ) (name : List ℕ) → (known : ReportsTurn call turn name)
      → AreShortBefore known.files turn → contents_of known.files name ≡ None
      → (call.status ≡ OpenFault)
      ⊎ (((call.status ≡ ReadFault) × (0 < turn)) ⊎ IsWriteOrMemoryError call.status)

  -- If a requested file has 2^48 bytes or more, then the status is 10, or a status from 6 to 9. An
  -- earlier file may be the reason.
  abbrev pub IfFileTooLong : Call → Type 0
  IfFileTooLong call = (turn : ℕ) (name bytes : List ℕ) → (known : ReportsTurn call turn name)
      → contents_of known.files name ≡ Some bytes → 2 ^ 48 ≤ length bytes
      → (call.status ≡ TooLong) ⊎ IsEnvironment call.status

  -- Suppose known files end the run, and the requested files are short enough. Then the status is
  -- that of the exit reason, or a status from 6 to 9.
  abbrev pub IfFiles : Call → Type 0
  IfFiles call = (files : List File) (exit : Exit) → call.files.before.map ≡ Some files
      → ((turn : ℕ) → AreShortBefore files turn)
      → Prepares c arguments (known_files files) (Err exit)
      → (call.status ≡ status_of exit) ⊎ IsEnvironment call.status

  -- ---- an input or a file that failed or was too long

  -- The input caused the status. The bytes read contain no exit reason, and `out` has the output
  -- for the items of the bytes.
  pub record FailsByInput (call : Call) : Type 0 where
    pub taken : Taken
    pub gathers : Gathers call.input taken
    pub fails : ReportsFault taken.until call
    pub found : Fetches
    pub files : FetchesFor c arguments call.files found
    pub a : A
    pub prepared : Prepares c arguments found (Ok a)
    pub reads : c.Reads a
    pub output : List Output
    pub holds : HaveNoExit c a taken.bytes output
    pub out : Writes call.out (texts_of output)

  -- A requested file caused the status. No input was read, and nothing was written to `out`.
  pub record FailsByFile (call : Call) : Type 0 where
    pub found : Fetches
    pub files : FetchesFor c arguments call.files found
    pub turn : ℕ
    pub name : List ℕ
    pub wanted : IsWanted c arguments found turn name
    pub taken : Taken
    pub is_found : found turn name ≡ opened taken
    pub fails : ReportsFault taken.until call
    pub untaken : Gathers call.input nothing
    pub out : Writes call.out []

  -- If the status is 6 or 10, then the input or a file caused the status.
  abbrev pub IfInputFails : Call → Type 0
  IfInputFails call = (call.status ≡ ReadFault) ⊎ (call.status ≡ TooLong)
      → FailsByInput call ⊎ FailsByFile call

  -- ---- memory ran out, or writing failed

  -- `output` is the output for first items of the known input, or the whole output of an outcome.
  -- `output` is a prefix of the output of each outcome, and there is at most one outcome.
  pub record IsPrefixOfOutcome (input : List ℕ) (files : List File) (output : List Output)
      : Type 0 where
    pub is_output : (output ≡ [])
        ⊎ (OutputsOfFirst c arguments
        (record { files = known_files files; input = whole input }) output
        ⊎ ((all : Replies) × Outcome c arguments (contents_of files) input all
        × (all_output all ≡ output)))
    pub first : (all : Replies) → Outcome c arguments (contents_of files) input all
        → (later : List Output) × (all_output all ≡ output ++ later)

  -- If the status is 9, then `out` has a prefix of the outcome's texts, and `err` has the line for
  -- exhausted memory.
  abbrev pub IfMemory : Call → Type 0
  IfMemory call = (input : List ℕ) (files : List File) → IsOkRead call input files
      → call.status ≡ Memory
      → (output : List Output) × IsPrefixOfOutcome input files output
      × Writes call.out (texts_of output)
      × Writes call.err (exit_line out_of_memory)

  -- The case of status 7 where writing to `out` failed. `out` has the first texts of the outcome
  -- and a part of the next text, and nothing was written to `err`.
  abbrev pub OutBreaks : Call → List ℕ → List File → Type 0
  OutBreaks call input files =
      (output : List Output) × (next : Output) × IsPrefixOfOutcome input files (output ++ next ∷ [])
      × WritesPartAfter call.out (texts_of output) next.text × Writes call.err []

  -- The case of status 7 where writing to `err` failed. `err` has a proper prefix of the outcome's
  -- line or of the line for exhausted memory. `out` has the texts before the line.
  abbrev pub ErrBreaks : Call → List ℕ → List File → Type 0
  ErrBreaks call input files =
      (all : Replies) × Writes call.out (ending_of all).out
      × WritesPart call.err (ending_of all).err
      × (Outcome c arguments (contents_of files) input all
      ⊎ (IsPrefixOfOutcome input files all.output × (all.last ≡ exits out_of_memory)))

  abbrev pub IfWriteFault : Call → Type 0
  IfWriteFault call = (input : List ℕ) (files : List File) → IsOkRead call input files
      → call.status ≡ WriteFault → OutBreaks call input files ⊎ ErrBreaks call input files

  -- ---- fault-free runs

  -- Unless memory runs out, a fault-free run has the status of each outcome that exists.
  abbrev pub IsDecided : Call → Type 0
  IsDecided call = (input : List ℕ) (files : List File) → IsHonest call input files
      → call.status ≢ Memory → (all : Replies) → Outcome c arguments (contents_of files) input all
      → call.status ≡ (ending_of all).status

  -- Unless memory runs out, a fault-free run has the status that the input determines.
  abbrev pub IsExact : Call → Type 0
  IsExact call = (input : List ℕ) (files : List File) → IsHonest call input files
      → call.status ≢ Memory → (a : A) (status : Status)
      → Prepares c arguments (known_files files) (Ok a)
      → Gives c a input status → call.status ≡ status

  -- If the input is without errors, then the status is 0, or memory ran out.
  abbrev pub IsComplete : Call → Type 0
  IsComplete call = (input : List ℕ) (files : List File) → IsHonest call input files
      → (a : A) → Prepares c arguments (known_files files) (Ok a) → Gives c a input AllOk
      → (call.status ≡ AllOk) ⊎ (call.status ≡ Memory)

  -- ---- statuses that the environment causes

  pub record EnvironmentCauses (call : Call) : Type 0 where
    -- Status 6: a call on the input or on an opened file failed.
    pub read_fault : OnlyReadFault call
    -- Status 7: an operation on `out` or `err` failed.
    pub write_fault : OnlyWriteFault call
    -- Status 8: a requested file could not be opened, or does not exist.
    pub open_fault : OnlyOpenFault call
    pub missing : IfMissing call
    -- Status 10: the input or a requested file has 2^48 bytes or more.
    pub too_long : OnlyTooLong call
    pub file_too_long : IfFileTooLong call
    pub input_too_long : IfInputTooLong call
    -- If the status is 6 or 10 because of the input, `out` has the output for the items of the
    -- input. If the status is 6 or 10 because of a file, `out` has nothing.
    pub input_fails : IfInputFails call
    -- Status 9: memory ran out, and `out` has a prefix of the outcome's output.
    pub memory : IfMemory call
    -- Status 7: `out` or `err` failed, and has a prefix of the outcome's output.
    pub write_fails : IfWriteFault call
