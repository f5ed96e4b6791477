-- The exit status specification of commands that read their input, given by tables for the
-- arguments and the files, and for the input. If the tables are exact, then each status has its
-- cause, and each cause leads to its status.
use Rattle.std.specs.Prelude.{ℕ, ◌^◌, ◌<◌, ◌≡◌, ◌≢◌, ◌↔◌, ◌⊎◌, List, ◌++◌, length, take, Some}
use Rattle.std.specs.Prelude.{IfSome, Ok, Err}
use Rattle.base_data.specs.model.Bytes.{AreBytes}
use Rattle.cli_spec.specs.declared.status.Status.{Status}
use Rattle.cli_spec.specs.declared.status.Status.TheVariants.{Usage, ReadFault, Memory, TooLong}
use Rattle.cli_spec.specs.Outcome.{whole, opened, Request, Asks, IsUsage, status_of, ending_of}
use Rattle.cli_spec.specs.Outcome.{Replies}
use Rattle.cli_spec.specs.declared.exit.Exit.{Exit}
use Rattle.cli_spec.specs.declared.exit.Exit.TheVariants.{BadPath as bad_path}
use Rattle.base_io.specs.Files.{File, contents_of}
use Rattle.base_io.specs.History.{Event, bytes_of, HasEnded}
use Rattle.run_spec.specs.runs.Account.{FetchesFor}
use Rattle.run_spec.specs.runs.Answered.{IsUnbroken}
use Rattle.run_spec.specs.runs.Call.{Call}
use Rattle.run_spec.specs.runs.RunCauses.{AreShortBefore}
use Rattle.run_spec.specs.runs.Commands.{Fetches, Commands, Prepares, HaveExit}
use Rattle.run_spec.specs.runs.Environment.{IsHonest, IsWriteOrMemoryError, IsEnvironment, AreShort}
use Rattle.run_spec.specs.runs.RunSpec.{known_files, HoldEnd, Gives, AtInput}

pub record Tables (A : Type 0) : Type 1 where
  -- The request alone ends the run with status 2.
  pub BadArguments : Request → Type 0
  -- The request and its fetched files end the run with the given status before the input is read.
  pub Bar : Request → Fetches → Status → Type 0
  -- The bytes end the run with the given status, whatever bytes follow.
  pub ExitWith : A → List ℕ → Status → Type 0
  -- If the bytes are the whole input, then the run has the given status at the end of the input.
  pub EndWith : A → List ℕ → Status → Type 0

module _ {A : Type 0} (c : Commands A) (tables : Tables A) where
  -- The input leads to the status `status`, by one of the two tables for inputs.
  abbrev pub Show : A → List ℕ → Status → Type 0
  Show a input status = tables.ExitWith a input status ⊎ tables.EndWith a input status

  -- ---- exact tables

  -- Bytes contain an exit reason with a status if and only if `ExitWith` holds for the bytes and
  -- the status.
  abbrev pub HaveExits : Type 0
  HaveExits = (a : A) (bytes : List ℕ) (status : Status)
      → ((exit : Exit) × (status_of exit ≡ status) × HaveExit c a bytes exit)
      ↔ tables.ExitWith a bytes status

  -- Bytes end with a reply that has a status if and only if `EndWith` holds for the bytes and the
  -- status.
  abbrev pub HaveEnds : Type 0
  HaveEnds = (a : A) (bytes : List ℕ) (status : Status) → AreBytes bytes
      → ((all : Replies) × ((ending_of all).status ≡ status)
      × HoldEnd c a bytes all.output all.last)
      ↔ tables.EndWith a bytes status

  -- An input determines a status if and only if `Show` holds for the input and the status.
  abbrev pub HaveShown : Type 0
  HaveShown = (a : A) (input : List ℕ) (status : Status) → AreBytes input
      → Gives c a input status ↔ Show a input status

  -- A request and its files end the run with a status if and only if `Bar` holds for the request,
  -- the files and the status.
  abbrev pub HaveBars : Type 0
  HaveBars = (request : Request) (files : Fetches) (status : Status)
      → ((exit : Exit) × (status_of exit ≡ status) × c.Finds request files (Err exit))
      ↔ tables.Bar request files status

  -- If the request alone ends the run, then PATH is no valid path.
  abbrev pub HaveBadArguments : Type 0
  HaveBadArguments = (request : Request) → tables.BadArguments request → (files : Fetches)
      → c.Finds request files (Err bad_path)

  -- The tables are exact, and the commands read their input.
  pub record AreExact : Type 0 where
    pub read : (a : A) → c.Reads a
    pub exits : HaveExits
    pub ends : HaveEnds
    pub bars : HaveBars
    pub bad_arguments : HaveBadArguments

  module _ (arguments : List (List ℕ)) where
    -- ---- statuses that the arguments, the files or the input cause

    -- The fetched files end the run with the status `status` before the input is read.
    pub record IsBarred (call : Call) (status : Status) : Type 0 where
      pub found : Fetches
      pub fetches : FetchesFor c arguments call.files found
      pub request : Request
      pub asks : Asks arguments request
      pub bar : tables.Bar request found status
      -- If the file map is known, then the text of a requested file is the text that the map has
      -- for the file's name.
      pub is_known : (turn : ℕ) (name text : List ℕ) → c.Wants request found turn name
          → found turn name ≡ opened (whole text)
          → IfSome call.files.before.map (λ all. contents_of all name ≡ Some text)

    -- The arguments are no request, the files end the run with the status, or the whole input leads
    -- to the status.
    abbrev pub IsCaused : Call → Status → Type 0
    IsCaused call status =
        (IsUsage arguments × (status ≡ Usage))
        ⊎ (IsBarred call status
        ⊎ AtInput c arguments call (λ a input. AreBytes input × Show a input status))

    -- If a status other than 6, 7, 9 and 10 is returned, then `IsCaused` holds for the status.
    abbrev pub OnlyCaused : Call → Type 0
    OnlyCaused call = (status : Status) → status ≢ ReadFault → status ≢ TooLong
        → (IsWriteOrMemoryError status → ⊥) → call.status ≡ status → IsCaused call status

    -- ---- when a status must be returned

    -- The arguments are a request that alone ends the run.
    abbrev pub AsksBadly : Type 0
    AsksBadly = (request : Request) × Asks arguments request × tables.BadArguments request

    -- If the arguments are no request, or a request that alone ends the run, then the status is 2,
    -- 7 or 9.
    abbrev pub IfBadArguments : Call → Type 0
    IfBadArguments call =
        IsUsage arguments ⊎ AsksBadly → (call.status ≡ Usage) ⊎ IsWriteOrMemoryError call.status

    -- Suppose known files end the run with a status, and the requested files are short enough. Then
    -- the run returns the status, or a status from 6 to 9.
    abbrev pub IfBarred : Call → Type 0
    IfBarred call = (files : List File) (request : Request) (status : Status)
        → call.files.before.map ≡ Some files
        → ((turn : ℕ) → AreShortBefore c arguments files turn)
        → Asks arguments request → tables.Bar request (known_files files) status
        → (call.status ≡ status) ⊎ IsEnvironment call.status

    -- The task is `a`, whatever the files are, or the known files are short enough and determine
    -- the task `a`.
    abbrev pub IsToBeDone : Call → A → Type 0
    IsToBeDone call a =
        ((files : Fetches) → Prepares c arguments files (Ok a))
        ⊎ ((files : List File) × (call.files.before.map ≡ Some files) × AreShort files
        × Prepares c arguments (known_files files) (Ok a))

    -- If the first 2^48 bytes of a known input end the run with a status, then the run returns the
    -- status, or a status from 6 to 9. If a known input is short enough and ends with a status,
    -- then the run returns the status, or a status from 6 to 9.
    abbrev pub IfShown : Call → Type 0
    IfShown call = (a : A) (bytes : List ℕ) (status : Status) → IsToBeDone call a
        → call.input.before.bytes ≡ Some bytes
        → tables.ExitWith a (take (2 ^ 48) bytes) status
        ⊎ ((length bytes < 2 ^ 48) × tables.EndWith a bytes status)
        → (call.status ≡ status) ⊎ IsEnvironment call.status

    -- ---- fault-free runs

    -- The arguments are no request, the files end the run with the status, or the input leads to
    -- the status.
    abbrev pub IsDue : List ℕ → Fetches → Status → Type 0
    IsDue input files status =
        (IsUsage arguments × (status ≡ Usage))
        ⊎ (((request : Request) × Asks arguments request × tables.Bar request files status)
        ⊎ ((a : A) × Prepares c arguments files (Ok a) × Show a input status))

    -- Unless memory ran out, a fault-free run returns a status if and only if `IsDue` holds for the
    -- status.
    abbrev pub HasWhatIsDue : Call → Type 0
    HasWhatIsDue call = (input : List ℕ) (files : List File) → IsHonest call input files
        → (call.status ≡ Memory)
        ⊎ ((status : Status) → (call.status ≡ status) ↔ IsDue input (known_files files) status)

    -- ---- runs that read their input to the end

    -- Let a run find the end of its input, let memory suffice, and let no write fail. Then the run
    -- returns a status if and only if `IsDue` holds for the status. `IsDue` is about the bytes of
    -- the calls on the input and about the fetched files. Nothing needs to be known before the run.
    abbrev pub HasWhatIsDueAtEnd : Call → Type 0
    HasWhatIsDueAtEnd call = IsUnbroken call → (new : List Event)
        → call.input.after.calls ≡ call.input.before.calls ++ new → HasEnded new
        → (found : Fetches) × FetchesFor c arguments call.files found
        × ((status : Status) → (call.status ≡ status) ↔ IsDue (bytes_of new) found status)

    -- ---- the whole specification

    pub record Causes (call : Call) : Type 0 where
      -- If status 0 to 5, 8, 11 or 12 is returned, then the arguments, the files or the whole input
      -- caused the status.
      pub only : OnlyCaused call
      -- Status 2 is returned if the arguments are no request, or a request that alone ends the run.
      pub bad_arguments : IfBadArguments call
      -- Status 3, 5, 8 or 12 is returned if known files are refused or missing.
      pub barred : IfBarred call
      -- If a known input leads to status 0, 1, 2, 4, 5, 11 or 12, then the run returns the status.
      pub shown : IfShown call
      -- Unless memory ran out, a fault-free run has a status if and only if `IsDue` holds for the
      -- status.
      pub due : HasWhatIsDue call
      -- Unless memory ran out or a write failed, a run that found the end of its input has a status
      -- if and only if `IsDue` holds for the status. Nothing needs to be known of the input.
      pub due_at_end : HasWhatIsDueAtEnd call
