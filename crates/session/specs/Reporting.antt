-- The arguments that request a report on the values at a FILE and a TYPE, or edits by a SCRIPT.
use Rattle.std.specs.Prelude.{ℕ, ◌≡◌, Bool, false, List, Some, Result, Ok}
use Rattle.cli_spec.specs.declared.read_options.ReadOptions.{ReadOptions}
use Rattle.cli_spec.specs.Outcome.{Found, FetchResults, AskedType, asked_with, Query, ValueWork}
use Rattle.cli_spec.specs.Outcome.{Request}
use Rattle.cli_spec.specs.Outcome.{edit, Asks, typed_by, limit_of, ReportsAt, FindsWork}
use Rattle.cli_spec.specs.declared.exit.Exit.{Exit}
use Rattle.text_path.specs.declared.edits.ScriptLine.{ScriptLine}
use Rattle.run_types.specs.Language.{TypeOver, declared_types}
use Rattle.base_io.specs.StreamState.{FilesState, Change}
use Rattle.run_types.specs.declared.requested.Prepared.{Prepared}
use Rattle.opt_skip_only.specs.skip_spec.SkipRequests.{passed_by}
use Rattle.opt_skip_only.specs.only_spec.OnlyRequests.{picked_by}
use Rattle.opt_skip_only.specs.skip_spec.Skipping.{SkippedBytes}
use Rattle.run_spec.specs.runs.Given.{Fetched}
use Rattle.run_spec.specs.value_commands.Tasks.{HasPath}
use Rattle.run_types.specs.RequestedTexts.{GivesType}

-- The bytes to be skipped by `--skip`, which are not written to the output.
abbrev pub passed_in : ReadOptions → SkippedBytes
passed_in reading = record { bytes = reading.skip; copied = false }

-- The arguments request a report with FILE and TYPE. If there is a PATH, the PATH is a valid path.
pub record AsksToReport (arguments : List (List ℕ)) (name : List ℕ) (type : AskedType)
    (query : Query)
    (reading : ReadOptions) : Type 0 where
  pub request : Request
  pub asks : Asks arguments request
  pub typed : typed_by request ≡ Some (name, type)
  pub limited : limit_of request ≡ reading.limit
  pub passes : passed_by request ≡ passed_in reading
  pub picks : picked_by request ≡ reading.only
  pub has_path : HasPath declared_types request
  pub finds : (found : FetchResults) (result : Result (ValueWork TypeOver ScriptLine) Exit)
      → ReportsAt declared_types found.file (name, type) query result
      → FindsWork declared_types found request result

-- FILE and TYPE gave the type `r`, and SCRIPT is read next.
pub record AsksToEdit (arguments : List (List ℕ)) (r : Prepared) (script : List ℕ) (compat : Bool)
    (reading : ReadOptions) (files : Change FilesState) : Type 0 where
  pub file : List ℕ
  pub type : List ℕ
  pub lines : Bool
  pub decimal : Bool
  pub asks : Asks arguments (edit file type script compat lines decimal reading)
  pub found : Found
  pub fetched : Fetched files file found
  pub gives : GivesType file (asked_with type lines decimal) found (Ok r)
