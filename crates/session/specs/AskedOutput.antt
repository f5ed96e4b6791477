-- The arguments of a command, if the type and the script were read.
use Rattle.std.specs.Prelude.{ℕ, Bool, List, Ok}
use Rattle.cli_spec.specs.declared.read_options.ReadOptions.{ReadOptions}
use Rattle.cli_spec.specs.Outcome.{Found, AskedType, Query}
use Rattle.base_io.specs.StreamState.{FilesState, Change, change}
use Rattle.text_path.specs.declared.edits.Script.{Script}
use Rattle.run_types.specs.declared.requested.Prepared.{Prepared}
use Rattle.run_spec.specs.runs.Given.{Fetched}
use Rattle.session.specs.Reporting.{AsksToReport, AsksToEdit}
use Rattle.run_types.specs.RequestedTexts.{GivesType, GivesScript}

-- FILE and TYPE gave the type `r`, and the arguments request the report `query`.
pub record AsksToPrint (arguments : List (List ℕ)) (r : Prepared) (query : Query)
    (reading : ReadOptions) (files : Change FilesState) : Type 0 where
  pub file : List ℕ
  pub type : AskedType
  pub asks : AsksToReport arguments file type query reading
  pub found : Found
  pub fetched : Fetched files file found
  pub gives : GivesType file type found (Ok r)

-- FILE and TYPE gave the type `r`, and SCRIPT gave the lines of `script`.
pub record AsksForLines (arguments : List (List ℕ)) (r : Prepared) (script : Script) (compat : Bool)
    (reading : ReadOptions) (files : Change FilesState) : Type 0 where
  pub name : List ℕ
  pub between : FilesState
  pub asks : AsksToEdit arguments r name compat reading (change files.before between)
  pub found : Found
  pub fetched : Fetched (change between files.after) name found
  pub gives : GivesScript r.lines r.decimal name found (Ok script)
