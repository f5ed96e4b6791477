-- The arguments of `verify`, after the type was read from FILE and TYPE.
use Rattle.std.specs.Prelude.{ℕ, Bool, List, Ok}
use Rattle.cli_spec.specs.declared.read_options.ReadOptions.{ReadOptions}
use Rattle.cli_spec.specs.Outcome.{Found, asked_type, own, verify, Asks}
use Rattle.base_io.specs.StreamState.{FilesState, Change}
use Rattle.run_spec.specs.runs.Given.{Fetched}
use Rattle.run_types.specs.declared.requested.Prepared.{Prepared}
use Rattle.run_types.specs.RequestedTexts.{GivesType}

-- FILE and TYPE gave the type `r`, and the file `certificate` is read next.
pub record AsksToVerify (arguments : List (List ℕ)) (r : Prepared) (certificate : List ℕ)
    (reading : ReadOptions) (files : Change FilesState) : Type 0 where
  pub file : List ℕ
  pub type : List ℕ
  pub lines : Bool
  pub asks : Asks arguments (own (verify file type certificate lines reading))
  pub found : Found
  pub fetched : Fetched files file found
  pub gives : GivesType file (asked_type type lines) found (Ok r)
