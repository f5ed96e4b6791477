-- Exit status specification of the command on texts:
--
--     0   each text of the input is accepted, and its value has the type (`AreEnded`)
--     1   the value of a text does not have the type, and all lines before are blank or accepted
--         (`Break`)
--     2   the arguments are no request
--     3   the contents of FILE or TYPE are refused (`Bar`)
--     5   a text is refused, and all lines before are blank or accepted (`Break`)
--     6   FILE is not read to its end (`Bar`)
--     8   FILE could not be opened (`Bar`)
--     10  FILE has 2^48 bytes or more (`Bar`)
--
-- The texts and the file cause no other status. The statuses 6, 7, 9 and 10 that the input, `out`,
-- `err` or memory cause have the same meaning for all commands. `run_spec::runs` defines them.
use Rattle.std.specs.Prelude.{ℕ, ◌≡◌, ◌≢◌, ◌⊎◌, List, [], ◌∷◌, Some, Err}
use Rattle.std.specs.List.{AllByRecursion}
use Rattle.cli_spec.specs.declared.status.Status.{Status}
use Rattle.cli_spec.specs.declared.status.Status.TheVariants.{AllOk, No, Types, Value, Script}
use Rattle.cli_spec.specs.declared.status.Status.TheVariants.{ReadFault, OpenFault, TooLong}
use Rattle.cli_spec.specs.declared.status.Status.TheVariants.{Compat}
use Rattle.cli_spec.specs.Outcome.{whole, opened, Request, AskedType, status_of, ReadsFile}
use Rattle.cli_spec.specs.Outcome.{Language}
use Rattle.cli_spec.specs.declared.exit.Exit.{Exit}
use Rattle.run_spec.specs.runs.Call.{Call}
use Rattle.run_spec.specs.runs.Commands.{Fetches}
use Rattle.run_spec.specs.exit_causes.Causes.{Tables}
use Rattle.run_spec.specs.exit_statuses.Stages.{IsRefusedType}
use Rattle.cmd_build.specs.spec.InputTexts.{Built, blank, made, refused, untyped, IsUnbroken}
use Rattle.cmd_build.specs.spec.InputTexts.{IsLine}
use Rattle.cmd_build.specs.spec.InputTexts.{built_by}

-- The bytes are the given lines, each with a line feed, followed by the remaining bytes.
abbrev pub AreLines : List ℕ → List (List ℕ) → List ℕ → Type 0
AreLines bytes [] rest = bytes ≡ rest
AreLines bytes (line ∷ lines) rest =
    (more : List ℕ) × IsLine bytes line more × AreLines more lines rest

module _ {T : Type 0} (TextOf : T → List ℕ → Built → Type 0) (type : T) where
  -- The line is blank, or a text that becomes bytes.
  abbrev pub IsFine : List ℕ → Type 0
  IsFine line = TextOf type line blank ⊎ ((bytes : List ℕ) × TextOf type line (made bytes))

  -- After lines that satisfy `IsFine`, the given line ends the run with the given status.
  abbrev pub Break : List ℕ → Status → Type 0
  Break line No = (fault : List ℕ) × TextOf type line (untyped fault)
  Break line Script = (refusal : ℕ → List ℕ) × TextOf type line (refused refusal)
  Break line status = ⊥

  -- The bytes begin with lines that satisfy `IsFine`, and the next line ends the run with the
  -- status `status`.
  pub record HoldBreak (bytes : List ℕ) (status : Status) : Type 0 where
    pub lines : List (List ℕ)
    pub rest : List ℕ
    pub are : AreLines bytes lines rest
    pub fine : AllByRecursion IsFine lines
    pub line : List ℕ
    pub more : List ℕ
    pub is : IsLine rest line more
    pub breaks : Break line status

  -- The bytes are lines that satisfy `IsFine`, and a last line without a line feed. The last line
  -- satisfies `IsFine` too, or ends the run with the status `status`.
  pub record AreEnded (bytes : List ℕ) (status : Status) : Type 0 where
    pub lines : List (List ℕ)
    pub last : List ℕ
    pub are : AreLines bytes lines last
    pub fine : AllByRecursion IsFine lines
    pub unbroken : IsUnbroken last
    pub ends : (IsFine last × (status ≡ AllOk)) ⊎ Break last status

module _ {D T E : Type 0} (language : Language D T E) (TextOf : T → List ℕ → Built → Type 0) where
  -- FILE is read, and the contents of FILE or TYPE are refused.
  pub record RefusesTypes (request : Request) (files : Fetches) : Type 0 where
    pub name : List ℕ
    pub type : AskedType
    pub asked : built_by request ≡ Some (name, type)
    pub text : List ℕ
    pub read : files 0 name ≡ opened (whole text)
    pub is_refused : IsRefusedType language text type

  -- FILE is not read to its end, and the exit reason has the status `status`.
  pub record IsUnread (request : Request) (files : Fetches) (status : Status) : Type 0 where
    pub name : List ℕ
    pub type : AskedType
    pub asked : built_by request ≡ Some (name, type)
    pub exit : Exit
    pub fault : ReadsFile name (files 0 name) (Err exit)
    pub is : status_of exit ≡ status

  -- The request and its fetched file end the run with the given status before the input is read.
  abbrev pub Bar : Request → Fetches → Status → Type 0
  Bar request files Types = RefusesTypes request files
  Bar request files ReadFault = IsUnread request files ReadFault
  Bar request files OpenFault = IsUnread request files OpenFault
  Bar request files TooLong = IsUnread request files TooLong
  Bar request files status = ⊥

  abbrev pub texts_tables : Tables T
  texts_tables = record {
    BadArguments = λ request. ⊥;
    Bar = Bar;
    ExitWith = HoldBreak TextOf;
    EndWith = AreEnded TextOf;
  }

-- The statuses 4 and 11 are never returned.
abbrev pub IsNeverRefused : Call → Type 0
IsNeverRefused call = (call.status ≢ Value) × (call.status ≢ Compat)
