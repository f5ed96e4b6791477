-- The exit status specification for arguments and files that end the run before the input is read:
-- a table with one row for each status.
use Rattle.std.specs.Prelude.{ℕ, ◌≡◌, ◌⊎◌, List, None, IsSomeAnd, Ok, Err}
use Rattle.cli_spec.specs.declared.status.Status.{Status}
use Rattle.cli_spec.specs.declared.status.Status.TheVariants.{Usage, Types, Script, ReadFault}
use Rattle.cli_spec.specs.declared.status.Status.TheVariants.{OpenFault, TooLong}
use Rattle.cli_spec.specs.Outcome.{whole, opened, Request, AskedType, path_of, status_of}
use Rattle.cli_spec.specs.Outcome.{ReadsFile, Language}
use Rattle.cli_spec.specs.declared.exit.Exit.{Exit}
use Rattle.run_spec.specs.runs.Commands.{Fetches}
use Rattle.run_spec.specs.value_commands.Tasks.{WantsFile, WantsScript, Wants}

module _ {D T E : Type 0} (language : Language D T E) where
  -- The request has a PATH that is no valid path.
  abbrev pub HasNoPath : Request → Type 0
  HasNoPath request = IsSomeAnd (path_of request) (λ text. language.ReadsPath text None)

  -- The declarations or the type are refused.
  abbrev pub IsRefusedType : List ℕ → AskedType → Type 0
  IsRefusedType text type =
      ((refusal : List ℕ) × language.ReadsDeclarations type.lines text (Err refusal))
      ⊎ ((d : D) × (refusal : List ℕ) × language.ReadsDeclarations type.lines text (Ok d)
      × language.ReadsType d type (Err refusal))

  -- FILE is read, and its contents or TYPE are refused.
  pub record RefusesTypes (request : Request) (files : Fetches) : Type 0 where
    pub name : List ℕ
    pub wants : WantsFile language request name
    pub text : List ℕ
    pub read : files 0 name ≡ opened (whole text)
    pub refused : IsRefusedType text wants.type

  -- SCRIPT is read in its turn, and the contents of SCRIPT are refused.
  pub record RefusesScript (request : Request) (files : Fetches) : Type 0 where
    pub name : List ℕ
    pub wants : WantsScript language request files name
    pub text : List ℕ
    pub read : files 1 name ≡ opened (whole text)
    pub refusal : ℕ × List ℕ
    pub refused :
        language.ReadsScript wants.typed.1.lines wants.typed.1.decimal text (Err refusal)

  -- FILE, or SCRIPT in its turn, is not read to its end, and the exit reason has the status
  -- `status`.
  pub record IsUnread (request : Request) (files : Fetches) (status : Status) : Type 0 where
    pub turn : ℕ
    pub name : List ℕ
    pub wants : Wants language request files turn name
    pub exit : Exit
    pub fault : ReadsFile name (files turn name) (Err exit)
    pub is : status_of exit ≡ status

  -- The request and its fetched files end the run with the given status before the input is read.
  abbrev pub Bar : Request → Fetches → Status → Type 0
  Bar request files Usage = HasNoPath request
  Bar request files Types = RefusesTypes request files
  Bar request files Script = RefusesScript request files
  Bar request files ReadFault = IsUnread request files ReadFault
  Bar request files OpenFault = IsUnread request files OpenFault
  Bar request files TooLong = IsUnread request files TooLong
  Bar request files status = ⊥
