-- The command `check --cert` in the general form of `Commands`. An item is a value, and the output
-- for the value is the value's certificate entry with the value's number.
use Rattle.std.specs.Prelude.{ℕ, ◌≡◌, List, length, Option, None, Some, Result, Ok}
use Rattle.marshal_spec.specs.format.Stream.{StreamEnd}
use Rattle.marshal_spec.specs.format.Tree.{Tree}
use Rattle.cli_spec.specs.CommandLine.{certify}
use Rattle.cli_spec.specs.Outcome.{Request, AskedType, asked_type, own, Output, nothing_output}
use Rattle.cli_spec.specs.Outcome.{Reply}
use Rattle.cli_spec.specs.Outcome.{outputs, Language, Then, ReadsTypeOf}
use Rattle.cli_spec.specs.declared.exit.Exit.{Exit}
use Rattle.run_spec.specs.runs.Commands.{Item, value as value_item, Fetches, Commands}
use Rattle.run_spec.specs.runs.Lawful.{IsOnce}
use Rattle.run_spec.specs.runs.LawfulLanguage.{IsGiven}
use Rattle.run_spec.specs.value_commands.Tasks.{IsFirstValue}
use Rattle.cmd_certify.specs.spec.RefusedEnd as ends

-- The task of the command: to certify the values at the type, under the limit of words.
pub record Certification (T : Type 0) : Type 0 where
  pub type : T
  pub limit : ℕ

-- The certificate entry for a value at a type, by the value's number. `Output.ok` states whether
-- the entry proves that the value has the type.
abbrev pub OutputsSections : Type 0 → Type 1
OutputsSections T = T → ℕ → Tree → Output → Type 0

-- ---- the values

module _ {T : Type 0} (SectionOf : OutputsSections T) (a : Certification T) where
  -- The output for the value after `items`.
  pub record OutputsOf (items : List Item) (item : Item) (output : Output) : Type 0 where
    pub tree : Tree
    pub is : item ≡ value_item tree
    pub section : SectionOf a.type (length items) tree output

  -- After the values `items`, the bytes that follow are refused.
  abbrev pub ExitsHere : List Item → List ℕ → Exit → Type 0
  ExitsHere items bytes exit = ends.ComesRefused a.limit (length items) bytes exit

  -- The final reply if the bytes end after `number` values, without a part of a next value.
  abbrev pub EndsClean : ℕ → Reply → Type 0
  EndsClean number last = last ≡ outputs nothing_output

  abbrev pub EndsBy : ℕ → StreamEnd → Reply → Type 0
  EndsBy number end last = ends.EndsBy a.limit EndsClean number end last

  abbrev pub EndsHere : List Item → List ℕ → Reply → Type 0
  EndsHere items bytes last = ends.EndsHere a.limit EndsClean items bytes last

-- ---- the files

-- The parsed arguments, if values are to be certified: FILE, TYPE and the limit.
pub record CertifyArguments : Type 0 where
  pub file : List ℕ
  pub type : AskedType
  pub limit : ℕ

abbrev pub certified_by : Request → Option CertifyArguments
certified_by (own (certify file type lines reading)) =
    Some (record { file = file; type = asked_type type lines; limit = reading.limit })
certified_by request = None

abbrev pub typed_of : CertifyArguments → List ℕ × AskedType
typed_of asked = (asked.file, asked.type)

-- FILE and TYPE are read. The result contains the task or the exit reason.
abbrev pub CertifiesBy : {D T E : Type 0} → Language D T E → Fetches → CertifyArguments
    → Result (Certification T) Exit → Type 0
CertifiesBy language files asked =
    Then (ReadsTypeOf language (files 0) (typed_of asked)) (λ type found.
    found ≡ Ok (record { type = type; limit = asked.limit }))

-- ---- the command

module _ {D T E : Type 0} (language : Language D T E) (SectionOf : OutputsSections T) where
  -- The file `name` is requested in this turn. Only FILE is requested, in the first turn.
  abbrev pub Wants : Request → Fetches → ℕ → List ℕ → Type 0
  Wants request files turn name =
      (asked : CertifyArguments) × (certified_by request ≡ Some asked) × (turn ≡ 0)
      × (name ≡ asked.file)

  abbrev pub Finds : Request → Fetches → Result (Certification T) Exit → Type 0
  Finds request files result =
      (asked : CertifyArguments) × (certified_by request ≡ Some asked)
      × CertifiesBy language files asked result

  abbrev pub certifying : Commands (Certification T)
  certifying = record {
    Wants = Wants;
    Finds = Finds;
    Reads = λ a. Unit {0};
    IsFirst = λ a items. IsFirstValue language a.limit;
    Outputs = OutputsOf SectionOf;
    Exits = ExitsHere SectionOf;
    Ends = EndsHere SectionOf;
  }

  -- If a type is parsed from some FILE and TYPE (`IsGiven`), then a value has at most one
  -- certificate entry at the type.
  abbrev pub AreCertifiedOnce : Type 0
  AreCertifiedOnce =
      (type : T) → IsGiven language type → (number : ℕ) (tree : Tree)
      → IsOnce (SectionOf type number tree)
