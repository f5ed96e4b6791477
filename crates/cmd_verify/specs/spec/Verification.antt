-- The command `verify` in the general form of `Commands`. An item is a value, and the certificate
-- entry with the value's number proves something about the value.
use Rattle.std.specs.Prelude.{ℕ, ◌≡◌, ◌⊎◌, Bool, if◌then◌else◌, nat_lt, List, [], ◌∷◌, ◌++◌, length}
use Rattle.std.specs.Prelude.{slice_get, Option, Some, None, Result, Ok, codes}
use Rattle.marshal_spec.specs.format.Stream.{EncodeAll, StreamEnd}
use Rattle.marshal_spec.specs.format.Tree.{Tree}
use Rattle.cli_spec.specs.Outcome.{Found, Request, AskedType, asked_type, own, verify, Output}
use Rattle.cli_spec.specs.Outcome.{nothing_output, Reply, outputs, exits, line, Language, Then}
use Rattle.cli_spec.specs.Outcome.{OrRefusal, ReadsFile, ReadsTypeOf}
use Rattle.cli_spec.specs.declared.exit.Exit.{Exit}
use Rattle.cli_spec.specs.declared.exit.Exit.TheVariants.{Certificate as certificate_line}
use Rattle.cli_spec.specs.declared.exit.Exit.TheVariants.{Uncertified as uncertified_value}
use Rattle.cli_spec.specs.declared.exit.Exit.TheVariants.{SectionsLeft as sections_left}
use Rattle.run_spec.specs.runs.Commands.{Item, value as value_item, Fetches, Commands}
use Rattle.run_spec.specs.runs.Lawful.{IsOnce}
use Rattle.run_spec.specs.runs.LawfulLanguage.{IsGiven}
use Rattle.run_spec.specs.value_commands.Tasks.{IsFirstValue}
use Rattle.cmd_certify.specs.spec.RefusedEnd as ends

-- What a certificate entry proves about a value at a type. `shows`: the output line for the value,
-- and whether the value is without errors. `rejects`: the reason why the entry is rejected.
pub data Shown : Type 0 where
  shows : (line : List ℕ) → (ok : Bool) → Shown
  rejects : (reason : List ℕ) → Shown

-- The task of the command: the entries certify the values at the type, in the order of the values.
pub record Verification (T S : Type 0) : Type 0 where
  pub type : T
  pub sections : List S
  pub limit : ℕ

-- ---- the values

module _ {T S : Type 0} (ShownBy : T → S → Tree → Shown → Type 0) (a : Verification T S) where
  -- The entry with number `number` proves `shown` about the value of the tree.
  pub record IsShown (number : ℕ) (tree : Tree) (shown : Shown) : Type 0 where
    pub section : S
    pub has : slice_get a.sections number ≡ Some section
    pub by : ShownBy a.type section tree shown

  -- The output for the value after `items`.
  pub record OutputsOf (items : List Item) (item : Item) (output : Output) : Type 0 where
    pub tree : Tree
    pub is : item ≡ value_item tree
    pub text : List ℕ
    pub shown : IsShown (length items) tree (shows text output.ok)
    pub output_is : output.text ≡ line text

  -- The value has no entry, or the value's entry is rejected.
  abbrev pub IsUncertified : ℕ → Tree → List ℕ → Type 0
  IsUncertified number tree reason =
      ((slice_get a.sections number ≡ None) × (reason ≡ codes "no section"))
      ⊎ ((why : List ℕ) × IsShown number tree (rejects why)
      × (reason ≡ codes "certificate " ++ why))

  -- The bytes begin with a value that is not certified.
  pub record ComesUncertified (number : ℕ) (bytes : List ℕ) (exit : Exit) : Type 0 where
    pub tree : Tree
    pub more : List ℕ
    pub encoded : EncodeAll a.limit bytes (tree ∷ []) more
    pub reason : List ℕ
    pub uncertified : IsUncertified number tree reason
    pub is : exit ≡ uncertified_value number reason

  -- After the values `items`, the bytes end the run early.
  abbrev pub ExitsHere : List Item → List ℕ → Exit → Type 0
  ExitsHere items bytes exit =
      ComesUncertified (length items) bytes exit
      ⊎ ends.ComesRefused a.limit (length items) bytes exit

  -- The final reply after `number` values. If entries remain, the final reply is an exit reason.
  abbrev pub ends_sections : ℕ → Reply
  ends_sections number =
      if nat_lt number (length a.sections) then exits sections_left else outputs nothing_output

  -- The final reply if the bytes end after `number` values, without a part of a next value.
  abbrev pub EndsClean : ℕ → Reply → Type 0
  EndsClean number last = last ≡ ends_sections number

  abbrev pub EndsBy : ℕ → StreamEnd → Reply → Type 0
  EndsBy number end last = ends.EndsBy a.limit EndsClean number end last

  abbrev pub EndsHere : List Item → List ℕ → Reply → Type 0
  EndsHere items bytes last = ends.EndsHere a.limit EndsClean items bytes last

-- ---- the files

-- The parsed arguments, if a certificate is to be verified: FILE, TYPE, CERT and the limit.
pub record VerifyArguments : Type 0 where
  pub file : List ℕ
  pub type : AskedType
  pub certificate : List ℕ
  pub limit : ℕ

abbrev pub typed_of : VerifyArguments → List ℕ × AskedType
typed_of asked = (asked.file, asked.type)

abbrev pub verified_by : Request → Option VerifyArguments
verified_by (own (verify file type certificate lines reading)) =
    Some (record {
      file = file;
      type = asked_type type lines;
      certificate = certificate;
      limit = reading.limit;
    })
verified_by request = None

-- How a text parses: as a list of entries, or with the number of the first faulty line.
abbrev pub ReadsSections : Type 0 → Type 1
ReadsSections S = List ℕ → Result (List S) ℕ → Type 0

-- CERT is opened and read, and the contents of CERT are parsed as entries. The result contains the
-- entries or the exit reason.
abbrev pub ReadsCertificateOf : {S : Type 0} → ReadsSections S → (List ℕ → Found) → List ℕ
    → Result (List S) Exit → Type 0
ReadsCertificateOf Reads files name =
    Then (ReadsFile name (files name)) (λ text. OrRefusal (Reads text) certificate_line)

-- The file `name` is requested in this turn. FILE is requested in the first turn. If FILE and TYPE
-- are valid, CERT is requested in the second turn.
abbrev pub WantedIn : {D T E : Type 0} → Language D T E → Fetches → VerifyArguments → ℕ → List ℕ
    → Type 0
WantedIn {T = T} language files asked turn name =
    ((turn ≡ 0) × (name ≡ asked.file))
    ⊎ ((turn ≡ 1) × (name ≡ asked.certificate)
    × (type : T) × ReadsTypeOf language (files 0) (typed_of asked) (Ok type))

-- FILE and TYPE are read first, and CERT is read second. The result contains the task or the exit
-- reason.
abbrev pub VerifiesBy : {D T E S : Type 0} → Language D T E → ReadsSections S → Fetches
    → VerifyArguments
    → Result (Verification T S) Exit → Type 0
VerifiesBy language Reads files asked =
    Then (ReadsTypeOf language (files 0) (typed_of asked)) (λ type.
    Then (ReadsCertificateOf Reads (files 1) asked.certificate) (λ sections found.
    found ≡ Ok (record { type = type; sections = sections; limit = asked.limit })))

-- ---- the command

module _ {D T E S : Type 0} (language : Language D T E) (Reads : ReadsSections S)
    (ShownBy : T → S → Tree → Shown → Type 0) where
  abbrev pub Wants : Request → Fetches → ℕ → List ℕ → Type 0
  Wants request files turn name =
      (asked : VerifyArguments) × (verified_by request ≡ Some asked)
      × WantedIn language files asked turn name

  abbrev pub Finds : Request → Fetches → Result (Verification T S) Exit → Type 0
  Finds request files result =
      (asked : VerifyArguments) × (verified_by request ≡ Some asked)
      × VerifiesBy language Reads files asked result

  abbrev pub verifying : Commands (Verification T S)
  verifying = record {
    Wants = Wants;
    Finds = Finds;
    Reads = λ a. Unit {0};
    IsFirst = λ a items. IsFirstValue language a.limit;
    Outputs = OutputsOf ShownBy;
    Exits = ExitsHere ShownBy;
    Ends = EndsHere ShownBy;
  }

  -- Each text parses as entries in one way. At each type that the language denotes, an entry proves
  -- one thing about a value.
  pub record AreReadOnce : Type 0 where
    pub sections : (text : List ℕ) → IsOnce (Reads text)
    pub shown : (type : T) → IsGiven language type → (section : S) (tree : Tree)
        → IsOnce (ShownBy type section tree)
