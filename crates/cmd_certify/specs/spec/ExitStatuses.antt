-- Exit status specification of the command `check --cert`:
--
-- - 0: Each value has an entry that proves that the value has the type (`Finish`).
-- - 1: Each value has an entry, and one of the entries proves that its value does not have the type
--   (`Finish`).
-- - 2: The arguments are invalid.
-- - 3: The contents of FILE or the text TYPE are refused (`Bar`).
-- - 4: A value is refused (`HoldRefusal`) or truncated (`AreSplit`), and all values before the
--   value have entries.
-- - 6: FILE is not read to the end (`Bar`).
-- - 8: FILE cannot be opened (`Bar`).
-- - 10: FILE has 2^48 bytes or more (`Bar`).
--
-- Neither the values nor the file cause any other status. The definitions in run_spec::runs state
-- what 6, 7, 9 and 10 mean for the input, for out and for memory.
use Rattle.std.specs.Prelude.{ℕ, ◌≡◌, ◌≢◌, Bool, true, false, List, Some, Err}
use Rattle.marshal_spec.specs.format.Tree.{Tree}
use Rattle.cli_spec.specs.declared.status.Status.{Status}
use Rattle.cli_spec.specs.declared.status.Status.TheVariants.{AllOk, No, Types, Value, Script}
use Rattle.cli_spec.specs.declared.status.Status.TheVariants.{ReadFault, OpenFault, TooLong}
use Rattle.cli_spec.specs.declared.status.Status.TheVariants.{Compat, Certificate}
use Rattle.cli_spec.specs.Outcome.{whole, opened, Request, status_of, Output, ReadsFile, Language}
use Rattle.cli_spec.specs.declared.exit.Exit.{Exit}
use Rattle.run_spec.specs.runs.Call.{Call}
use Rattle.run_spec.specs.runs.Commands.{Fetches}
use Rattle.run_spec.specs.exit_causes.Causes.{Tables}
use Rattle.run_spec.specs.exit_statuses.NumberedItems.{HoldsOfAll, HoldsOfSome}
use Rattle.run_spec.specs.exit_statuses.Stages.{IsRefusedType}
use Rattle.cmd_certify.specs.spec.Certification.{Certification, OutputsSections, CertifyArguments}
use Rattle.cmd_certify.specs.spec.Certification.{certified_by}
use Rattle.cmd_certify.specs.spec.Certification.{Wants}
use Rattle.cmd_certify.specs.spec.RefusedEnd as ends

module _ {T : Type 0} (SectionOf : OutputsSections T) (a : Certification T) where
  -- The value has a certificate entry. `ok` states whether the entry proves that the value has the
  -- type.
  abbrev pub IsCertified : Bool → ℕ → Tree → Type 0
  IsCertified ok number tree =
      (output : Output) × SectionOf a.type number tree output × (output.ok ≡ ok)

  abbrev pub HasSection : ℕ → Tree → Type 0
  HasSection number tree = (ok : Bool) × IsCertified ok number tree

  -- If the input ends after these values, then the run has this status.
  abbrev pub Finish : List Tree → Status → Type 0
  Finish trees AllOk = HoldsOfAll (IsCertified true) 0 trees
  Finish trees No = HoldsOfAll HasSection 0 trees × HoldsOfSome (IsCertified false) 0 trees
  Finish trees status = ⊥

  -- If the input consists of these bytes, then the run has this status at the end of the input. If
  -- a value is truncated, the status is 4.
  abbrev pub EndWith : List ℕ → Status → Type 0
  EndWith bytes status = ends.EndWith a.limit HasSection Finish bytes status

  -- The bytes end the run with this status, for any bytes that follow.
  abbrev pub ExitWith : List ℕ → Status → Type 0
  ExitWith bytes status = (status ≡ Value) × ends.HoldRefusal a.limit HasSection bytes

module _ {D T E : Type 0} (language : Language D T E) (SectionOf : OutputsSections T) where
  -- FILE is read, and the contents of FILE or the text TYPE are refused.
  pub record RefusesTypes (request : Request) (files : Fetches) : Type 0 where
    pub asked : CertifyArguments
    pub is_asked : certified_by request ≡ Some asked
    pub text : List ℕ
    pub read : files 0 asked.file ≡ opened (whole text)
    pub is_refused : IsRefusedType language text asked.type

  -- FILE is not read to the end, and the exit reason has this status.
  pub record IsUnread (request : Request) (files : Fetches) (status : Status) : Type 0 where
    pub turn : ℕ
    pub name : List ℕ
    pub wants : Wants language SectionOf request files turn name
    pub exit : Exit
    pub fault : ReadsFile name (files turn name) (Err exit)
    pub is : status_of exit ≡ status

  -- The request and the result of fetching FILE end the run with this status, before the input is
  -- read.
  abbrev pub Bar : Request → Fetches → Status → Type 0
  Bar request files Types = RefusesTypes request files
  Bar request files ReadFault = IsUnread request files ReadFault
  Bar request files OpenFault = IsUnread request files OpenFault
  Bar request files TooLong = IsUnread request files TooLong
  Bar request files status = ⊥

  abbrev pub certifying_tables : Tables (Certification T)
  certifying_tables = record {
    BadArguments = λ request. ⊥;
    Bar = Bar;
    ExitWith = ExitWith SectionOf;
    EndWith = EndWith SectionOf;
  }

-- The call does not end with status 5, 11 or 12.
abbrev pub IsNeverRejected : Call → Type 0
IsNeverRejected call =
    (call.status ≢ Script) × (call.status ≢ Compat) × (call.status ≢ Certificate)
