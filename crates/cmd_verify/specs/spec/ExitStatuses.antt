-- Exit status specification of the command `verify`:
--
-- - 0: Each value has a certificate entry that proves the value to be without errors, and no entry
--   remains (`Finish`).
-- - 1: Each value has an accepted entry, and no entry remains. One of the entries proves that its
--   value has an error (`Finish`).
-- - 2: The arguments are invalid.
-- - 3: The contents of FILE or the text TYPE are refused (`Bar`).
-- - 4: A value is refused (`HoldRefusal`) or truncated (`AreSplit`), and all values before the
--   value have entries.
-- - 6: FILE or CERT is not read to the end, in the file's turn (`Bar`).
-- - 8: FILE or CERT cannot be opened, in the file's turn (`Bar`).
-- - 10: FILE or CERT has 2^48 bytes or more, in the file's turn (`Bar`).
-- - 12: The contents of CERT are no certificate (`Bar`). Status 12 is also returned if a value has
--   no entry or a rejected entry (`HoldBreak`), or if entries remain at the end (`Finish`).
--
-- Neither the values nor the files cause any other status. The definitions in run_spec::runs state
-- what 6, 7, 9 and 10 mean for the input, for out and for memory.
use Rattle.std.specs.Prelude.{ℕ, ◌<◌, ◌≡◌, ◌≢◌, ◌⊎◌, Bool, true, false, List, [], ◌∷◌, ◌++◌, length}
use Rattle.std.specs.Prelude.{Some, Ok, Err}
use Rattle.marshal_spec.specs.format.Stream.{EncodeAll}
use Rattle.marshal_spec.specs.format.Tree.{Tree}
use Rattle.cli_spec.specs.declared.status.Status.{Status}
use Rattle.cli_spec.specs.declared.status.Status.TheVariants.{AllOk, No, Types, Value, Script}
use Rattle.cli_spec.specs.declared.status.Status.TheVariants.{ReadFault, OpenFault, TooLong}
use Rattle.cli_spec.specs.declared.status.Status.TheVariants.{Compat, Certificate}
use Rattle.cli_spec.specs.Outcome.{whole, opened, Request, status_of, ReadsFile, ReadsTypeOf}
use Rattle.cli_spec.specs.Outcome.{Language}
use Rattle.cli_spec.specs.declared.exit.Exit.{Exit}
use Rattle.run_spec.specs.runs.Call.{Call}
use Rattle.run_spec.specs.runs.Commands.{Fetches}
use Rattle.run_spec.specs.exit_causes.Causes.{Tables}
use Rattle.run_spec.specs.exit_statuses.NumberedItems.{HoldsOfAll, HoldsOfSome}
use Rattle.run_spec.specs.exit_statuses.Stages.{IsRefusedType}
use Rattle.cmd_verify.specs.spec.Verification.{Shown, shows, Verification, IsShown, IsUncertified}
use Rattle.cmd_verify.specs.spec.Verification.{VerifyArguments, typed_of, verified_by}
use Rattle.cmd_verify.specs.spec.Verification.{ReadsSections, Wants}
use Rattle.cmd_certify.specs.spec.RefusedEnd as ends

module _ {T S : Type 0} (ShownBy : T → S → Tree → Shown → Type 0) (a : Verification T S) where
  -- The value has an entry that is accepted. `ok` states whether the entry proves the value to be
  -- without errors.
  abbrev pub IsCertified : Bool → ℕ → Tree → Type 0
  IsCertified ok number tree = (line : List ℕ) × IsShown ShownBy a number tree (shows line ok)

  abbrev pub HasSection : ℕ → Tree → Type 0
  HasSection number tree = (ok : Bool) × IsCertified ok number tree

  -- If the input ends after these values, then the run has this status.
  abbrev pub Finish : List Tree → Status → Type 0
  Finish trees AllOk =
      HoldsOfAll (IsCertified true) 0 trees × (length trees ≡ length a.sections)
  Finish trees No =
      HoldsOfAll HasSection 0 trees × HoldsOfSome (IsCertified false) 0 trees
      × (length trees ≡ length a.sections)
  Finish trees Certificate = HoldsOfAll HasSection 0 trees × (length trees < length a.sections)
  Finish trees status = ⊥

  -- If the input consists of these bytes, then the run has this status at the end of the input. If
  -- a value is truncated, the status is 4.
  abbrev pub EndWith : List ℕ → Status → Type 0
  EndWith bytes status = ends.EndWith a.limit HasSection Finish bytes status

  -- The bytes begin with values that have entries, followed by a value that is not certified.
  pub record HoldBreak (bytes : List ℕ) : Type 0 where
    pub trees : List Tree
    pub tree : Tree
    pub rest : List ℕ
    pub encoded : EncodeAll a.limit bytes (trees ++ tree ∷ []) rest
    pub certified : HoldsOfAll HasSection 0 trees
    pub reason : List ℕ
    pub breaks : IsUncertified ShownBy a (length trees) tree reason

  -- The bytes end the run with this status, for any bytes that follow.
  abbrev pub ExitWith : List ℕ → Status → Type 0
  ExitWith bytes status =
      ((status ≡ Certificate) × HoldBreak bytes)
      ⊎ ((status ≡ Value) × ends.HoldRefusal a.limit HasSection bytes)

module _ {D T E S : Type 0} (language : Language D T E) (Reads : ReadsSections S)
    (ShownBy : T → S → Tree → Shown → Type 0) where
  -- FILE is read, and the contents of FILE or the text TYPE are refused.
  pub record RefusesTypes (request : Request) (files : Fetches) : Type 0 where
    pub asked : VerifyArguments
    pub is_asked : verified_by request ≡ Some asked
    pub text : List ℕ
    pub read : files 0 asked.file ≡ opened (whole text)
    pub is_refused : IsRefusedType language text asked.type

  -- CERT is read in the second turn, and the contents of CERT are no certificate.
  pub record RefusesCertificate (request : Request) (files : Fetches) : Type 0 where
    pub asked : VerifyArguments
    pub is_asked : verified_by request ≡ Some asked
    pub type : T
    pub typed : ReadsTypeOf language (files 0) (typed_of asked) (Ok type)
    pub text : List ℕ
    pub read : files 1 asked.certificate ≡ opened (whole text)
    pub line : ℕ
    pub is_refused : Reads text (Err line)

  -- FILE or CERT is not read to the end, in the file's turn, and the exit reason has this status.
  pub record IsUnread (request : Request) (files : Fetches) (status : Status) : Type 0 where
    pub turn : ℕ
    pub name : List ℕ
    pub wants : Wants language Reads ShownBy request files turn name
    pub exit : Exit
    pub fault : ReadsFile name (files turn name) (Err exit)
    pub is : status_of exit ≡ status

  -- The request and the results of fetching the requested files end the run with this status,
  -- before the input is read.
  abbrev pub Bar : Request → Fetches → Status → Type 0
  Bar request files Types = RefusesTypes request files
  Bar request files Certificate = RefusesCertificate request files
  Bar request files ReadFault = IsUnread request files ReadFault
  Bar request files OpenFault = IsUnread request files OpenFault
  Bar request files TooLong = IsUnread request files TooLong
  Bar request files status = ⊥

  abbrev pub certificate_tables : Tables (Verification T S)
  certificate_tables = record {
    BadArguments = λ request. ⊥;
    Bar = Bar;
    ExitWith = ExitWith ShownBy;
    EndWith = EndWith ShownBy;
  }

-- The call does not end with status 5 or 11.
abbrev pub IsNeverEdited : Call → Type 0
IsNeverEdited call = (call.status ≢ Script) × (call.status ≢ Compat)
