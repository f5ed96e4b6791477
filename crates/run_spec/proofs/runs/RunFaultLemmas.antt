-- What the status reports about a failed operation, and the consequences of a status for failed
-- operations.
use Rattle.std.proofs.Common.{◌≡◌, ◌⊎◌, ◌<◌, ◌≤◌, ◌^◌, ℕ, true, List, Option, Some, None, IfSome, Result, Ok, Err, inl, inr, refl, sym, ap, ◌∙◌, subst, length, arith}
use Rattle.std.specs.Prelude.{IsSomeAnd}
use Rattle.std.proofs.lemmas.Option.{IfSome_then}
use Rattle.cli_spec.specs.declared.status.Status.{Status}
use Rattle.cli_spec.specs.declared.status.Status.TheVariants as statuses
use Rattle.cli_spec.specs.Outcome.{ReadingEnd, at_end, at_fault, at_length, unasked, Taken, nothing, whole, Found, opened, missing, failed, unfetched, Request, Asks, status_of, ending_of, fault_of, ReadsFile, exits, Replies, replies, stopped}
use Rattle.cli_spec.specs.declared.exit.Exit.{Exit}
use Rattle.cli_spec.specs.declared.exit.Exit.TheVariants.{CannotOpen as cannot_open, ReadFault as read_fault, TooLong as too_long, Memory as out_of_memory}
use Rattle.cli_args.proofs.RequestLemmas.{one_request}
use Rattle.base_io.specs.IoFaults.{RoseOrLast}
use Rattle.base_io.specs.Files.{File, contents_of}
use Rattle.run_spec.specs.runs.Account.{IsWanted, MayBe, Completes, Breaks, Account}
use Rattle.run_spec.specs.runs.Call.{Call}
use Rattle.run_spec.specs.runs.RunCauses.{IsSought, OnlyTooLong}
use Rattle.run_spec.specs.runs.Commands.{Given, Commands, Prepares, IsLast, Closes, RunReplies}
use Rattle.run_spec.specs.runs.Given.{IsFoundOf, IsMeasured, IsMeasuredFile, is_fault, has_open_fault, has_read_fault}
use Rattle.run_spec.specs.runs.Lawful.{IsWhole, FailsAtFile, AreLawful}
use Rattle.run_spec.specs.runs.Environment.{WritesLine, IsWriteOrMemoryError, OnlyWriteFault, ReportsWriteFault}
use Rattle.run_spec.proofs.runs.RunFileLemmas.{found_in, measured_in, not_shorter}
use Rattle.run_spec.proofs.runs.RunOnceLemmas.{prepares_once}
use Rattle.run_spec.proofs.runs.RunWriteLemmas.{rose_after}
use Rattle.run_spec.proofs.runs.RunSettledLemmas.{Goes, IsOuter, reply_inside, exit_status, Cause, by_reply, by_file, by_input, cause_of, outcome_output, long_output, IsStatus}

not_less : (a b : ℕ) → b ≡ a → a < b → ⊥
not_less a b e less = omega arith

-- If the exit reason has status 6, then the bytes ended at a fault.
read_end :
    (u : ReadingEnd) (exit : Exit) → fault_of u ≡ Some exit → status_of exit ≡ statuses.ReadFault
    → u ≡ at_fault
read_end at_end exit f e = absurd (cc f)
read_end at_fault exit f e = refl
read_end at_length exit f e =
    let s : too_long ≡ exit = cc f in
    let no : statuses.TooLong ≡ statuses.ReadFault = ap status_of s ∙ e in absurd (cc no)
read_end unasked exit f e = absurd (cc f)

long_end :
    (u : ReadingEnd) (exit : Exit) → fault_of u ≡ Some exit → status_of exit ≡ statuses.TooLong
    → u ≡ at_length
long_end at_end exit f e = absurd (cc f)
long_end at_fault exit f e =
    let s : read_fault ≡ exit = cc f in
    let no : statuses.ReadFault ≡ statuses.TooLong = ap status_of s ∙ e in absurd (cc no)
long_end at_length exit f e = refl
long_end unasked exit f e = absurd (cc f)

-- The file was opened, and the bytes of the file ended for the reason `end`.
pub record EndsSo (found : Found) (end : ReadingEnd) : Type 0 where
  pub taken : Taken
  pub is : found ≡ opened taken
  pub until : taken.until ≡ end

pub file_read :
    (name : List ℕ) (found : Found) (exit : Exit) → ReadsFile name found (Err exit)
    → status_of exit ≡ statuses.ReadFault → EndsSo found at_fault
file_read name (opened taken) exit fault e =
    record { taken = taken; is = refl; until = read_end taken.until exit fault e }
file_read name missing exit fault e =
    let no : statuses.OpenFault ≡ statuses.ReadFault = sym (ap status_of fault) ∙ e in absurd (cc no)
file_read name failed exit fault e =
    let no : statuses.OpenFault ≡ statuses.ReadFault = sym (ap status_of fault) ∙ e in absurd (cc no)
file_read name unfetched exit fault e = absurd fault

pub file_long :
    (name : List ℕ) (found : Found) (exit : Exit) → ReadsFile name found (Err exit)
    → status_of exit ≡ statuses.TooLong → EndsSo found at_length
file_long name (opened taken) exit fault e =
    record { taken = taken; is = refl; until = long_end taken.until exit fault e }
file_long name missing exit fault e =
    let no : statuses.OpenFault ≡ statuses.TooLong = sym (ap status_of fault) ∙ e in absurd (cc no)
file_long name failed exit fault e =
    let no : statuses.OpenFault ≡ statuses.TooLong = sym (ap status_of fault) ∙ e in absurd (cc no)
file_long name unfetched exit fault e = absurd fault

-- If 2^48 bytes or more of a file were read, then the file has 2^48 bytes or more in the file map.
known_long :
    (contents : Option (List ℕ)) (taken : Taken) → IsFoundOf contents (opened taken)
    → 2 ^ 48 ≤ length taken.bytes → IsSomeAnd contents (λ bytes. 2 ^ 48 ≤ length bytes)
known_long None taken is long = absurd is
known_long (Some bytes) taken is long = not_shorter bytes taken is.0 is.1 long

-- ---- status 7

module _ {A : Type 0} (c : Commands A) (arguments : List (List ℕ)) (call : Call)
    (a : Account c arguments call) where
  -- An operation on `out` or `err` failed.
  abbrev Rose : Type 0
  Rose = RoseOrLast call.out.before.faults call.out.after.faults
      ⊎ RoseOrLast call.err.before.faults call.err.after.faults

  pub only_write_fault : AreLawful c → OnlyWriteFault call
  only_write_fault lawful is = go a.ends where
    go : Completes c arguments a.given a.output call ⊎ Breaks c arguments a.given a.output call → Rose
    go (inr b) =
        inl (rose_after call.out.before.faults b.out.0.faults call.out.after.faults
        b.out.1.cause b.out.2.cause)
    go (inl e) = write e.line where
      write : WritesLine call.err call.status (ending_of (replies a.output e.last)) → Rose
      write (inr part) = inr part.0.cause.rose
      write (inl line) = absurd (may e.may_end) where
        may : RunReplies c arguments a.given (replies a.output e.last) ⊎ (e.last ≡ exits out_of_memory)
            → ⊥
        may (inl r) =
            outcome_output c arguments lawful a.given (replies a.output e.last) r
            (inr (sym line.1 ∙ is))
        may (inr memory) =
            let no : statuses.Memory ≡ statuses.WriteFault =
            sym (line.1 ∙ exit_status (replies a.output e.last) out_of_memory memory) ∙ is in
            cc no

  pub reports_write_fault : ReportsWriteFault call
  reports_write_fault = record { out = out_known a.ends; err = err_known a.ends } where
    out_known : Completes c arguments a.given a.output call ⊎ Breaks c arguments a.given a.output call
        → call.out.before.faults < call.out.after.faults → call.status ≡ statuses.WriteFault
    out_known (inr b) less = b.status
    out_known (inl e) less =
        absurd (not_less call.out.before.faults call.out.after.faults e.out.cause.kept less)

    err_known : Completes c arguments a.given a.output call ⊎ Breaks c arguments a.given a.output call
        → call.err.before.faults < call.err.after.faults → call.status ≡ statuses.WriteFault
    err_known (inr b) less = b.status
    err_known (inl e) less = write e.line where
      write : WritesLine call.err call.status (ending_of (replies a.output e.last))
          → call.status ≡ statuses.WriteFault
      write (inr part) = part.1
      write (inl line) =
          absurd (not_less call.err.before.faults call.err.after.faults line.0.cause.kept less)

-- ---- statuses 6 and 10

module _ {A : Type 0} (c : Commands A) (arguments : List (List ℕ)) (call : Call)
    (lawful : AreLawful c) where
  pub not_of_environment :
      (status other : Status) → IsWriteOrMemoryError status → status ≡ other → (IsWriteOrMemoryError other → ⊥) → ⊥
  not_of_environment status other write_or_memory_error e never = never (subst IsWriteOrMemoryError e write_or_memory_error)

  module _ (given : Given) (may_be : MayBe c arguments call given) (all : Replies)
      (outcome : RunReplies c arguments given all) where
    wanted_of :
        (request : Request) → Asks arguments request → (result : Result A Exit)
        → (f : FailsAtFile c request given.files result)
        → IsWanted c arguments given.files f.turn f.name
    wanted_of request asks result f = record { request = request; asks = asks; wants = f.wants }

    -- If an outcome has status 6, then the input or a file ends because of a fault.
    pub read_from :
        (ending_of all).status ≡ statuses.ReadFault
        → (is_fault given.input.until ≡ true)
        ⊎ ((turn : ℕ) × (name : List ℕ) × IsWanted c arguments given.files turn name
        × (has_read_fault (given.files turn name) ≡ true))
    read_from e = by (cause_of c arguments lawful given all outcome) where
      by : Cause c arguments given all
          → (is_fault given.input.until ≡ true)
          ⊎ ((turn : ℕ) × (name : List ℕ) × IsWanted c arguments given.files turn name
          × (has_read_fault (given.files turn name) ≡ true))
      by (by_reply inside) =
          absurd (reply_inside all.output all.last inside (subst IsOuter (sym e) tt))
      by (by_file request asks exit p f is) =
          let both : ◌≡◌ {A = Result A Exit} (Err exit) (Err f.exit) = f.is in
          let same : exit ≡ f.exit = cc both in
          let status : status_of f.exit ≡ statuses.ReadFault =
          sym (ap (λ all. (ending_of all).status) is ∙ ap status_of same) ∙ e in
          let ends = file_read f.name (given.files f.turn f.name) f.exit f.fault status in
          inr (
            f.turn,
            f.name,
            wanted_of request asks (Err exit) f,
            ap has_read_fault ends.is ∙ ap is_fault ends.until,
          )
      by (by_input a p reads s exit f last) =
          let at = read_end given.input.until exit f (sym (exit_status all exit last) ∙ e) in
          inl (ap is_fault at)

    long_of :
        (ending_of all).status ≡ statuses.TooLong
        → IfSome call.input.before.bytes (λ bytes. 2 ^ 48 ≤ length bytes)
        ⊎ ((name : List ℕ) × IsSought c arguments call.files name
        × IfSome call.files.before.map (λ all.
        IsSomeAnd (contents_of all name) (λ bytes. 2 ^ 48 ≤ length bytes)))
    long_of e = by (cause_of c arguments lawful given all outcome) where
      by : Cause c arguments given all
          → IfSome call.input.before.bytes (λ bytes. 2 ^ 48 ≤ length bytes)
          ⊎ ((name : List ℕ) × IsSought c arguments call.files name
          × IfSome call.files.before.map (λ all.
          IsSomeAnd (contents_of all name) (λ bytes. 2 ^ 48 ≤ length bytes)))
      by (by_reply inside) =
          absurd (reply_inside all.output all.last inside (subst IsOuter (sym e) tt))
      by (by_file request asks exit p f is) =
          inr (
            f.name,
            record {
              found = given.files;
              fetches = may_be.files;
              turn = f.turn;
              wanted = wanted;
            },
            map_has call.files.before.map refl,
          ) where
            wanted : IsWanted c arguments given.files f.turn f.name
            wanted = wanted_of request asks (Err exit) f

            ends : EndsSo (given.files f.turn f.name) at_length
            ends =
                let both : ◌≡◌ {A = Result A Exit} (Err exit) (Err f.exit) = f.is in
                let same : exit ≡ f.exit = cc both in
                file_long f.name (given.files f.turn f.name) f.exit f.fault
                (sym (ap (λ all. (ending_of all).status) is ∙ ap status_of same) ∙ e)

            long : 2 ^ 48 ≤ length ends.taken.bytes
            long =
                let m : IsMeasured ends.taken.until (length ends.taken.bytes) =
                subst IsMeasuredFile ends.is
                (measured_in c arguments call.files given.files may_be.files lawful f.turn f.name wanted) in
                (subst (λ u. IsMeasured u (length ends.taken.bytes)) ends.until m).0

            map_has : (m : Option (List File)) → call.files.before.map ≡ m
                → IfSome m (λ all.
                IsSomeAnd (contents_of all f.name) (λ bytes. 2 ^ 48 ≤ length bytes))
            map_has None known = tt
            map_has (Some all) known =
                known_long (contents_of all f.name) ends.taken
                (subst (λ o. IsFoundOf (contents_of all f.name) o) ends.is
                (found_in c arguments call.files given.files may_be.files lawful f.turn f.name wanted all known))
                long
      by (by_input a p reads s exit f last) =
          let at = long_end given.input.until exit f (sym (exit_status all exit last) ∙ e) in
          let long = (subst (λ u. IsMeasured u (length given.input.bytes)) at
          may_be.input.measured).0 in
          inl (IfSome_then call.input.before.bytes may_be.input.known
          (λ bytes t. not_shorter bytes given.input t.0 t.1 long))

    -- The run ends because the file with the name `name` was not read.
    abbrev ExitsSo : ℕ → List ℕ → Type 0
    ExitsSo turn name = (exit : Exit) × ReadsFile name (given.files turn name) (Err exit)
        × (all ≡ stopped exit)

    -- If a requested file is not read completely, then the file ends the run.
    fault_outputs :
        (turn : ℕ) (name : List ℕ) → IsWanted c arguments given.files turn name
        → (IsWhole (given.files turn name) → ⊥)
        → ExitsSo turn name
    fault_outputs turn name wanted not_whole = from outcome.0 outcome.1 outcome.2 where
      from : (found : Result A Exit) → Prepares c arguments given.files found → Goes c given all found
          → ExitsSo turn name
      from found (Err exit, (none, is), same) m = absurd (none wanted.request wanted.asks)
      from found (Ok request, asks, finds) m =
          at (lawful.reads_wanted request given.files found finds turn name
          (subst (λ q. c.Wants q given.files turn name)
          (one_request arguments wanted.request request wanted.asks asks) wanted.wants)) where
            at : IsWhole (given.files turn name)
                ⊎ ((exit : Exit) × ReadsFile name (given.files turn name) (Err exit)
                × (found ≡ Err exit)) → ExitsSo turn name
            at (inl whole) = absurd (not_whole whole)
            at (inr (exit, fault, e)) = (exit, fault, subst (Goes c given all) e m)

    -- If a call on the input failed, then the outcome has status 6.
    pub input_outputs_read :
        given.input.until ≡ at_fault → (ending_of all).status ≡ statuses.ReadFault
    input_outputs_read e = from outcome.0 outcome.1 outcome.2 where
      not_nothing : given.input ≡ nothing → ⊥
      not_nothing none =
          let no : at_fault ≡ unasked = sym e ∙ ap (λ t. t.until) none in cc no

      from : (found : Result A Exit)
          → Prepares c arguments given.files found → Goes c given all found
          → (ending_of all).status ≡ statuses.ReadFault
      from (Err exit) p m =
          absurd (not_nothing (may_be.untaken (λ a p' reads.
          let no = prepares_once c lawful arguments given.files (Ok a) (Err exit) p' p in cc no)))
      from (Ok a) p (inr alone) =
          absurd (not_nothing (may_be.untaken (λ b p' reads.
          let both : ◌≡◌ {A = Result A Exit} (Ok b) (Ok a) =
          prepares_once c lawful arguments given.files (Ok b) (Ok a) p' p in
          let same : b ≡ a = cc both in alone.unread (subst c.Reads same reads))))
      from (Ok a) p (inl (reads, s)) = go s.last where
        go : IsLast c a s.items s.rest given.input.until all.last
            → (ending_of all).status ≡ statuses.ReadFault
        go (inl (exit, at, fine, is)) =
            let none : fault_of at_fault ≡ None = subst (λ u. fault_of u ≡ None) e fine in
            absurd (cc none)
        go (inr (on, closes)) =
            exit_status all read_fault
            (subst (λ u. Closes c a s.items s.rest u all.last) e closes)

    open_failed : (found : Found) → has_open_fault found ≡ true → found ≡ failed
    open_failed (opened taken) e = absurd (cc e)
    open_failed missing e = absurd (cc e)
    open_failed failed e = refl
    open_failed unfetched e = absurd (cc e)

    not_whole_failed : (found : Found) → found ≡ failed → IsWhole found → ⊥
    not_whole_failed found e (inl (bytes, is)) = let no : failed ≡ opened (whole bytes) = sym e ∙ is in cc no
    not_whole_failed found e (inr is) = let no : failed ≡ missing = sym e ∙ is in cc no

    -- If a file that is requested cannot be opened, then the outcome has status 8.
    pub open_outputs :
        (turn : ℕ) (name : List ℕ) → IsWanted c arguments given.files turn name
        → has_open_fault (given.files turn name) ≡ true
        → (ending_of all).status ≡ statuses.OpenFault
    open_outputs turn name wanted e =
        let is = open_failed (given.files turn name) e in
        let outputs = fault_outputs turn name wanted (not_whole_failed (given.files turn name) is) in
        let exit : outputs.0 ≡ cannot_open name =
        subst (λ o. ReadsFile name o (Err outputs.0)) is outputs.1 in
        ap (λ all. (ending_of all).status) outputs.2 ∙ ap status_of exit

    read_failed : (found : Found) → has_read_fault found ≡ true → EndsSo found at_fault
    read_failed (opened taken) e =
        record { taken = taken; is = refl; until = fault_end taken.until e } where
          fault_end : (u : ReadingEnd) → is_fault u ≡ true → u ≡ at_fault
          fault_end at_end e = absurd (cc e)
          fault_end at_fault e = refl
          fault_end at_length e = absurd (cc e)
          fault_end unasked e = absurd (cc e)
    read_failed missing e = absurd (cc e)
    read_failed failed e = absurd (cc e)
    read_failed unfetched e = absurd (cc e)

    not_whole_read : (found : Found) → EndsSo found at_fault → IsWhole found → ⊥
    not_whole_read found ends (inl (bytes, is)) =
        let both : opened ends.taken ≡ opened (whole bytes) = sym ends.is ∙ is in
        let same : ends.taken ≡ whole bytes = cc both in
        let no : at_fault ≡ at_end = sym ends.until ∙ ap (λ t. t.until) same in cc no
    not_whole_read found ends (inr is) =
        let no : opened ends.taken ≡ missing = sym ends.is ∙ is in cc no

    -- If reading a file that is requested failed, then the outcome has status 6.
    pub fault_outputs_read :
        (turn : ℕ) (name : List ℕ) → IsWanted c arguments given.files turn name
        → has_read_fault (given.files turn name) ≡ true
        → (ending_of all).status ≡ statuses.ReadFault
    fault_outputs_read turn name wanted e =
        let ends = read_failed (given.files turn name) e in
        let outputs = fault_outputs turn name wanted (not_whole_read (given.files turn name) ends) in
        let f : fault_of ends.taken.until ≡ Some outputs.0 =
        subst (λ o. ReadsFile name o (Err outputs.0)) ends.is outputs.1 in
        let at : fault_of at_fault ≡ Some outputs.0 =
        subst (λ u. fault_of u ≡ Some outputs.0) ends.until f in
        let exit : read_fault ≡ outputs.0 = cc at in
        ap (λ all. (ending_of all).status) outputs.2 ∙ ap status_of (sym exit)

  pub only_too_long : IsStatus c arguments call → OnlyTooLong c arguments call
  only_too_long (inl o) e = long_of o.given o.may_be o.all o.outcome (sym o.is ∙ e)
  only_too_long (inr write_or_memory_error) e =
      absurd (not_of_environment call.status statuses.TooLong write_or_memory_error e long_output)
