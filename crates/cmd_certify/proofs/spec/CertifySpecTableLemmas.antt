-- The tables of the command are exact.
use Rattle.std.proofs.Common.{◌≡◌, ℕ, List, length, Some, Ok, Err, refl, sym, ap, subst}
use Rattle.cli_spec.specs.declared.status.Status.{Status}
use Rattle.cli_spec.specs.declared.status.Status.TheVariants.{Types, ReadFault, OpenFault, TooLong}
use Rattle.cli_spec.specs.Outcome.{Request, status_of, Language, ReadsFile, ReadsTypeOf}
use Rattle.cli_spec.specs.RefusalText.{refusal_text}
use Rattle.cli_spec.specs.declared.exit.Exit.{Exit}
use Rattle.cli_spec.specs.declared.exit.Exit.TheVariants.{Value as value}
use Rattle.run_spec.specs.runs.Commands.{Fetches, HaveExit}
use Rattle.run_spec.specs.exit_causes.Causes.{HaveExits, HaveEnds, HaveBars, AreExact}
use Rattle.run_spec.specs.value_commands.Tasks.{items_of}
use Rattle.run_spec.proofs.exit_statuses.StageLemmas.{file_bar, type_exit, refused_exit}
use Rattle.cmd_certify.specs.spec.Certification.{Certification, OutputsSections, EndsClean, CertifyArguments, certified_by, typed_of, Wants, Finds, certifying}
use Rattle.cmd_certify.specs.spec.ExitStatuses.{HasSection, Finish, ExitWith, RefusesTypes, IsUnread, Bar, certifying_tables}
use Rattle.cmd_certify.proofs.spec.CertifySpecEndLemmas.{AreKnown, have_end}
use Rattle.cmd_certify.proofs.spec.CertifySpecItemLemmas.{goes_on}
use Rattle.cmd_certify.proofs.spec.CertifySpecOutputLemmas.{AreOutput, all_have, finish_of, print_some, finish_output, outputs_first, print_first}

module _ {D T E : Type 0} (language : Language D T E) (SectionOf : OutputsSections T) where
  -- ---- each exit reason is in the table

  abbrev Stopping : Certification T → List ℕ → Exit → Type 0
  Stopping a bytes exit = HaveExit (certifying language SectionOf) a bytes exit

  exit_with :
      (a : Certification T) (bytes : List ℕ) (exit : Exit) → Stopping a bytes exit
      → ExitWith SectionOf a bytes (status_of exit)
  exit_with a bytes exit h =
      let values = print_first SectionOf a language bytes h.items h.output h.rest h.first in (
        ap status_of h.at.is,
        record {
          trees = values.0;
          rest = h.rest;
          refusal = h.at.refusal;
          encoded = values.2;
          certified = all_have SectionOf a 0 values.0 h.output values.3;
          tail = h.at.tail;
        },
      )

  -- ---- each row of the table is an exit reason

  -- An exit reason of the bytes has this status.
  abbrev HasExit : Certification T → List ℕ → Status → Type 0
  HasExit a bytes status = (exit : Exit) × (status_of exit ≡ status) × Stopping a bytes exit

  exit_held :
      (a : Certification T) (bytes : List ℕ) (status : Status) → ExitWith SectionOf a bytes status
      → HasExit a bytes status
  exit_held a bytes status (is, h) =
      let s = print_some SectionOf a 0 h.trees h.certified in (
        value (length (items_of h.trees)) (refusal_text h.refusal),
        sym is,
        record {
          items = items_of h.trees;
          output = s.0;
          rest = h.rest;
          first = outputs_first SectionOf a language bytes h.trees s.0 h.rest h.encoded s.1;
          at = record { refusal = h.refusal; tail = h.tail; is = refl };
        },
      )

  have_exits : HaveExits (certifying language SectionOf) (certifying_tables language SectionOf)
  have_exits a bytes status = (
    λ h. subst (ExitWith SectionOf a bytes) h.1 (exit_with a bytes h.0 h.2),
    exit_held a bytes status,
  )

  -- ---- the end

  known :
      (a : Certification T)
      → AreKnown (certifying language SectionOf) a a.limit (EndsClean SectionOf a)
      (HasSection SectionOf a) (Finish SectionOf a) (AreOutput SectionOf a 0)
  known a = record {
    all_have = all_have SectionOf a 0;
    print_some = print_some SectionOf a 0;
    finish_of = finish_of SectionOf a;
    finish_output = finish_output SectionOf a;
    outputs_first = outputs_first SectionOf a language;
    print_first = print_first SectionOf a language;
    goes_on = goes_on SectionOf a language;
    ends = λ items bytes last. (λ h. h, λ h. h);
  }

  have_ends : HaveEnds (certifying language SectionOf) (certifying_tables language SectionOf)
  have_ends a =
      have_end (certifying language SectionOf) a a.limit (EndsClean SectionOf a)
      (HasSection SectionOf a) (Finish SectionOf a) (AreOutput SectionOf a 0) (known a)

  -- ---- the file

  module _ (request : Request) (files : Fetches) where
    abbrev BarBy : Exit → Type 0
    BarBy exit = Bar language SectionOf request files (status_of exit)

    unread :
        (turn : ℕ) (name : List ℕ) → Wants language SectionOf request files turn name
        → (exit : Exit) → ReadsFile name (files turn name) (Err exit) → BarBy exit
    unread turn name wants exit fault =
        file_bar (Bar language SectionOf request files) (IsUnread language SectionOf request files)
        (λ u. u) (λ u. u) (λ u. u) name (files turn name) exit fault (λ status is. record {
          turn = turn;
          name = name;
          wants = wants;
          exit = exit;
          fault = fault;
          is = is;
        })

    module _ (asked : CertifyArguments) (is_asked : certified_by request ≡ Some asked) where
      type_bar :
          (exit : Exit) → ReadsTypeOf language (files 0) (typed_of asked) (Err exit) → BarBy exit
      type_bar exit reads =
          type_exit language BarBy (files 0) asked.file asked.type exit reads
          (λ s fault. unread 0 asked.file (asked, is_asked, refl, refl) s fault)
          (λ s text is read refused. subst (Bar language SectionOf request files) (sym is) (record {
            asked = asked;
            is_asked = is_asked;
            text = text;
            read = read;
            is_refused = refused;
          }))

    bar_of : (exit : Exit) → Finds language SectionOf request files (Err exit) → BarBy exit
    bar_of exit (asked, is, (Err s, reads, e)) =
        let same : s ≡ exit = cc e in subst BarBy same (type_bar asked is s reads)
    bar_of exit (asked, is, (Ok type, reads, e)) = absurd (cc e)

    -- An exit reason before the input has this status.
    abbrev HasExitBefore : Status → Type 0
    HasExitBefore status =
        (exit : Exit) × (status_of exit ≡ status)
        × Finds language SectionOf request files (Err exit)

    -- Case: FILE or TYPE ends the run.
    by_type :
        (asked : CertifyArguments) → certified_by request ≡ Some asked → (exit : Exit)
        → ReadsTypeOf language (files 0) (typed_of asked) (Err exit)
        → Finds language SectionOf request files (Err exit)
    by_type asked is exit reads = (asked, is, (Err exit, reads, refl))

    types_found : RefusesTypes language SectionOf request files → HasExitBefore Types
    types_found r =
        let s =
        refused_exit language (files 0) r.asked.file r.asked.type r.text r.read r.is_refused in
        (s.0, s.1, by_type r.asked r.is_asked s.0 s.2)

    unread_found :
        (status : Status) → IsUnread language SectionOf request files status
        → HasExitBefore status
    unread_found status u = (u.exit, u.is, by u.wants) where
      by : Wants language SectionOf request files u.turn u.name
          → Finds language SectionOf request files (Err u.exit)
      by (asked, is, now, name) =
          by_type asked is u.exit (
            Err u.exit,
            subst (λ n. ReadsFile n (files 0 n) (Err u.exit)) name
                (subst (λ t. ReadsFile u.name (files t u.name) (Err u.exit)) now u.fault),
            refl,
          )

    bar_found :
        (status : Status) → Bar language SectionOf request files status
        → HasExitBefore status
    bar_found Types h = types_found h
    bar_found ReadFault h = unread_found ReadFault h
    bar_found OpenFault h = unread_found OpenFault h
    bar_found TooLong h = unread_found TooLong h
    bar_found status h = absurd h

  have_bars : HaveBars (certifying language SectionOf) (certifying_tables language SectionOf)
  have_bars request files status = (
    λ h. subst (Bar language SectionOf request files) h.1 (bar_of request files h.0 h.2),
    bar_found request files status,
  )

  pub exact : AreExact (certifying language SectionOf) (certifying_tables language SectionOf)
  exact = record {
    read = λ a. tt;
    exits = have_exits;
    ends = have_ends;
    bars = have_bars;
    bad_arguments = λ request none files. absurd none;
  }
