-- The tables of the command are exact.
use Rattle.std.proofs.Common.{◌≡◌, ◌⊎◌, ℕ, List, [], ◌∷◌, length, Some, Ok, Err, inl, inr, refl, sym, ap, ◌∙◌, subst}
use Rattle.marshal_spec.specs.format.Stream.{EncodeAll}
use Rattle.marshal_spec.specs.format.Tree.{Tree}
use Rattle.cli_spec.specs.declared.status.Status.{Status}
use Rattle.cli_spec.specs.declared.status.Status.TheVariants.{Types, ReadFault, OpenFault, TooLong, Certificate}
use Rattle.cli_spec.specs.Outcome.{Request, status_of, Language, ReadsFile, ReadsTypeOf}
use Rattle.cli_spec.specs.RefusalText.{refusal_text}
use Rattle.cli_spec.specs.declared.exit.Exit.{Exit}
use Rattle.cli_spec.specs.declared.exit.Exit.TheVariants.{Value as value, Certificate as certificate_line, Uncertified as uncertified_value}
use Rattle.run_spec.specs.runs.Commands.{Fetches, HaveExit}
use Rattle.run_spec.proofs.runs.StreamLemmas.{encode_append}
use Rattle.run_spec.specs.exit_causes.Causes.{HaveExits, HaveEnds, HaveBars, AreExact}
use Rattle.run_spec.specs.value_commands.Tasks.{items_of}
use Rattle.run_spec.proofs.value_commands.ValueCommandItemLemmas.{items_length}
use Rattle.run_spec.proofs.exit_statuses.StageLemmas.{file_bar, type_exit, refused_exit}
use Rattle.run_spec.specs.exit_statuses.NumberedItems.{HoldsOfAll}
use Rattle.run_spec.proofs.exit_statuses.StatusExitLemmas.{encode_before}
use Rattle.cmd_verify.specs.spec.Verification.{Shown, Verification, IsUncertified, ComesUncertified, ExitsHere, EndsClean, VerifyArguments, typed_of, verified_by, ReadsSections, Wants, Finds, verifying}
use Rattle.cmd_verify.specs.spec.ExitStatuses.{HasSection, Finish, ExitWith, RefusesTypes, RefusesCertificate, IsUnread, Bar, certificate_tables}
use Rattle.cmd_certify.specs.spec.RefusedEnd.{ComesRefused}
use Rattle.cmd_certify.proofs.spec.CertifySpecEndLemmas.{AreKnown, have_end}
use Rattle.cmd_verify.proofs.spec.VerifySpecItemLemmas.{goes_on}
use Rattle.cmd_verify.proofs.spec.VerifySpecOutputLemmas.{AreOutput, all_have, finish_of, print_some, finish_output, outputs_first, print_first}

module _ {D T E S : Type 0} (language : Language D T E) (Reads : ReadsSections S)
    (ShownBy : T → S → Tree → Shown → Type 0) where
  -- ---- each exit reason is in the table

  abbrev Stopping : Verification T S → List ℕ → Exit → Type 0
  Stopping a bytes exit = HaveExit (verifying language Reads ShownBy) a bytes exit

  exit_with :
      (a : Verification T S) (bytes : List ℕ) (exit : Exit) → Stopping a bytes exit
      → ExitWith ShownBy a bytes (status_of exit)
  exit_with a bytes exit h = by h.at where
    values : (trees : List Tree) × (h.items ≡ items_of trees) × EncodeAll a.limit bytes trees h.rest
        × AreOutput ShownBy a 0 trees h.output
    values = print_first ShownBy a language Reads bytes h.items h.output h.rest h.first

    number : length h.items ≡ length values.0
    number = ap length values.1 ∙ items_length values.0

    have : HoldsOfAll (HasSection ShownBy a) 0 values.0
    have = all_have ShownBy a 0 values.0 h.output values.3

    by : ExitsHere ShownBy a h.items h.rest exit → ExitWith ShownBy a bytes (status_of exit)
    by (inl c) = inl (
      ap status_of c.is,
      record {
        trees = values.0;
        tree = c.tree;
        rest = c.more;
        encoded = encode_append a.limit bytes h.rest c.more values.0 (c.tree ∷ []) values.2 c.encoded;
        certified = have;
        reason = c.reason;
        breaks = subst (λ n. IsUncertified ShownBy a n c.tree c.reason) number c.uncertified;
      },
    )
    by (inr r) = inr (
      ap status_of r.is,
      record {
        trees = values.0;
        rest = h.rest;
        refusal = r.refusal;
        encoded = values.2;
        certified = have;
        tail = r.tail;
      },
    )

  -- ---- each row of the table is an exit reason

  -- An exit reason of the bytes has this status.
  abbrev HasExit : Verification T S → List ℕ → Status → Type 0
  HasExit a bytes status = (exit : Exit) × (status_of exit ≡ status) × Stopping a bytes exit

  here :
      (a : Verification T S) (bytes : List ℕ) (trees : List Tree) (rest : List ℕ) (exit : Exit)
      → EncodeAll a.limit bytes trees rest → HoldsOfAll (HasSection ShownBy a) 0 trees
      → ComesUncertified ShownBy a (length trees) rest exit
      ⊎ ComesRefused a.limit (length trees) rest exit → Stopping a bytes exit
  here a bytes trees rest exit encoded have why =
      let s = print_some ShownBy a 0 trees have in record {
        items = items_of trees;
        output = s.0;
        rest = rest;
        first = outputs_first ShownBy a language Reads bytes trees s.0 rest encoded s.1;
        at = subst
            (λ n. ComesUncertified ShownBy a n rest exit ⊎ ComesRefused a.limit n rest exit)
            (sym (items_length trees)) why;
      }

  exit_held :
      (a : Verification T S) (bytes : List ℕ) (status : Status) → ExitWith ShownBy a bytes status
      → HasExit a bytes status
  exit_held a bytes status (inl (is, h)) =
      let s = encode_before a.limit bytes h.trees (h.tree ∷ []) h.rest h.encoded in (
        uncertified_value (length h.trees) h.reason,
        sym is,
        here a bytes h.trees s.0 (uncertified_value (length h.trees) h.reason) s.1 h.certified
            (inl (record {
              tree = h.tree;
              more = h.rest;
              encoded = s.2;
              reason = h.reason;
              uncertified = h.breaks;
              is = refl;
            })),
      )
  exit_held a bytes status (inr (is, h)) = (
    value (length h.trees) (refusal_text h.refusal),
    sym is,
    here a bytes h.trees h.rest (value (length h.trees) (refusal_text h.refusal)) h.encoded
        h.certified (inr (record { refusal = h.refusal; tail = h.tail; is = refl })),
  )

  have_exits :
      HaveExits (verifying language Reads ShownBy) (certificate_tables language Reads ShownBy)
  have_exits a bytes status = (
    λ h. subst (ExitWith ShownBy a bytes) h.1 (exit_with a bytes h.0 h.2),
    exit_held a bytes status,
  )

  -- ---- the end

  known :
      (a : Verification T S)
      → AreKnown (verifying language Reads ShownBy) a a.limit (EndsClean ShownBy a)
      (HasSection ShownBy a) (Finish ShownBy a) (AreOutput ShownBy a 0)
  known a = record {
    all_have = all_have ShownBy a 0;
    print_some = print_some ShownBy a 0;
    finish_of = finish_of ShownBy a;
    finish_output = finish_output ShownBy a;
    outputs_first = outputs_first ShownBy a language Reads;
    print_first = print_first ShownBy a language Reads;
    goes_on = goes_on ShownBy a language Reads;
    ends = λ items bytes last. (λ h. h, λ h. h);
  }

  have_ends :
      HaveEnds (verifying language Reads ShownBy) (certificate_tables language Reads ShownBy)
  have_ends a =
      have_end (verifying language Reads ShownBy) a a.limit (EndsClean ShownBy a)
      (HasSection ShownBy a) (Finish ShownBy a) (AreOutput ShownBy a 0) (known a)

  -- ---- the files

  module _ (request : Request) (files : Fetches) where
    abbrev BarBy : Exit → Type 0
    BarBy exit = Bar language Reads ShownBy request files (status_of exit)

    unread :
        (turn : ℕ) (name : List ℕ) → Wants language Reads ShownBy request files turn name
        → (exit : Exit) → ReadsFile name (files turn name) (Err exit) → BarBy exit
    unread turn name wants exit fault =
        file_bar (Bar language Reads ShownBy request files) (IsUnread language Reads ShownBy request files)
        (λ u. u) (λ u. u) (λ u. u) name (files turn name) exit fault (λ status is. record {
          turn = turn;
          name = name;
          wants = wants;
          exit = exit;
          fault = fault;
          is = is;
        })

    module _ (asked : VerifyArguments) (is_asked : verified_by request ≡ Some asked) where
      type_bar :
          (exit : Exit) → ReadsTypeOf language (files 0) (typed_of asked) (Err exit) → BarBy exit
      type_bar exit reads =
          type_exit language BarBy (files 0) asked.file asked.type exit reads
          (λ s fault. unread 0 asked.file (asked, is_asked, inl (refl, refl)) s fault)
          (λ s text is read refused. subst (Bar language Reads ShownBy request files) (sym is) (record {
            asked = asked;
            is_asked = is_asked;
            text = text;
            read = read;
            is_refused = refused;
          }))

    bar_of : (exit : Exit) → Finds language Reads ShownBy request files (Err exit) → BarBy exit
    bar_of exit (asked, is, (Err s, reads, e)) =
        let same : s ≡ exit = cc e in subst BarBy same (type_bar asked is s reads)
    bar_of exit (asked, is, (Ok type, reads, (Ok sections, read, e))) = absurd (cc e)
    bar_of exit (asked, is, (Ok type, reads, (Err s, (Err t, fault, f), e))) =
        let one : s ≡ t = cc f in
        let same : exit ≡ s = cc e in
        subst BarBy (sym (same ∙ one))
        (unread 1 asked.certificate (asked, is, inr (refl, refl, type, reads)) t fault)
    bar_of exit (asked, is, (Ok type, reads, (Err s, (Ok text, read, (line, refuses, f)), e))) =
        let same : exit ≡ s = cc e in
        subst BarBy (sym (same ∙ f)) (record {
          asked = asked;
          is_asked = is;
          type = type;
          typed = reads;
          text = text;
          read = read;
          line = line;
          is_refused = refuses;
        })

    -- An exit reason before the input has this status.
    abbrev HasExitBefore : Status → Type 0
    HasExitBefore status =
        (exit : Exit) × (status_of exit ≡ status)
        × Finds language Reads ShownBy request files (Err exit)

    -- Case: FILE or TYPE ends the run.
    by_type :
        (asked : VerifyArguments) → verified_by request ≡ Some asked → (exit : Exit)
        → ReadsTypeOf language (files 0) (typed_of asked) (Err exit)
        → Finds language Reads ShownBy request files (Err exit)
    by_type asked is exit reads = (asked, is, (Err exit, reads, refl))

    types_found : RefusesTypes language Reads ShownBy request files → HasExitBefore Types
    types_found r =
        let s =
        refused_exit language (files 0) r.asked.file r.asked.type r.text r.read r.is_refused in
        (s.0, s.1, by_type r.asked r.is_asked s.0 s.2)

    certificate_found :
        RefusesCertificate language Reads ShownBy request files → HasExitBefore Certificate
    certificate_found r = (
      certificate_line r.line,
      refl,
      (
        r.asked,
        r.is_asked,
        (
          Ok r.type,
          r.typed,
          (
            Err (certificate_line r.line),
            (Ok r.text, r.read, (r.line, r.is_refused, refl)),
            refl,
          ),
        ),
      ),
    )

    unread_found :
        (status : Status) → IsUnread language Reads ShownBy request files status
        → HasExitBefore status
    unread_found status u = (u.exit, u.is, by u.wants) where
      by : Wants language Reads ShownBy request files u.turn u.name
          → Finds language Reads ShownBy request files (Err u.exit)
      by (asked, is, inl (now, name)) =
          by_type asked is u.exit (
            Err u.exit,
            subst (λ n. ReadsFile n (files 0 n) (Err u.exit)) name
                (subst (λ t. ReadsFile u.name (files t u.name) (Err u.exit)) now u.fault),
            refl,
          )
      by (asked, is, inr (now, name, type, reads)) = (
        asked,
        is,
        (
          Ok type,
          reads,
          (
            Err u.exit,
            (
              Err u.exit,
              subst (λ n. ReadsFile n (files 1 n) (Err u.exit)) name
                  (subst (λ t. ReadsFile u.name (files t u.name) (Err u.exit)) now u.fault),
              refl,
            ),
            refl,
          ),
        ),
      )

    bar_found :
        (status : Status) → Bar language Reads ShownBy request files status → HasExitBefore status
    bar_found Types h = types_found h
    bar_found Certificate h = certificate_found h
    bar_found ReadFault h = unread_found ReadFault h
    bar_found OpenFault h = unread_found OpenFault h
    bar_found TooLong h = unread_found TooLong h
    bar_found status h = absurd h

  have_bars :
      HaveBars (verifying language Reads ShownBy) (certificate_tables language Reads ShownBy)
  have_bars request files status = (
    λ h. subst (Bar language Reads ShownBy request files) h.1 (bar_of request files h.0 h.2),
    bar_found request files status,
  )

  pub exact :
      AreExact (verifying language Reads ShownBy) (certificate_tables language Reads ShownBy)
  exact = record {
    read = λ a. tt;
    exits = have_exits;
    ends = have_ends;
    bars = have_bars;
    bad_arguments = λ request none files. absurd none;
  }
