-- The tables of the command on texts are exact.
use Rattle.std.proofs.Common.{◌≡◌, ◌⊎◌, ℕ, suc, true, List, [], length, Some, Err, inl, inr, refl, sym, ap, ◌∙◌, subst}
use Rattle.std.specs.Prelude.{◌&&◌, if◌then◌else◌}
use Rattle.std.specs.List.{AllByRecursion}
use Rattle.cli_spec.specs.declared.status.Status.{Status}
use Rattle.cli_spec.specs.declared.status.Status.TheVariants.{AllOk, No, Types, Script, ReadFault, OpenFault, TooLong}
use Rattle.cli_spec.specs.Outcome.{Request, AskedType, status_of, ending_of, Output, Reply, outputs, exits, Replies, replies, all_ok, Language, ReadsFile, ReadsTypeOf}
use Rattle.cli_spec.specs.declared.exit.Exit.{Exit}
use Rattle.cli_spec.specs.declared.exit.Exit.TheVariants.{Text as text_line, Untyped as untyped_value}
use Rattle.run_spec.specs.runs.Commands.{Item, text as text_item, Split, AllPrint, Fetches, HaveExit, GoesOn}
use Rattle.run_spec.specs.runs.RunSpec.{HoldEnd}
use Rattle.run_spec.proofs.runs.RunValueLemmas.{all_ok-snoc}
use Rattle.run_spec.specs.exit_causes.Causes.{HaveExits, HaveEnds, HaveBars, AreExact}
use Rattle.run_spec.proofs.exit_statuses.StageLemmas.{file_bar, type_exit, refused_exit}
use Rattle.cmd_build.specs.spec.InputTexts.{Built, blank, made, refused, untyped, IsUnbroken, IsLine, ExitsBy, ExitsAtLine, IsReplyTo, EndsWithLine, built_by, Finds, building}
use Rattle.cmd_build.specs.spec.ExitStatuses.{AreLines, IsFine, Break, HoldBreak, AreEnded, RefusesTypes, IsUnread, Bar, texts_tables}
use Rattle.cmd_build.proofs.spec.BuildSpecLineLemmas.{unbroken_is_no_line}
use Rattle.cmd_build.proofs.spec.BuildSpecOutputLemmas.{texts, line_or_rest, fine_of, output_of_fine, counts_of, lines_output, output_of_lines}

module _ {T : Type 0} (TextOf : T → List ℕ → Built → Type 0) (type : T) where
  -- If a line ends the run, then the exit reason's status is a row of the table.
  break_of :
      (items : List Item) (line : List ℕ) (built : Built) (exit : Exit) → TextOf type line built
      → ExitsBy TextOf type items built exit → Break TextOf type line (status_of exit)
  break_of items line blank exit of h = absurd h
  break_of items line (made bytes) exit of h = absurd h
  break_of items line (refused refusal) exit of h =
      subst (λ s. Break TextOf type line (status_of s)) (sym h) (refusal, of)
  break_of items line (untyped fault) exit of (n, counts, e) =
      subst (λ s. Break TextOf type line (status_of s)) (sym e) (fault, of)

  -- If a row of the table applies to a line, then the line ends the run.
  exit_of :
      (lines : List (List ℕ)) (line : List ℕ) (status : Status)
      → AllByRecursion (IsFine TextOf type) lines → Break TextOf type line status
      → (exit : Exit) × (status_of exit ≡ status)
      × (built : Built) × TextOf type line built × ExitsBy TextOf type (texts lines) built exit
  exit_of lines line No fine (fault, of) =
      let n = counts_of TextOf type lines fine in
      (untyped_value n.0 fault, refl, untyped fault, of, (n.0, n.1, refl))
  exit_of lines line Script fine (refusal, of) =
      let exit : Exit =
      text_line (suc (length (texts lines))) (refusal (suc (length (texts lines)))) in
      (exit, refl, refused refusal, of, refl)
  exit_of lines line status fine h = absurd h

  -- If `last` is the reply to the last line, then the reply determines the status of the run.
  end_of :
      (items : List Item) (line : List ℕ) (built : Built) (output : List Output) (last : Reply)
      → all_ok output ≡ true → TextOf type line built → IsReplyTo TextOf type items built last
      → (IsFine TextOf type line × ((ending_of (replies output last)).status ≡ AllOk))
      ⊎ Break TextOf type line (ending_of (replies output last)).status
  end_of items line built output (outputs final) ok of h =
      let f = fine_of TextOf type line built final of h in
      inl (
        f.0,
        ap (λ w. if w then AllOk else No)
            (all_ok-snoc output final ∙ (ap (λ w. w && final.ok) ok ∙ f.1)),
      )
  end_of items line built output (exits exit) ok of h =
      inr (break_of items line built exit of h)

module _ {D T E : Type 0} (language : Language D T E) (TextOf : T → List ℕ → Built → Type 0) where
  abbrev Stopping : T → List ℕ → Exit → Type 0
  Stopping type bytes exit = HaveExit (building language TextOf) type bytes exit

  exit_with :
      (type : T) (bytes : List ℕ) (exit : Exit) → Stopping type bytes exit
      → HoldBreak TextOf type bytes (status_of exit)
  exit_with type bytes exit h = by h.at where
    lines : (lines : List (List ℕ)) × AreLines bytes lines h.rest
        × AllByRecursion (IsFine TextOf type) lines × (all_ok h.output ≡ true)
    lines = lines_output language TextOf type [] bytes h.items h.output h.rest h.first.split h.first.all_print

    by : ExitsAtLine TextOf type h.items h.rest exit → HoldBreak TextOf type bytes (status_of exit)
    by (line, more, is, built, of, stopped) = record {
      lines = lines.0;
      rest = h.rest;
      are = lines.1;
      fine = lines.2;
      line = line;
      more = more;
      is = is;
      breaks = break_of TextOf type h.items line built exit of stopped;
    }

  exit_held :
      (type : T) (bytes : List ℕ) (status : Status) → HoldBreak TextOf type bytes status
      → (exit : Exit) × (status_of exit ≡ status) × Stopping type bytes exit
  exit_held type bytes status h =
      let s = output_of_lines language TextOf type [] bytes h.lines h.rest h.are h.fine in
      let exit = exit_of TextOf type h.lines h.line status h.fine h.breaks in (
        exit.0,
        exit.1,
        record {
          items = texts h.lines;
          output = s.0;
          rest = h.rest;
          first = record { split = s.1; all_print = s.2 };
          at = (h.line, h.more, h.is, exit.2, exit.3, exit.4);
        },
      )

  pub have_exits : HaveExits (building language TextOf) (texts_tables language TextOf)
  have_exits type bytes status = (
    λ h. subst (HoldBreak TextOf type bytes) h.1 (exit_with type bytes h.0 h.2),
    exit_held type bytes status,
  )

  -- ---- the end

  abbrev Ending : T → List ℕ → Replies → Type 0
  Ending type bytes all = HoldEnd (building language TextOf) type bytes all.output all.last

  end_with :
      (type : T) (bytes : List ℕ) (all : Replies) → Ending type bytes all
      → AreEnded TextOf type bytes (ending_of all).status
  end_with type bytes all h = by h.ends (line_or_rest h.rest) where
    lines : (lines : List (List ℕ)) × AreLines bytes lines h.rest
        × AllByRecursion (IsFine TextOf type) lines × (all_ok all.output ≡ true)
    lines = lines_output language TextOf type [] bytes h.items all.output h.rest h.first.split h.first.all_print

    by : EndsWithLine TextOf type h.items h.rest all.last
        → IsUnbroken h.rest ⊎ ((line : List ℕ) × (more : List ℕ) × IsLine h.rest line more)
        → AreEnded TextOf type bytes (ending_of all).status
    by (built, of, reply) (inl unbroken) = record {
      lines = lines.0;
      last = h.rest;
      are = lines.1;
      fine = lines.2;
      unbroken = unbroken;
      ends = end_of TextOf type h.items h.rest built all.output all.last lines.3 of reply;
    }
    by ends (inr (line, more, is)) = absurd (h.goes_on.no_item (text_item line) more (line, is, refl))

  -- If the remaining bytes have no line feed, then the run continues.
  pub goes_on :
      (type : T) (items : List Item) (rest : List ℕ) → IsUnbroken rest
      → GoesOn (building language TextOf) type items rest
  goes_on type items rest unbroken = record {
    no_exit = λ exit h. unbroken_is_no_line rest h.0 h.1 unbroken h.2;
    no_item = λ item more h. unbroken_is_no_line rest h.0 more unbroken h.1;
  }

  end_held :
      (type : T) (bytes : List ℕ) (status : Status) → AreEnded TextOf type bytes status
      → (all : Replies) × ((ending_of all).status ≡ status) × Ending type bytes all
  end_held type bytes status h = by h.ends where
    s : (output : List Output) × Split (building language TextOf) type [] bytes (texts h.lines) h.last
        × AllPrint (building language TextOf) type [] (texts h.lines) output × (all_ok output ≡ true)
    s = output_of_lines language TextOf type [] bytes h.lines h.last h.are h.fine

    held : (last : Reply) → EndsWithLine TextOf type (texts h.lines) h.last last
        → Ending type bytes (replies s.0 last)
    held last ends = record {
      items = texts h.lines;
      rest = h.last;
      first = record { split = s.1; all_print = s.2 };
      goes_on = goes_on type (texts h.lines) h.last h.unbroken;
      ends = ends;
    }

    by : (IsFine TextOf type h.last × (status ≡ AllOk)) ⊎ Break TextOf type h.last status
        → (all : Replies) × ((ending_of all).status ≡ status) × Ending type bytes all
    by (inl (fine, is)) =
        let f = output_of_fine TextOf type h.last fine in
        let ok = (fine_of TextOf type h.last f.0 f.2 f.1 f.3).1 in (
          replies s.0 (outputs f.2),
          ap (λ w. if w then AllOk else No)
              (all_ok-snoc s.0 f.2 ∙ (ap (λ w. w && f.2.ok) s.3 ∙ ok)) ∙ sym is,
          held (outputs f.2) (f.0, f.1, f.3),
        )
    by (inr breaks) =
        let exit = exit_of TextOf type h.lines h.last status h.fine breaks in (
          replies s.0 (exits exit.0),
          exit.1,
          held (exits exit.0) (exit.2, exit.3, exit.4),
        )

  pub have_ends : HaveEnds (building language TextOf) (texts_tables language TextOf)
  have_ends type bytes status are_bytes = (
    λ h. subst (AreEnded TextOf type bytes) h.1 (end_with type bytes h.0 h.2),
    end_held type bytes status,
  )

  -- ---- the files

  module _ (request : Request) (files : Fetches) where
    abbrev BarBy : Exit → Type 0
    BarBy exit = Bar language TextOf request files (status_of exit)

    module _ (name : List ℕ) (type : AskedType) (asked : built_by request ≡ Some (name, type)) where
      unread : (exit : Exit) → ReadsFile name (files 0 name) (Err exit) → BarBy exit
      unread exit fault =
          file_bar (Bar language TextOf request files) (IsUnread language TextOf request files)
          (λ u. u) (λ u. u) (λ u. u) name (files 0 name) exit fault (λ status is. record {
            name = name;
            type = type;
            asked = asked;
            exit = exit;
            fault = fault;
            is = is;
          })

      type_bar :
          (exit : Exit) → ReadsTypeOf language (files 0) (name, type) (Err exit) → BarBy exit
      type_bar exit reads =
          type_exit language BarBy (files 0) name type exit reads unread
          (λ s text is read refused. subst (Bar language TextOf request files) (sym is) (record {
            name = name;
            type = type;
            asked = asked;
            text = text;
            read = read;
            is_refused = refused;
          }))

    bar_of : (exit : Exit) → Finds language TextOf request files (Err exit) → BarBy exit
    bar_of exit (typed, is, reads) = type_bar typed.0 typed.1 is exit reads

    -- The request leads to an exit reason with the given status before the input is read.
    abbrev HasExitBefore : Status → Type 0
    HasExitBefore status =
        (exit : Exit) × (status_of exit ≡ status) × Finds language TextOf request files (Err exit)

    types_found : RefusesTypes language TextOf request files → HasExitBefore Types
    types_found r =
        let s = refused_exit language (files 0) r.name r.type r.text r.read r.is_refused in
        (s.0, s.1, ((r.name, r.type), r.asked, s.2))

    unread_found :
        (status : Status) → IsUnread language TextOf request files status → HasExitBefore status
    unread_found status u =
        (u.exit, u.is, ((u.name, u.type), u.asked, (Err u.exit, u.fault, refl)))

    bar_found : (status : Status) → Bar language TextOf request files status → HasExitBefore status
    bar_found Types h = types_found h
    bar_found ReadFault h = unread_found ReadFault h
    bar_found OpenFault h = unread_found OpenFault h
    bar_found TooLong h = unread_found TooLong h
    bar_found status h = absurd h

  have_bars : HaveBars (building language TextOf) (texts_tables language TextOf)
  have_bars request files status = (
    λ h. subst (Bar language TextOf request files) h.1 (bar_of request files h.0 h.2),
    bar_found request files status,
  )

  pub exact : AreExact (building language TextOf) (texts_tables language TextOf)
  exact = record {
    read = λ type. tt;
    exits = have_exits;
    ends = have_ends;
    bars = have_bars;
    bad_arguments = λ request none files. absurd none;
  }
