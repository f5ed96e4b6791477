-- Given the lines that `show` printed, `build` has one outcome: the canonical bytes of the values
-- are written.
use Rattle.std.proofs.Common.{◌≡◌, ℕ, Bool, true, false, List, [], ◌∷◌, ◌++◌, map, Some, Ok, inl, inr, refl, sym, ap, ◌∙◌, subst, append_assoc}
use Rattle.std.specs.Prelude.{if◌then◌else◌, IfSome}
use Rattle.std.specs.List.{AllByRecursion}
use Rattle.base_data.specs.model.Bytes.{AreBytes}
use Rattle.marshal_spec.specs.format.Canonical.{canon}
use Rattle.marshal_spec.specs.format.Encoded.{EncodedUnder}
use Rattle.marshal_spec.specs.format.Stream.{EncodeAll}
use Rattle.marshal_spec.specs.format.Tree.{Tree}
use Rattle.cli_spec.specs.declared.status.Status.TheVariants as statuses
use Rattle.cli_spec.specs.CommandLine.{styled_by}
use Rattle.cli_spec.specs.Outcome.{whole, found_of, asked_type, asked_with, line, own, build, Asks, all_under, report, the_text, ending_of}
use Rattle.base_io.specs.Files.{File, contents_of}
use Rattle.base_io.specs.Sink.{Writes}
use Rattle.run_spec.specs.runs.Account.{IsWanted}
use Rattle.run_spec.specs.runs.Call.{Call}
use Rattle.run_spec.specs.runs.RunCauses.{AreAsKnown}
use Rattle.run_spec.specs.runs.CommandLaws.{HaveOneOutcome, Follow}
use Rattle.run_spec.specs.runs.Commands.{Item, text, Given, Split, AllPrint, Answers, Outcome}
use Rattle.run_spec.specs.runs.Given.{ReportsBytes, TakesFrom, IsFoundOf}
use Rattle.run_spec.specs.runs.Lawful.{AreLawful}
use Rattle.run_spec.specs.runs.LawfulLanguage.{IsGiven}
use Rattle.run_spec.proofs.runs.RunAnswerLemmas.{headline}
use Rattle.run_spec.proofs.runs.EndedLemmas.{HasEnded, has_ended, held, taken_whole, write_once}
use Rattle.run_spec.specs.runs.RunSpec.{RunSpec, known_files}
use Rattle.run_spec.specs.value_commands.Tasks.{commands}
use Rattle.types_wellformed.specs.declarations.Read.{IsDeclared, IsTypeOf}
use Rattle.text_roundtrip.specs.rebuild.Laws.{DeclaredTextsAreReadBack}
use Rattle.run_types.specs.Language.{TypeOver, IsAccepted, declared_types}
use Rattle.run_types.proofs.RunTypesGivenLemmas.{asked_at, accepted_at}
use Rattle.cmd_build.specs.spec.InputTexts.{blank, made, write_bytes, building}
use Rattle.cmd_build.proofs.spec.BuildSpecOutputLemmas.{texts}
use Rattle.cmd_build.proofs.spec.BuildSpecTableLemmas.{goes_on}
use Rattle.cmd_build.specs.command.InputLines.{declared_texts}
use Rattle.session.proofs.SessionCopyLemmas.{output_all, texts_are, all_are_ok}
use Rattle.thm_roundtrip.specs.Shown.{Shows, BuildsValues, WritesCanonical, ShownTextsAreBuilt, HidesNothing}
use Rattle.thm_roundtrip.proofs.RoundtripLineLemmas.{IsSoundOver, HasIt, none_plain, shown_of, IsBuilt, is_built}
use Rattle.thm_roundtrip.proofs.RoundtripShownLemmas.{lines_of, AreShown, are_shown}

module _ (t : TypeOver) (write : Bool) where
  abbrev lines : List Tree → List Item
  lines trees = texts (map (shown_of t write) trees)

  split_in_lines : (before : List Item) (trees : List Tree) → AllByRecursion (IsBuilt t write) trees
      → Split (building declared_types declared_texts) t before (lines_of t write trees) (lines trees) []
  split_in_lines before [] h = refl
  split_in_lines before (tree ∷ trees) h = (
    lines_of t write trees,
    (
      shown_of t write tree,
      record {
        unbroken = h.0.one_line;
        bytes_are = append_assoc (shown_of t write tree) (10 ∷ []) (lines_of t write trees);
      },
      refl,
    ),
    split_in_lines (before ++ text (shown_of t write tree) ∷ []) trees h.1,
  )

  all_print : (before : List Item) (trees : List Tree) → AllByRecursion (IsBuilt t write) trees
      → AllPrint (building declared_types declared_texts) t before (lines trees)
      (map (λ tree. write_bytes (canon tree)) trees)
  all_print before [] h = tt
  all_print before (tree ∷ trees) h = (
    (shown_of t write tree, refl, made (canon tree), h.0.is_made, refl),
    all_print (before ++ text (shown_of t write tree) ∷ []) trees h.1,
  )

  answers : (trees : List Tree) → AllByRecursion (IsBuilt t write) trees
      → Answers (building declared_types declared_texts) t (whole (lines_of t write trees))
      (output_all trees)
  answers trees h = inl (
    tt,
    record {
      items = lines trees;
      rest = [];
      first = record { split = split_in_lines [] trees h; all_print = all_print [] trees h };
      last = inr (
        goes_on declared_types declared_texts t (lines trees) [] tt,
        (blank, ([], tt, none_plain t.decimal, refl), refl),
      );
    },
  )

-- Each value is built from its line.
all_built : (t : TypeOver) (write : Bool) (limit : ℕ)
    → ((bytes : List ℕ) (tree : Tree) → EncodedUnder limit bytes tree → HasIt t tree
    → IsBuilt t write tree)
    → (bytes : List ℕ) (trees : List Tree) (rest : List ℕ) → EncodeAll limit bytes trees rest
    → AllByRecursion (HasIt t) trees → AllByRecursion (IsBuilt t write) trees
all_built t write limit one bytes [] rest s h = tt
all_built t write limit one bytes (tree ∷ trees) rest (first, more, is, encoded, s) h =
    (one first tree encoded h.0, all_built t write limit one more trees rest s h.1)

-- The texts of values do not depend on the setting for positions, or on whether decimals are read.
lines_at : (t : TypeOver) (lines decimal write : Bool) (trees : List Tree)
    → lines_of t write trees ≡ lines_of (asked_at t lines decimal) write trees
lines_at t lines decimal write [] = refl
lines_at t lines decimal write (tree ∷ trees) =
    ap (λ rest. line (shown_of t write tree) ++ rest) (lines_at t lines decimal write trees)

have_at : (t : TypeOver) (lines decimal : Bool) (trees : List Tree)
    → AllByRecursion (HasIt t) trees → AllByRecursion (HasIt (asked_at t lines decimal)) trees
have_at t lines decimal [] h = tt
have_at t lines decimal (tree ∷ trees) h = (h.0, have_at t lines decimal trees h.1)

module _ (known : Follow (commands declared_types) (AreAsKnown (commands declared_types)))
    (lawful : AreLawful (building declared_types declared_texts))
    (once : HaveOneOutcome (building declared_types declared_texts))
    (read_back : DeclaredTextsAreReadBack)
    (sound : (t : TypeOver) → IsGiven declared_types t → IsSoundOver t) where
  module _ (arguments : List (List ℕ)) (call : Call) (reports : ReportsBytes call.input)
      (run_spec : RunSpec (commands declared_types) arguments call)
      (file type : List ℕ) (limit : ℕ) (contents input shown : List ℕ)
      (shows : Shows arguments call file type limit contents input shown)
      (hides : HidesNothing contents type)
      (e : HasEnded (commands declared_types) arguments call)
      (ok : (ending_of e.all).status ≡ statuses.AllOk)
      (v : AreShown arguments file type shows.lines shows.decimal limit shows.asks e.given e.all ok) where
    same_contents : contents ≡ v.read.contents
    same_contents =
        let wanted : IsWanted (commands declared_types) arguments e.given.files 0 file = record {
          request = report (the_text (styled_by false shows.decimal)) file type shows.lines (all_under limit);
          asks = shows.asks;
          wants = inl (
            refl,
            record {
              has_path = tt;
              type = asked_type type shows.lines;
              typed = refl;
            },
          );
        } in
        let found : IfSome call.files.before.map (λ all.
        IsFoundOf (contents_of all file) (e.given.files 0 file)) =
        known arguments call reports run_spec e.given.files e.may_be.files 0 file wanted in
        let here : IsFoundOf (contents_of shows.files file) (e.given.files 0 file) =
        rw shows.map at found in
        let held_here : IsFoundOf (Some contents) (e.given.files 0 file) = rw shows.holds at here in
        held contents v.read.contents (subst (IsFoundOf (Some contents)) v.read.read held_here)

    same_input : input ≡ e.given.input.bytes
    same_input =
        let known_input : (rest : List ℕ) × TakesFrom input e.given.input rest
        × (call.input.after.bytes ≡ Some rest) =
        rw shows.input_is at e.may_be.input.known in
        taken_whole e.given.input input known_input.0 v.ended known_input.1

    values : EncodeAll limit input v.trees []
    values = subst (λ bytes. EncodeAll limit bytes v.trees []) (sym same_input) v.encoded

    declared : IsDeclared contents v.read.decls
    declared = subst (λ text. IsDeclared text v.read.decls) (sym same_contents) v.read.declared

    -- If decimals are read or were not printed, then each value is built from the line of the
    -- value.
    module _ (positions decimal : Bool) (reads : shows.decimal ≡ true → decimal ≡ true) where
      abbrev now : TypeOver
      now = asked_at v.t positions decimal

      accepted : IsAccepted v.read.decls (asked_with type positions decimal) now
      accepted =
          accepted_at v.read.decls (asked_type type shows.lines) v.t positions decimal v.read.accepted

      shown_is : shown ≡ lines_of now shows.decimal v.trees
      shown_is =
          write_once call shown (ending_of e.all).out shows.writes e.out
          ∙ (v.out ∙ lines_at v.t positions decimal shows.decimal v.trees)

      built : AllByRecursion (IsBuilt now shows.decimal) v.trees
      built =
          let here : IsDeclared contents now.decls =
          subst (IsDeclared contents) (sym accepted.over) declared in
          let written : IsTypeOf now.decls type now.type =
          subst (λ decls. IsTypeOf decls type now.type) (sym accepted.over) accepted.written in
          let is_sound =
          sound now (contents, asked_with type positions decimal, v.read.decls, declared, accepted) in
          let none =
          hides now.decls now.type is_sound.few.types here written is_sound.few.reached in
          let one =
          is_built now read_back contents type here written is_sound none shows.decimal reads limit in
          all_built now shows.decimal limit one input v.trees [] values
          (have_at v.t positions decimal v.trees v.have)

    its_outcome : (arguments : List (List ℕ)) (files : List File) (positions decimal : Bool)
        → (shows.decimal ≡ true → decimal ≡ true)
        → Asks arguments (own (build file type positions decimal))
        → contents_of files file ≡ Some contents
        → Outcome (building declared_types declared_texts) arguments (contents_of files) shown
        (output_all v.trees)
    its_outcome arguments files positions decimal reads asks holds = (
      Ok (now positions decimal reads),
      (
        Ok (own (build file type positions decimal)),
        asks,
        (
          (file, asked_with type positions decimal),
          refl,
          (
            Ok contents,
            ap found_of holds,
            (Ok v.read.decls, declared, accepted positions decimal reads),
          ),
        ),
      ),
      subst
          (λ b. Answers (building declared_types declared_texts) (now positions decimal reads) (whole b)
          (output_all v.trees))
          (sym (shown_is positions decimal reads))
          (answers (now positions decimal reads) shows.decimal v.trees (built positions decimal reads)),
    )

    writes_canonical : (later_arguments : List (List ℕ)) (later : Call) → ReportsBytes later.input
        → RunSpec (building declared_types declared_texts) later_arguments later
        → (builds : BuildsValues later_arguments later file type contents shown)
        → (shows.decimal ≡ true → builds.decimal ≡ true) → WritesCanonical limit input later
    writes_canonical later_arguments later later_reports later_run_spec builds reads =
        let o = headline (building declared_types declared_texts) lawful later_arguments later later_run_spec.answered shown builds.files builds.honest builds.suffices in
        let are_bytes : AreBytes shown = rw builds.honest.ok_read.input_known at later_reports in
        let given : Given = record { files = known_files builds.files; input = whole shown } in
        let same : o.all ≡ output_all v.trees =
        once later_arguments given are_bytes o.all (output_all v.trees) o.outcome
        (its_outcome later_arguments builds.files builds.lines builds.decimal reads builds.asks
        builds.holds) in
        record {
          trees = v.trees;
          values = values;
          out =
              subst (λ text. Writes later.out text)
              (ap (λ all. (ending_of all).out) same ∙ texts_are v.trees) o.out;
          err = subst (λ all. Writes later.err (ending_of all).err) same o.err;
          status =
              o.status
              ∙ (ap (λ all. (ending_of all).status) same
              ∙ ap (λ ok. if ok then statuses.AllOk else statuses.No)
              (all_are_ok v.trees));
        }

  pub shown_texts_are_built :
      ShownTextsAreBuilt (commands declared_types) (building declared_types declared_texts)
  shown_texts_are_built arguments call reports run_spec later_arguments later later_reports later_run_spec
      file type limit contents input shown shows hides builds reads =
      let e = has_ended (commands declared_types) arguments call run_spec.account (inl shows.ok) in
      let ok = sym e.status ∙ shows.ok in
      let v = are_shown arguments file type shows.lines shows.decimal limit shows.asks e.given e.all ok
      e.outcome in
      writes_canonical arguments call reports run_spec file type limit contents input shown shows hides e ok v
      later_arguments later later_reports later_run_spec builds reads
