-- If a call of `show` ended without errors, then FILE and TYPE were read, and the whole input is
-- values of the type. The texts of the values were written as lines.
use Rattle.std.proofs.Common.{◌≡◌, ◌⊎◌, ℕ, Bool, true, false, List, [], ◌∷◌, ◌++◌, length, Some, Result, Ok, Err, inl, inr, refl, sym, ap, ◌∙◌, subst}
use Rattle.std.specs.Prelude.{if◌then◌else◌}
use Rattle.std.proofs.lemmas.Bool.{and_parts}
use Rattle.std.specs.List.{AllByRecursion}
use Rattle.marshal_spec.specs.format.Stream.{EncodeAll, StreamEnd, clean, refused, cut, IsTail}
use Rattle.marshal_spec.specs.format.Tree.{Tree, root, objects_of}
use Rattle.types_spec.specs.declared.types.decl.Decl.{Decl}
use Rattle.cli_spec.specs.declared.status.Status.TheVariants.{AllOk, No}
use Rattle.cli_spec.specs.CommandLine.{styled_by}
use Rattle.cli_spec.specs.RefusalText.{truncated_text}
use Rattle.cli_spec.specs.Outcome.{AskedType, asked_type, ReadingEnd, at_end, at_fault, at_length, unasked, Found, whole, opened, missing, failed, unfetched, all_under, report, the_text, Asks, fault_of, ExitsAt, ReadsFile, ReportsAt, ending_of, line, Output, nothing_output, outputs, Replies, replies, all_ok, texts_of, reports, Task, task, ReadsTypeOf}
use Rattle.cli_spec.specs.declared.exit.Exit.{Exit}
use Rattle.cli_spec.specs.declared.exit.Exit.TheVariants.{Value as value, ReadFault as read_fault, TooLong as too_long}
use Rattle.cli_args.proofs.RequestLemmas.{one_request}
use Rattle.text_path.specs.declared.edits.ScriptLine.{ScriptLine}
use Rattle.run_spec.specs.runs.Commands.{Item, Given, Fetches, Prepares, IsLast, Closes, OutputsAll, Answers}
use Rattle.run_spec.proofs.runs.RunSettledLemmas.{Goes}
use Rattle.run_spec.specs.value_commands.Tasks.{IsRefused, EndsHere, EndsBy, commands}
use Rattle.run_spec.proofs.exit_statuses.ExitStatusItemLemmas.{AreOutput, print_first}
use Rattle.types_wellformed.specs.declarations.Read.{IsDeclared}
use Rattle.run_types.specs.Language.{TypeOver, declared_types, IsAccepted, IsTypeLine}
use Rattle.thm_roundtrip.proofs.RoundtripLineLemmas.{HasIt, shown_of}
use Rattle.thm_roundtrip.proofs.OkLemmas.{Refuses, not_last, not_stopped}

-- ---- FILE and TYPE

-- FILE contains declarations, and the text TYPE denotes the type `t` over these declarations.
pub record AreRead (files : Fetches) (file : List ℕ) (type : AskedType) (t : TypeOver) : Type 0 where
  pub contents : List ℕ
  pub read : files 0 file ≡ opened (whole contents)
  pub decls : List Decl
  pub declared : IsDeclared contents decls
  pub accepted : IsAccepted decls type t

are_read : (files : Fetches) (file : List ℕ) (type : AskedType) (t : TypeOver)
    → ReadsTypeOf declared_types (files 0) (file, type) (Ok t) → AreRead files file type t
are_read files file type t (Err exit, fault, e) = absurd (cc e)
are_read files file type t (Ok contents, read, (Err exit, refusal, e)) = absurd (cc e)
are_read files file type t (Ok contents, read, (Ok decls, declared, accepted)) =
    record {
      contents = contents;
      read = read;
      decls = decls;
      declared = declared;
      accepted = accepted;
    }

-- ---- errors before the values

file_refuses : (name : List ℕ) (found : Found) (exit : Exit) → ReadsFile name found (Err exit)
    → Refuses exit
file_refuses name (opened taken) exit fault = by taken.until fault where
  by : (until : ReadingEnd) → fault_of until ≡ Some exit → Refuses exit
  by at_end e = absurd (cc e)
  by at_fault e = let is : read_fault ≡ exit = cc e in subst Refuses is tt
  by at_length e = let is : too_long ≡ exit = cc e in subst Refuses is tt
  by unasked e = absurd (cc e)
file_refuses name missing exit fault = subst Refuses (sym fault) tt
file_refuses name failed exit fault = subst Refuses (sym fault) tt
file_refuses name unfetched exit fault = absurd fault

type_refuses : (file : List ℕ → Found) (typed : List ℕ × AskedType) (exit : Exit)
    → ReadsTypeOf declared_types file typed (Err exit) → Refuses exit
type_refuses file typed exit (Err s, fault, is) =
    let same : s ≡ exit = let k : exit ≡ s = cc is in sym k in
    subst Refuses same (file_refuses typed.0 (file typed.0) s fault)
type_refuses file typed exit (Ok text, read, (Err s, (refusal, refuses, e), is)) =
    let same : exit ≡ s = cc is in subst Refuses (sym (same ∙ e)) tt
type_refuses file typed exit (Ok text, read, (Ok d, reads, (refusal, refuses, e))) =
    subst Refuses (sym e) tt

reports_refuses : (decimal : Bool) (file : List ℕ → Found) (typed : List ℕ × AskedType) (exit : Exit)
    → ReportsAt declared_types file typed (the_text (styled_by false decimal)) (Err exit) → Refuses exit
reports_refuses decimal file typed exit (Ok t, reads, known) = absurd (cc known)
reports_refuses decimal file typed exit (Err s, reads, is) =
    let same : s ≡ exit = let k : exit ≡ s = cc is in sym k in
    subst Refuses same (type_refuses file typed s reads)

-- ---- output for values

ok_true : (b : Bool) → (if b then AllOk else No) ≡ AllOk → b ≡ true
ok_true true e = refl
ok_true false e = absurd (cc e)

-- The texts of values, as lines.
abbrev pub lines_of : TypeOver → (decimal : Bool) → List Tree → List ℕ
lines_of t decimal [] = []
lines_of t decimal (tree ∷ trees) = line (shown_of t decimal tree) ++ lines_of t decimal trees

module _ (t : TypeOver) (decimal : Bool) where
  -- If the output for a value has no error, then the value has the type, and the output is the
  -- value's text as a line.
  output_ok : (tree : Tree) (output : Output) (text : List ℕ)
      → IsTypeLine (the_text (styled_by false decimal)) t (objects_of tree 0) (root tree 0) text output.ok
      → output.text ≡ line text → output.ok ≡ true
      → HasIt t tree × (output.text ≡ line (shown_of t decimal tree))
  output_ok tree output text (inl h) is ok = (h.has, is ∙ ap (λ (s : Output). line s.text) h.known)
  output_ok tree output text (inr h) is ok =
      let no : false ≡ true = sym h.is_all_ok ∙ ok in absurd (cc no)

  all_output_ok : (earlier trees : List Tree) (output : List Output)
      → AreOutput declared_types (reports (the_text (styled_by false decimal)) t) earlier trees output
      → all_ok (output ++ nothing_output ∷ []) ≡ true
      → AllByRecursion (HasIt t) trees
      × (texts_of (output ++ nothing_output ∷ []) ≡ lines_of t decimal trees)
  all_output_ok earlier [] [] h ok = (tt, refl)
  all_output_ok earlier [] (s ∷ output) h ok = absurd h
  all_output_ok earlier (tree ∷ trees) [] h ok = absurd h
  all_output_ok earlier (tree ∷ trees) (s ∷ output) ((text, of, is), h) ok =
      let w = and_parts s.ok (all_ok (output ++ nothing_output ∷ [])) ok in
      let one = output_ok tree s text of is w.0 in
      let next = all_output_ok (earlier ++ tree ∷ []) trees output h w.1 in (
        (one.0, next.0),
        ap (λ first. first ++ texts_of (output ++ nothing_output ∷ [])) one.1
            ∙ ap (λ rest. line (shown_of t decimal tree) ++ rest) next.1,
      )

-- ---- the call

module _ (arguments : List (List ℕ)) (file type : List ℕ) (lined decimal : Bool) (limit : ℕ)
    (asks : Asks arguments (report (the_text (styled_by false decimal)) file type lined (all_under limit))) (given : Given) (all : Replies)
    (ok : (ending_of all).status ≡ AllOk) where
  -- FILE and TYPE were read, the whole input is values of the type, and the texts of the values
  -- were written as lines.
  pub record AreShown : Type 0 where
    pub t : TypeOver
    pub read : AreRead given.files file (asked_type type lined) t
    pub ended : given.input.until ≡ at_end
    pub trees : List Tree
    pub encoded : EncodeAll limit given.input.bytes trees []
    pub have : AllByRecursion (HasIt t) trees
    pub out : (ending_of all).out ≡ lines_of t decimal trees

  module _ (t : TypeOver) (read : AreRead given.files file (asked_type type lined) t) where
    abbrev its_task : Task TypeOver ScriptLine
    its_task = task (reports (the_text (styled_by false decimal)) t) limit

    -- If a call of `show` without errors has read all values, then the input ended after them. The
    -- last reply is the reply for the end of the input.
    at_its_end : (u : ReadingEnd) (items : List Item) (rest : List ℕ)
        → Closes (commands declared_types) its_task items rest u all.last
        → (u ≡ at_end) × EndsHere declared_types its_task items rest all.last
    at_its_end at_end items rest h = (refl, h)
    at_its_end at_fault items rest h = absurd (not_last all ok read_fault tt h)
    at_its_end at_length items rest h = absurd (not_last all ok too_long tt h)
    at_its_end unasked items rest h = absurd h

    at_clean_end : (trees : List Tree) (rest : List ℕ) (end : StreamEnd) → IsTail limit rest end
        → EndsBy declared_types (reports (the_text (styled_by false decimal)) t) trees end all.last
        → (rest ≡ []) × (all.last ≡ outputs nothing_output)
    at_clean_end trees rest clean tail ends = (tail, ends)
    at_clean_end trees rest (refused refusal) tail ends = absurd ends
    at_clean_end trees rest (cut n) tail ends =
        absurd (not_last all ok (value (length trees) (truncated_text n)) tt ends)

    -- If the run ends within the input with an exit reason, then the exit reason is a refusal or a
    -- failure.
    exit_refuses : (items : List Item) (bytes : List ℕ) (exit : Exit)
        → (commands declared_types).Exits its_task items bytes exit → Refuses exit
    exit_refuses items bytes exit s = by s.why where
      by : ExitsAt declared_types (reports (the_text (styled_by false decimal)) t) limit s.trees bytes exit
          ⊎ IsRefused declared_types its_task (length s.trees) bytes exit → Refuses exit
      by (inl none) = absurd none
      by (inr r) = subst Refuses (sym r.is) tt

    of_all : OutputsAll (commands declared_types) its_task given.input all → AreShown
    of_all s = by s.last where
      by : IsLast (commands declared_types) its_task s.items s.rest given.input.until all.last
          → AreShown
      by (inl (exit, exits_at, none, is)) =
          absurd (not_last all ok exit (exit_refuses s.items s.rest exit exits_at) is)
      by (inr (goes_on, closes)) =
          let e = at_its_end given.input.until s.items s.rest closes in
          let clean_end = at_clean_end e.1.trees s.rest e.1.end e.1.tail e.1.ends in
          let first =
          print_first declared_types its_task given.input.bytes s.items all.output s.rest s.first in
          let is_all_ok : (ending_of (replies all.output (outputs nothing_output))).status ≡ AllOk =
          sym (ap (λ last. (ending_of (replies all.output last)).status) clean_end.1) ∙ ok in
          let all_are_ok = ok_true (all_ok (all.output ++ nothing_output ∷ [])) is_all_ok in
          let texts = all_output_ok t decimal [] first.0 all.output first.3 all_are_ok in
          record {
            t = t;
            read = read;
            ended = e.0;
            trees = first.0;
            encoded = subst (EncodeAll limit given.input.bytes first.0) clean_end.0 first.2;
            have = texts.0;
            out = ap (λ last. (ending_of (replies all.output last)).out) clean_end.1 ∙ texts.1;
          }

    of_answers : Answers (commands declared_types) its_task given.input all → AreShown
    of_answers (inl (reads, s)) = of_all s
    of_answers (inr alone) = absurd (alone.unread tt)

  of_request : (found : Result (Task TypeOver ScriptLine) Exit)
      → (commands declared_types).Finds (report (the_text (styled_by false decimal)) file type lined (all_under limit)) given.files found
      → Goes (commands declared_types) given all found → AreShown
  of_request found (Err exit, finds, e) goes =
      absurd (not_stopped all ok exit
      (reports_refuses decimal (given.files 0) (file, asked_type type lined) exit finds)
      (subst (Goes (commands declared_types) given all) e goes))
  of_request found (Ok work, (Err exit, reads, made), e) goes =
      absurd (cc made)
  of_request found (Ok work, (Ok t, reads, made), e) goes =
      let same : work ≡ reports (the_text (styled_by false decimal)) t = cc made in
      let is : found ≡ Ok (task (reports (the_text (styled_by false decimal)) t) limit) =
      subst (λ w. found ≡ Ok (task w limit)) same e in
      of_answers t (are_read given.files file (asked_type type lined) t reads)
      (subst (Goes (commands declared_types) given all) is goes)

  of_arguments : (found : Result (Task TypeOver ScriptLine) Exit)
      → Prepares (commands declared_types) arguments given.files found
      → Goes (commands declared_types) given all found → AreShown
  of_arguments found (Err exit, (usage, is), e) goes =
      absurd (usage (report (the_text (styled_by false decimal)) file type lined (all_under limit)) asks)
  of_arguments found (Ok request, asked, finds) goes =
      let same = one_request arguments request (report (the_text (styled_by false decimal)) file type lined (all_under limit)) asked asks in
      let found_so = subst (λ r. (commands declared_types).Finds r given.files found) same finds in
      of_request found found_so goes

  pub are_shown : (found : Result (Task TypeOver ScriptLine) Exit)
      × Prepares (commands declared_types) arguments given.files found
      × Goes (commands declared_types) given all found → AreShown
  are_shown (found, prepares, goes) = of_arguments found prepares goes
