-- Canonical values that no line edits are written unchanged.
use Rattle.std.proofs.Common.{◌≡◌, ◌<◌, ◌+◌, ℕ, Bool, true, false, List, [], ◌∷◌, ◌++◌, length, map, Option, Some, None, Ok, inl, inr, refl, sym, ap, ◌∙◌, subst, length-append, arith}
use Rattle.std.specs.Prelude.{if◌then◌else◌}
use Rattle.std.specs.List.{concat, AllByRecursion}
use Rattle.cli_spec.specs.declared.status.Status.TheVariants as statuses
use Rattle.base_data.specs.model.Bytes.{AreBytes}
use Rattle.marshal_spec.proofs.canonical.TreeGraphs.{own_tree}
use Rattle.marshal_spec.specs.format.Canonical.{canon}
use Rattle.marshal_spec.specs.format.Compat.{TooLargeFor32, too_large_for_32}
use Rattle.marshal_spec.specs.format.Stream.{EncodeAll, clean}
use Rattle.marshal_spec.specs.format.Tree.{Tree, root, objects_of}
use Rattle.cli_spec.specs.Outcome.{all_under, asked_with, edit, Output, nothing_output, outputs, Replies, replies, all_ok, ending_of, edits, Task, task, AllPrint, ExitsAt, fetches_of, whole}
use Rattle.cli_spec.specs.declared.exit.Exit.{Exit}
use Rattle.base_io.specs.Files.{File, contents_of}
use Rattle.base_io.specs.Sink.{Writes}
use Rattle.edit_values.specs.Grafts.{Other}
use Rattle.text_path.specs.declared.edits.ScriptLine.{ScriptLine}
use Rattle.run_spec.specs.runs.Call.{Call}
use Rattle.session.specs.All.{on_values_after, all_commands, IsOfValues, IsPart}
use Rattle.session.proofs.SessionPartLemmas.{values_at_once}
use Rattle.session.specs.Copied.{IsCanonical, IsLeftAlone, LeavesCanonical}
use Rattle.run_spec.specs.runs.Given.{ReportsBytes}
use Rattle.run_types.specs.Language.{TypeOver, declared_types, bytes_for, IsBytesLine}
use Rattle.run_types.proofs.DoneLemmas.{as_it_came, plain_done}
use Rattle.run_types.proofs.RunTypesGivenLemmas.{given_each}
use Rattle.run_spec.specs.runs.LawfulLanguage.{IsGiven}
use Rattle.run_spec.specs.runs.CommandLaws.{HaveOneOutcome, Follow}
use Rattle.run_spec.specs.runs.Commands.{Given, Answers, Outcome}
use Rattle.run_spec.specs.runs.RunSpec.{RunSpec, Headline, known_files}
use Rattle.run_spec.proofs.runs.LengthLemmas.{encoded_some}
use Rattle.run_spec.proofs.runs.StreamLemmas.{encode_bytes}
use Rattle.run_spec.specs.value_commands.Tasks.{items_of, commands}
use Rattle.run_spec.proofs.value_commands.ValueCommandGivenLemmas.{type_given}
use Rattle.run_spec.proofs.value_commands.ValueCommandFirstLemmas.{outputs_first, goes_on}

-- The output for a canonical value that no line edits.
abbrev pub output_of : Tree → Output
output_of tree = record { text = canon tree; ok = true }

abbrev pub output_all : List Tree → Replies
output_all trees = replies (map output_of trees) (outputs nothing_output)

pub texts_are : (trees : List Tree) → (ending_of (output_all trees)).out ≡ concat (map canon trees)
texts_are [] = refl
texts_are (tree ∷ trees) = ap (λ text. canon tree ++ text) (texts_are trees)

pub all_are_ok : (trees : List Tree) → all_ok (map output_of trees ++ nothing_output ∷ []) ≡ true
all_are_ok [] = refl
all_are_ok (tree ∷ trees) = all_are_ok trees

-- If `compat` is false or a 32-bit reader can hold a value, then the value's bytes are canonical.
bytes_are : (compat : Bool) (tree : Tree) (large : Option TooLargeFor32) → (compat ≡ true → large ≡ None) → Ok (canon tree) ≡ bytes_for compat tree large
bytes_are compat tree None fits = refl
bytes_are false tree (Some large) fits = refl
bytes_are true tree (Some large) fits = let never : ◌≡◌ {A = Option TooLargeFor32} (Some large) None = fits refl in absurd (cc never)

module _ (t : TypeOver) (compat : Bool) (limit : ℕ) where
  encoded_all : (trees : List Tree) → AllByRecursion (IsCanonical t compat limit) trees → EncodeAll limit (concat (map canon trees)) trees []
  encoded_all [] h = refl
  encoded_all (tree ∷ trees) h = (canon tree, concat (map canon trees), refl, h.0.encoded, encoded_all trees h.1)

  abbrev its_task : Task TypeOver ScriptLine
  its_task = task (edits t [] compat) limit

  -- If no byte follows the values, then the run does not end with an error.
  none_at_end : (trees : List Tree) (exit : Exit)
      → ExitsAt declared_types (edits t [] compat) limit trees [] exit → ⊥
  none_at_end trees exit at =
      let s = at.encoded in
      let some : 0 < length s.0 = encoded_some limit s.0 at.tree s.3 in
      let size : length {A = ℕ} [] ≡ length s.0 + length s.1 = ap length s.2 ∙ length-append s.0 s.1 in
      omega (arith, some, size)

  module _ (given : IsGiven declared_types t) where
    left_alone : (others : List Other) (tree : Tree) → IsCanonical t compat limit tree → IsBytesLine t others [] compat (objects_of tree 0) (root tree 0) (Ok (canon tree))
    left_alone others tree h =
        inl (record {
          has = h.has;
          each = given_each t given (objects_of tree 0) (root tree 0) h.has;
          edited = Ok (objects_of tree 0, root tree 0);
          made = refl;
          bytes = (tree, own_tree tree h.encoded.encodes.is_tree h.encoded.encodes.refers_back, bytes_are compat tree (too_large_for_32 tree) h.fits);
        })

    all_print : (earlier trees : List Tree) → AllByRecursion (IsCanonical t compat limit) trees → AllPrint declared_types (edits t [] compat) earlier trees (map output_of trees)
    all_print earlier [] h = tt
    all_print earlier (tree ∷ trees) h =
        let others = map as_it_came earlier in
        (((others, plain_done t [] earlier, left_alone others tree h.0), refl), all_print (earlier ++ tree ∷ []) trees h.1)

    reply : (trees : List Tree) → AllByRecursion (IsCanonical t compat limit) trees
        → AreBytes (concat (map canon trees))
        → Answers (commands declared_types) its_task (whole (concat (map canon trees))) (output_all trees)
    reply trees h are_bytes =
        let encoded = encoded_all trees h in
        let none = encode_bytes limit (concat (map canon trees)) [] trees encoded are_bytes in
        inl (
          tt,
          record {
            items = items_of trees;
            rest = [];
            first = outputs_first declared_types its_task (concat (map canon trees)) trees (map output_of trees) []
                (record { encoded = encoded; all_print = all_print [] trees h });
            last = inr (
              goes_on declared_types its_task trees [] none clean refl (λ refusal e. cc e) (none_at_end trees),
              record { trees = trees; are = refl; end = clean; tail = refl; ends = refl },
            );
          },
        )

module _ (once : HaveOneOutcome (commands declared_types))
    (headline : Follow (commands declared_types) (Headline (commands declared_types)))
    (arguments : List (List ℕ)) (call : Call)
    (reports : ReportsBytes call.input) where
  its_outcome : (input : List ℕ) (files : List File) → AreBytes input → (is : IsLeftAlone arguments input files)
      → Outcome (commands declared_types) arguments (contents_of files) input (output_all is.trees)
  its_outcome input files are_bytes is = (
    Ok (its_task is.type_is is.compat is.limit),
    (
      Ok (edit is.file is.type is.script is.compat is.lines is.decimal (all_under is.limit)),
      is.asks,
      (
        Ok (edits is.type_is [] is.compat),
        (Ok is.type_is, is.typed, (Ok [], is.no_line, refl)),
        refl,
      ),
    ),
    subst (λ b. Answers (commands declared_types) (its_task is.type_is is.compat is.limit) (whole b) (output_all is.trees))
        (sym is.bytes)
        (reply is.type_is is.compat is.limit (type_given declared_types (fetches_of (contents_of files)) is.file (asked_with is.type is.lines is.decimal) is.type_is is.typed) is.trees is.canonical (subst AreBytes is.bytes are_bytes)),
  )

  -- If the specification of a run by all commands holds, then an empty SCRIPT leaves canonical
  -- input unchanged.
  pub leaves_canonical : IsPart on_values_after IsOfValues → RunSpec all_commands arguments call
      → LeavesCanonical arguments call
  leaves_canonical part all input files honest some is =
      let request = edit is.file is.type is.script is.compat is.lines is.decimal (all_under is.limit) in
      let p = values_at_once part arguments call request is.asks tt refl refl all in
      let are_bytes : AreBytes input = rw honest.ok_read.input_known at reports in
      let o = headline arguments call reports p input files honest some in
      let given : Given = record { files = known_files files; input = whole input } in
      let same = once arguments given are_bytes o.all (output_all is.trees) o.outcome (its_outcome input files are_bytes is) in
      record {
        out = subst (λ text. Writes call.out text) (ap (λ all. (ending_of all).out) same ∙ (texts_are is.trees ∙ sym is.bytes)) o.out;
        err = subst (λ all. Writes call.err (ending_of all).err) same o.err;
        status = o.status ∙ (ap (λ all. (ending_of all).status) same ∙ ap (λ ok. if ok then statuses.AllOk else statuses.No) (all_are_ok is.trees));
      }
