-- The output for the values read up to now, while a chunk is taken.
use Rattle.std.proofs.Common.{◌≡◌, ◌⊎◌, ℕ, zero, suc, ◌+◌, ◌^◌, ◌<◌, ◌≤◌, Bool, true, false, List, [], ◌∷◌, ◌++◌, length, take, drop, Result, Ok, Err, inl, inr, refl, sym, ap, ◌∙◌, subst, append_assoc, append-nil, length-append, take_all, arith}
use Rattle.std.proofs.lemmas.List.{length-take-le, take-append-drop}
use Rattle.std.specs.Prelude.{◌&&◌, ◌↔◌, ◌≢◌, IsTrue, IsErrAnd, IfSome, Vec}
use Rattle.std.specs.List.{AllZip, AllByRecursion}
use Rattle.std.proofs.lemmas.List.Elements.{All-from_recursion, All-nil}
use Rattle.std.specs.declared.alloc.Global.{Global}
use Rattle.base_io.specs.Sink.{Writes, WritesPart}
use Rattle.base_io.specs.StreamState.{ByteState, Change, change}
use Rattle.cli_errors.specs.declared.exit_line.Error.{Error}
use Rattle.base_data.specs.declared.model.refusal.ReadRefusal.{ReadRefusal}
use Rattle.marshal_spec.specs.format.Prefix.{IsPrefix}
use Rattle.marshal_spec.specs.format.Tree.{Tree, root, objects_of}
use Rattle.marshal_spec.specs.format.Isomorphism.{Isomorphism}
use Rattle.base_data.specs.model.Graph.{IsValue}
use Rattle.marshal_spec.specs.format.Encoded.{EncodedUnder}
use Rattle.marshal_read.specs.declared.reader.Reader.{Reader}
use Rattle.marshal_read.specs.declared.reader.Fed.{Fed}
use Rattle.marshal_read.specs.declared.reader.Truncated.{Truncated}
use Rattle.marshal_read.specs.declared.returned_value.Value.{Value}
use Rattle.marshal_read.specs.Reading.{IsValueOf}
use Rattle.marshal_read.specs.Reader.{LeadsReader, Feeds, Finishes, EndsInput}
use Rattle.marshal_spec.specs.format.Stream.{EncodeAll, clean, cut}
use Rattle.marshal_spec.proofs.format.JudgementLaws.{one_judgement_lem}
use Rattle.base_data.specs.model.Bytes.{AreBytes}
use Rattle.edit_values.specs.Grafts.{Other}
use Rattle.session.specs.declared.earlier.Earlier.{Earlier}
use Rattle.session.specs.declared.edit_lines.Edits.{Edits}
use Rattle.session.specs.Earlier.{IsMade, AreMade, AreEarlier}
use Rattle.session.specs.Edits.{Edit, EditsAll, AnswersOf, WritesEdited}
use Rattle.run_spec.specs.value_commands.Tasks.{items_of, MayCome, ExitsHere, EndsHere, commands}
use Rattle.run_spec.proofs.value_commands.ValueCommandFirstLemmas.{outputs_first, prefix_end, goes_on}
use Rattle.run_spec.proofs.value_commands.ValueCommandItemLemmas.{first_stays}
use Rattle.run_spec.proofs.value_commands.StayLemmas.{exits_more}
use Rattle.run_loop.specs.work.Works.{ItemsStay, AbortsIn, WritesLast}
use Rattle.run_spec.proofs.runs.StreamLemmas.{value_or_tail}
use Rattle.run_spec.proofs.runs.LengthLemmas.{encoded_some}
use Rattle.cli_spec.specs.RefusalText.{truncated_text}
use Rattle.cli_spec.specs.Outcome as outcome
use Rattle.cli_spec.specs.Outcome.{Output, Outputs, AllPrint, PrintFirst, ExitsAt, Finishes as FinishesRun, nothing_output, outputs, comparison, all_ok, compares}
use Rattle.cli_spec.specs.declared.exit.Exit.{Exit}
use Rattle.cli_spec.specs.declared.exit.Exit.TheVariants.{NotTwoValues as not_two_values, Memory as out_of_memory}
use Rattle.cli_spec.specs.declared.exit.Exit.TheVariants as exits
use Rattle.session.specs.declared.value_output.Printing.{Printing}
use Rattle.session.specs.declared.value_output.Printing.TheVariants as printings
use Rattle.session.specs.declared.input_values.Values.{Values}
use Rattle.cli_errors.specs.declared.exit_line.Error.TheVariants as aborts
use Rattle.cli_errors.specs.Exits.{IsOrMemory, IsExitOf}
use Rattle.run_types.specs.Language.{declared_types, lines_of_value, AreDone, AreBytesIn}
use Rattle.run_types.specs.RequestedTexts.{type_over}
use Rattle.run_types.proofs.DoneLemmas.{done_length, done_more}
use Rattle.session.specs.ValueOutput.{work_by, IsOutputOf}
use Rattle.run_spec.specs.runs.Account.{HaveNoExit}
use Rattle.marshal_spec.specs.format.Prefix.{IsRefused}
use Rattle.marshal_read.specs.Reading.{RefusedIn}
use Rattle.marshal_read.proofs.ReaderReadingLemmas.{unless_memory}
use Rattle.session.specs.declared.input_values.ValueTask.{ValueTask}
use Rattle.session.specs.declared.input_values.ValueTask.TheVariants as value_tasks
use Rattle.session.specs.InputValues.{IsReadyValueTask, IsFull, MayTake, AreValues, IsKept, HasRead, IsValueRead, WritesNext, last_ok, WritesComparison, Compares, EndsScript, work_of, task_of, word_limit}
use Rattle.session.proofs.EarlierLemmas.{none_needed}
use Rattle.run_spec.proofs.runs.RunWriteLemmas.{writes_nothing}
use Rattle.run_spec.proofs.runs.RunValueLemmas.{not_whole, nothing_prefix, first_none, first_more, first_after, silent, and_true, all_ok-snoc}

-- Bytes that begin with a complete value are not a proper prefix of a value.
prefix_or_value : (limit : ℕ) (rest more : List ℕ) (tree : Tree) → AreBytes rest → IsPrefix limit rest → EncodeAll limit rest (tree ∷ []) more → ⊥
prefix_or_value limit rest more tree are_bytes prefix (first, after, same, encoded, end) =
    let some : 0 < length first = encoded_some limit first tree encoded in
    let size : length rest ≡ length first + length after = ap length same ∙ length-append first after in
    value_or_tail one_judgement_lem limit first after rest tree (cut (length rest)) are_bytes encoded same (omega (arith, some, size), refl, prefix)

-- If one more value may follow, then a prefix of the value does not end the run.
pub prefix_goes_on : (w : ValueTask) (limit : ℕ) (trees : List Tree) (rest : List ℕ) (exit : Exit) → MayTake w (length trees) → AreBytes rest → IsPrefix limit rest
    → ExitsAt declared_types (work_of w) limit trees rest exit → ⊥
prefix_goes_on (value_tasks.Print (printings.Report r query) most) limit trees rest exit may are_bytes prefix at = at
prefix_goes_on (value_tasks.Print printings.Dump most) limit trees rest exit may are_bytes prefix at = at
prefix_goes_on (value_tasks.Edit e most) limit trees rest exit may are_bytes prefix at = prefix_or_value limit rest at.more at.tree are_bytes prefix at.encoded
prefix_goes_on (value_tasks.Compare most) limit trees rest exit may are_bytes prefix at = let two = at.0 in omega (arith, may, two)

-- If no bytes follow, then the run does not end with an error.
pub none_goes_on : (w : ValueTask) (limit : ℕ) (trees : List Tree) (exit : Exit) → ExitsAt declared_types (work_of w) limit trees [] exit → ⊥
none_goes_on (value_tasks.Print (printings.Report r query) most) limit trees exit at = at
none_goes_on (value_tasks.Print printings.Dump most) limit trees exit at = at
none_goes_on (value_tasks.Edit e most) limit trees exit at =
    let s = at.encoded in
    let some : 0 < length s.0 = encoded_some limit s.0 at.tree s.3 in
    let size : length {A = ℕ} [] ≡ length s.0 + length s.1 = ap length s.2 ∙ length-append s.0 s.1 in omega (arith, some, size)
none_goes_on (value_tasks.Compare most) limit trees exit at = at.1 refl

-- The bytes taken up to now give no exit reason.
abbrev pub holds : (w : ValueTask) (taken : List ℕ) (output : List Output) (values : Values) → HasRead w values taken output → HaveNoExit (commands declared_types) (task_of w) taken output
holds w taken output values h =
    let e = prefix_end (word_limit w) h.prefix h.is_prefix in
    record {
      items = items_of h.trees;
      rest = h.prefix;
      first = outputs_first declared_types (task_of w) taken h.trees output h.prefix h.first;
      goes_on = goes_on declared_types (task_of w) h.trees h.prefix h.leads.bytes e.0 e.1 e.2 h.goes_on;
    }

-- If further bytes follow a value, then the value remains the first value of the input.
pub values_stay : (w : ValueTask) → ItemsStay (commands declared_types) (task_of w)
values_stay w items = first_stays declared_types (word_limit w)

-- If no value was read, then no value is kept.
begins_kept : (w : ValueTask) (kept : List Value) (earlier : List Earlier) → kept ≡ [] → earlier ≡ [] → IsKept w [] kept earlier
begins_kept (value_tasks.Print printing most) kept earlier none no_earlier = tt
begins_kept (value_tasks.Edit e most) kept earlier none no_earlier = record {
  others = [];
  done = refl;
  kept = subst (λ made. AreMade [] made) (sym no_earlier) (All-nil (λ (made : Earlier). IfSome made.value (λ value. IsMade [] made.number value)));
  needed = subst (λ made. AreEarlier e.script.now.lines 0 made) (sym no_earlier) (none_needed e.script.now.lines);
}
begins_kept (value_tasks.Compare most) kept earlier none no_earlier = (subst (λ k. AllZip IsValueOf k []) (sym none) tt, omega arith)

pub begins : (w : ValueTask) (values : Values) → IsReadyValueTask w → LeadsReader (word_limit w) [] values.reader → values.count ≡ 0 → values.ok ≡ true → values.last ≡ true → values.kept.items ≡ [] → values.earlier.items ≡ [] → HasRead w values [] []
begins w values ready leads counted ok last none no_earlier = record {
  ready = ready;
  trees = [];
  prefix = [];
  first = first_none declared_types (task_of w) [];
  is_prefix = nothing_prefix (word_limit w) leads.bytes;
  goes_on = λ exit at. none_goes_on w (word_limit w) [] exit at;
  leads = leads;
  counted = counted;
  ok = ok;
  last = last;
  kept = begins_kept w values.kept.items values.earlier.items none no_earlier;
}

-- ---- the end of the input

-- If two values are kept, then the final output states whether the two values are isomorphic.
pub compares_agree : (kept : List Value) (trees : List Tree) → AllZip IsValueOf kept trees → (first second : Value) → kept ≡ first ∷ second ∷ [] → (agree : Bool)
    → (IsTrue agree ↔ Isomorphism first.heap first.root second.heap second.root) → FinishesRun declared_types compares trees (outputs (comparison agree))
compares_agree kept trees are first second two agree is = at trees (subst (λ k. AllZip IsValueOf k trees) two are) where
  at : (trees : List Tree) → AllZip IsValueOf (first ∷ second ∷ []) trees → FinishesRun declared_types compares trees (outputs (comparison agree))
  at [] h = absurd h
  at (t ∷ []) h = absurd h.1
  at (t ∷ u ∷ v ∷ rest) h = absurd h.1.1
  at (t ∷ u ∷ []) h = (
    agree,
    subst (λ v. IsTrue agree ↔ Isomorphism (objects_of t 0) v (objects_of u 0) (root u 0)) h.0.root (subst (λ g. IsTrue agree ↔ Isomorphism g first.root (objects_of u 0) (root u 0)) h.0.heap
        (subst (λ w. IsTrue agree ↔ Isomorphism first.heap first.root (objects_of u 0) w) h.1.0.root (subst (λ g. IsTrue agree ↔ Isomorphism first.heap first.root g second.root) h.1.0.heap is))),
    refl,
  )

-- If writing the line of the comparison fails, then the result is the write error.
pub last_fault : (trees : List Tree) (out : Change ByteState) (result : Result Bool Error) → IsErrAnd result (λ h. h ≡ aborts.WriteFault) → (final : Output) → FinishesRun declared_types compares trees (outputs final) → WritesPart out final.text
    → WritesComparison trees out result
last_fault trees out (Ok ok) is final finishes part = absurd is
last_fault trees out (Err error) is final finishes part = subst (λ h. WritesComparison trees out (Err h)) (sym is) (final, finishes, part)

-- If there are not exactly two values, then the run ends with an error.
pub compares_none : (kept : List Value) (trees : List Tree) → AllZip IsValueOf kept trees → length kept ≢ 2 → FinishesRun declared_types compares trees (outcome.exits not_two_values)
compares_none kept [] are not = refl
compares_none kept (t ∷ []) are not = refl
compares_none kept (t ∷ u ∷ v ∷ rest) are not = refl
compares_none [] (t ∷ u ∷ []) are not = absurd are
compares_none (a ∷ []) (t ∷ u ∷ []) are not = absurd are.1
compares_none (a ∷ b ∷ []) (t ∷ u ∷ []) are not = absurd (not refl)
compares_none (a ∷ b ∷ c ∷ kept) (t ∷ u ∷ []) are not = absurd are.1.1

-- The kept values are valid.
pub kept_values : (kept : List Value) (trees : List Tree) → AllZip IsValueOf kept trees → AreValues kept
kept_values kept trees are = All-from_recursion (λ v. IsValue (length v.heap) v.root) kept (each kept trees are) where
  each : (kept : List Value) (trees : List Tree) → AllZip IsValueOf kept trees → AllByRecursion (λ v. IsValue (length v.heap) v.root) kept
  each [] trees are = tt
  each (v ∷ kept) [] are = absurd are
  each (v ∷ kept) (t ∷ trees) are = (are.0.valid, each kept trees are.1)

-- The final output follows from the values and the remaining bytes.
abbrev Replies : ValueTask → List Tree → List ℕ → outcome.Reply → Type 0
Replies w trees rest last = EndsHere declared_types (task_of w) (items_of trees) rest last

module _ (w : ValueTask) (taken : List ℕ) (output : List Output) (values : Values) (h : HasRead w values taken output) where
  -- The result of the end of the input is the result that the specification requires.
  abbrev Ends : Change ByteState → Result Bool Error → Type 0
  Ends out result = WritesLast (commands declared_types) (task_of w) output (items_of h.trees) h.prefix out result

  -- If the reader is at the end of a value, then the input ends without a truncated value.
  ends_clean : EndsInput {U = Unit {0}} (word_limit w) h.prefix (Ok tt) → (last : outcome.Reply) → FinishesRun declared_types (work_of w) h.trees last → Replies w h.trees h.prefix last
  ends_clean end last finishes = record { trees = h.trees; are = refl; end = clean; tail = none end; ends = finishes } where
    none : EndsInput {U = Unit {0}} (word_limit w) h.prefix (Ok tt) → h.prefix ≡ []
    none (inl empty) = empty
    none (inr (tree, encoded)) = absurd (not_whole (word_limit w) h.prefix tree h.leads.bytes h.is_prefix encoded)

  -- If the reader is within a value, then the run ends with the error for a truncated value.
  pub ends_split : (truncated : Truncated) → EndsInput {U = Unit {0}} (word_limit w) h.prefix (Err truncated) → (o : ByteState) (exit : Exit)
      → IsOrMemory (exits.Value values.count (truncated_text truncated.taken)) exit → Ends (change o o) (Err (aborts.Exit exit))
  ends_split truncated within o exit (inr memory) = (inr memory, writes_nothing o)
  ends_split truncated within o exit (inl reported) =
      let is : exit ≡ exits.Value (length h.trees) (truncated_text (length h.prefix)) =
      reported ∙ (ap (λ n. exits.Value n (truncated_text truncated.taken)) h.counted ∙ ap (λ n. exits.Value (length h.trees) (truncated_text n)) within.0) in (
        inl (record {
          trees = h.trees;
          are = refl;
          end = cut (length h.prefix);
          tail = (within.1, refl, h.is_prefix);
          ends = ap (λ exit. outcome.exits exit) is;
        }),
        writes_nothing o,
      )

  -- If there is no further output, then the input ends without writing.
  silent_end : EndsInput {U = Unit {0}} (word_limit w) h.prefix (Ok tt) → FinishesRun declared_types (work_of w) h.trees (outputs nothing_output) → (o : ByteState) (ok : Bool) → ok ≡ values.ok
      → Ends (change o o) (Ok ok)
  silent_end end finishes o ok same = (
    nothing_output,
    ends_clean end (outputs nothing_output) finishes,
    same ∙ (h.ok ∙ sym (all_ok-snoc output nothing_output ∙ and_true (all_ok output))),
    writes_nothing o,
  )

-- If the operation writes output for each value, then nothing more is written at the end.
output_finishes : (printing : Printing) (trees : List Tree) → FinishesRun declared_types (work_by printing) trees (outputs nothing_output)
output_finishes (printings.Report r query) trees = refl
output_finishes printings.Dump trees = refl

ends_output : (printing : Printing) (most : ℕ) (taken : List ℕ) (output : List Output) (values : Values) (h : HasRead (value_tasks.Print printing most) values taken output) → EndsInput {U = Unit {0}} most h.prefix (Ok tt) → (o : ByteState)
    → Ends (value_tasks.Print printing most) taken output values h (change o o) (Ok values.ok)
ends_output printing most taken output values h end o =
    silent_end (value_tasks.Print printing most) taken output values h end (output_finishes printing h.trees) o values.ok refl

-- The kept values are compared.
ends_compared : (most : ℕ) (taken : List ℕ) (output : List Output) (values : Values) (h : HasRead (value_tasks.Compare most) values taken output) → EndsInput {U = Unit {0}} most h.prefix (Ok tt) → (out : Change ByteState)
    (result : Result Bool Error) → WritesComparison h.trees out result → Ends (value_tasks.Compare most) taken output values h out result
ends_compared most taken output values h end out (Ok ok) (final, finishes, is, write) = (
  final,
  ends_clean (value_tasks.Compare most) taken output values h end (outputs final) finishes,
  is ∙ sym (all_ok-snoc output final ∙ ap (λ b. b && final.ok) (silent declared_types [] h.trees output h.first.all_print)),
  write,
)
ends_compared most taken output values h end out (Err (aborts.Exit exit)) (inl finishes, none) =
    (inl (ends_clean (value_tasks.Compare most) taken output values h end (outcome.exits exit) finishes), none)
ends_compared most taken output values h end out (Err (aborts.Exit exit)) (inr memory, none) = (inr memory, none)
ends_compared most taken output values h end out (Err aborts.WriteFault) (final, finishes, part) =
    (final, ends_clean (value_tasks.Compare most) taken output values h end (outputs final) finishes, part)

-- If values are edited, then a line that edits none of the values ends the run.
ends_edited : (e : Edits) (most : ℕ) (taken : List ℕ) (output : List Output) (values : Values) (h : HasRead (value_tasks.Edit e most) values taken output) → EndsInput {U = Unit {0}} most h.prefix (Ok tt) → (o : ByteState)
    (result : Result Bool Error) → EndsScript e h.trees values.ok result → Ends (value_tasks.Edit e most) taken output values h (change o o) result
ends_edited e most taken output values h end o (Ok ok) (finishes, same) = silent_end (value_tasks.Edit e most) taken output values h end finishes o ok same
ends_edited e most taken output values h end o (Err (aborts.Exit exit)) (inr memory) = (inr memory, writes_nothing o)
ends_edited e most taken output values h end o (Err (aborts.Exit exit)) (inl finishes) =
    (inl (ends_clean (value_tasks.Edit e most) taken output values h end (outcome.exits exit) finishes), writes_nothing o)
ends_edited e most taken output values h end o (Err aborts.WriteFault) never = absurd never

-- Lemmas on the end of the input, if an equation gives the operation.
module _ (w : ValueTask) (taken : List ℕ) (output : List Output) (values : Values) (h : HasRead w values taken output) where
  pub ends_as_output : (printing : Printing) (most : ℕ) → w ≡ value_tasks.Print printing most → EndsInput {U = Unit {0}} (word_limit w) h.prefix (Ok tt) → (o : ByteState) → Ends w taken output values h (change o o) (Ok values.ok)
  ends_as_output printing most is e o =
      let P : ValueTask → Type 0 = λ w. (h : HasRead w values taken output) → EndsInput {U = Unit {0}} (word_limit w) h.prefix (Ok tt) → Ends w taken output values h (change o o) (Ok values.ok) in
      subst P (sym is) (λ h e. ends_output printing most taken output values h e o) h e

  pub ends_as_edited : (e : Edits) (most : ℕ) → w ≡ value_tasks.Edit e most → EndsInput {U = Unit {0}} (word_limit w) h.prefix (Ok tt) → (o : ByteState) (result : Result Bool Error)
      → ((trees : List Tree) → values.count ≡ length trees → EndsScript e trees values.ok result) → Ends w taken output values h (change o o) result
  ends_as_edited e most is end o result ends =
      let P : ValueTask → Type 0 = λ w. (h : HasRead w values taken output) → EndsInput {U = Unit {0}} (word_limit w) h.prefix (Ok tt) → Ends w taken output values h (change o o) result in
      subst P (sym is) (λ h end. ends_edited e most taken output values h end o result (ends h.trees h.counted)) h end

  pub ends_as_compared : (most : ℕ) → w ≡ value_tasks.Compare most → EndsInput {U = Unit {0}} (word_limit w) h.prefix (Ok tt) → (out : Change ByteState) (result : Result Bool Error) → Compares values.kept.items out result
      → Ends w taken output values h out result
  ends_as_compared most is e out result compared =
      let P : ValueTask → Type 0 = λ w. (h : HasRead w values taken output) → EndsInput {U = Unit {0}} (word_limit w) h.prefix (Ok tt) → Ends w taken output values h out result in
      subst P (sym is) (λ h e. ends_compared most taken output values h e out result (compared h.trees h.kept.0)) h e

  pub kept_as_values : (most : ℕ) → w ≡ value_tasks.Compare most → AreValues values.kept.items
  kept_as_values most is =
      let P : ValueTask → Type 0 = λ w. HasRead w values taken output → AreValues values.kept.items in
      subst P (sym is) (λ h. kept_values values.kept.items h.trees h.kept.0) h

-- The output for a value that was read completely.
pub outputs_read : (printing : Printing) (earlier : List Tree) (value : Value) (tree : Tree) (text : List ℕ) (ok : Bool) → IsValueOf value tree → IsOutputOf printing value.heap value.root text ok
    → Outputs declared_types (work_by printing) earlier tree (record { text = text; ok = ok })
outputs_read printing earlier value tree text ok is_value it_outputs =
    of_tree printing (subst (λ v. IsOutputOf printing (objects_of tree 0) v text ok) is_value.root (subst (λ h. IsOutputOf printing h value.root text ok) is_value.heap it_outputs)) where
      of_tree : (printing : Printing) → IsOutputOf printing (objects_of tree 0) (root tree 0) text ok → Outputs declared_types (work_by printing) earlier tree (record { text = text; ok = ok })
      of_tree (printings.Report r query) h = h
      of_tree printings.Dump h = h

-- The bytes of a value that was read completely and edited.
pub edited_read : (e : Edits) (others : List Other) (k : ℕ) (value : Value) (tree : Tree) (answer : Result (List ℕ) outcome.Unedited) → IsValueOf value tree → AnswersOf e others k value.heap value.root answer
    → AnswersOf e others k (objects_of tree 0) (root tree 0) answer
edited_read e others k value tree answer is it = subst (λ v. AnswersOf e others k (objects_of tree 0) v answer) is.root (subst (λ h. AnswersOf e others k h value.root answer) is.heap it)

-- ---- current bytes

module _ (w : ValueTask) (taken : List ℕ) (output : List Output) (values : Values) (h : HasRead w values taken output) (rest : List ℕ) (reader : Reader) (fed : Fed) (f : Feeds (word_limit w) h.prefix rest reader fed) where
  abbrev after : Values
  after = record values { reader = reader }

  -- If the current bytes complete the value, then the reader has taken all bytes of the value.
  abbrev pub whole_read : MayTake w (length h.trees) → fed.done ≡ true → IsValueRead w after (taken ++ take fed.taken rest) output
  whole_read may done = record {
    ready = h.ready;
    trees = h.trees;
    whole = h.prefix ++ take fed.taken rest;
    first = first_after declared_types (task_of w) taken h.trees output h.prefix (take fed.taken rest) h.first;
    some = encoded_some (word_limit w) (h.prefix ++ take fed.taken rest) (f.done done).1.0 (f.done done).1.1;
    may = may;
    leads = f.leads;
    done = (f.done done).0;
    counted = h.counted;
    ok = h.ok;
    kept = h.kept;
  }

  pub few_read : length taken + length rest < 2 ^ 63 → length (taken ++ take fed.taken rest) < 2 ^ 64
  few_read short =
      let all = length-append taken (take fed.taken rest) in
      let some = length-take-le fed.taken rest in
      let fits = f.within in omega (arith, all, some, short, fits)

  -- If the value is complete, then some bytes were taken.
  pub some_taken : fed.done ≡ true → 0 < fed.taken
  some_taken done = some fed.taken refl where
    some : (n : ℕ) → fed.taken ≡ n → 0 < n
    some zero e =
        let none : h.prefix ++ take fed.taken rest ≡ h.prefix = ap (λ n. h.prefix ++ take n rest) e ∙ append-nil h.prefix in
        let whole = (f.done done).1 in
        absurd (not_whole (word_limit w) h.prefix whole.0 h.leads.bytes h.is_prefix (subst (λ b. EncodedUnder (word_limit w) b whole.0) none whole.1))
    some (suc n) e = omega arith

  -- If the value is not complete, then the reader has taken all current bytes.
  pub prefix_read : MayTake w (length h.trees) → fed.done ≡ false → HasRead w after (taken ++ take fed.taken rest) (output ++ [])
  prefix_read may not_done =
      let more = f.more not_done in
      let all : take fed.taken rest ≡ rest = take_all fed.taken rest (omega (arith, more.0)) in
      subst (λ s. HasRead w after (taken ++ take fed.taken rest) s) (sym (append-nil output)) (record {
        ready = h.ready;
        trees = h.trees;
        prefix = h.prefix ++ take fed.taken rest;
        first = first_after declared_types (task_of w) taken h.trees output h.prefix (take fed.taken rest) h.first;
        is_prefix = subst (λ b. IsPrefix (word_limit w) (h.prefix ++ b)) (sym all) more.1;
        goes_on = λ exit at.
            prefix_goes_on w (word_limit w) h.trees (h.prefix ++ take fed.taken rest) exit may f.leads.bytes (subst (λ b. IsPrefix (word_limit w) (h.prefix ++ b)) (sym all) more.1) at;
        leads = f.leads;
        counted = h.counted;
        ok = h.ok;
        last = h.last;
        kept = h.kept;
      })

-- If a value was read completely, then the output of the value follows the output of the earlier
-- values.
pub value_output : (w : ValueTask) (taken : List ℕ) (output : List Output) (values : Values) (v : IsValueRead w values taken output) (tree : Tree) → EncodedUnder (word_limit w) v.whole tree
    → (next : Output) → Outputs declared_types (work_of w) v.trees tree next → PrintFirst declared_types (task_of w) taken (v.trees ++ tree ∷ []) (output ++ next ∷ []) []
value_output w taken output values v tree encoded next it_outputs =
    first_more declared_types (task_of w) taken v.trees output v.whole [] tree next (subst (λ b. PrintFirst declared_types (task_of w) taken v.trees output b) (sym (append-nil v.whole)) v.first) encoded it_outputs

-- Each value has an output.
as_many : (w : ValueTask) (earlier trees : List Tree) (output : List Output) → AllPrint declared_types (work_of w) earlier trees output → length trees ≡ length output
as_many w earlier [] [] all = refl
as_many w earlier [] (s ∷ output) all = absurd all
as_many w earlier (tree ∷ trees) [] all = absurd all
as_many w earlier (tree ∷ trees) (s ∷ output) all = let more = as_many w (earlier ++ tree ∷ []) trees output all.1 in omega (arith, more)

pub output_count : (w : ValueTask) (taken : List ℕ) (output : List Output) (values : Values) → HasRead w values taken output → values.count ≡ length output
output_count w taken output values h = h.counted ∙ as_many w [] h.trees output h.first.all_print

-- If one more output is appended, then `last_ok` is the flag of the appended output.
pub last_ok-snoc : (ok : Bool) (output : List Output) (next : Output) → last_ok ok (output ++ next ∷ []) ≡ next.ok
last_ok-snoc ok [] next = refl
last_ok-snoc ok (s ∷ output) next = last_ok-snoc s.ok output next

-- If the output of a value was written, then the reader waits for the next value.
pub value_written : (w : ValueTask) (taken : List ℕ) (output : List Output) (values : Values) (v : IsValueRead w values taken output) (tree : Tree) → EncodedUnder (word_limit w) v.whole tree
    → (next : Output) → Outputs declared_types (work_of w) v.trees tree next → (reader : Reader) → LeadsReader (word_limit w) [] reader → (ok : Bool) → ok ≡ (values.ok && next.ok) → (last : Bool) → last ≡ next.ok
    → (kept : Vec Value Global) (earlier : Vec Earlier Global) → IsKept w (v.trees ++ tree ∷ []) kept.items earlier.items → (line : Vec ℕ Global)
    → HasRead w (record { reader = reader; ok = ok; last = last; count = values.count + 1; kept = kept; earlier = earlier; line = line }) taken (output ++ next ∷ [])
value_written w taken output values v tree encoded next it_outputs reader leads ok is_all_ok last is_last kept earlier are line = record {
  ready = v.ready;
  trees = v.trees ++ tree ∷ [];
  prefix = [];
  first = value_output w taken output values v tree encoded next it_outputs;
  is_prefix = nothing_prefix (word_limit w) leads.bytes;
  goes_on = λ exit at. none_goes_on w (word_limit w) (v.trees ++ tree ∷ []) exit at;
  leads = leads;
  counted = ap (λ n. n + 1) v.counted ∙ sym (length-append v.trees (tree ∷ []));
  ok = is_all_ok ∙ (ap (λ w. w && next.ok) v.ok ∙ sym (all_ok-snoc output next));
  last = is_last ∙ sym (last_ok-snoc true output next);
  kept = are;
}

zip_push : (kept : List Value) (trees : List Tree) (value : Value) (tree : Tree) → AllZip IsValueOf kept trees → IsValueOf value tree → AllZip IsValueOf (kept ++ value ∷ []) (trees ++ tree ∷ [])
zip_push [] [] value tree are is = (is, tt)
zip_push [] (t ∷ trees) value tree are is = absurd are
zip_push (v ∷ kept) [] value tree are is = absurd are
zip_push (v ∷ kept) (t ∷ trees) value tree are is = (are.0, zip_push kept trees value tree are.1 is)

-- If values are compared and a value is kept, then the reader waits for the next value.
pub value_kept : (most : ℕ) (taken : List ℕ) (output : List Output) (values : Values) (v : IsValueRead (value_tasks.Compare most) values taken output) (value : Value) (f : Finishes most v.whole value)
    → (kept : Vec Value Global) → kept.items ≡ values.kept.items ++ value ∷ [] → (reader : Reader) → LeadsReader most [] reader
    → HasRead (value_tasks.Compare most) (record { reader = reader; ok = values.ok; last = true; count = values.count + 1; kept = kept; earlier = values.earlier; line = values.line }) taken (output ++ nothing_output ∷ [])
value_kept most taken output values v value f kept same reader leads =
    value_written (value_tasks.Compare most) taken output values v f.tree f.encoded nothing_output (v.may, refl) reader leads values.ok (sym (and_true values.ok)) true refl kept values.earlier
    (let few = v.may in
    let size = length-append v.trees (f.tree ∷ []) in
    (subst (λ k. AllZip IsValueOf k (v.trees ++ f.tree ∷ [])) (sym same) (zip_push values.kept.items v.trees value f.tree v.kept.0 f.is_value), omega (arith, few, size)))
    values.line

-- If an equation states that values are compared, then a kept value satisfies `WritesNext`.
pub kept_next : (w : ValueTask) (most : ℕ) (taken : List ℕ) (output : List Output) (values : Values) → IsValueRead w values taken output → w ≡ value_tasks.Compare most → (new : Values) (o : ByteState)
    → (IsValueRead (value_tasks.Compare most) values taken output → HasRead (value_tasks.Compare most) new taken (output ++ nothing_output ∷ [])) → (next : Output) × HasRead w new taken (output ++ next ∷ []) × Writes (change o o) next.text
kept_next w most taken output values v is new o kept =
    let P : ValueTask → Type 0 = λ w. IsValueRead w values taken output → HasRead w new taken (output ++ nothing_output ∷ []) in
    (nothing_output, subst P (sym is) kept v, writes_nothing o)

pub next_as : (w known : ValueTask) → w ≡ known → (taken : List ℕ) (output : List Output) (values : Values) (v : IsValueRead w values taken output) (out : Change ByteState) (new : Values) (result : Result (Unit {0}) Error)
    → ((v : IsValueRead known values taken output) → WritesNext known taken output v.trees v.whole out new result) → WritesNext w taken output v.trees v.whole out new result
next_as w known is taken output values v out new result next =
    let P : ValueTask → Type 0 = λ w. (v : IsValueRead w values taken output) → WritesNext {U = Unit {0}} w taken output v.trees v.whole out new result in
    subst P (sym is) next v

-- There are no more values than bytes.
pub encode_count : (limit : ℕ) (bytes rest : List ℕ) (trees : List Tree) → EncodeAll limit bytes trees rest → length trees + length rest ≤ length bytes
encode_count limit bytes rest [] same = let e : length bytes ≡ length rest = ap length same in omega (arith, e)
encode_count limit bytes rest (tree ∷ trees) (first, more, same, encoded, all) =
    let some = encoded_some limit first tree encoded in
    let fewer = encode_count limit more rest trees all in
    let size : length bytes ≡ length first + length more = ap length same ∙ length-append first more in omega (arith, some, fewer, size)

pub room_for_one : (w : ValueTask) (taken : List ℕ) (output : List Output) (values : Values) → IsValueRead w values taken output → length taken < 2 ^ 64 → values.count + 1 < 2 ^ 64
room_for_one w taken output values v short =
    let fewer = encode_count (word_limit w) taken v.whole v.trees v.first.encoded in
    let counted = v.counted in
    let some = v.some in omega (arith, fewer, short, counted, some)

-- The run ends at the bytes after the values, or memory ran out.
abbrev ExitsIn : ValueTask → List Tree → List ℕ → Exit → Type 0
ExitsIn w trees rest exit = ExitsHere declared_types (task_of w) (items_of trees) rest exit ⊎ (exit ≡ out_of_memory)

may_come : (w : ValueTask) (n : ℕ) → MayTake w n → MayCome declared_types (work_of w) n
may_come (value_tasks.Print (printings.Report r query) most) n may = tt
may_come (value_tasks.Print printings.Dump most) n may = tt
may_come (value_tasks.Edit e most) n may = tt
may_come (value_tasks.Compare most) n may = may

-- If the reader refuses the current bytes, then the run ends, or memory ran out.
pub exits_in : (w : ValueTask) (trees : List Tree) (rest : List ℕ) (refusal : ReadRefusal) (exit : Exit) → MayTake w (length trees) → RefusedIn (word_limit w) rest refusal → IsExitOf (length trees) refusal exit
    → ExitsIn w trees rest exit
exits_in w trees rest refusal exit may r (inl memory) = inr memory
exits_in w trees rest refusal exit may r (inr (some, is)) =
    elim ((unless_memory refusal ((n : ℕ) × (n ≤ length rest) × IsRefused (word_limit w) (take n rest) refusal)).1 r) [
      | inl e ↦ absurd (some e)
      | inr tail ↦ inl (record {
        trees = trees;
        are = refl;
        why = inr (record { may = may_come w (length trees) may; refusal = refusal; tail = tail; is = is });
      })
    ]

-- Any byte after two values ends the run.
pub full_exits : (w : ValueTask) (trees : List Tree) (prefix rest : List ℕ) → IsFull w (length trees) → 0 < length rest → ExitsIn w trees (prefix ++ rest) not_two_values
full_exits (value_tasks.Print printing most) trees prefix rest full some = absurd full
full_exits (value_tasks.Edit e most) trees prefix rest full some = absurd full
full_exits (value_tasks.Compare most) trees prefix rest full some =
    let any : prefix ++ rest ≡ [] → ⊥ = λ none. let e : length (prefix ++ rest) ≡ 0 = ap length none in let size = length-append prefix rest in omega (arith, e, size, some) in
    inl (record { trees = trees; are = refl; why = inl (full, any, refl) })

-- Lemmas on an error in the current bytes.
module _ (w : ValueTask) (taken : List ℕ) (output : List Output) (values : Values) (h : HasRead w values taken output) (rest : List ℕ) where
  abbrev pub Aborts : Change ByteState → Error → Type 0
  Aborts out error = AbortsIn (commands declared_types) (task_of w) taken rest output out error

  pub exits_now : (exit : Exit) → ExitsIn w h.trees (h.prefix ++ rest) exit → (a b : ByteState) → Writes (change a b) [] → Aborts (change a b) (aborts.Exit exit)
  exits_now exit why a b none = (holds w taken output values h, why, none)

  -- The error is at the line of the value that ends there.
  pub next_aborts : (n : ℕ) (a b : ByteState) (new : Values) (error : Error) → WritesNext {U = Unit {0}} w (taken ++ take n rest) output h.trees (h.prefix ++ take n rest) (change a b) new (Err error)
      → Aborts (change a b) error
  next_aborts n a b new (aborts.Exit exit) (inl memory, none) = exits_now exit (inr memory) a b none
  next_aborts n a b new (aborts.Exit exit) (inr at, none) =
      let more = exits_more declared_types (work_of w) (word_limit w) h.trees (h.prefix ++ take n rest) (drop n rest) exit at in
      let all : (h.prefix ++ take n rest) ++ drop n rest ≡ h.prefix ++ rest = append_assoc h.prefix (take n rest) (drop n rest) ∙ ap (λ r. h.prefix ++ r) (take-append-drop n rest) in
      let here : ExitsAt declared_types (work_of w) (word_limit w) h.trees (h.prefix ++ rest) exit = subst (λ b. ExitsAt declared_types (work_of w) (word_limit w) h.trees b exit) all more in
      exits_now exit (inl (record { trees = h.trees; are = refl; why = inl here })) a b none
  next_aborts n a b new aborts.WriteFault (next, (trees, left, first), part) =
      let all : (taken ++ take n rest) ++ drop n rest ≡ taken ++ rest = append_assoc taken (take n rest) (drop n rest) ∙ ap (λ r. taken ++ r) (take-append-drop n rest) in
      let more = first_after declared_types (task_of w) (taken ++ take n rest) trees (output ++ next ∷ []) left (drop n rest) first in
      let here : PrintFirst declared_types (task_of w) (taken ++ rest) trees (output ++ next ∷ []) (left ++ drop n rest) =
      subst (λ b. PrintFirst declared_types (task_of w) b trees (output ++ next ∷ []) (left ++ drop n rest)) all more in (
        holds w taken output values h,
        next,
        (items_of trees, left ++ drop n rest, outputs_first declared_types (task_of w) (taken ++ rest) trees (output ++ next ∷ []) (left ++ drop n rest) here),
        part,
      )

-- Memory ran out, propagated by `?`.
pub memory_aborts : (w : ValueTask) (taken : List ℕ) (output : List Output) (trees : List Tree) (whole : List ℕ) (o : ByteState) (new : Values) (result : Result (Unit {0}) Error)
    → IsErrAnd result (λ h. h ≡ aborts.Exit out_of_memory) → WritesNext {U = Unit {0}} w taken output trees whole (change o o) new result
memory_aborts w taken output trees whole o new (Ok unit) is = absurd is
memory_aborts w taken output trees whole o new (Err h) is = subst (λ h. WritesNext {U = Unit {0}} w taken output trees whole (change o o) new (Err h)) (sym is) (inl refl, writes_nothing o)

-- ---- a value that is edited

module _ (e : Edits) (most : ℕ) (taken : List ℕ) (output : List Output) (values : Values) (v : IsValueRead (value_tasks.Edit e most) values taken output) (value : Value) (f : Finishes most v.whole value) where
  -- The output for the value is the output for its tree after the earlier values.
  answered : (answer : Result (List ℕ) outcome.Unedited) → AnswersOf e v.kept.others values.count value.heap value.root answer
      → AreBytesIn (type_over e.requested.now) e.script.now.lines e.compat v.trees f.tree answer
  answered answer it = (
    v.kept.others,
    v.kept.done,
    edited_read e v.kept.others (length v.trees) value f.tree answer f.is_value (subst (λ k. AnswersOf e v.kept.others k value.heap value.root answer) v.counted it),
  )

  -- The value comes after those that the lines made.
  pub comes_last : values.count ≡ length v.kept.others
  comes_last =
      let size = done_length (type_over e.requested.now) e.script.now.lines [] v.trees v.kept.others v.kept.done in
      let counted = v.counted in omega (arith, size, counted)

  -- The lines made the value.
  abbrev pub all_made : Value → List Other
  all_made new = v.kept.others ++ (new.heap, new.root) ∷ []

  made_last : (new : Value) → EditsAll e.requested.now v.kept.others values.count e.script.now.lines value new
      → AreDone (type_over e.requested.now) e.script.now.lines [] (v.trees ++ f.tree ∷ []) (all_made new)
  made_last new all =
      let others = v.kept.others in
      let r = e.requested.now in
      let lines = e.script.now.lines in
      let last : Edit r others (lines_of_value (length others) lines) value.heap value.root (Ok (new.heap, new.root)) =
      subst (λ k. Edit r others (lines_of_value k lines) value.heap value.root (Ok (new.heap, new.root))) comes_last all.made in
      let heap : Edit r others (lines_of_value (length others) lines) (objects_of f.tree 0) value.root (Ok (new.heap, new.root)) =
      subst (λ h. Edit r others (lines_of_value (length others) lines) h value.root (Ok (new.heap, new.root))) f.is_value.heap last in
      let whole : Edit r others (lines_of_value (length others) lines) (objects_of f.tree 0) (root f.tree 0) (Ok (new.heap, new.root)) =
      subst (λ v. Edit r others (lines_of_value (length others) lines) (objects_of f.tree 0) v (Ok (new.heap, new.root))) f.is_value.root heap in
      done_more (type_over r) lines [] v.trees others f.tree (new.heap, new.root) v.kept.done whole

  abbrev edited_output : List ℕ → Output
  edited_output bytes = record { text = bytes; ok = true }

  -- The bytes were written, and the reader waits for the next value.
  pub edited_written : (new : Value) (out : Change ByteState) → WritesEdited {U = Unit {0}} e v.kept.others values.count value.heap value.root out (Ok tt)
      → EditsAll e.requested.now v.kept.others values.count e.script.now.lines value new
      → (reader : Reader) → LeadsReader most [] reader → (earlier : Vec Earlier Global) → AreMade (all_made new) earlier.items → AreEarlier e.script.now.lines (values.count + 1) earlier.items
      → (next : Output)
      × HasRead (value_tasks.Edit e most) (record { reader = reader; ok = values.ok; last = true; count = values.count + 1; kept = values.kept; earlier = earlier; line = values.line }) taken (output ++ next ∷ [])
      × Writes out next.text
  edited_written new out (bytes, it, write) all reader leads earlier are needed = (
    edited_output bytes,
    value_written (value_tasks.Edit e most) taken output values v f.tree f.encoded (edited_output bytes) (answered (Ok bytes) it, refl) reader leads values.ok (sym (and_true values.ok)) true refl values.kept earlier
        (record {
          others = all_made new;
          done = made_last new all;
          kept = are;
          needed = subst (λ n. AreEarlier e.script.now.lines n earlier.items) (ap (λ n. n + 1) v.counted ∙ sym (length-append v.trees (f.tree ∷ []))) needed;
        })
        values.line,
    write,
  )

  -- The value ends the run, or writing the output fails.
  edited_error : (out : Change ByteState) (error : Error) (new : Values) → WritesEdited {U = Unit {0}} e v.kept.others values.count value.heap value.root out (Err error)
      → WritesNext {U = Unit {0}} (value_tasks.Edit e most) taken output v.trees v.whole out new (Err error)
  edited_error out (aborts.Exit exit) new (inl memory, none) = (inl memory, none)
  edited_error out (aborts.Exit exit) new (inr (why, it, is), none) = (
    inr (record {
      tree = f.tree;
      more = [];
      encoded = (v.whole, [], sym (append-nil v.whole), f.encoded, refl);
      why = why;
      refused = answered (Err why) it;
      exits = subst (λ k. exit ≡ outcome.unedited_exit k why) v.counted is;
    }),
    none,
  )
  edited_error out aborts.WriteFault new (bytes, it, part) = (
    edited_output bytes,
    (v.trees ++ f.tree ∷ [], [], value_output (value_tasks.Edit e most) taken output values v f.tree f.encoded (edited_output bytes) (answered (Ok bytes) it, refl)),
    part,
  )

  pub edited_aborts : (out : Change ByteState) (error : Error) (new : Values) (result : Result (Unit {0}) Error) → IsErrAnd result (λ h. h ≡ error) → WritesEdited {U = Unit {0}} e v.kept.others values.count value.heap value.root out (Err error)
      → WritesNext {U = Unit {0}} (value_tasks.Edit e most) taken output v.trees v.whole out new result
  edited_aborts out error new (Ok unit) is p = absurd is
  edited_aborts out error new (Err h) is p = subst (λ h. WritesNext {U = Unit {0}} (value_tasks.Edit e most) taken output v.trees v.whole out new (Err h)) (sym is) (edited_error out error new p)
