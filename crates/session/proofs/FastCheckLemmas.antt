-- The result of the streaming check on the current bytes is the output for the next value.
use Rattle.std.proofs.Common.{◌≡◌, ℕ, Bool, true, false, ◌+◌, ◌^◌, ◌<◌, List, [], ◌∷◌, ◌++◌, length, take, drop, Option, None, Some, Ok, Err, inl, inr, refl, sym, ap, ◌∙◌, subst, append_assoc, append-nil, length-append, arith}
use Rattle.std.proofs.lemmas.List.{take-append-drop}
use Rattle.std.proofs.Math.Seq.{take-append-add}
use Rattle.std.specs.Prelude.{codes, ◌&&◌, Result}
use Rattle.std.specs.Borrow.{Bor}
use Rattle.base_io.specs.Sink.{WritesPart}
use Rattle.base_io.specs.StreamState.{ByteState, change}
use Rattle.base_data.specs.model.Bytes.{AreBytes}
use Rattle.marshal_spec.specs.format.Prefix.{IsPrefix}
use Rattle.marshal_spec.specs.format.Stream.{cut}
use Rattle.marshal_spec.specs.format.Tree.{Tree, root, objects_of}
use Rattle.marshal_spec.specs.format.Encoded.{EncodedUnder}
use Rattle.marshal_spec.specs.format.Canonical.{canon}
use Rattle.marshal_spec.specs.format.Compat.{TooLargeFor32, too_large_for_32}
use Rattle.marshal_spec.proofs.canonical.TreeGraphs.{own_tree}
use Rattle.types_spec.specs.types.Equal.{Equal}
use Rattle.types_spec.specs.types.Names.{names_of}
use Rattle.types_spec.specs.types.Shape.{shape}
use Rattle.types_spec.specs.types.Ty.{Ty}
use Rattle.edit_values.specs.EditedLines.{AreEdited}
use Rattle.edit_values.specs.EditedValues.{Edited}
use Rattle.text_path.specs.declared.edits.ScriptLine.{ScriptLine}
use Rattle.marshal_write.specs.canonical_check.Canonicity.{IsCanonicalBytes}
use Rattle.marshal_read.specs.Reader.{LeadsReader, EndsInput}
use Rattle.types_theory.specs.table.TableDecides.{TheRootIsFirst, TablesDecide}
use Rattle.types_table.specs.type_table.Made.{types_of, table_of}
use Rattle.check_stream.specs.theory.OnePass.{IsTypedPrefix}
use Rattle.check_stream.specs.declared.chunk_check.stream_check.StreamCheck.{StreamCheck}
use Rattle.check_stream.specs.chunk_check.StreamCheck.{IsTypedNext, IsMissedNext, held}
use Rattle.check_stream.specs.declared.mismatch_search.mismatch.FoundMismatch.{FoundMismatch}
use Rattle.check_stream.specs.mismatch_search.Find.{IsFound}
use Rattle.cli_spec.specs.RefusalText.{truncated_text}
use Rattle.cli_spec.specs.Outcome as outcome
use Rattle.cli_spec.specs.Outcome.{Output, Outputs, PrintFirst, Unedited, line, all_ok}
use Rattle.cli_spec.specs.declared.exit.Exit.{Exit}
use Rattle.cli_spec.specs.declared.exit.Exit.TheVariants.{Value as value}
use Rattle.run_spec.specs.value_commands.Tasks.{items_of, commands}
use Rattle.run_spec.proofs.value_commands.ValueCommandFirstLemmas.{outputs_first, prefix_end, goes_on}
use Rattle.run_spec.specs.runs.Account.{HaveNoExit}
use Rattle.run_spec.proofs.runs.RunWriteLemmas.{writes_nothing}
use Rattle.run_spec.proofs.runs.RunValueLemmas.{not_whole, nothing_prefix, first_more, first_after, and_true, all_ok-snoc}
use Rattle.cli_errors.specs.declared.exit_line.Error.TheVariants as aborts
use Rattle.cli_errors.specs.Exits.{IsOrMemory}
use Rattle.run_loop.specs.work.Works.{AbortsIn, WritesLast}
use Rattle.run_types.specs.Language.{declared_types, lines_of_value, bytes_for}
use Rattle.run_types.specs.RequestedTexts.{type_over, IsReady}
use Rattle.run_types.specs.TypeVerdict.{WritesNo}
use Rattle.run_types.proofs.DoneLemmas.{MakeOf, as_it_came, done_length, done_more}
use Rattle.run_types.proofs.RunTypesGivenLemmas.{ready_each}
use Rattle.run_types.proofs.RunTypesVerdictLemmas.{is_first, made}
use Rattle.run_types.specs.declared.requested.Prepared.{Prepared}
use Rattle.session.specs.declared.input_values.Values.{Values}
use Rattle.session.specs.declared.edit_lines.Edits.{Edits}
use Rattle.session.specs.declared.input_values.ValueTask.{ValueTask}
use Rattle.session.specs.declared.input_values.ValueTask.TheVariants as value_tasks
use Rattle.session.specs.Earlier.{AreEarlier}
use Rattle.session.specs.declared.value_output.Query.TheVariants as queries
use Rattle.session.specs.FastCheck.{yes, no_in, IsVerdictOn, IsVerdictNext, IsBetween, verdict_value_task, IsUnchanged, IsUnchangedNext, IsLeft}
use Rattle.session.specs.InputValues.{MayTake, HasRead, IsKept, edits_by, task_of, word_limit}
use Rattle.session.proofs.EarlierLemmas.{all_stay, left_needed}
use Rattle.session.proofs.SessionReadLemmas.{prefix_goes_on, none_goes_on, encode_count, next_aborts, Aborts, last_ok-snoc}
use Rattle.session.proofs.SessionVerdictLemmas.{writes_yes, no_line}

-- If the streaming check shows that a value has the type of the table, then the value has the
-- declared type and each closed instance of the type.
yes_prefix : (r : Prepared) → IsReady r → TheRootIsFirst → TablesDecide → (limit n : ℕ) (bytes : List ℕ) → IsTypedPrefix (table_of r.table) limit n bytes → IsVerdictOn r limit n bytes yes
yes_prefix r ready first decide limit n bytes f =
    let write = writes_yes r ready first (objects_of f.tree 0) (root f.tree 0) decide f.typed queries.Verdict refl [] (codes "yes") refl in record {
      within = f.within;
      tree = f.tree;
      encoded = f.encoded;
      outputs = (write.0, write.1, ap line write.2);
    }

-- If the streaming check continues with kept bytes and shows that a value has the type, then the
-- verdict is `yes`.
pub yes_next :
    (r : Prepared) → IsReady r → TheRootIsFirst → TablesDecide → (limit : ℕ) (old : StreamCheck) (chunk : List ℕ) (new : StreamCheck) (n : ℕ) → IsTypedNext (table_of r.table) limit old chunk new n → IsVerdictNext r limit old chunk new n yes
yes_next r ready first decide limit old chunk new n it = record {
  some = it.some;
  within = it.within;
  verdict = yes_prefix r ready first decide limit (length old.kept.items + n) (old.kept.items ++ chunk) it.typed;
  none = it.none;
  stream_check = it.stream_check;
}

-- If a value has exactly one mismatch, then the line of the mismatch is the output for the verdict.
pub no_prefix :
    (r : Prepared) (limit n : ℕ) (bytes : List ℕ) (found : FoundMismatch) (f : IsFound (table_of r.table) limit n bytes found) (text : List ℕ) → WritesNo (type_over r) (objects_of f.prefix.tree 0) (root f.prefix.tree 0) [] text
    → IsVerdictOn r limit n bytes (no_in (line text))
no_prefix r limit n bytes found f text writes =
    let write = no_line outcome.the_verdict r (objects_of f.prefix.tree 0) (root f.prefix.tree 0) [] text writes in record {
      within = f.prefix.within;
      tree = f.prefix.tree;
      encoded = f.prefix.encoded;
      outputs = (write.0, write.1, ap line write.2);
    }

same_found : (found other : FoundMismatch) (holds : Option FoundMismatch) → holds ≡ Some found → holds ≡ Some other → found ≡ other
same_found found other holds is also = let same : Some found ≡ Some other = sym is ∙ also in cc same

-- If the streaming check continues with kept bytes and finds one mismatch, then the line of the
-- mismatch is reported.
pub no_next :
    (r : Prepared) (limit : ℕ) (old : StreamCheck) (chunk : List ℕ) (new : StreamCheck) (n : ℕ) → IsMissedNext (table_of r.table) limit old chunk new n → (found : FoundMismatch) → held new ≡ Some found → (text : List ℕ)
    → ((limit n : ℕ) (bytes : List ℕ) → IsFound (table_of r.table) limit n bytes found → IsVerdictOn r limit n bytes (no_in text)) → IsVerdictNext r limit old chunk new n (no_in text)
no_next r limit old chunk new n it found holds text outputs =
    let same : it.missed.0 ≡ found = same_found it.missed.0 found (held new) it.missed.1 holds in
    let all : ℕ = length old.kept.items + n in record {
      some = it.some;
      within = it.within;
      verdict = outputs limit all (old.kept.items ++ chunk) (subst (λ f. IsFound (table_of r.table) limit all (old.kept.items ++ chunk) f) same it.missed.2);
      none = it.none;
      stream_check = it.stream_check;
    }

-- ---- a value that consists of the kept bytes and the first n current bytes

-- If the reader is between values, then the reader has taken no byte of the next value.
pub nothing_taken : (w : ValueTask) (taken : List ℕ) (output : List Output) (values : Values) (h : HasRead w values taken output) → IsBetween values → h.prefix ≡ []
nothing_taken w taken output values h between = at (between (word_limit w) h.prefix h.leads) where
  at : EndsInput {U = Unit {0}} (word_limit w) h.prefix (Ok tt) → h.prefix ≡ []
  at (inl empty) = empty
  at (inr (tree, encoded)) = absurd (not_whole (word_limit w) h.prefix tree h.leads.bytes h.is_prefix encoded)

-- A prefix of the next value changes nothing and gives no exit reason.
module _ (w : ValueTask) (before : List ℕ) (output : List Output) (values : Values) (h : HasRead w values before output) (between : IsBetween values) (kept : List ℕ) (may : MayTake w (length h.trees)) (are_bytes : AreBytes kept)
    (prefix : IsPrefix (word_limit w) kept) where
  pub kept_first : PrintFirst declared_types (task_of w) (before ++ kept) h.trees output kept
  kept_first =
      subst (λ bytes. PrintFirst declared_types (task_of w) (before ++ kept) h.trees output (bytes ++ kept)) (nothing_taken w before output values h between)
      (first_after declared_types (task_of w) before h.trees output h.prefix kept h.first)

  abbrev pub holds_kept : HaveNoExit (commands declared_types) (task_of w) (before ++ kept) output
  holds_kept =
      let e = prefix_end (word_limit w) kept prefix in
      record {
        items = items_of h.trees;
        rest = kept;
        first = outputs_first declared_types (task_of w) (before ++ kept) h.trees output kept kept_first;
        goes_on = goes_on declared_types (task_of w) h.trees kept are_bytes e.0 e.1 e.2 (λ exit at. prefix_goes_on w (word_limit w) h.trees kept exit may are_bytes prefix at);
      }

  -- If the input ends with a prefix of a value, then the run ends with an error.
  pub ends_kept : 0 < length kept → (o : ByteState) (exit : Exit) → IsOrMemory (value values.count (truncated_text (length kept))) exit
      → WritesLast (commands declared_types) (task_of w) output (items_of h.trees) kept (change o o) (Err (aborts.Exit exit))
  ends_kept some o exit (inr memory) = (inr memory, writes_nothing o)
  ends_kept some o exit (inl known) =
      let is : exit ≡ value (length h.trees) (truncated_text (length kept)) = known ∙ ap (λ n. value n (truncated_text (length kept))) h.counted in (
        inl (record {
          trees = h.trees;
          are = refl;
          end = cut (length kept);
          tail = (some, refl, prefix);
          ends = ap (λ exit. outcome.exits exit) is;
        }),
        writes_nothing o,
      )

module _ (r : Bor Prepared) (limit : ℕ) (before : List ℕ) (output : List Output) (values : Values) (h : HasRead (verdict_value_task r limit) values before output) (between : IsBetween values) (kept buffered : List ℕ) (n : ℕ)
    (next : Output) (known : IsVerdictOn r.now limit (length kept + n) (kept ++ buffered) next) where
  abbrev w : ValueTask
  w = verdict_value_task r limit

  abbrev value_bytes : List ℕ
  value_bytes = kept ++ take n buffered

  encoded_kept : EncodedUnder limit value_bytes known.tree
  encoded_kept = subst (λ bytes. EncodedUnder limit bytes known.tree) (take-append-add kept buffered n) known.encoded

  all_taken : (before ++ kept) ++ take n buffered ≡ before ++ value_bytes
  all_taken = append_assoc before kept (take n buffered)

  known_output : PrintFirst declared_types (task_of w) ((before ++ kept) ++ take n buffered) (h.trees ++ known.tree ∷ []) (output ++ next ∷ []) []
  known_output =
      let after : PrintFirst declared_types (task_of w) (before ++ value_bytes) h.trees output (h.prefix ++ value_bytes) = first_after declared_types (task_of w) before h.trees output h.prefix value_bytes h.first in
      let whole : PrintFirst declared_types (task_of w) (before ++ value_bytes) h.trees output value_bytes =
      subst (λ prefix. PrintFirst declared_types (task_of w) (before ++ value_bytes) h.trees output (prefix ++ value_bytes)) (nothing_taken w before output values h between) after in
      subst (λ bytes. PrintFirst declared_types (task_of w) bytes (h.trees ++ known.tree ∷ []) (output ++ next ∷ []) []) (sym all_taken)
      (first_more declared_types (task_of w) (before ++ value_bytes) h.trees output value_bytes [] known.tree next
      (subst (λ b. PrintFirst declared_types (task_of w) (before ++ value_bytes) h.trees output b) (sym (append-nil value_bytes)) whole) encoded_kept known.outputs)

  -- If writing a verdict's line fails, then the run ends with a write error.
  pub known_fault : AreBytes kept → IsPrefix limit kept → (a b : ByteState) → WritesPart (change a b) next.text
      → AbortsIn (commands declared_types) (task_of w) (before ++ kept) buffered output (change a b) aborts.WriteFault
  known_fault are_bytes prefix a b part =
      let trees : List Tree = h.trees ++ known.tree ∷ [] in
      let all : ((before ++ kept) ++ take n buffered) ++ drop n buffered ≡ (before ++ kept) ++ buffered =
      append_assoc (before ++ kept) (take n buffered) (drop n buffered) ∙ ap (λ rest. (before ++ kept) ++ rest) (take-append-drop n buffered) in
      let more = first_after declared_types (task_of w) ((before ++ kept) ++ take n buffered) trees (output ++ next ∷ []) [] (drop n buffered) known_output in
      let here : PrintFirst declared_types (task_of w) ((before ++ kept) ++ buffered) trees (output ++ next ∷ []) (drop n buffered) =
      subst (λ bytes. PrintFirst declared_types (task_of w) bytes trees (output ++ next ∷ []) (drop n buffered)) all more in (
        holds_kept w before output values h between kept tt are_bytes prefix,
        next,
        (items_of trees, drop n buffered, outputs_first declared_types (task_of w) ((before ++ kept) ++ buffered) trees (output ++ next ∷ []) (drop n buffered) here),
        part,
      )

  -- If a verdict's line was written, then the reader waits for the next value.
  pub known_read : HasRead w (record values { ok = values.ok && next.ok; last = next.ok; count = values.count + 1 }) ((before ++ kept) ++ take n buffered) (output ++ next ∷ [])
  known_read =
      let trees : List Tree = h.trees ++ known.tree ∷ [] in
      let leads : LeadsReader limit [] values.reader = subst (λ prefix. LeadsReader limit prefix values.reader) (nothing_taken w before output values h between) h.leads in record {
        ready = h.ready;
        trees = trees;
        prefix = [];
        first = known_output;
        is_prefix = nothing_prefix limit leads.bytes;
        goes_on = λ exit at. none_goes_on w limit trees exit at;
        leads = leads;
        counted = ap (λ n. n + 1) h.counted ∙ sym (length-append h.trees (known.tree ∷ []));
        ok = ap (λ ok. ok && next.ok) h.ok ∙ sym (all_ok-snoc output next);
        last = sym (last_ok-snoc true output next);
        kept = tt;
      }

-- ---- a value that is written unchanged

-- If the streaming check shows that a value has the type and has the bytes that the runtime writes,
-- then the value satisfies `IsUnchanged`.
unchanged_prefix : (r : Prepared) → IsReady r → TheRootIsFirst → TablesDecide → (limit n : ℕ) (bytes : List ℕ) → IsTypedPrefix (table_of r.table) limit n bytes → IsCanonicalBytes (take n bytes) → IsUnchanged r limit n bytes
unchanged_prefix r ready first decide limit n bytes f written =
    let graph = objects_of f.tree 0 in
    let v = root f.tree 0 in
    let by_type = (decide r.decls r.ty (types_of r.table) (table_of r.table) (made r ready first graph v) graph v 0 r.ty (is_first r ready first graph v)).0 f.typed in record {
      within = f.within;
      tree = f.tree;
      encoded = f.encoded;
      written = written limit f.tree f.encoded;
      has = by_type;
      each = ready_each r ready graph v by_type;
    }

-- The result of the check by the table of the type holds for the type.
pub unchanged_next :
    (r : Prepared) → IsReady r → TheRootIsFirst → TablesDecide → (limit : ℕ) (old : StreamCheck) (chunk : List ℕ) (new : StreamCheck) (n : ℕ) → old.kept.items ≡ [] → IsTypedNext (table_of r.table) limit old chunk new n → IsCanonicalBytes (take n chunk)
    → IsUnchangedNext r limit chunk new n
unchanged_next r ready first decide limit old chunk new n none it written =
    let size : 0 + n ≡ n = omega arith in
    let typed : IsTypedPrefix (table_of r.table) limit (0 + n) chunk = subst (λ kept. IsTypedPrefix (table_of r.table) limit (length kept + n) (kept ++ chunk)) none it.typed in record {
      some = it.some;
      unchanged = unchanged_prefix r ready first decide limit n chunk (subst (λ m. IsTypedPrefix (table_of r.table) limit m chunk) size typed) written;
      none = it.none;
      stream_check = it.stream_check;
    }

-- If no byte was kept before a chunk was kept, then the kept bytes are the chunk.
pub only_kept : (old new : StreamCheck) (chunk : List ℕ) → old.kept.items ≡ [] → new.kept.items ≡ old.kept.items ++ chunk → new.kept.items ≡ chunk
only_kept old new chunk none same = same ∙ ap (λ kept. kept ++ chunk) none

abbrev answer_of : List ℕ → Result (List ℕ) Unedited
answer_of bytes = Ok bytes

-- If `compat` is false, then the bytes of a value are the canonical bytes of the value's tree.
left_bytes : (compat : Bool) (tree : Tree) (large : Option TooLargeFor32) → compat ≡ false → bytes_for compat tree large ≡ answer_of (canon tree)
left_bytes compat tree None small = refl
left_bytes false tree (Some large) small = refl
left_bytes true tree (Some large) small = absurd (cc small)

module _ (e : Edits) (limit : ℕ) (taken : List ℕ) (output : List Output) (values : Values) (h : HasRead (value_tasks.Edit e limit) values taken output) (between : IsBetween values) (buffered : List ℕ) (n : ℕ) (left : IsLeft e values.count)
    (seen : IsUnchanged e.requested.now limit n buffered) where
  abbrev value_task : ValueTask
  value_task = value_tasks.Edit e limit

  abbrev pub write_output : Output
  write_output = record { text = take n buffered; ok = true }

  left_here : IsLeft e (length h.trees)
  left_here = subst (λ k. IsLeft e k) h.counted left

  left_outputs : Outputs declared_types (edits_by e) h.trees seen.tree write_output
  left_outputs =
      let t = type_over e.requested.now in
      let tree = seen.tree in
      let own = seen.encoded.encodes in
      let edited : Edited Ty = Ok (as_it_came tree) in
      let made_so : AreEdited (shape t.decls) (names_of t.decls) (Equal t.decls) t.type h.kept.others (lines_of_value (length h.trees) e.script.now.lines) (objects_of tree 0) (root tree 0) edited =
      subst (λ (ls : List ScriptLine). AreEdited (shape t.decls) (names_of t.decls) (Equal t.decls) t.type h.kept.others ls (objects_of tree 0) (root tree 0) edited) (sym left_here.lines) refl in (
        (
          h.kept.others,
          h.kept.done,
          inl (record {
            has = seen.has;
            each = seen.each;
            edited = edited;
            made = made_so;
            bytes = (tree, own_tree tree own.is_tree own.refers_back, ap answer_of seen.written ∙ sym (left_bytes e.compat tree (too_large_for_32 tree) left_here.compat));
          }),
        ),
        refl,
      )

  left_first : PrintFirst declared_types (task_of value_task) (taken ++ take n buffered) (h.trees ++ seen.tree ∷ []) (output ++ write_output ∷ []) []
  left_first =
      let after : PrintFirst declared_types (task_of value_task) (taken ++ take n buffered) h.trees output (h.prefix ++ take n buffered) = first_after declared_types (task_of value_task) taken h.trees output h.prefix (take n buffered) h.first in
      let whole : PrintFirst declared_types (task_of value_task) (taken ++ take n buffered) h.trees output (take n buffered) =
      subst (λ prefix. PrintFirst declared_types (task_of value_task) (taken ++ take n buffered) h.trees output (prefix ++ take n buffered)) (nothing_taken value_task taken output values h between) after in
      first_more declared_types (task_of value_task) (taken ++ take n buffered) h.trees output (take n buffered) [] seen.tree write_output
      (subst (λ b. PrintFirst declared_types (task_of value_task) (taken ++ take n buffered) h.trees output b) (sym (append-nil (take n buffered))) whole) seen.encoded left_outputs

  -- If writing an unchanged value fails, then the run ends with a write error.
  pub left_fault : (a b : ByteState) → WritesPart (change a b) (take n buffered) → Aborts value_task taken output values h buffered (change a b) aborts.WriteFault
  left_fault a b part = next_aborts value_task taken output values h buffered n a b values aborts.WriteFault (write_output, (h.trees ++ seen.tree ∷ [], [], left_first), part)

  -- The values from which later lines copy stay kept after one more value.
  left_kept : IsKept value_task (h.trees ++ seen.tree ∷ []) values.kept.items values.earlier.items
  left_kept =
      let t = type_over e.requested.now in
      let lines = e.script.now.lines in
      let others = h.kept.others in
      let as_is = as_it_came seen.tree in
      let size : length others ≡ length h.trees = let long = done_length t lines [] h.trees others h.kept.done in omega (arith, long) in
      let own : lines_of_value (length others) lines ≡ [] = subst (λ k. lines_of_value k lines ≡ []) (sym size) left_here.lines in
      let last : MakeOf t lines others seen.tree as_is =
      subst (λ (ls : List ScriptLine). AreEdited (shape t.decls) (names_of t.decls) (Equal t.decls) t.type others ls (objects_of seen.tree 0) (root seen.tree 0) (Ok as_is)) (sym own) refl in record {
        others = others ++ as_is ∷ [];
        done = done_more t lines [] h.trees others seen.tree as_is h.kept.done last;
        kept = all_stay others as_is values.earlier.items h.kept.kept;
        needed = subst (λ k. AreEarlier lines k values.earlier.items) (sym (length-append h.trees (seen.tree ∷ []))) (left_needed lines (length h.trees) values.earlier.items h.kept.needed left_here.lines left_here.unused);
      }

  -- If an unchanged value was written, then the reader waits for the next value.
  pub left_read : HasRead value_task (record values { last = true; count = values.count + 1 }) (taken ++ take n buffered) (output ++ write_output ∷ [])
  left_read =
      let leads : LeadsReader limit [] values.reader = subst (λ prefix. LeadsReader limit prefix values.reader) (nothing_taken value_task taken output values h between) h.leads in record {
        ready = h.ready;
        trees = h.trees ++ seen.tree ∷ [];
        prefix = [];
        first = left_first;
        is_prefix = nothing_prefix limit leads.bytes;
        goes_on = λ exit at. none_goes_on value_task limit (h.trees ++ seen.tree ∷ []) exit at;
        leads = leads;
        counted = ap (λ n. n + 1) h.counted ∙ sym (length-append h.trees (seen.tree ∷ []));
        ok = h.ok ∙ (sym (and_true (all_ok output)) ∙ sym (all_ok-snoc output write_output));
        last = sym (last_ok-snoc true output write_output);
        kept = left_kept;
      }

-- There are no more values than bytes.
pub room_for_seen : (w : ValueTask) (taken : List ℕ) (output : List Output) (values : Values) → HasRead w values taken output → length taken < 2 ^ 63 → values.count + 1 < 2 ^ 64
room_for_seen w taken output values h short =
    let fewer = encode_count (word_limit w) taken h.prefix h.trees h.first.encoded in
    let counted = h.counted in omega (arith, fewer, short, counted)
