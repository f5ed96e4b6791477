-- The bytes taken, if values are first given to the streaming check.
use Rattle.std.proofs.Common.{◌≡◌, ◌⊎◌, ⊎_elim, ℕ, ◌+◌, ◌^◌, ◌<◌, ◌==◌, Bool, true, false, List, [], ◌∷◌, ◌++◌, length, take, Result, Ok, Err, inl, inr, refl, sym, ap, ◌∙◌, subst, append_assoc, append-nil, length-append, take_all, arith}
use Rattle.std.specs.Bool.{MatchBool}
use Rattle.std.specs.Borrow.{Bor}
use Rattle.base_io.specs.StreamState.{ByteState, Change, change}
use Rattle.base_data.specs.model.Bytes.{AreBytes}
use Rattle.marshal_spec.specs.format.Prefix.{IsPrefix}
use Rattle.cert_format.proofs.CertificateHeadLemmas.{no_bytes, some_bytes}
use Rattle.types_table.specs.type_table.Made.{table_of}
use Rattle.cli_errors.specs.declared.exit_line.Error.{Error}
use Rattle.cli_errors.specs.declared.exit_line.Error.TheVariants as aborts
use Rattle.cli_errors.specs.Exits.{IsOrMemory}
use Rattle.run_spec.specs.runs.Account.{HaveNoExit}
use Rattle.run_spec.specs.runs.Commands.{Commands}
use Rattle.run_spec.proofs.runs.RunWriteLemmas.{writes_nothing}
use Rattle.run_loop.specs.work.Works.{Has, AbortsIn, Feeds, WritesLast}
use Rattle.run_spec.specs.value_commands.Tasks.{commands}
use Rattle.cli_spec.specs.Outcome.{Output}
use Rattle.cli_spec.specs.RefusalText.{truncated_text}
use Rattle.cli_spec.specs.declared.exit.Exit.{Exit}
use Rattle.cli_spec.specs.declared.exit.Exit.TheVariants.{Value as value, Memory as out_of_memory}
use Rattle.run_types.specs.Language.{declared_types}
use Rattle.run_types.specs.declared.requested.Prepared.{Prepared}
use Rattle.check_stream.specs.declared.chunk_check.stream_check.StreamCheck.{StreamCheck}
use Rattle.check_stream.specs.chunk_check.StreamCheck.{IsStreamCheck}
use Rattle.session.specs.declared.input_values.Values.{Values}
use Rattle.session.specs.declared.input_values.ValueTask.{ValueTask}
use Rattle.session.specs.declared.input_values.ValueTask.TheVariants as value_tasks
use Rattle.session.specs.declared.edit_lines.Edits.{Edits}
use Rattle.session.specs.declared.value_output.Query.TheVariants as queries
use Rattle.session.specs.declared.value_output.Printing.TheVariants as printings
use Rattle.session.specs.FastCheck.{IsBetween, Later, verdict_value_task}
use Rattle.session.specs.CheckProgress.{IsChecked, HasTaken}
use Rattle.session.specs.InputValues.{MayTake, HasRead, task_of, word_limit}
use Rattle.marshal_read.specs.declared.reader.Reader.{Reader}
use Rattle.marshal_read.specs.declared.reader.Fed.{Fed}
use Rattle.marshal_read.specs.Reader.{Feeds as FeedsReader}
use Rattle.session.proofs.SessionReadLemmas.{holds, prefix_read}
use Rattle.session.proofs.FastCheckLemmas.{holds_kept, ends_kept}

-- If `Feeds` holds, then `Feeds` holds for a stronger condition before the call and a weaker
-- condition after the call.
pub feeds_weaker :
    {A : Type 0} (c : Commands A) (a : A) (before before' after after' : Has) (buffered : List ℕ) (out : Change ByteState) (result : Result ℕ Error) → ((bytes : List ℕ) (output : List Output) → before' bytes output → before bytes output)
    → ((bytes : List ℕ) (output : List Output) → after bytes output → after' bytes output) → Feeds c a before after buffered out result → Feeds c a before' after' buffered out result
feeds_weaker c a before before' after after' buffered out (Ok n) to from (some, within, feeds) = (
  some,
  within,
  λ bytes output there. let (more, few, has, write) = feeds bytes output (to bytes output there) in (more, few, from (bytes ++ take n buffered) (output ++ more) has, write),
)
feeds_weaker c a before before' after after' buffered out (Err error) to from feeds = λ bytes output there. feeds bytes output (to bytes output there)

-- The test for kept bytes returns true if and only if no bytes are kept.
pub none_or_some : (kept seen : List ℕ) (r : Bool) → seen ≡ kept → r ≡ (length seen == 0) → MatchBool r (kept ≡ []) (kept ≡ [] → ⊥)
none_or_some kept seen r same is = subst (λ bytes. MatchBool r (bytes ≡ []) (bytes ≡ [] → ⊥)) same (at r is) where
  at : (r : Bool) → r ≡ (length seen == 0) → MatchBool r (seen ≡ []) (seen ≡ [] → ⊥)
  at true is = no_bytes seen true is refl
  at false is = some_bytes seen false is refl

pub some_length : (bytes : List ℕ) → (bytes ≡ [] → ⊥) → 0 < length bytes
some_length [] some = absurd (some refl)
some_length (b ∷ bytes) some = omega arith

-- If no bytes are kept, then all taken bytes precede the kept bytes.
none_kept : (g : StreamCheck) (taken before : List ℕ) → g.kept.items ≡ [] → taken ≡ before ++ g.kept.items → before ≡ taken
none_kept g taken before none whole = sym (whole ∙ (ap (λ kept. before ++ kept) none ∙ append-nil before))

pub all_read : (w : ValueTask) (values : Values) (g : StreamCheck) (taken : List ℕ) (output : List Output) → g.kept.items ≡ [] → HasTaken w values g taken output → HasRead w values taken output
all_read w values g taken output none h = subst (λ bytes. HasRead w values bytes output) (none_kept g taken h.before none h.whole) h.read

pub read_taken : (w : ValueTask) (values : Values) (g : StreamCheck) (taken : List ℕ) (output : List Output) → g.kept.items ≡ [] → IsChecked w values g → HasRead w values taken output → HasTaken w values g taken output
read_taken w values g taken output none checked h = record {
  before = taken;
  whole = sym (ap (λ kept. taken ++ kept) none ∙ append-nil taken);
  read = h;
  checked = checked;
}

-- If no bytes are kept, then the state satisfies `IsChecked`, whatever was checked.
pub fresh_checked : (w : ValueTask) (values : Values) (g : StreamCheck) → g.kept.items ≡ [] → ((r : Bor Prepared) (limit : ℕ) → IsStreamCheck (table_of r.now.table) limit g) → IsChecked w values g
fresh_checked (value_tasks.Print (printings.Report r queries.Verdict) limit) values g none stream_check = (stream_check r limit, inl none)
fresh_checked (value_tasks.Print (printings.Report r (queries.Text style)) limit) values g none stream_check = none
fresh_checked (value_tasks.Print (printings.Report r (queries.Part path style)) limit) values g none stream_check = none
fresh_checked (value_tasks.Print (printings.Report r queries.Trees) limit) values g none stream_check = none
fresh_checked (value_tasks.Print printings.Dump limit) values g none stream_check = none
fresh_checked (value_tasks.Edit e limit) values g none stream_check = (stream_check e.requested limit, inl none)
fresh_checked (value_tasks.Compare limit) values g none stream_check = none

-- The kept bytes are a prefix of the next value.
pub record IsKeptPrefix (w : ValueTask) (values : Values) (g : StreamCheck) : Type 0 where
  pub bytes : AreBytes g.kept.items
  pub is_prefix : IsPrefix (word_limit w) g.kept.items
  pub between : IsBetween values
  pub may : (n : ℕ) → MayTake w n

pub kept_prefix : (w : ValueTask) (values : Values) (g : StreamCheck) → IsChecked w values g → (g.kept.items ≡ []) ⊎ IsKeptPrefix w values g
kept_prefix (value_tasks.Print (printings.Report r queries.Verdict) limit) values g (stream_check, inl none) = inl none
kept_prefix (value_tasks.Print (printings.Report r queries.Verdict) limit) values g (stream_check, inr between) =
    inr (record { bytes = stream_check.bytes; is_prefix = stream_check.is_prefix; between = between; may = λ n. tt })
kept_prefix (value_tasks.Print (printings.Report r (queries.Text style)) limit) values g none = inl none
kept_prefix (value_tasks.Print (printings.Report r (queries.Part path style)) limit) values g none = inl none
kept_prefix (value_tasks.Print (printings.Report r queries.Trees) limit) values g none = inl none
kept_prefix (value_tasks.Print printings.Dump limit) values g none = inl none
kept_prefix (value_tasks.Edit e limit) values g (stream_check, inl none) = inl none
kept_prefix (value_tasks.Edit e limit) values g (stream_check, inr between) =
    inr (record { bytes = stream_check.bytes; is_prefix = stream_check.is_prefix; between = between; may = λ n. tt })
kept_prefix (value_tasks.Compare limit) values g none = inl none

module _ (w : ValueTask) (values : Values) (g : StreamCheck) (taken : List ℕ) (output : List Output) (h : HasTaken w values g taken output) where
  -- The bytes taken up to now give no exit reason.
  pub holds_taken : HaveNoExit (commands declared_types) (task_of w) taken output
  holds_taken = ⊎_elim
      (λ none. holds w taken output values (all_read w values g taken output none h))
      (λ (k : IsKeptPrefix w values g). subst (λ bytes. HaveNoExit (commands declared_types) (task_of w) bytes output) (sym h.whole) (holds_kept w h.before output values h.read k.between g.kept.items (k.may (length h.read.trees)) k.bytes k.is_prefix))
      (kept_prefix w values g h.checked)

  -- If memory ran out, then the run ends with the exit reason for memory.
  pub memory_aborts_taken : (buffered : List ℕ) (o : ByteState) → AbortsIn (commands declared_types) (task_of w) taken buffered output (change o o) (aborts.Exit out_of_memory)
  memory_aborts_taken buffered o = (holds_taken, inr refl, writes_nothing o)

  -- If the input ends within a value, then the run ends with an error.
  pub ends_taken : 0 < length g.kept.items → (o : ByteState) (exit : Exit) → IsOrMemory (value values.count (truncated_text (length g.kept.items))) exit
      → (holds : HaveNoExit (commands declared_types) (task_of w) taken output) × WritesLast (commands declared_types) (task_of w) output holds.items holds.rest (change o o) (Err (aborts.Exit exit))
  ends_taken some o exit known = ⊎_elim
      (λ none. let size : length g.kept.items ≡ 0 = ap length none in absurd (omega (arith, some, size)))
      (λ (k : IsKeptPrefix w values g).
      let may = k.may (length h.read.trees) in
      subst (λ bytes. (holds : HaveNoExit (commands declared_types) (task_of w) bytes output) × WritesLast (commands declared_types) (task_of w) output holds.items holds.rest (change o o) (Err (aborts.Exit exit)))
      (sym h.whole)
      (holds_kept w h.before output values h.read k.between g.kept.items may k.bytes k.is_prefix, ends_kept w h.before output values h.read k.between g.kept.items may k.bytes k.is_prefix some o exit known))
      (kept_prefix w values g h.checked)

  -- If the reader takes the kept bytes, then the reader has read all taken bytes.
  pub kept_read : (new : Values) → ((taken : List ℕ) → HasRead w values taken output → MayTake w values.count → HasRead w new (taken ++ g.kept.items) output) → (g.kept.items ≡ [] → ⊥) → HasRead w new taken output
  kept_read new reads some = ⊎_elim
      (λ none. absurd (some none))
      (λ (k : IsKeptPrefix w values g). subst (λ bytes. HasRead w new bytes output) (sym h.whole) (reads h.before h.read (k.may values.count)))
      (kept_prefix w values g h.checked)

-- If all current bytes were kept, then all current bytes were taken.
pub more_taken :
    (r : Bor Prepared) (limit : ℕ) (values : Values) (old new : StreamCheck) (taken : List ℕ) (output : List Output) (buffered : List ℕ) → (old.kept.items ≡ [] → IsBetween values) → new.kept.items ≡ old.kept.items ++ buffered
    → IsStreamCheck (table_of r.now.table) limit new → HasTaken (verdict_value_task r limit) values old taken output → HasTaken (verdict_value_task r limit) values new (taken ++ take (length buffered) buffered) (output ++ [])
more_taken r limit values old new taken output buffered due same stream_check h =
    let all : take (length buffered) buffered ≡ buffered = take_all (length buffered) buffered (omega arith) in
    subst (λ s. HasTaken (verdict_value_task r limit) values new (taken ++ take (length buffered) buffered) s) (sym (append-nil output)) (record {
      before = h.before;
      whole = ap (λ rest. taken ++ rest) all ∙ (ap (λ bytes. bytes ++ buffered) h.whole ∙ (append_assoc h.before old.kept.items buffered ∙ ap (λ kept. h.before ++ kept) (sym same)));
      read = h.read;
      checked = (stream_check, inr (⊎_elim due (λ between. between) h.checked.1));
    })

-- If the reader takes a prefix of the next value, then the reader has read the prefix.
pub prefix_taken :
    (w : ValueTask) (taken : List ℕ) (output : List Output) (values : Values) (h : HasRead w values taken output) (prefix : List ℕ) (reader : Reader) (fed : Fed) → FeedsReader (word_limit w) h.prefix prefix reader fed → MayTake w values.count
    → fed.done ≡ false → HasRead w (record values { reader = reader }) (taken ++ prefix) output
prefix_taken w taken output values h prefix reader fed f may not_done =
    let all : take fed.taken prefix ≡ prefix = take_all fed.taken prefix (let more = (f.more not_done).0 in omega (arith, more)) in
    subst (λ bytes. HasRead w (record values { reader = reader }) (taken ++ bytes) output) all
    (subst (λ s. HasRead w (record values { reader = reader }) (taken ++ take fed.taken prefix) s) (append-nil output)
    (prefix_read w taken output values h prefix reader fed f (subst (λ n. MayTake w n) h.counted may) not_done))

-- ---- verdicts

abbrev IsVerdict : ValueTask → Bor Prepared → ℕ → Type 0
IsVerdict w r limit = w ≡ verdict_value_task r limit

module _ (w : ValueTask) (r : Bor Prepared) (limit : ℕ) (is : IsVerdict w r limit) (values : Values) (g : StreamCheck) where
  -- If only verdicts are reported, then the streaming check can be used.
  pub ready_to_inspect : (taken : List ℕ) (output : List Output) → HasTaken w values g taken output → IsStreamCheck (table_of r.now.table) limit g
  ready_to_inspect taken output =
      let P : ValueTask → Type 0 = λ w. HasTaken w values g taken output → IsStreamCheck (table_of r.now.table) limit g in
      subst P (sym is) (λ h. h.checked.0)

  pub is_between : (taken : List ℕ) (output : List Output) → (g.kept.items ≡ [] → IsBetween values) → HasTaken w values g taken output → IsBetween values
  is_between taken output due =
      let P : ValueTask → Type 0 = λ w. HasTaken w values g taken output → IsBetween values in
      subst P (sym is) (λ h. ⊎_elim due (λ between. between) h.checked.1)

  pub short_before : (taken : List ℕ) (output : List Output) (more : ℕ) → length taken + more < 2 ^ 63 → HasTaken w values g taken output
      → (before : List ℕ) × (output : List Output) × HasRead (verdict_value_task r limit) values before output × (length before < 2 ^ 63)
  short_before taken output more short =
      let P : ValueTask → Type 0 = λ w. HasTaken w values g taken output → (before : List ℕ) × (output : List Output) × HasRead (verdict_value_task r limit) values before output × (length before < 2 ^ 63) in
      subst P (sym is)
      (λ h.
      let size : length taken ≡ length h.before + length g.kept.items = ap length h.whole ∙ length-append h.before g.kept.items in
      (h.before, output, h.read, omega (arith, size, short)))

  -- If the streaming check reported the verdict on a value, then taking the value satisfies
  -- `Feeds`.
  pub known_feeds :
      (new : Values) (g' : StreamCheck) (buffered : List ℕ) (out : Change ByteState) (result : Result ℕ Error) → g'.kept.items ≡ [] → IsStreamCheck (table_of r.now.table) limit g'
      → Feeds (commands declared_types) (task_of (verdict_value_task r limit)) (Later g.kept.items (HasRead (verdict_value_task r limit) values)) (HasRead (verdict_value_task r limit) new) buffered out result
      → Feeds (commands declared_types) (task_of w) (HasTaken w values g) (HasTaken w new g') buffered out result
  known_feeds new g' buffered out result none stream_check feeds =
      let v : ValueTask = verdict_value_task r limit in
      let P : ValueTask → Type 0 = λ w. Feeds (commands declared_types) (task_of w) (HasTaken w values g) (HasTaken w new g') buffered out result in
      subst P (sym is)
      (feeds_weaker (commands declared_types) (task_of v) (Later g.kept.items (HasRead v values)) (HasTaken v values g) (HasRead v new) (HasTaken v new g') buffered out result
      (λ bytes output h. (h.before, h.whole, h.read)) (λ bytes output h. read_taken v new g' bytes output none (stream_check, inl none) h) feeds)

  -- If the streaming check needs more bytes, then keeping the current bytes satisfies `Feeds`.
  pub more_feeds :
      (g' : StreamCheck) (buffered : List ℕ) (o : ByteState) → 0 < length buffered → (g.kept.items ≡ [] → IsBetween values) → g'.kept.items ≡ g.kept.items ++ buffered → IsStreamCheck (table_of r.now.table) limit g'
      → Feeds (commands declared_types) (task_of w) (HasTaken w values g) (HasTaken w values g') buffered (change o o) (Ok (length buffered))
  more_feeds g' buffered o some due same stream_check =
      let v : ValueTask = verdict_value_task r limit in
      let P : ValueTask → Type 0 = λ w. Feeds (commands declared_types) (task_of w) (HasTaken w values g) (HasTaken w values g') buffered (change o o) (Ok (length buffered)) in
      subst P (sym is)
      (some, omega arith, λ bytes output h. ([], omega arith, more_taken r limit values g g' bytes output buffered due same stream_check h, writes_nothing o))

  -- If the streaming check is inconclusive, then the taken bytes stay the same.
  pub inconclusive_taken : (g' : StreamCheck) (taken : List ℕ) (output : List Output) → g'.kept.items ≡ g.kept.items → IsStreamCheck (table_of r.now.table) limit g' → HasTaken w values g taken output → HasTaken w values g' taken output
  inconclusive_taken g' taken output same stream_check =
      let P : ValueTask → Type 0 = λ w. HasTaken w values g taken output → HasTaken w values g' taken output in
      subst P (sym is)
      (λ h. record {
        before = h.before;
        whole = h.whole ∙ ap (λ kept. h.before ++ kept) (sym same);
        read = h.read;
        checked = (stream_check, ⊎_elim (λ none. inl (same ∙ none)) (λ between. inr between) h.checked.1);
      })

-- ---- edits

module _ (w : ValueTask) (e : Edits) (limit : ℕ) (is : w ≡ value_tasks.Edit e limit) (values : Values) (g : StreamCheck) where
  -- If values are edited, then the streaming check can be used.
  pub ready_to_leave : (taken : List ℕ) (output : List Output) → HasTaken w values g taken output → IsStreamCheck (table_of e.requested.now.table) limit g
  ready_to_leave taken output =
      let P : ValueTask → Type 0 = λ w. HasTaken w values g taken output → IsStreamCheck (table_of e.requested.now.table) limit g in
      subst P (sym is) (λ h. h.checked.0)

  pub short_edited : (taken : List ℕ) (output : List Output) (more : ℕ) → length taken + more < 2 ^ 63 → HasTaken w values g taken output
      → (before : List ℕ) × (output : List Output) × HasRead (value_tasks.Edit e limit) values before output × (length before < 2 ^ 63)
  short_edited taken output more short =
      let P : ValueTask → Type 0 = λ w. HasTaken w values g taken output → (before : List ℕ) × (output : List Output) × HasRead (value_tasks.Edit e limit) values before output × (length before < 2 ^ 63) in
      subst P (sym is)
      (λ h.
      let size : length taken ≡ length h.before + length g.kept.items = ap length h.whole ∙ length-append h.before g.kept.items in
      (h.before, output, h.read, omega (arith, size, short)))

  -- If the streaming check found a value that is written unchanged, then writing the value
  -- satisfies `Feeds`.
  pub left_feeds :
      (new : Values) (g' : StreamCheck) (buffered : List ℕ) (out : Change ByteState) (result : Result ℕ Error) → g.kept.items ≡ [] → g'.kept.items ≡ [] → IsStreamCheck (table_of e.requested.now.table) limit g'
      → Feeds (commands declared_types) (task_of (value_tasks.Edit e limit)) (HasRead (value_tasks.Edit e limit) values) (HasRead (value_tasks.Edit e limit) new) buffered out result
      → Feeds (commands declared_types) (task_of w) (HasTaken w values g) (HasTaken w new g') buffered out result
  left_feeds new g' buffered out result none none' stream_check feeds =
      let v : ValueTask = value_tasks.Edit e limit in
      let P : ValueTask → Type 0 = λ w. Feeds (commands declared_types) (task_of w) (HasTaken w values g) (HasTaken w new g') buffered out result in
      subst P (sym is)
      (feeds_weaker (commands declared_types) (task_of v) (HasRead v values) (HasTaken v values g) (HasRead v new) (HasTaken v new g') buffered out result
      (λ bytes output h. all_read v values g bytes output none h) (λ bytes output h. read_taken v new g' bytes output none' (stream_check, inl none') h) feeds)

  -- If values are edited and the streaming check needs more bytes, then keeping the current bytes
  -- satisfies `Feeds`.
  pub more_edited :
      (g' : StreamCheck) (buffered : List ℕ) (o : ByteState) → 0 < length buffered → g.kept.items ≡ [] → IsBetween values → g'.kept.items ≡ buffered → IsStreamCheck (table_of e.requested.now.table) limit g'
      → Feeds (commands declared_types) (task_of w) (HasTaken w values g) (HasTaken w values g') buffered (change o o) (Ok (length buffered))
  more_edited g' buffered o some none between same stream_check =
      let v : ValueTask = value_tasks.Edit e limit in
      let P : ValueTask → Type 0 = λ w. Feeds (commands declared_types) (task_of w) (HasTaken w values g) (HasTaken w values g') buffered (change o o) (Ok (length buffered)) in
      let all : take (length buffered) buffered ≡ buffered = take_all (length buffered) buffered (omega arith) in
      subst P (sym is) (
        some,
        omega arith,
        λ bytes output h. (
          [],
          omega arith,
          subst (λ s. HasTaken v values g' (bytes ++ take (length buffered) buffered) s) (sym (append-nil output)) (record {
            before = bytes;
            whole = ap (λ rest. bytes ++ rest) (all ∙ sym same);
            read = all_read v values g bytes output none h;
            checked = (stream_check, inr between);
          }),
          writes_nothing o,
        ),
      )

  -- If values are edited and the streaming check is inconclusive, then the taken bytes stay the
  -- same.
  pub inconclusive_edited : (g' : StreamCheck) (taken : List ℕ) (output : List Output) → g.kept.items ≡ [] → g'.kept.items ≡ [] → IsStreamCheck (table_of e.requested.now.table) limit g' → HasTaken w values g taken output → HasTaken w values g' taken output
  inconclusive_edited g' taken output none none' stream_check =
      let v : ValueTask = value_tasks.Edit e limit in
      let P : ValueTask → Type 0 = λ w. HasTaken w values g taken output → HasTaken w values g' taken output in
      subst P (sym is) (λ h. read_taken v values g' taken output none' (stream_check, inl none') (all_read v values g taken output none h))

-- If reading continues without a streaming check, or after an inconclusive check, then the call
-- satisfies `Feeds`.
pub read_feeds :
    (w w' : ValueTask) → w' ≡ w → (values new : Values) (g g' g'' : StreamCheck) (buffered : List ℕ) (out : Change ByteState) (result : Result ℕ Error) → ((taken : List ℕ) (output : List Output) → HasTaken w values g taken output → HasTaken w values g' taken output)
    → Feeds (commands declared_types) (task_of w) (HasTaken w values g') (HasTaken w new g'') buffered out result → Feeds (commands declared_types) (task_of w) (HasTaken w values g) (HasTaken w' new g'') buffered out result
read_feeds w w' same values new g g' g'' buffered out result to feeds =
    subst (λ after. Feeds (commands declared_types) (task_of w) (HasTaken w values g) (HasTaken after new g'') buffered out result) (sym same)
    (feeds_weaker (commands declared_types) (task_of w) (HasTaken w values g') (HasTaken w values g) (HasTaken w new g'') (HasTaken w new g'') buffered out result to (λ bytes output h. h) feeds)

-- If no bytes are kept, then the earlier checks do not matter.
pub checked_any : (w : ValueTask) (old new : Values) (g : StreamCheck) → g.kept.items ≡ [] → IsChecked w old g → IsChecked w new g
checked_any (value_tasks.Print (printings.Report r queries.Verdict) limit) old new g none checked = (checked.0, inl none)
checked_any (value_tasks.Print (printings.Report r (queries.Text style)) limit) old new g none checked = none
checked_any (value_tasks.Print (printings.Report r (queries.Part path style)) limit) old new g none checked = none
checked_any (value_tasks.Print (printings.Report r queries.Trees) limit) old new g none checked = none
checked_any (value_tasks.Print printings.Dump limit) old new g none checked = none
checked_any (value_tasks.Edit e limit) old new g none checked = (checked.0, inl none)
checked_any (value_tasks.Compare limit) old new g none checked = none
