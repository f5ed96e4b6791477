-- The output for the values so far, while a chunk is consumed.
use Rattle.std.proofs.Common.{◌≡◌, ◌⊎◌, ℕ, ◌+◌, ◌<◌, ◌≤◌, Bool, List, [], ◌∷◌, ◌++◌, length, take, drop, Result, Ok, Err, inl, inr, refl, sym, ap, ◌∙◌, subst, append_assoc, append-nil}
use Rattle.std.specs.Prelude.{◌&&◌, IsErrAnd, if◌then◌else◌}
use Rattle.std.proofs.lemmas.Bool.{lt-ltb, le-ltb}
use Rattle.std.proofs.lemmas.List.{take-append-drop}
use Rattle.marshal_spec.specs.format.Stream.{clean, cut}
use Rattle.marshal_spec.specs.format.Tree.{Tree, objects_of}
use Rattle.marshal_read.specs.declared.reader.Reader.{Reader}
use Rattle.marshal_read.specs.declared.returned_value.Value.{Value}
use Rattle.marshal_read.specs.Reading.{IsValueOf}
use Rattle.marshal_read.specs.Reader.{LeadsReader, Finishes, EndsInput}
use Rattle.cert_format.specs.declared.section.Section.{Section}
use Rattle.base_io.specs.Sink.{Writes}
use Rattle.base_io.specs.StreamState.{ByteState, Change, change}
use Rattle.cli_spec.specs.Outcome as outcome
use Rattle.cli_spec.specs.Outcome.{Output, outputs, nothing_output, all_ok, line}
use Rattle.cli_spec.specs.declared.exit.Exit.{Exit}
use Rattle.cli_spec.specs.declared.exit.Exit.TheVariants.{Uncertified as uncertified_value, SectionsLeft as sections_left, Memory as out_of_memory}
use Rattle.cli_errors.specs.declared.exit_line.Error.{Error}
use Rattle.cli_errors.specs.declared.exit_line.Error.TheVariants as aborts
use Rattle.run_spec.specs.runs.Commands.{Item, value as value_item}
use Rattle.run_spec.proofs.runs.RunWriteLemmas.{writes_nothing}
use Rattle.run_spec.proofs.runs.RunValueLemmas.{and_true, all_ok-snoc}
use Rattle.run_loop.specs.work.Works.{WritesLast}
use Rattle.cmd_certify.proofs.value_items.ValueItemReadLemmas.{HasValues, error_is, none_left, value_known, value_done}
use Rattle.run_types.specs.declared.requested.Prepared.{Prepared}
use Rattle.run_types.specs.Language.{TypeOver, declared_types}
use Rattle.run_types.specs.RequestedTexts.{type_over}
use Rattle.cmd_verify.specs.spec.Verification.{Shown, shows, rejects, Verification, OutputsOf, IsShown, IsUncertified, ExitsHere}
use Rattle.run_spec.proofs.value_commands.ValueCommandItemLemmas.{first_stays}
use Rattle.cmd_verify.proofs.spec.VerifySpecItemLemmas.{exit_stays, goes_on}
use Rattle.cmd_verify.specs.command.VerifiedSections.{IsShownAt, reads_sections, declared_sections}
use Rattle.cmd_verify.specs.command.Judged.{IsShownBy, IsUncertifiedBy, WritesShown}
use Rattle.cmd_verify.specs.command.VerifyProgress.{on_certificates, certified, HasRead, IsValueRead, ExitsNext, WritesNext}

-- The items of the command are values.
abbrev pub has_values :
    (r : Prepared) (all : List Section) (limit : ℕ)
    → HasValues declared_types on_certificates (certified r all limit) limit
has_values r all limit =
    let a = certified r all limit in record {
      value_first = λ items bytes item more h. h;
      first_value = λ items bytes item more h. h;
      stay = λ items. first_stays declared_types limit;
      goes_on = goes_on declared_sections a declared_types reads_sections;
      refuses = λ items bytes exit h. inr h;
      cuts = λ items bytes n tail. (cut n, tail, refl);
    }

-- The output for a value in memory is the output for its tree.
shown_read :
    (t : TypeOver) (all : List Section) (limit number : ℕ) (value : Value) (tree : Tree)
    (shown : Shown) → IsValueOf value tree
    → IsShownBy t all number value.heap value.root shown
    → IsShown declared_sections (record { type = t; sections = all; limit = limit }) number tree shown
shown_read t all limit number value tree shown is (section, has, by) = record {
  section = section;
  has = has;
  by = subst (λ v. IsShownAt t section (objects_of tree 0) v shown) is.root
      (subst (λ h. IsShownAt t section h value.root shown) is.heap by);
}

uncertified_read :
    (t : TypeOver) (all : List Section) (limit number : ℕ) (value : Value) (tree : Tree)
    (reason : List ℕ) → IsValueOf value tree
    → IsUncertifiedBy t all number value.heap value.root reason
    → IsUncertified declared_sections (record { type = t; sections = all; limit = limit }) number tree
    reason
uncertified_read t all limit number value tree reason is (inl none) = inl none
uncertified_read t all limit number value tree reason is (inr (why, by, encoded)) =
    inr (why, shown_read t all limit number value tree (rejects why) is by, encoded)

-- If the types, the entries and the limits are equal, then the state is valid for both tasks.
pub has_same :
    (r s : Prepared) (all others : List Section) (limit most : ℕ) (reader : Reader) (count : ℕ)
    (ok : Bool) (taken : List ℕ) (output : List Output) → r ≡ s → all ≡ others → limit ≡ most
    → HasRead r all limit reader count ok taken output
    → HasRead s others most reader count ok taken output
has_same r s all others limit most reader count ok taken output e f g h =
    subst (λ s. HasRead s others most reader count ok taken output) e
    (subst (λ o. HasRead r o most reader count ok taken output) f
    (subst (λ m. HasRead r all m reader count ok taken output) g h))

module _ (r : Prepared) (all : List Section) (limit : ℕ) where
  abbrev a : Verification TypeOver Section
  a = certified r all limit

  -- If the run ends at a value, then the run ends at the bytes that begin with the value.
  pub exit_begins :
      (items : List Item) (prefix rest : List ℕ) (n : ℕ) (exit : Exit)
      → ExitsNext r all limit items (prefix ++ take n rest) exit
      → ExitsHere declared_sections a items (prefix ++ rest) exit ⊎ (exit ≡ out_of_memory)
  exit_begins items prefix rest n exit (inl memory) = inr memory
  exit_begins items prefix rest n exit (inr comes) =
      let more = exit_stays declared_sections a items (prefix ++ take n rest) (drop n rest) exit
      (inl comes) in
      let same : (prefix ++ take n rest) ++ drop n rest ≡ prefix ++ rest =
      append_assoc prefix (take n rest) (drop n rest)
      ∙ ap (λ r. prefix ++ r) (take-append-drop n rest) in
      inl (subst (λ b. ExitsHere declared_sections a items b exit) same more)

  module _ {reader : Reader} {count : ℕ} {ok : Bool} {taken : List ℕ} {output : List Output} where
    -- ---- the end of the input

    module _ (h : HasRead r all limit reader count ok taken output)
        (end : EndsInput {U = Unit {0}} limit h.prefix (Ok tt)) where
      abbrev Ends : Change ByteState → Result Bool Error → Type 0
      Ends out result = WritesLast on_certificates a output h.items h.prefix out result

      -- If entries remain at the end of the input, then the run ends with an exit reason.
      pub ends_left :
          count < length all → (o : ByteState) → Ends (change o o) (Err (aborts.Exit sections_left))
      ends_left less o =
          let fewer : length h.items < length all = subst (λ n. n < length all) h.counted less in (
            inl (
              clean,
              none_left limit h.prefix reader h.is_prefix h.leads end,
              ap (λ b. if b then outcome.exits sections_left else outputs nothing_output)
                  (sym (lt-ltb (length h.items) (length all) fewer)),
            ),
            writes_nothing o,
          )

      -- If no entries remain at the end of the input, then the run ends without an exit reason.
      pub ends_all : length all ≤ count → (o : ByteState) → Ends (change o o) (Ok ok)
      ends_all most o =
          let enough : length all ≤ length h.items = subst (λ n. length all ≤ n) h.counted most in (
            nothing_output,
            (
              clean,
              none_left limit h.prefix reader h.is_prefix h.leads end,
              ap (λ b. if b then outcome.exits sections_left else outputs nothing_output)
                  (sym (le-ltb (length h.items) (length all) enough)),
            ),
            h.is_all_ok ∙ sym (all_ok-snoc output nothing_output ∙ and_true (all_ok output)),
            writes_nothing o,
          )

    -- ---- a value that was read completely

    module _ (v : IsValueRead r all limit reader count ok taken output) (value : Value)
        (f : Finishes limit v.whole value) where
      -- If the entry shows a text for the value, then the text is the output for the value.
      value_output :
          (text : List ℕ) (fine : Bool)
          → IsShownBy (type_over r) all count value.heap value.root (shows text fine)
          → OutputsOf declared_sections a v.items (value_item f.tree)
          (record { text = line text; ok = fine })
      value_output text fine by = record {
        tree = f.tree;
        is = refl;
        text = text;
        shown = subst (λ n. IsShown declared_sections a n f.tree (shows text fine)) v.counted
            (shown_read (type_over r) all limit count value f.tree (shows text fine) f.is_value by);
        output_is = refl;
      }

      -- If the output for the value was written, then the reader waits for the next value.
      pub value_written :
          (out : Change ByteState) (fine : Bool)
          → WritesShown (type_over r) all count value.heap value.root out (Ok fine)
          → (new : Reader) → LeadsReader limit [] new → (fine_all : Bool) → fine_all ≡ (ok && fine)
          → (next : Output) × HasRead r all limit new (count + 1) fine_all taken (output ++ next ∷ [])
          × Writes out next.text
      value_written out fine (text, by, write) new leads fine_all is =
          let next : Output = record { text = line text; ok = fine } in (
            next,
            value_done (has_values r all limit) v f next (value_output text fine by) new leads fine_all
                is,
            write,
          )

      value_error :
          (out : Change ByteState) (error : Error) (new : Reader) (count' : ℕ) (ok' : Bool)
          → WritesShown (type_over r) all count value.heap value.root out (Err error)
          → WritesNext r all limit {U = Unit {0}} new count' ok' taken output v.items v.whole out
          (Err error)
      value_error out (aborts.Exit exit) new count' ok' (inl memory, none) = (inl memory, none)
      value_error out (aborts.Exit exit) new count' ok' (inr (reason, by, is), none) = (
        inr (record {
          tree = f.tree;
          more = [];
          encoded = (v.whole, [], sym (append-nil v.whole), f.encoded, refl);
          reason = reason;
          uncertified = subst (λ n. IsUncertified declared_sections a n f.tree reason) v.counted
              (uncertified_read (type_over r) all limit count value f.tree reason f.is_value by);
          is = subst (λ n. exit ≡ uncertified_value n reason) v.counted is;
        }),
        none,
      )
      value_error out aborts.WriteFault new count' ok' (text, fine, by, part) =
          let next : Output = record { text = line text; ok = fine } in
          (next, value_known (has_values r all limit) v f next (value_output text fine by), part)

      -- If the output for the value was not written, then the run ends with the error.
      pub value_aborts :
          (out : Change ByteState) (error : Error) (new : Reader) (count' : ℕ) (ok' : Bool)
          (result : Result (Unit {0}) Error) → IsErrAnd result (λ h. h ≡ error)
          → WritesShown (type_over r) all count value.heap value.root out (Err error)
          → WritesNext r all limit new count' ok' taken output v.items v.whole out result
      value_aborts out error new count' ok' result is p =
          error_is (WritesNext r all limit new count' ok' taken output v.items v.whole out) error result is
          (value_error out error new count' ok' p)
