-- The output for the values so far, while a chunk is consumed.
use Rattle.std.proofs.Common.{◌≡◌, ◌⊎◌, ℕ, zero, suc, ◌+◌, ◌^◌, ◌<◌, ◌≤◌, Bool, true, false, List, [], ◌∷◌, ◌++◌, length, take, drop, Result, Ok, Err, inl, inr, refl, sym, ap, ◌∙◌, subst, append_assoc, append-nil, length-append, take_all, arith}
use Rattle.std.specs.Prelude.{◌&&◌, IsErrAnd}
use Rattle.std.proofs.lemmas.List.{length-take-le, take-append-drop}
use Rattle.base_data.specs.model.Bytes.{AreBytes}
use Rattle.base_data.specs.declared.model.refusal.ReadRefusal.{ReadRefusal}
use Rattle.marshal_spec.specs.format.Prefix.{IsPrefix, IsRefused}
use Rattle.marshal_spec.specs.format.Encoded.{EncodedUnder}
use Rattle.marshal_spec.specs.format.Stream.{StreamEnd, refused, cut, IsTail}
use Rattle.marshal_read.specs.declared.reader.Reader.{Reader}
use Rattle.marshal_read.specs.declared.reader.Fed.{Fed}
use Rattle.marshal_read.specs.declared.reader.Truncated.{Truncated}
use Rattle.marshal_read.specs.declared.returned_value.Value.{Value}
use Rattle.marshal_read.specs.Reading.{RefusedIn}
use Rattle.marshal_read.specs.Reader.{LeadsReader, Feeds, Finishes, EndsInput}
use Rattle.marshal_read.proofs.ReaderReadingLemmas.{unless_memory}
use Rattle.base_io.specs.StreamState.{ByteState, Change, change}
use Rattle.cli_spec.specs.Outcome as outcome
use Rattle.cli_spec.specs.Outcome.{Output, Language, all_ok}
use Rattle.cli_spec.specs.RefusalText.{refusal_text, truncated_text}
use Rattle.cli_spec.specs.declared.exit.Exit.{Exit}
use Rattle.cli_spec.specs.declared.exit.Exit.TheVariants.{Memory as out_of_memory}
use Rattle.cli_spec.specs.declared.exit.Exit.TheVariants as exits
use Rattle.cli_errors.specs.declared.exit_line.Error.{Error}
use Rattle.cli_errors.specs.declared.exit_line.Error.TheVariants as aborts
use Rattle.cli_errors.specs.Exits.{IsOrMemory, IsExitOf}
use Rattle.run_spec.specs.runs.Account.{HaveNoExit}
use Rattle.run_spec.specs.runs.Commands.{Item, value as value_item, Commands, Split, OutputsFirst, GoesOn}
use Rattle.run_spec.proofs.runs.LengthLemmas.{encoded_some}
use Rattle.run_spec.proofs.runs.RunWriteLemmas.{writes_nothing}
use Rattle.run_spec.proofs.runs.RunValueLemmas.{not_whole, nothing_prefix, all_ok-snoc}
use Rattle.run_spec.specs.value_commands.Tasks.{IsFirstValue}
use Rattle.run_spec.proofs.value_commands.ValueCommandFirstLemmas.{prefix_end}
use Rattle.run_loop.specs.work.Works.{ItemsStay, AreOutput, AbortsIn, WritesLast}
use Rattle.run_loop.proofs.work.WorkFirstLemmas.{first_stays, first_next}
use Rattle.cmd_certify.specs.spec.RefusedEnd.{ComesRefused}
use Rattle.cmd_certify.specs.value_items.ValueProgress.{HasRead, IsValueRead, WritesNext}

module _ {D T E A : Type 0} (language : Language D T E) (commands : Commands A) (a : A)
    (limit : ℕ) where
  -- The properties of a command whose items are values.
  pub record HasValues : Type 0 where
    pub value_first :
        (items : List Item) (bytes : List ℕ) (item : Item) (more : List ℕ)
        → commands.IsFirst a items bytes item more → IsFirstValue language limit bytes item more
    pub first_value :
        (items : List Item) (bytes : List ℕ) (item : Item) (more : List ℕ)
        → IsFirstValue language limit bytes item more → commands.IsFirst a items bytes item more
    pub stay : ItemsStay commands a
    pub goes_on :
        (items : List Item) (rest : List ℕ) → AreBytes rest → (end : StreamEnd) → IsTail limit rest end
        → ((refusal : ReadRefusal) → end ≡ refused refusal → ⊥) → GoesOn commands a items rest
    pub refuses :
        (items : List Item) (bytes : List ℕ) (exit : Exit)
        → ComesRefused limit (length items) bytes exit → commands.Exits a items bytes exit
    pub cuts :
        (items : List Item) (bytes : List ℕ) (n : ℕ) → IsTail limit bytes (cut n)
        → commands.Ends a items bytes
        (outcome.exits (exits.Value (length items) (truncated_text n)))

-- If a property holds for an error, and the result is the error, then the property holds for the
-- result.
pub error_is :
    {U : Type 0} (P : Result U Error → Type 0) (error : Error) (result : Result U Error)
    → IsErrAnd result (λ h. h ≡ error) → P (Err error) → P result
error_is P error (Ok unit) is p = absurd is
error_is P error (Err h) is p = subst (λ h. P (Err h)) (sym is) p

-- Before any byte is consumed, the state is valid.
pub begins :
    {A : Type 0} (commands : Commands A) (a : A) (limit : ℕ) (Ready : Type 0) (reader : Reader)
    → Ready → LeadsReader limit [] reader → HasRead commands a limit Ready reader 0 true [] []
begins commands a limit Ready reader ready leads = record {
  ready = ready;
  items = [];
  prefix = [];
  first = record { split = refl; all_print = tt };
  is_prefix = nothing_prefix limit leads.bytes;
  leads = leads;
  counted = refl;
  is_all_ok = refl;
}

-- If the input ends without an error, then the reader has no bytes of a next value.
pub none_left :
    (limit : ℕ) (prefix : List ℕ) (reader : Reader) → IsPrefix limit prefix
    → LeadsReader limit prefix reader → EndsInput {U = Unit {0}} limit prefix (Ok tt) → prefix ≡ []
none_left limit prefix reader is_prefix leads (inl empty) = empty
none_left limit prefix reader is_prefix leads (inr (tree, encoded)) =
    absurd (not_whole limit prefix tree leads.bytes is_prefix encoded)

module _ {D T E A : Type 0} {language : Language D T E} {commands : Commands A} {a : A}
    {limit : ℕ} (known : HasValues language commands a limit) where
  -- The bytes contain at most as many values as bytes.
  split_count :
      (before : List Item) (bytes : List ℕ) (items : List Item) (rest : List ℕ)
      → Split commands a before bytes items rest
      → length items + length rest ≤ length bytes
  split_count before bytes [] rest same =
      let e : length bytes ≡ length rest = ap length same in omega (arith, e)
  split_count before bytes (item ∷ items) rest (more, first, next) =
      let is = known.value_first before bytes item more first in
      let s = is.encoded in
      let some = encoded_some limit s.0 is.tree s.3 in
      let fewer = split_count (before ++ item ∷ []) more items rest next in
      let size : length bytes ≡ length s.0 + length s.1 =
      ap length s.2 ∙ length-append s.0 s.1 in
      let same : length s.1 ≡ length more = ap length s.4 in
      omega (arith, some, fewer, size, same)

  module _ {Ready : Type 0} {reader : Reader} {count : ℕ} {ok : Bool} {taken : List ℕ}
      {output : List Output} where
    pub room_for_one :
        IsValueRead commands a limit Ready reader count ok taken output → length taken < 2 ^ 64
        → count + 1 < 2 ^ 64
    room_for_one v short =
        let fewer = split_count [] taken v.items v.whole v.first.split in
        let counted = v.counted in
        let some = v.some in omega (arith, fewer, short, counted, some)

    module _ (h : HasRead commands a limit Ready reader count ok taken output) where
      -- The bytes consumed so far contain no exit reason.
      abbrev pub holds : HaveNoExit commands a taken output
      holds =
          let e = prefix_end limit h.prefix h.is_prefix in record {
            items = h.items;
            rest = h.prefix;
            first = h.first;
            goes_on = known.goes_on h.items h.prefix h.leads.bytes e.0 e.1 e.2;
          }

      -- Case: a value is truncated at the end of the input.
      pub ends_split :
          (truncated : Truncated) → EndsInput {U = Unit {0}} limit h.prefix (Err truncated)
          → (o : ByteState) (exit : Exit)
          → IsOrMemory (exits.Value count (truncated_text truncated.taken)) exit
          → WritesLast commands a output h.items h.prefix (change o o) (Err (aborts.Exit exit))
      ends_split truncated within o exit (inr memory) = (inr memory, writes_nothing o)
      ends_split truncated within o exit (inl reported) =
          let is : exit ≡ exits.Value (length h.items) (truncated_text (length h.prefix)) =
          reported ∙ (ap (λ n. exits.Value n (truncated_text truncated.taken)) h.counted
          ∙ ap (λ n. exits.Value (length h.items) (truncated_text n)) within.0) in (
            inl (subst (λ s. commands.Ends a h.items h.prefix (outcome.exits s)) (sym is)
                (known.cuts h.items h.prefix (length h.prefix) (within.1, refl, h.is_prefix))),
            writes_nothing o,
          )

      -- ---- buffered bytes

      module _ {rest : List ℕ} {new : Reader} {fed : Fed} (f : Feeds limit h.prefix rest new fed) where
        -- Case: the buffered bytes complete the value.
        abbrev pub whole_read :
            fed.done ≡ true
            → IsValueRead commands a limit Ready new count ok (taken ++ take fed.taken rest) output
        whole_read done = record {
          ready = h.ready;
          items = h.items;
          whole = h.prefix ++ take fed.taken rest;
          first = first_stays commands a known.stay taken h.items output h.prefix (take fed.taken rest)
              h.first;
          some = encoded_some limit (h.prefix ++ take fed.taken rest) (f.done done).1.0
              (f.done done).1.1;
          leads = f.leads;
          done = (f.done done).0;
          counted = h.counted;
          is_all_ok = h.is_all_ok;
        }

        pub few_read :
            length taken + length rest < 2 ^ 63 → length (taken ++ take fed.taken rest) < 2 ^ 64
        few_read short =
            let size = length-append taken (take fed.taken rest) in
            let some = length-take-le fed.taken rest in
            let fits = f.within in omega (arith, size, some, short, fits)

        -- If the value is complete, then the reader has consumed at least one byte.
        pub some_taken : fed.done ≡ true → 0 < fed.taken
        some_taken done = some fed.taken refl where
          some : (n : ℕ) → fed.taken ≡ n → 0 < n
          some zero e =
              let none : h.prefix ++ take fed.taken rest ≡ h.prefix =
              ap (λ n. h.prefix ++ take n rest) e ∙ append-nil h.prefix in
              let whole = (f.done done).1 in
              absurd (not_whole limit h.prefix whole.0 h.leads.bytes h.is_prefix
              (subst (λ b. EncodedUnder limit b whole.0) none whole.1))
          some (suc n) e = omega arith

        -- Case: all buffered bytes are consumed, and the value is not complete.
        pub prefix_read :
            fed.done ≡ false
            → HasRead commands a limit Ready new count ok (taken ++ take fed.taken rest)
            (output ++ [])
        prefix_read not_done =
            let more = f.more not_done in
            let same : take fed.taken rest ≡ rest = take_all fed.taken rest (omega (arith, more.0)) in
            subst (λ s. HasRead commands a limit Ready new count ok (taken ++ take fed.taken rest) s)
            (sym (append-nil output)) (record {
              ready = h.ready;
              items = h.items;
              prefix = h.prefix ++ take fed.taken rest;
              first = first_stays commands a known.stay taken h.items output h.prefix
                  (take fed.taken rest) h.first;
              is_prefix = subst (λ b. IsPrefix limit (h.prefix ++ b)) (sym same) more.1;
              leads = f.leads;
              counted = h.counted;
              is_all_ok = h.is_all_ok;
            })

      -- ---- an error in the buffered bytes

      module _ (rest : List ℕ) where
        abbrev pub ExitsIn : Exit → Type 0
        ExitsIn exit = commands.Exits a h.items (h.prefix ++ rest) exit ⊎ (exit ≡ out_of_memory)

        exits_in :
            (refusal : ReadRefusal) (exit : Exit) → RefusedIn limit (h.prefix ++ rest) refusal
            → IsExitOf count refusal exit → ExitsIn exit
        exits_in refusal exit reported (inl memory) = inr memory
        exits_in refusal exit reported (inr (some, is)) =
            elim ((unless_memory refusal ((n : ℕ) × (n ≤ length (h.prefix ++ rest)) × IsRefused limit (take n (h.prefix ++ rest)) refusal)).1 reported) [
              | inl e ↦ absurd (some e)
              | inr tail ↦ inl (known.refuses h.items (h.prefix ++ rest) exit (record {
                refusal = refusal;
                tail = tail;
                is = subst (λ n. exit ≡ exits.Value n (refusal_text refusal)) h.counted is;
              }))
            ]

        -- Case: the reader refuses the buffered bytes.
        pub refused_aborts :
            (refusal : ReadRefusal) (exit : Exit) → RefusedIn limit (h.prefix ++ rest) refusal
            → IsExitOf count refusal exit → (o : ByteState)
            → AbortsIn commands a taken rest output (change o o) (aborts.Exit exit)
        refused_aborts refusal exit reported is o =
            (holds, exits_in refusal exit reported is, writes_nothing o)

        -- Case: the value that ends in the buffered bytes ends the run.
        pub next_aborts :
            (ExitsSo : Exit → Type 0) → ((exit : Exit) → ExitsSo exit → ExitsIn exit) → (n : ℕ)
            (out : Change ByteState) (reader' : Reader) (count' : ℕ) (ok' : Bool) (error : Error)
            → WritesNext {U = Unit {0}} commands a limit Ready reader' count' ok'
            (taken ++ take n rest) output ExitsSo out (Err error)
            → AbortsIn commands a taken rest output out error
        next_aborts ExitsSo so n out reader' count' ok' (aborts.Exit exit) (exits_so, none) =
            (holds, so exit exits_so, none)
        next_aborts ExitsSo so n out reader' count' ok' aborts.WriteFault
            (next, (items, left, first), part) =
            let same : (taken ++ take n rest) ++ drop n rest ≡ taken ++ rest =
            append_assoc taken (take n rest) (drop n rest)
            ∙ ap (λ r. taken ++ r) (take-append-drop n rest) in
            let more = first_stays commands a known.stay (taken ++ take n rest) items
            (output ++ next ∷ []) left (drop n rest) first in (
              holds,
              next,
              (
                items,
                left ++ drop n rest,
                subst (λ b. OutputsFirst commands a b items (output ++ next ∷ []) (left ++ drop n rest))
                    same more,
              ),
              part,
            )

    -- ---- a value that was read completely

    module _ (v : IsValueRead commands a limit Ready reader count ok taken output) {value : Value}
        (f : Finishes limit v.whole value) (next : Output)
        (outputs : commands.Outputs a v.items (value_item f.tree) next) where
      value_output : OutputsFirst commands a taken (v.items ++ value_item f.tree ∷ []) (output ++ next ∷ []) []
      value_output =
          let first : IsFirstValue language limit v.whole (value_item f.tree) [] = record {
            tree = f.tree;
            is = refl;
            encoded = (v.whole, [], sym (append-nil v.whole), f.encoded, refl);
          } in first_next commands a taken v.items output v.whole (value_item f.tree) [] next v.first
          (known.first_value v.items v.whole (value_item f.tree) [] first) outputs

      -- If a value was read completely, then the outputs so far and the output for the value are
      -- outputs of the bytes.
      pub value_known : AreOutput commands a taken (output ++ next ∷ [])
      value_known = (v.items ++ value_item f.tree ∷ [], [], value_output)

      -- If the output for the value was written, then the reader waits for the next value.
      pub value_done :
          (new : Reader) → LeadsReader limit [] new → (fine_all : Bool) → fine_all ≡ (ok && next.ok)
          → HasRead commands a limit Ready new (count + 1) fine_all taken (output ++ next ∷ [])
      value_done new leads fine_all is = record {
        ready = v.ready;
        items = v.items ++ value_item f.tree ∷ [];
        prefix = [];
        first = value_output;
        is_prefix = nothing_prefix limit leads.bytes;
        leads = leads;
        counted = ap (λ n. n + 1) v.counted
            ∙ sym (length-append v.items (value_item f.tree ∷ []));
        is_all_ok = is ∙ (ap (λ w. w && next.ok) v.is_all_ok ∙ sym (all_ok-snoc output next));
      }
