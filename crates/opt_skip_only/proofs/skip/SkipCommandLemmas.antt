-- The state of a command that skips the first bytes of its input.
use Rattle.std.proofs.Common.{◌≡◌, ◌+◌, ◌-◌, ◌<◌, ◌≤◌, ℕ, zero, suc, Bool, true, false, List, [], ◌∷◌, ◌++◌, Result, Ok, Err, inl, inr, refl, sym, ap, ◌∙◌, subst, length, take, drop, get_or, length-append, append_assoc, append-nil, length-drop, arith}
use Rattle.std.proofs.Math.Seq.{take-add}
use Rattle.std.specs.Prelude.{IsErrAnd, Some, if◌then◌else◌}
use Rattle.cli_spec.specs.Outcome.{Request, Output, outputs, exits, texts_of, all_ok}
use Rattle.cli_spec.specs.declared.exit.Exit.TheVariants.{Short as short_input, Finished as finished}
use Rattle.base_io.specs.Sink.{Writes, WritesPart}
use Rattle.base_io.specs.StreamState.{ByteState, Change, change}
use Rattle.cli_errors.specs.declared.exit_line.Error.{Error}
use Rattle.cli_errors.specs.declared.exit_line.Error.TheVariants as aborts
use Rattle.run_spec.specs.runs.Account.{HaveNoExit}
use Rattle.run_spec.specs.runs.Commands.{Item, text as text_item, Commands, OutputsFirst}
use Rattle.run_spec.proofs.runs.LengthLemmas.{prefix_byte}
use Rattle.run_spec.proofs.runs.RunWriteLemmas.{writes_nothing}
use Rattle.opt_skip_only.specs.skip_spec.Skipping.{SkippedBytes, passed_output, bytes_output, skipping}
use Rattle.opt_skip_only.proofs.skip_spec.PassedLemmas.{drop_first, byte_items, bytes_ok, bytes_output_more, byte_count, join_split, join_print, within_split, within_print, within_more, goes_on_after, goes_on_within}
use Rattle.opt_skip_only.proofs.skip_spec.SkippingLemmas.{byte_stays}
use Rattle.opt_skip_only.proofs.skip_spec.SkipTableLemmas.{all_ok_append}
use Rattle.run_loop.specs.declared.work.passed_bytes.PassedBytes.{PassedBytes}
use Rattle.run_loop.specs.work.GatheredOutput.{GathersTo, GathersSome, Passes}
use Rattle.run_loop.proofs.work.WorkGatherLemmas.{some_of_one, gathers_each}
use Rattle.run_loop.specs.work.Works.{Has, ItemsStay, AbortsIn, FinishesIn, Aborts, Feeds, WritesLast, EndsAt}
use Rattle.opt_skip_only.specs.skip.SkipCommand.{HasPassed}

module _ {A : Type 0} (passed_by : Request → SkippedBytes) (c : Commands A) (p : SkippedBytes) (a : A) where
  abbrev after : Commands (SkippedBytes × A)
  after = skipping passed_by c

  pub stay : ItemsStay c a → ItemsStay after (p, a)
  stay inner items bytes item more later (inl (less, b)) = inl (less, byte_stays bytes item more later b)
  stay inner items bytes item more later (inr (few, is)) = inr (few, inner (drop p.bytes items) bytes item more later is)

  -- ---- all bytes are skipped

  first_after : (passed rest : List ℕ) (items : List Item) (known : List Output) (more : List ℕ) → length passed ≡ p.bytes
      → OutputsFirst c a rest items known more
      → OutputsFirst after (p, a) (passed ++ rest) (byte_items passed ++ items) (bytes_output p.copied passed ++ known) more
  first_after passed rest items known more size first = record {
    split = join_split passed_by c p a passed [] rest items more (omega (arith, size)) first.split;
    all_print = join_print passed_by c p a passed [] items known (omega (arith, size)) first.all_print;
  }

  abbrev hold_after : (passed rest : List ℕ) (known : List Output) → length passed ≡ p.bytes → HaveNoExit c a rest known
      → HaveNoExit after (p, a) (passed ++ rest) (bytes_output p.copied passed ++ known)
  hold_after passed rest known size h = record {
    items = byte_items passed ++ h.items;
    rest = h.rest;
    first = first_after passed rest h.items known h.rest size h.first;
    goes_on = goes_on_after passed_by c p a (byte_items passed) h.items h.rest (byte_count passed ∙ size) h.goes_on;
  }

  -- If all bytes to skip were skipped, then there are at least as many items as bytes to skip.
  few_after : (passed : List ℕ) (items : List Item) → length passed ≡ p.bytes → p.bytes ≤ length (byte_items passed ++ items)
  few_after passed items size =
      let count = byte_count passed in let parts = length-append (byte_items passed) items in omega (arith, size, count, parts)

  items_after : (passed : List ℕ) (items : List Item) → length passed ≡ p.bytes → drop p.bytes (byte_items passed ++ items) ≡ items
  items_after passed items size = drop_first p.bytes (byte_items passed) items (byte_count passed ∙ size)

  aborts_after : (buffered : List ℕ) (out : Change ByteState) (passed rest : List ℕ) (known : List Output) → length passed ≡ p.bytes
      → (error : Error) → AbortsIn c a rest buffered known out error
      → AbortsIn after (p, a) (passed ++ rest) buffered (bytes_output p.copied passed ++ known) out error
  aborts_after buffered out passed rest known size (aborts.Exit exit) (holds, inl at, write) = (
    hold_after passed rest known size holds,
    inl (
      few_after passed holds.items size,
      subst (λ i. c.Exits a i (holds.rest ++ buffered) exit) (sym (items_after passed holds.items size)) at,
    ),
    write,
  )
  aborts_after buffered out passed rest known size (aborts.Exit exit) (holds, inr memory, write) =
      (hold_after passed rest known size holds, inr memory, write)
  aborts_after buffered out passed rest known size aborts.WriteFault (holds, next, (items, more, first), part) = (
    hold_after passed rest known size holds,
    next,
    (
      byte_items passed ++ items,
      more,
      subst (λ b. OutputsFirst after (p, a) b (byte_items passed ++ items) ((bytes_output p.copied passed ++ known) ++ next ∷ []) more)
          (sym (append_assoc passed rest buffered))
          (subst (λ s. OutputsFirst after (p, a) (passed ++ (rest ++ buffered)) (byte_items passed ++ items) s more)
          (sym (append_assoc (bytes_output p.copied passed) known (next ∷ [])))
          (first_after passed (rest ++ buffered) items (known ++ next ∷ []) more size first)),
    ),
    part,
  )

  finishes_after : (buffered : List ℕ) (out : Change ByteState) (passed rest : List ℕ) (known : List Output) → length passed ≡ p.bytes
      → (error : Error) → FinishesIn c a rest buffered known out error
      → FinishesIn after (p, a) (passed ++ rest) buffered (bytes_output p.copied passed ++ known) out error
  finishes_after buffered out passed rest known size error f = record {
    holds = hold_after passed rest known size f.holds;
    next = f.next;
    items = byte_items passed ++ f.items;
    rest = f.rest;
    first = subst (λ b. OutputsFirst after (p, a) b (byte_items passed ++ f.items) ((bytes_output p.copied passed ++ known) ++ f.next ∷ []) f.rest)
        (sym (append_assoc passed rest buffered))
        (subst (λ s. OutputsFirst after (p, a) (passed ++ (rest ++ buffered)) (byte_items passed ++ f.items) s f.rest)
        (sym (append_assoc (bytes_output p.copied passed) known (f.next ∷ [])))
        (first_after passed (rest ++ buffered) f.items (known ++ f.next ∷ []) f.rest size f.first));
    ok = f.ok;
    at = (
      few_after passed f.items size,
      subst (λ i. c.Exits a i f.rest (finished f.ok)) (sym (items_after passed f.items size)) f.at,
    );
    is = f.is;
    write = f.write;
  }

  aborts_so_after : (buffered : List ℕ) (out : Change ByteState) (passed rest : List ℕ) (known : List Output) → length passed ≡ p.bytes
      → (error : Error) → Aborts c a rest buffered known out error
      → Aborts after (p, a) (passed ++ rest) buffered (bytes_output p.copied passed ++ known) out error
  aborts_so_after buffered out passed rest known size error (inl h) = inl (aborts_after buffered out passed rest known size error h)
  aborts_so_after buffered out passed rest known size error (inr f) = inr (finishes_after buffered out passed rest known size error f)

  last_after : (out : Change ByteState) (passed : List ℕ) (items : List Item) (known : List Output) (rest : List ℕ)
      → length passed ≡ p.bytes → (result : Result Bool Error) → WritesLast c a known items rest out result
      → WritesLast after (p, a) (bytes_output p.copied passed ++ known) (byte_items passed ++ items) rest out result
  last_after out passed items known rest size (Ok ok) (final, ends, is, write) = (
    final,
    inr (few_after passed items size, subst (λ i. c.Ends a i rest (outputs final)) (sym (items_after passed items size)) ends),
    is ∙ sym (ap all_ok (append_assoc (bytes_output p.copied passed) known (final ∷ []))
        ∙ all_ok_append (bytes_output p.copied passed) (known ++ final ∷ []) (bytes_ok p.copied passed)),
    write,
  )
  last_after out passed items known rest size (Err (aborts.Exit exit)) (inl ends, write) = (
    inl (inr (few_after passed items size, subst (λ i. c.Ends a i rest (exits exit)) (sym (items_after passed items size)) ends)),
    write,
  )
  last_after out passed items known rest size (Err (aborts.Exit exit)) (inr memory, write) = (inr memory, write)
  last_after out passed items known rest size (Err aborts.WriteFault) (final, ends, part) = (
    final,
    inr (few_after passed items size, subst (λ i. c.Ends a i rest (outputs final)) (sym (items_after passed items size)) ends),
    part,
  )

  -- ---- some bytes remain to be skipped

  abbrev hold_within : (passed : List ℕ) → length passed < p.bytes → HaveNoExit after (p, a) passed (bytes_output p.copied passed)
  hold_within passed less = record {
    items = byte_items passed;
    rest = [];
    first = record {
      split = within_split passed_by c p a passed [] (omega (arith, less));
      all_print = within_print passed_by c p a passed [] (omega (arith, less));
    };
    goes_on = goes_on_within passed_by c p a passed less;
  }

  module _ (has : Has) where
    abbrev There : ℕ → List ℕ → List Output → Type 0
    There left = HasPassed p has left

    size_of : (bytes : List ℕ) (output : List Output) (h : There 0 bytes output) → length h.passed ≡ p.bytes
    size_of bytes output h = let counted = h.counted in omega (arith, counted)

    -- If bytes remain to be skipped, then only skipped bytes were consumed.
    only_bytes : (left : ℕ) (bytes : List ℕ) (output : List Output) → 0 < left → (h : There left bytes output)
        → (bytes ≡ h.passed) × (output ≡ bytes_output p.copied h.passed)
    only_bytes left bytes output some h =
        let u = h.untaken some in (
          h.bytes_are ∙ (ap (λ r. h.passed ++ r) u.0 ∙ append-nil h.passed),
          h.output_are ∙ (ap (λ t. bytes_output p.copied h.passed ++ t) u.1 ∙ append-nil (bytes_output p.copied h.passed)),
        )

    within : (left : ℕ) (bytes : List ℕ) (output : List Output) → 0 < left → (h : There left bytes output) → length h.passed < p.bytes
    within left bytes output some h = let counted = h.counted in omega (arith, counted, some)

    pub holds : ((bytes : List ℕ) (output : List Output) → has bytes output → HaveNoExit c a bytes output)
        → (left : ℕ) (bytes : List ℕ) (output : List Output) → There left bytes output → HaveNoExit after (p, a) bytes output
    holds inner zero bytes output h =
        subst (λ b. HaveNoExit after (p, a) b output) (sym h.bytes_are)
        (subst (λ s. HaveNoExit after (p, a) (h.passed ++ h.rest) s) (sym h.output_are)
        (hold_after h.passed h.rest h.known (size_of bytes output h) (inner h.rest h.known h.there)))
    holds inner (suc left) bytes output h =
        let some : 0 < suc left = omega arith in
        let only = only_bytes (suc left) bytes output some h in
        subst (λ b. HaveNoExit after (p, a) b output) (sym only.0)
        (subst (λ s. HaveNoExit after (p, a) h.passed s) (sym only.1)
        (hold_within h.passed (within (suc left) bytes output some h)))

    pub fed : (new : Has) (buffered : List ℕ) (out : Change ByteState) (result : Result ℕ Error)
        → Feeds c a has new buffered out result
        → Feeds after (p, a) (There 0) (HasPassed p new 0) buffered out result
    fed new buffered out (Ok n) (some, fits, f) =
        (some, fits, λ bytes output h. next bytes output h (f h.rest h.known h.there)) where
          next : (bytes : List ℕ) (output : List Output) (h : There 0 bytes output)
              → ((more : List Output) × (length more ≤ 1) × new (h.rest ++ take n buffered) (h.known ++ more) × Writes out (texts_of more))
              → (more : List Output) × (length more ≤ 1) × HasPassed p new 0 (bytes ++ take n buffered) (output ++ more)
              × Writes out (texts_of more)
          next bytes output h (more, one, there, write) = (
            more,
            one,
            record {
              passed = h.passed;
              rest = h.rest ++ take n buffered;
              known = h.known ++ more;
              bytes_are = ap (λ b. b ++ take n buffered) h.bytes_are ∙ append_assoc h.passed h.rest (take n buffered);
              output_are = ap (λ s. s ++ more) h.output_are ∙ append_assoc (bytes_output p.copied h.passed) h.known more;
              counted = h.counted;
              untaken = λ some. absurd (omega (arith, some));
              there = there;
            },
            write,
          )
    fed new buffered out (Err error) f = λ bytes output h.
        subst (λ b. Aborts after (p, a) b buffered output out error) (sym h.bytes_are)
        (subst (λ s. Aborts after (p, a) (h.passed ++ h.rest) buffered s out error) (sym h.output_are)
        (aborts_so_after buffered out h.passed h.rest h.known (size_of bytes output h) error (f h.rest h.known h.there)))

    -- If no byte remains to be skipped, then the current bytes are consumed as without `--skip`.
    pub fed_at : (left : ℕ) → left ≡ 0 → (new : Has) (buffered : List ℕ) (out : Change ByteState) (result : Result ℕ Error)
        → Feeds c a has new buffered out result
        → Feeds after (p, a) (There left) (HasPassed p new left) buffered out result
    fed_at left none new buffered out result f =
        subst (λ k. Feeds after (p, a) (There k) (HasPassed p new k) buffered out result) (sym none)
        (fed new buffered out result f)

    -- The output for the first of the current bytes.
    abbrev first_output : List ℕ → Output
    first_output buffered = passed_output p.copied (text_item (get_or buffered 0 0 ∷ []))

    -- If one more byte is skipped, then the state is that after the byte.
    step : (left : ℕ) (buffered : List ℕ) → 0 < left → 0 < length buffered
        → (bytes : List ℕ) (output : List Output) → There left bytes output
        → There (left - 1) (bytes ++ take 1 buffered) (output ++ first_output buffered ∷ [])
    step left buffered some more bytes output h =
        let b : ℕ = get_or buffered 0 0 in
        let only = only_bytes left bytes output some h in
        let u = h.untaken some in
        let along = length-append h.passed (b ∷ []) in
        let counted = h.counted in
        record {
          passed = h.passed ++ b ∷ [];
          rest = [];
          known = [];
          bytes_are = ap (λ x. x ++ take 1 buffered) only.0
              ∙ (ap (λ x. h.passed ++ x) (prefix_byte buffered more).2 ∙ sym (append-nil (h.passed ++ b ∷ [])));
          output_are = ap (λ x. x ++ passed_output p.copied (text_item (b ∷ [])) ∷ []) only.1
              ∙ (sym (bytes_output_more p.copied h.passed b) ∙ sym (append-nil (bytes_output p.copied (h.passed ++ b ∷ []))));
          counted = omega (arith, along, counted, some);
          untaken = λ some. (refl, refl);
          there = subst (λ r. has r []) u.0 (subst (λ t. has h.rest t) u.1 h.there);
        }

    -- If one more byte is skipped and its output is written, then one byte is consumed.
    pub stepped : (left : ℕ) (buffered : List ℕ) (out : Change ByteState) → 0 < left → 0 < length buffered
        → Writes out (first_output buffered).text
        → Feeds after (p, a) (There left) (There (left - 1)) buffered out (Ok 1)
    stepped left buffered out some more write = (
      omega arith,
      omega (arith, more),
      λ bytes output h. (
        first_output buffered ∷ [],
        omega arith,
        step left buffered some more bytes output h,
        subst (λ t. Writes out t) (sym (append-nil (first_output buffered).text)) write,
      ),
    )

    -- Several bytes are skipped at once.
    module _ (inner : (bytes : List ℕ) (output : List Output) → has bytes output → HaveNoExit c a bytes output)
        (inner_stay : ItemsStay c a) (left : ℕ) (buffered : List ℕ) where
      -- The output for the first `k` current bytes.
      abbrev text_of : Bool → ℕ → List ℕ
      text_of copied k = if copied then take k buffered else []

      no_text : (copied : Bool) → text_of copied 0 ≡ []
      no_text true = refl
      no_text false = refl

      text_more : (copied : Bool) (k : ℕ) → 0 < length (drop k buffered)
          → text_of copied (k + 1)
          ≡ text_of copied k ++ texts_of (passed_output copied (text_item (get_or (drop k buffered) 0 0 ∷ [])) ∷ [])
      text_more true k some =
          take-add k 1 buffered ∙ ap (λ t. take k buffered ++ t) (prefix_byte (drop k buffered) some).2
      text_more false k some = refl

      each : (n : ℕ) → n ≤ left → n ≤ length buffered → (k : ℕ) → k < n
          → GathersSome after (p, a) (There (left - k)) (There (left - (k + 1))) (drop k buffered)
          (text_of p.copied k) (text_of p.copied (k + 1)) (Ok 1)
      each n few fits k less =
          let size = length-drop k buffered in
          let some : 0 < length (drop k buffered) = omega (arith, size, fits, less) in
          let positive : 0 < left - k = omega (arith, few, less) in
          let next : (left - k) - 1 ≡ left - (k + 1) = omega (arith, few, less) in
          some_of_one after (p, a) (stay inner_stay) (There (left - k)) (There (left - (k + 1))) (drop k buffered)
          (text_of p.copied k) (text_of p.copied (k + 1)) 1 (
            omega arith,
            omega (arith, some),
            λ bytes output h.
                let over : There (left - (k + 1)) (bytes ++ take 1 (drop k buffered)) (output ++ first_output (drop k buffered) ∷ []) =
                subst (λ m. There m (bytes ++ take 1 (drop k buffered)) (output ++ first_output (drop k buffered) ∷ [])) next
                (step (left - k) (drop k buffered) positive some bytes output h) in (
                  holds inner (left - k) bytes output h,
                  first_output (drop k buffered) ∷ [],
                  omega arith,
                  over,
                  holds inner (left - (k + 1)) (bytes ++ take 1 (drop k buffered)) (output ++ first_output (drop k buffered) ∷ []) over,
                  text_more p.copied k some,
                ),
          )

      pub skips : (n : ℕ) → n ≤ left → n ≤ length buffered
          → (bytes : List ℕ) (output : List Output) → There left bytes output
          → GathersTo after (p, a) (There (left - n)) buffered n (text_of p.copied n) bytes output
      skips n few fits bytes output h =
          let none : left ≡ left - 0 = omega arith in
          gathers_each after (p, a) (λ k. There (left - k)) buffered (λ k. text_of p.copied k) (no_text p.copied) n
          (each n few fits) bytes output (subst (λ m. There m bytes output) none h)

      pub passes : (n : ℕ) (passed : PassedBytes) → passed.bytes ≡ n → passed.copied ≡ p.copied
          → 0 < n → n ≤ left → n ≤ length buffered
          → Passes after (p, a) (There left) (There (left - n)) buffered (Some passed)
      passes n passed number copied some few fits =
          let at_n : n ≡ passed.bytes = sym number in (
            subst (λ k. 0 < k) at_n some,
            subst (λ k. k ≤ length buffered) at_n fits,
            λ bytes output h.
                subst (λ w. GathersTo after (p, a) (There (left - n)) buffered passed.bytes (text_of w passed.bytes) bytes output)
                (sym copied)
                (subst (λ k. GathersTo after (p, a) (There (left - n)) buffered k (text_of p.copied k) bytes output) at_n
                (skips n few fits bytes output h)),
          )

    -- If the skipped byte could not be written, then the run ends with a write fault.
    pub step_fault : (left : ℕ) (buffered : List ℕ) (out : Change ByteState) → 0 < left → 0 < length buffered
        → p.copied ≡ true → WritesPart out (get_or buffered 0 0 ∷ [])
        → (bytes : List ℕ) (output : List Output) → There left bytes output → AbortsIn after (p, a) bytes buffered output out aborts.WriteFault
    step_fault left buffered out some more copied part bytes output h =
        let only = only_bytes left bytes output some h in
        let less = within left bytes output some h in
        let prefix = prefix_byte buffered more in
        let b : ℕ = get_or buffered 0 0 in
        let along = length-append h.passed (b ∷ []) in
        let few : length (h.passed ++ b ∷ []) + 0 ≤ p.bytes = omega (arith, along, less) in
        let bytes_are : bytes ++ buffered ≡ (h.passed ++ b ∷ []) ++ prefix.0 =
        ap (λ x. x ++ buffered) only.0 ∙ (ap (λ x. h.passed ++ x) prefix.1 ∙ sym (append_assoc h.passed (b ∷ []) prefix.0)) in
        let output_are : output ++ passed_output p.copied (text_item (b ∷ [])) ∷ [] ≡ bytes_output p.copied (h.passed ++ b ∷ []) =
        ap (λ x. x ++ passed_output p.copied (text_item (b ∷ [])) ∷ []) only.1 ∙ sym (bytes_output_more p.copied h.passed b) in
        let first : OutputsFirst after (p, a) ((h.passed ++ b ∷ []) ++ prefix.0) (byte_items (h.passed ++ b ∷ []))
        (bytes_output p.copied (h.passed ++ b ∷ [])) prefix.0 = record {
          split = within_more passed_by c p a (h.passed ++ b ∷ []) prefix.0 [] few;
          all_print = within_print passed_by c p a (h.passed ++ b ∷ []) [] few;
        } in (
          subst (λ b. HaveNoExit after (p, a) b output) (sym only.0)
              (subst (λ s. HaveNoExit after (p, a) h.passed s) (sym only.1) (hold_within h.passed less)),
          passed_output p.copied (text_item (b ∷ [])),
          (
            byte_items (h.passed ++ b ∷ []),
            prefix.0,
            subst (λ x. OutputsFirst after (p, a) x (byte_items (h.passed ++ b ∷ []))
                (output ++ passed_output p.copied (text_item (b ∷ [])) ∷ []) prefix.0) (sym bytes_are)
                (subst (λ s. OutputsFirst after (p, a) ((h.passed ++ b ∷ []) ++ prefix.0) (byte_items (h.passed ++ b ∷ [])) s prefix.0)
                (sym output_are) first),
          ),
          subst (λ w. WritesPart out (passed_output w (text_item (b ∷ []))).text) (sym copied) part,
        )

    -- ---- the input ends

    pub ended : (out : Change ByteState) (result : Result Bool Error) → EndsAt c a has out result
        → EndsAt after (p, a) (There 0) out result
    ended out result ends bytes output h =
        let size = size_of bytes output h in
        let e = ends h.rest h.known h.there in
        subst (λ b. (holds : HaveNoExit after (p, a) b output) × WritesLast after (p, a) output holds.items holds.rest out result) (sym h.bytes_are)
        (subst (λ s. (holds : HaveNoExit after (p, a) (h.passed ++ h.rest) s) × WritesLast after (p, a) s holds.items holds.rest out result)
        (sym h.output_are) (
          hold_after h.passed h.rest h.known size e.0,
          last_after out h.passed e.0.items h.known e.0.rest size result e.1,
        ))

    pub ended_at : (left : ℕ) → left ≡ 0 → (out : Change ByteState) (result : Result Bool Error) → EndsAt c a has out result
        → EndsAt after (p, a) (There left) out result
    ended_at left none out result ends =
        subst (λ k. EndsAt after (p, a) (There k) out result) (sym none) (ended out result ends)

    pub ended_short : (left : ℕ) (out : ByteState) → 0 < left
        → EndsAt after (p, a) (There left) (change out out) (Err (aborts.Exit (short_input (p.bytes - left))))
    ended_short left out some bytes output h =
        let only = only_bytes left bytes output some h in
        let less = within left bytes output some h in
        let count = byte_count h.passed in
        let counted = h.counted in
        let taken : p.bytes - left ≡ length (byte_items h.passed) = omega (arith, counted, count) in
        let few : length (byte_items h.passed) < p.bytes = omega (arith, count, less) in
        subst (λ b. (holds : HaveNoExit after (p, a) b output)
        × WritesLast after (p, a) output holds.items holds.rest (change out out) (Err (aborts.Exit (short_input (p.bytes - left))))) (sym only.0)
        (subst (λ s. (holds : HaveNoExit after (p, a) h.passed s)
        × WritesLast after (p, a) s holds.items holds.rest (change out out) (Err (aborts.Exit (short_input (p.bytes - left))))) (sym only.1) (
          hold_within h.passed less,
          (inl (inl (few, ap (λ k. exits (short_input k)) taken)), writes_nothing out),
        ))

-- Before the first byte, no byte is skipped and no byte is consumed.
pub begins : (p : SkippedBytes) (has : Has) → has [] [] → HasPassed p has p.bytes [] []
begins p has there = record {
  passed = [];
  rest = [];
  known = [];
  bytes_are = refl;
  output_are = refl;
  counted = omega arith;
  untaken = λ some. (refl, refl);
  there = there;
}

pub some_left : (n : ℕ) → (n ≡ 0 → ⊥) → 0 < n
some_left zero other = absurd (other refl)
some_left (suc n) other = omega arith

-- If a step fails because writing to `out` failed, then the run ends with a write fault.
pub feeds_fault : {A : Type 0} (c : Commands A) (a : A) (before new : Has) (buffered : List ℕ) (out : Change ByteState) (result : Result ℕ Error)
    → IsErrAnd result (λ h. h ≡ aborts.WriteFault)
    → ((bytes : List ℕ) (output : List Output) → before bytes output → AbortsIn c a bytes buffered output out aborts.WriteFault)
    → Feeds c a before new buffered out result
feeds_fault c a before new buffered out (Ok n) err error = absurd err
feeds_fault c a before new buffered out (Err h) err error =
    λ bytes output there. inl (subst (λ h. AbortsIn c a bytes buffered output out h) (sym err) (error bytes output there))

-- If bytes are copied and a skipped byte is written, then the output for the byte is written.
pub writes_byte : (copied : Bool) (b : ℕ) (out : Change ByteState) → copied ≡ true → Writes out (b ∷ [])
    → Writes out (passed_output copied (text_item (b ∷ []))).text
writes_byte true b out is write = write
writes_byte false b out is write = absurd (cc is)

pub writes_none : (copied : Bool) (b : ℕ) (o : ByteState) → copied ≡ false
    → Writes (change o o) (passed_output copied (text_item (b ∷ []))).text
writes_none true b o is = absurd (cc is)
writes_none false b o is = writes_nothing o
