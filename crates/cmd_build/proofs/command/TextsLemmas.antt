-- The lines so far, after one more chunk without a line feed, after one more line, and at the end.
use Rattle.std.proofs.Common.{◌≡◌, ℕ, suc, ◌+◌, ◌≤◌, true, List, [], ◌∷◌, ◌++◌, length, Result, Ok, Err, inl, inr, refl, sym, ap, ◌∙◌, subst, append_assoc, append-nil, length-append, arith}
use Rattle.std.specs.Prelude.{◌&&◌, IsErrAnd, take, drop}
use Rattle.cli_spec.specs.Outcome.{Output, all_ok}
use Rattle.cli_spec.specs.declared.exit.Exit.{Exit}
use Rattle.cli_spec.specs.declared.exit.Exit.TheVariants.{Text as text_line, Memory as out_of_memory}
use Rattle.base_io.specs.Sink.{Writes}
use Rattle.base_io.specs.StreamState.{ByteState, Change}
use Rattle.cli_errors.specs.declared.exit_line.Error.{Error}
use Rattle.cli_errors.specs.declared.exit_line.Error.TheVariants as aborts
use Rattle.run_spec.specs.runs.Account.{HaveNoExit}
use Rattle.run_spec.specs.runs.Commands.{Item, value, text, Split, OutputsFirst}
use Rattle.run_spec.proofs.runs.RunValueLemmas.{all_ok-snoc}
use Rattle.run_loop.specs.work.Works.{Has, ItemsStay, AbortsIn, WritesLast}
use Rattle.memchr.specs.Find.{Nowhere, Passes, is_byte}
use Rattle.std.proofs.lemmas.Bool.Decides.{Decides-eqb}
use Rattle.run_loop.proofs.work.WorkFirstLemmas.{first_stays, first_next}
use Rattle.run_types.specs.Language.{TypeOver, declared_types}
use Rattle.run_types.specs.RequestedTexts.{type_over}
use Rattle.run_types.specs.declared.requested.Prepared.{Prepared}
use Rattle.cmd_build.specs.spec.InputTexts.{Built, blank, made, refused, untyped, counted, IsUnbroken, IsLine, IsOutputOf, AreTexts, ExitsBy, building}
use Rattle.cmd_build.proofs.spec.BuildSpecLineLemmas.{line_stays}
use Rattle.cmd_build.proofs.spec.BuildSpecOutputLemmas.{fine_of}
use Rattle.cmd_build.proofs.spec.BuildSpecTableLemmas.{goes_on}
use Rattle.cmd_build.specs.command.InputLines.{declared_texts}
use Rattle.cmd_build.specs.command.LineSteps.{IsExitAt, AbortsAtLine, HasTexts, TakesLine}

abbrev texts_stay : (t : TypeOver) → ItemsStay (building declared_types declared_texts) t
texts_stay t items bytes item more later (line, is, same) =
    (line, line_stays bytes line more later is, same)

pub stay : (t : TypeOver) → ItemsStay (building declared_types declared_texts) t
stay t = texts_stay t

unbroken_all : (line more : List ℕ) → IsUnbroken line → IsUnbroken more → IsUnbroken (line ++ more)
unbroken_all [] more one two = two
unbroken_all (b ∷ line) more (other, rest) two = (other, unbroken_all line more rest two)

-- If one more line has a meaning, then the number of texts grows by the texts of the line.
texts_more :
    (t : TypeOver) (items : List Item) (n : ℕ) (line : List ℕ) (built : Built)
    → AreTexts declared_texts t items n → declared_texts t line built
    → AreTexts declared_texts t (items ++ text line ∷ []) (n + counted built)
texts_more t [] n line built none of =
    (built, of, 0, refl, ap (λ n. n + counted built) none ∙ add_both (counted built)) where
      add_both : (k : ℕ) → 0 + k ≡ k + 0
      add_both k = omega arith
texts_more t (value tree ∷ items) n line built h of = absurd h
texts_more t (text first ∷ items) n line built (is, first_of, more, texts, e) of =
    let next = texts_more t items more line built texts of in (
      is,
      first_of,
      more + counted built,
      next,
      ap (λ n. n + counted built) e ∙ grouped (counted is) more (counted built),
    ) where
      grouped : (a b c : ℕ) → (a + b) + c ≡ a + (b + c)
      grouped a b c = omega arith

length_snoc : (items : List Item) (item : Item) → length (items ++ item ∷ []) ≡ length items + 1
length_snoc items item = length-append items (item ∷ [])

-- If a line ends the run, then the exit reason has the numbers of the line and of the text.
pub exits_by :
    (t : TypeOver) (items : List Item) (lines k : ℕ) (built : Built) (exit : Exit)
    → lines ≡ length items → AreTexts declared_texts t items k
    → IsExitAt (lines + 1) k built exit → ExitsBy declared_texts t items built exit
exits_by t items lines k blank exit counts texts h = absurd h
exits_by t items lines k (made bytes) exit counts texts h = absurd h
exits_by t items lines k (refused refusal) exit counts texts h =
    h ∙ ap (λ n. text_line n (refusal n)) (next lines (length items) counts) where
      next : (a b : ℕ) → a ≡ b → a + 1 ≡ suc b
      next a b e = omega (arith, e)
exits_by t items lines k (untyped fault) exit counts texts h = (k, texts, h)

-- ---- there are no more lines than bytes

split_long :
    (t : TypeOver) (before : List Item) (bytes : List ℕ) (items : List Item) (rest : List ℕ)
    → Split (building declared_types declared_texts) t before bytes items rest
    → length items + length rest ≤ length bytes
split_long t before bytes [] rest same = let e = ap length same in omega (arith, e)
split_long t before bytes (item ∷ items) rest (more, (line, is, e), split) =
    let next = split_long t (before ++ item ∷ []) more items rest split in
    let size : length bytes ≡ length line + length (10 ∷ more) =
    ap length is.bytes_are ∙ length-append line (10 ∷ more) in
    omega (arith, next, size)

few_texts :
    (t : TypeOver) (items : List Item) (n : ℕ) → AreTexts declared_texts t items n
    → n ≤ length items
few_texts t [] n none = omega (arith, none)
few_texts t (value tree ∷ items) n h = absurd h
few_texts t (text line ∷ items) n (built, of, more, texts, e) =
    let next = few_texts t items more texts in
    let one : counted built ≤ 1 = at_most_one built in omega (arith, next, one, e) where
      at_most_one : (built : Built) → counted built ≤ 1
      at_most_one blank = omega arith
      at_most_one (made bytes) = omega arith
      at_most_one (refused refusal) = omega arith
      at_most_one (untyped fault) = omega arith

module _ (r : Prepared) (held : List ℕ) (lines texts : ℕ) (bytes : List ℕ) (output : List Output)
    (h : HasTexts r held lines texts bytes output) where
  -- The bytes after the last line feed are no complete line, and the bytes so far contain no exit
  -- reason.
  abbrev pub texts_hold : HaveNoExit (building declared_types declared_texts) (type_over r) bytes output
  texts_hold = record {
    items = h.items;
    rest = held;
    first = h.first;
    goes_on = goes_on declared_types declared_texts (type_over r) h.items held h.unbroken;
  }

  pub lines_few : lines ≤ length bytes
  lines_few =
      let long = split_long (type_over r) [] bytes h.items held h.first.split in
      let e = h.counted in omega (arith, long, e)

  pub texts_few : texts ≤ length bytes
  texts_few =
      let long = split_long (type_over r) [] bytes h.items held h.first.split in
      let few = few_texts (type_over r) h.items texts h.are_texts in omega (arith, long, few)

  -- If a chunk has no line feed, then the chunk is appended to the buffered bytes.
  pub texts_go_on :
      (chunk kept : List ℕ) → IsUnbroken chunk → kept ≡ held ++ chunk
      → HasTexts r kept lines texts (bytes ++ chunk) (output ++ [])
  texts_go_on chunk kept unbroken is = record {
    ready = h.ready;
    items = h.items;
    first = subst (λ s. OutputsFirst (building declared_types declared_texts) (type_over r)
        (bytes ++ chunk) h.items s kept) (sym (append-nil output))
        (subst (OutputsFirst (building declared_types declared_texts) (type_over r) (bytes ++ chunk)
        h.items output) (sym is)
        (first_stays (building declared_types declared_texts) (type_over r) (stay (type_over r))
        bytes h.items output held chunk h.first));
    unbroken = subst IsUnbroken (sym is) (unbroken_all held chunk h.unbroken unbroken);
    counted = h.counted;
    are_texts = h.are_texts;
    ok = ap all_ok (append-nil output) ∙ h.ok;
  }

  module _ (end : List ℕ) (unbroken : IsUnbroken end) where
    -- The buffered bytes and `end` are a line, followed by a line feed and the bytes `more`.
    abbrev whole_line : (more : List ℕ) → IsLine (held ++ (end ++ 10 ∷ more)) (held ++ end) more
    whole_line more = record {
      unbroken = unbroken_all held end h.unbroken unbroken;
      bytes_are = sym (append_assoc held end (10 ∷ more));
    }

    line_output :
        (more : List ℕ) (built : Built) (next : Output) → declared_texts (type_over r) (held ++ end) built
        → IsOutputOf built next
        → OutputsFirst (building declared_types declared_texts) (type_over r)
        (bytes ++ (end ++ 10 ∷ more)) (h.items ++ text (held ++ end) ∷ []) (output ++ next ∷ []) more
    line_output more built next of is =
        first_next (building declared_types declared_texts) (type_over r)
        (bytes ++ (end ++ 10 ∷ more)) h.items output (held ++ (end ++ 10 ∷ more))
        (text (held ++ end)) more next
        (first_stays (building declared_types declared_texts) (type_over r) (stay (type_over r))
        bytes h.items output held (end ++ 10 ∷ more) h.first)
        (held ++ end, whole_line more, refl) (held ++ end, refl, built, of, is)

    -- If the output for a line was written, then the line is taken.
    pub line_taken :
        (built : Built) (next : Output) (after lines' : ℕ)
        → declared_texts (type_over r) (held ++ end) built → IsOutputOf built next
        → after ≡ texts + counted built → lines' ≡ lines + 1
        → HasTexts r [] lines' after (bytes ++ (end ++ 10 ∷ [])) (output ++ next ∷ [])
    line_taken built next after lines' of is counts one_more = record {
      ready = h.ready;
      items = h.items ++ text (held ++ end) ∷ [];
      first = line_output [] built next of is;
      unbroken = tt;
      counted = one_more ∙ (ap (λ n. n + 1) h.counted ∙ sym (length_snoc h.items (text (held ++ end))));
      are_texts = subst (AreTexts declared_texts (type_over r) (h.items ++ text (held ++ end) ∷ []))
          (sym counts)
          (texts_more (type_over r) h.items texts (held ++ end) built h.are_texts of);
      ok = all_ok-snoc output next
          ∙ (ap (λ w. w && next.ok) h.ok
          ∙ (fine_of declared_texts (type_over r) (held ++ end) built next of is).1);
    }

    -- Case: memory ran out at the line.
    pub line_memory :
        (more : List ℕ) (out : Change ByteState) (exit : Exit) → exit ≡ out_of_memory
        → Writes out []
        → AbortsIn (building declared_types declared_texts) (type_over r) bytes (end ++ 10 ∷ more)
        output out (aborts.Exit exit)
    line_memory more out exit is write = (texts_hold, inr is, write)

    -- Case: the line causes an error.
    pub line_aborts :
        (more line : List ℕ) (number : ℕ) (out : Change ByteState) (error : Error)
        → line ≡ held ++ end → number ≡ lines + 1
        → AbortsAtLine (type_over r) line number texts out error
        → AbortsIn (building declared_types declared_texts) (type_over r) bytes (end ++ 10 ∷ more)
        output out error
    line_aborts more line number out (aborts.Exit exit) same numbered (inl memory, write) =
        line_memory more out exit memory write
    line_aborts more line number out (aborts.Exit exit) same numbered (inr (built, of, at), write) = (
      texts_hold,
      inl (
        held ++ end,
        more,
        whole_line more,
        built,
        subst (λ l. declared_texts (type_over r) l built) same of,
        exits_by (type_over r) h.items lines texts built exit h.counted h.are_texts
            (subst (λ n. IsExitAt n texts built exit) numbered at),
      ),
      write,
    )
    line_aborts more line number out aborts.WriteFault same numbered (built, of, next, is, part) = (
      texts_hold,
      next,
      (
        h.items ++ text (held ++ end) ∷ [],
        more,
        line_output more built next (subst (λ l. declared_texts (type_over r) l built) same of) is,
      ),
      part,
    )

  -- ---- at the end

  pub ends_ok :
      (built : Built) (final : Output) (out : Change ByteState)
      → declared_texts (type_over r) held built → IsOutputOf built final → Writes out final.text
      → (holds : HaveNoExit (building declared_types declared_texts) (type_over r) bytes output)
      × WritesLast (building declared_types declared_texts) (type_over r) output holds.items holds.rest
      out (Ok true)
  ends_ok built final out of is write = (
    texts_hold,
    (
      final,
      (built, of, is),
      sym (all_ok-snoc output final
          ∙ (ap (λ w. w && final.ok) h.ok
          ∙ (fine_of declared_texts (type_over r) held built final of is).1)),
      write,
    ),
  )

  pub ends_error_at :
      (number : ℕ) (out : Change ByteState) (error : Error) → number ≡ lines + 1
      → AbortsAtLine (type_over r) held number texts out error
      → (holds : HaveNoExit (building declared_types declared_texts) (type_over r) bytes output)
      × WritesLast (building declared_types declared_texts) (type_over r) output holds.items holds.rest
      out (Err error)
  ends_error_at number out (aborts.Exit exit) numbered (inl memory, write) =
      (texts_hold, (inr memory, write))
  ends_error_at number out (aborts.Exit exit) numbered (inr (built, of, at), write) = (
    texts_hold,
    (
      inl (
        built,
        of,
        exits_by (type_over r) h.items lines texts built exit h.counted h.are_texts
            (subst (λ n. IsExitAt n texts built exit) numbered at),
      ),
      write,
    ),
  )
  ends_error_at number out aborts.WriteFault numbered (built, of, final, is, part) =
      (texts_hold, (final, (built, of, is), part))

-- If a line causes an error, then `?` propagates the error.
pub takes_error :
    (t : TypeOver) (before after : Has) (end : List ℕ) (out : Change ByteState) (error : Error)
    (result : Result (Unit {0}) Error) → IsErrAnd result (λ e. e ≡ error)
    → ((more bytes : List ℕ) (output : List Output) → before bytes output
    → AbortsIn (building declared_types declared_texts) t bytes (end ++ 10 ∷ more) output out error)
    → TakesLine t before after end out result
takes_error t before after end out error (Ok unit) is aborts = absurd is
takes_error t before after end out error (Err e) is aborts =
    subst (λ e. TakesLine {U = Unit {0}} t before after end out (Err e)) (sym is) aborts

-- ---- the position of a line feed

-- If no byte is a line feed, then the bytes are unbroken.
pub unbroken_by :
    (bytes : List ℕ) → Nowhere (Passes (is_byte 10) bytes) 0 (length bytes) → IsUnbroken bytes
unbroken_by [] none = tt
unbroken_by (b ∷ bytes) none = (first, unbroken_by bytes later) where
  first : b ≡ 10 → ⊥
  first e = none 0 (omega arith) (omega arith) ((Decides-eqb b 10).1 e)

  later : Nowhere (Passes (is_byte 10) bytes) 0 (length bytes)
  later k low high is = none (suc k) (omega arith) (omega (arith, high)) is

-- The first line feed is at index `n`.
pub record IsFeedAt (bytes : List ℕ) (n : ℕ) : Type 0 where
  pub unbroken : IsUnbroken (take n bytes)
  pub within : n + 1 ≤ length bytes
  pub all : bytes ≡ take n bytes ++ 10 ∷ drop (n + 1) bytes
  pub prefix : take (n + 1) bytes ≡ take n bytes ++ 10 ∷ []
