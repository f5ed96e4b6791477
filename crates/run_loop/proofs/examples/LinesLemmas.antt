-- Lemmas about the command that reads lines.
use Rattle.std.proofs.Common.{◌≡◌, ◌≢◌, ℕ, ◌<◌, true, List, [], ◌∷◌, ◌++◌, length, get_or, Ok, Err, inr, refl, sym, ap, ◌∙◌, subst, append_assoc, append-nil, arith}
use Rattle.std.specs.Prelude.{◌&&◌, ◌==◌, false}
use Rattle.cli_spec.specs.Outcome.{Output, nothing_output, outputs, all_ok}
use Rattle.cli_spec.specs.declared.exit.Exit.TheVariants.{Memory as out_of_memory}
use Rattle.base_io.specs.Sink.{Writes, WritesPart}
use Rattle.base_io.specs.StreamState.{ByteState, change}
use Rattle.cli_errors.specs.declared.exit_line.Error.TheVariants as aborts
use Rattle.run_spec.specs.runs.Account.{HaveNoExit}
use Rattle.run_spec.specs.runs.Commands.{text, OutputsFirst}
use Rattle.run_spec.proofs.runs.LengthLemmas.{prefix_byte}
use Rattle.run_spec.proofs.runs.RunLineLemmas.{broken}
use Rattle.run_spec.proofs.runs.RunWriteLemmas.{writes_nothing}
use Rattle.run_spec.proofs.runs.RunValueLemmas.{texts_of-one, all_ok-snoc}
use Rattle.run_loop.specs.work.Works.{ItemsStay, AbortsIn, Feeds, WritesLast}
use Rattle.run_loop.proofs.work.WorkFirstLemmas.{first_stays, first_next}
use Rattle.run_loop.specs.examples.SmallCommands.{IsUnbroken, fine, last_line, lines}
use Rattle.run_loop.specs.examples.TakenItems.{HasLines}

unbroken_next : (line : List ℕ) (b : ℕ) → IsUnbroken line → b ≢ 10 → IsUnbroken (line ++ b ∷ [])
unbroken_next [] b all other = (other, tt)
unbroken_next (first ∷ line) b (is, rest) other = (is, unbroken_next line b rest other)

pub lines_stay : ItemsStay lines tt
lines_stay items bytes item more later is = record {
  line = is.line;
  unbroken = is.unbroken;
  bytes_are = ap (λ b. b ++ later) is.bytes_are ∙ append_assoc is.line (10 ∷ more) later;
  is = is.is;
}

module _ (rest bytes : List ℕ) (output : List Output) (h : HasLines rest bytes output) where
  -- The consumed bytes do not end the run, because the bytes after the last line feed are no
  -- complete line.
  abbrev pub lines_hold : HaveNoExit lines tt bytes output
  lines_hold = record {
    items = h.items;
    rest = rest;
    first = h.first;
    goes_on = record {
      no_exit = λ exit s. s;
      no_item = λ item more is.
          broken is.line more (subst IsUnbroken is.bytes_are h.unbroken);
    };
  }

  -- If the next byte is no line feed, then the byte is appended to the buffered bytes.
  pub line_goes_on :
      (b : ℕ) → b ≢ 10 → HasLines (rest ++ b ∷ []) (bytes ++ b ∷ []) (output ++ [])
  line_goes_on b other = record {
    items = h.items;
    first = subst (λ s. OutputsFirst lines tt (bytes ++ b ∷ []) h.items s (rest ++ b ∷ []))
        (sym (append-nil output))
        (first_stays lines tt lines_stay bytes h.items output rest (b ∷ []) h.first);
    unbroken = unbroken_next rest b h.unbroken other;
    ok = ap all_ok (append-nil output) ∙ h.ok;
  }

  abbrev next : Output
  next = fine (rest ++ 10 ∷ [])

  -- If the next byte is a line feed, then the line ends, and the output of the line is appended to
  -- the outputs.
  line_output :
      (more : List ℕ)
      → OutputsFirst lines tt (bytes ++ 10 ∷ more) (h.items ++ text rest ∷ []) (output ++ next ∷ []) more
  line_output more =
      first_next lines tt (bytes ++ 10 ∷ more) h.items output (rest ++ 10 ∷ more) (text rest) more next
      (first_stays lines tt lines_stay bytes h.items output rest (10 ∷ more) h.first)
      (record { line = rest; unbroken = h.unbroken; bytes_are = refl; is = refl }) (rest, refl, refl)

  pub line_ends : HasLines [] (bytes ++ 10 ∷ []) (output ++ next ∷ [])
  line_ends = record {
    items = h.items ++ text rest ∷ [];
    first = line_output [];
    unbroken = tt;
    ok = all_ok-snoc output next ∙ ap (λ w. w && true) h.ok;
  }

  -- ---- the run ends

  pub lines_memory :
      (buffered : List ℕ) (o : ByteState)
      → AbortsIn lines tt bytes buffered output (change o o) (aborts.Exit out_of_memory)
  lines_memory buffered o =
      (lines_hold, inr refl, writes_nothing o)

  pub line_fault :
      (buffered more : List ℕ) (o q : ByteState) → buffered ≡ 10 ∷ more
      → WritesPart (change o q) next.text
      → AbortsIn lines tt bytes buffered output (change o q) aborts.WriteFault
  line_fault buffered more o q begins part = (
    lines_hold,
    next,
    (
      h.items ++ text rest ∷ [],
      more,
      subst (λ t. OutputsFirst lines tt (bytes ++ t) (h.items ++ text rest ∷ [])
          (output ++ next ∷ []) more) (sym begins) (line_output more),
    ),
    part,
  )

  -- ---- at the end

  pub lines_end_none :
      (o : ByteState) → rest ≡ []
      → (holds : HaveNoExit lines tt bytes output)
      × WritesLast lines tt output holds.items holds.rest (change o o) (Ok true)
  lines_end_none o none = (
    lines_hold,
    (
      nothing_output,
      ap (λ r. outputs (last_line r)) (sym none),
      sym (all_ok-snoc output nothing_output ∙ ap (λ w. w && true) h.ok),
      writes_nothing o,
    ),
  )

  last_is : 0 < length rest → last_line rest ≡ next
  last_is some = from rest some where
    from : (rest : List ℕ) → 0 < length rest → last_line rest ≡ fine (rest ++ 10 ∷ [])
    from [] some = absurd (omega arith)
    from (b ∷ rest) some = refl

  pub lines_end_some :
      (o q : ByteState) → 0 < length rest → Writes (change o q) next.text
      → (holds : HaveNoExit lines tt bytes output)
      × WritesLast lines tt output holds.items holds.rest (change o q) (Ok true)
  lines_end_some o q some write = (
    lines_hold,
    (
      next,
      ap (λ s. outputs s) (sym (last_is some)),
      sym (all_ok-snoc output next ∙ ap (λ w. w && true) h.ok),
      write,
    ),
  )

  pub lines_end_memory :
      (o : ByteState)
      → (holds : HaveNoExit lines tt bytes output)
      × WritesLast lines tt output holds.items holds.rest (change o o) (Err (aborts.Exit out_of_memory))
  lines_end_memory o = (lines_hold, (inr refl, writes_nothing o))

  pub lines_end_fault :
      (o q : ByteState) → 0 < length rest → WritesPart (change o q) next.text
      → (holds : HaveNoExit lines tt bytes output)
      × WritesLast lines tt output holds.items holds.rest (change o q) (Err aborts.WriteFault)
  lines_end_fault o q some part =
      (lines_hold, (next, ap (λ s. outputs s) (sym (last_is some)), part))

-- If the length of a list of bytes is not 0, then the length is positive.
pub some_left : (bytes : List ℕ) → false ≡ (length bytes == 0) → 0 < length bytes
some_left [] e = absurd (cc e)
some_left (b ∷ bytes) e = omega arith

-- ---- the next byte

module _ (rest kept buffered : List ℕ) (some : 0 < length buffered)
    (is_kept : kept ≡ rest ++ get_or buffered 0 0 ∷ []) where
  pub line_more :
      (o : ByteState) → get_or buffered 0 0 ≢ 10
      → Feeds lines tt (HasLines rest) (HasLines kept) buffered (change o o) (Ok 1)
  line_more o other = (
    omega arith,
    omega (arith, some),
    λ bytes output h. (
      [],
      omega arith,
      subst (λ t. HasLines kept (bytes ++ t) (output ++ [])) (sym (prefix_byte buffered some).2)
          (subst (λ k. HasLines k (bytes ++ get_or buffered 0 0 ∷ []) (output ++ [])) (sym is_kept)
          (line_goes_on rest bytes output h (get_or buffered 0 0) other)),
      writes_nothing o,
    ),
  )

  module _ (is_feed : get_or buffered 0 0 ≡ 10) (known : List ℕ) (is_known : known ≡ kept) where
    known_next : known ≡ rest ++ 10 ∷ []
    known_next = is_known ∙ (is_kept ∙ ap (λ b. rest ++ b ∷ []) is_feed)

    pub line_feeds :
        (cleared : List ℕ) → cleared ≡ [] → (o q : ByteState) → Writes (change o q) known
        → Feeds lines tt (HasLines rest) (HasLines cleared) buffered (change o q) (Ok 1)
    line_feeds cleared none o q write = (
      omega arith,
      omega (arith, some),
      λ bytes output h. (
        fine (rest ++ 10 ∷ []) ∷ [],
        omega arith,
        subst (λ t. HasLines cleared (bytes ++ t) (output ++ fine (rest ++ 10 ∷ []) ∷ []))
            (sym ((prefix_byte buffered some).2 ∙ ap (λ b. b ∷ []) is_feed))
            (subst (λ k. HasLines k (bytes ++ 10 ∷ []) (output ++ fine (rest ++ 10 ∷ []) ∷ [])) (sym none)
            (line_ends rest bytes output h)),
        subst (λ t. Writes (change o q) t) (known_next ∙ sym (texts_of-one (fine (rest ++ 10 ∷ [])))) write,
      ),
    )

    pub line_feeds_fault :
        (o q : ByteState) → WritesPart (change o q) known
        → (bytes : List ℕ) (output : List Output) → HasLines rest bytes output
        → AbortsIn lines tt bytes buffered output (change o q) aborts.WriteFault
    line_feeds_fault o q part bytes output h =
        let f = prefix_byte buffered some in
        line_fault rest bytes output h buffered f.0 o q (f.1 ∙ ap (λ b. b ∷ f.0) is_feed)
        (subst (λ t. WritesPart (change o q) t) known_next part)

-- Before the first byte, the state is valid.
pub lines_begin : (rest : List ℕ) → rest ≡ [] → HasLines rest [] []
lines_begin rest none = record {
  items = [];
  first = record { split = sym none; all_print = tt };
  unbroken = subst IsUnbroken (sym none) tt;
  ok = refl;
}
