-- The state of the search, as bytes are taken and stretches are written.
use Rattle.std.proofs.Common.{◌≡◌, ℕ, ◌+◌, ◌≤◌, Bool, true, List, [], ◌∷◌, ◌++◌, length, take, drop, Option, Result, Ok, Err, inr, refl, sym, ap, ◌∙◌, subst, append_assoc, append-nil, length-append, take-append-drop, take-take, arith}
use Rattle.std.proofs.lemmas.List.{length-take-le, take_all, drop_all}
use Rattle.std.specs.Prelude.{◌&&◌, IsErrAnd}
use Rattle.marshal_spec.specs.format.Prefix.{IsPrefix}
use Rattle.marshal_read.specs.declared.reader.Reader.{Reader}
use Rattle.marshal_read.specs.declared.returned_value.Value.{Value}
use Rattle.marshal_read.specs.Reader.{LeadsReader, Finishes}
use Rattle.base_io.specs.Sink.{Writes, WritesPart}
use Rattle.base_io.specs.StreamState.{ByteState, Change, change}
use Rattle.cli_spec.specs.Outcome.{Request, Output}
use Rattle.cli_spec.specs.declared.exit.Exit.TheVariants.{Memory as out_of_memory}
use Rattle.cli_errors.specs.declared.exit_line.Error.{Error}
use Rattle.cli_errors.specs.declared.exit_line.Error.TheVariants as aborts
use Rattle.run_spec.specs.runs.Account.{HaveNoExit}
use Rattle.run_spec.specs.runs.Commands.{Item, text, Split, OutputsFirst}
use Rattle.run_spec.proofs.runs.RunWriteLemmas.{writes_nothing}
use Rattle.run_spec.proofs.runs.RunValueLemmas.{all_ok-snoc}
use Rattle.run_loop.specs.work.Works.{ItemsStay, AreOutput, AbortsIn, WritesLast}
use Rattle.run_loop.proofs.work.WorkFirstLemmas.{first_stays, first_next}
use Rattle.cmd_scan.specs.found_positions.InputParts.{bytes_of, BeginNoValue, AreRefused}
use Rattle.cmd_scan.specs.found_positions.ValuePositions.{positions_of, line_of, lines_of}
use Rattle.cmd_scan.proofs.found_positions.FoundPositionOnceLemmas.{nothing_prefix}
use Rattle.cmd_scan.proofs.found_positions.SomeLemmas.{IsSettled, stretch_of}
use Rattle.cmd_scan.specs.sweep.Swept.{position_read, WritesParts, Takes}
use Rattle.cmd_scan.proofs.sweep.SweepNextLemmas.{value_part}
use Rattle.cmd_scan.proofs.sweep.SweepPartsLemmas.{rest_is}
use Rattle.cmd_scan.specs.spec.Searching.{bytes_in, IsFirstStretch, OutputsPositions, searching}
use Rattle.cmd_scan.proofs.spec.ScanSpecLawfulLemmas.{goes_on, lawful_at}
use Rattle.cmd_scan.proofs.spec.ScanSpecOutputLemmas.{bytes_in-snoc, output_of_stretch, all_fine}
use Rattle.cmd_scan.specs.declared.command.last.TakenBytes.{TakenBytes}
use Rattle.cmd_scan.specs.command.Last.{IsDecided, TakesBytes}
use Rattle.cmd_scan.specs.command.SearchOutput.{HasSearched, HasStretch, HasTaken, WritesNext}

module _ (limit_by : Request → Option ℕ) (limit : ℕ) where
  pub stretches_stay : ItemsStay (searching limit_by) limit
  stretches_stay = (lawful_at limit limit_by).item_stays

  pub begins :
      (held : List ℕ) (reader : Reader) → held ≡ [] → LeadsReader limit [] reader
      → HasSearched limit_by limit held reader 0 [] []
  begins held reader none leads = subst (λ h. HasSearched limit_by limit h reader 0 [] []) (sym none) (record {
    items = [];
    first = record { split = refl; all_print = tt };
    is_prefix = nothing_prefix limit;
    leads = leads;
    at_is = refl;
  })

  -- The bytes taken so far give no exit reason.
  abbrev pub holds :
      (held : List ℕ) (reader : Reader) (at : ℕ) (bytes : List ℕ) (output : List Output)
      → HasSearched limit_by limit held reader at bytes output
      → HaveNoExit (searching limit_by) limit bytes output
  holds held reader at bytes output h = record {
    items = h.items;
    rest = held;
    first = h.first;
    goes_on = goes_on limit limit_by h.items held h.is_prefix;
  }

  -- The lengths of the items and of the bytes after them add up to the length of all bytes.
  split_length :
      (before : List Item) (bytes : List ℕ) (items : List Item) (rest : List ℕ)
      → Split (searching limit_by) limit before bytes items rest
      → bytes_in items + length rest ≡ length bytes
  split_length before bytes [] rest same = omega (arith, ap length same)
  split_length before bytes (item ∷ items) rest (more, h, split) =
      let next = split_length (before ++ item ∷ []) more items rest split in
      let size = ap length h.bytes_are ∙ length-append (bytes_of h.parts) more in
      subst (λ i. bytes_in (i ∷ items) + length rest ≡ length bytes) (sym h.is)
      (omega (arith, next, size))

  pub room :
      (held : List ℕ) (at : ℕ) (bytes : List ℕ) (output : List Output) (items : List Item)
      → OutputsFirst (searching limit_by) limit bytes items output held → at ≡ bytes_in items
      → at + length held ≡ length bytes
  room held at bytes output items first is =
      let size = split_length [] bytes items held first.split in omega (arith, size, is)

  -- ---- the state without the reader

  -- The stretches in these bytes were taken, and `output` is their output. The held bytes are a
  -- prefix of a value. `at` bytes come before the held bytes.
  pub record HasKept (held : List ℕ) (at : ℕ) (bytes : List ℕ) (output : List Output) : Type 0 where
    pub items : List Item
    pub first : OutputsFirst (searching limit_by) limit bytes items output held
    pub is_prefix : IsPrefix limit held
    pub at_is : at ≡ bytes_in items

  pub kept_of :
      (held : List ℕ) (reader : Reader) (at : ℕ) (bytes : List ℕ) (output : List Output)
      → HasSearched limit_by limit held reader at bytes output → HasKept held at bytes output
  kept_of held reader at bytes output h =
      record { items = h.items; first = h.first; is_prefix = h.is_prefix; at_is = h.at_is }

  pub searched_of :
      (held : List ℕ) (reader : Reader) (at : ℕ) (bytes : List ℕ) (output : List Output)
      → HasKept held at bytes output → LeadsReader limit held reader
      → HasSearched limit_by limit held reader at bytes output
  searched_of held reader at bytes output h leads = record {
    items = h.items;
    first = h.first;
    is_prefix = h.is_prefix;
    leads = leads;
    at_is = h.at_is;
  }

  pub kept_holds :
      (held : List ℕ) (at : ℕ) (bytes : List ℕ) (output : List Output)
      → HasKept held at bytes output → HaveNoExit (searching limit_by) limit bytes output
  kept_holds held at bytes output h = record {
    items = h.items;
    rest = held;
    first = h.first;
    goes_on = goes_on limit limit_by h.items held h.is_prefix;
  }

  -- If the next bytes decide what the held bytes begin with, then the held bytes and the next bytes
  -- are a stretch.
  pub kept_stretch :
      (held : List ℕ) (at : ℕ) (bytes : List ℕ) (output : List Output) (more : List ℕ)
      → HasKept held at bytes output → IsDecided limit (held ++ more)
      → HasStretch limit_by limit (held ++ more) at (bytes ++ more) output
  kept_stretch held at bytes output more h decided = record {
    items = h.items;
    first = first_stays (searching limit_by) limit stretches_stay bytes h.items output held more h.first;
    decided = decided;
    at_is = h.at_is;
  }

  -- ---- bytes are taken

  module _ (held : List ℕ) (reader : Reader) (at : ℕ) (bytes : List ℕ) (output : List Output)
      (h : HasSearched limit_by limit held reader at bytes output) (more : List ℕ) where
    pub prefix_held :
        (new : Reader) → IsPrefix limit (held ++ more) → LeadsReader limit (held ++ more) new
        → HasSearched limit_by limit (held ++ more) new at (bytes ++ more) output
    prefix_held new prefix leads = record {
      items = h.items;
      first = first_stays (searching limit_by) limit stretches_stay bytes h.items output held more h.first;
      is_prefix = prefix;
      leads = leads;
      at_is = h.at_is;
    }

    pub stretch_held :
        IsDecided limit (held ++ more)
        → HasStretch limit_by limit (held ++ more) at (bytes ++ more) output
    stretch_held decided = record {
      items = h.items;
      first = first_stays (searching limit_by) limit stretches_stay bytes h.items output held more h.first;
      decided = decided;
      at_is = h.at_is;
    }

  -- The state after some of the buffered bytes are taken.
  pub some_taken :
      (held : List ℕ) (reader : Reader) (at : ℕ) (bytes : List ℕ) (output : List Output)
      → HasSearched limit_by limit held reader at bytes output
      → (buffered chunk : List ℕ) (m : ℕ) → m ≤ length buffered → chunk ≡ take m buffered
      → (new : Reader) (t : TakenBytes) → TakesBytes limit held chunk new t
      → (left : List ℕ) → left ≡ held ++ take t.bytes chunk
      → HasTaken limit_by limit left new at buffered bytes output t
  some_taken held reader at bytes output h buffered chunk m fits is new t takes left left_is =
      let size : length chunk ≡ m = ap length is ∙ length-take-le m buffered fits in
      let few : t.bytes ≤ m = let w = takes.within in omega (arith, w, size) in
      let same : take t.bytes chunk ≡ take t.bytes buffered =
      ap (take t.bytes) is ∙ take-take t.bytes m buffered few in
      let more = take t.bytes buffered in
      let held_is : held ++ take t.bytes chunk ≡ held ++ more = ap (λ b. held ++ b) same in
      let all : held ++ more ≡ left = sym (left_is ∙ held_is) in (
        takes.some,
        omega (arith, few, fits),
        λ e.
            let f = takes.more e in
            subst (λ l. HasSearched limit_by limit l new at (bytes ++ more) output) all
            (prefix_held held reader at bytes output h more new
            (subst (IsPrefix limit) held_is f.0) (subst (λ b. LeadsReader limit b new) held_is f.1)),
        λ e.
            subst (λ l. HasStretch limit_by limit l at (bytes ++ more) output) all
            (stretch_held held reader at bytes output h more
            (subst (IsDecided limit) held_is (takes.last e))),
      )

  -- ---- a stretch is written

  -- If parts are taken from a slice that equals the held bytes, then they are taken from the held
  -- bytes.
  pub taken_of :
      (None : List ℕ → Type 0) (held slice old write rest : List ℕ) (at n : ℕ) → slice ≡ held
      → old ≡ [] → Takes limit at slice old write None n rest → Takes limit at held [] write None n rest
  taken_of None held slice old write rest at n is none t =
      subst (λ o. Takes limit at held o write None n rest) none
      (subst (λ b. Takes limit at b old write None n rest) is t)

  pub parts_of :
      (held slice old write : List ℕ) (at : ℕ) → slice ≡ held → old ≡ []
      → WritesParts limit (BeginNoValue limit) at slice [] old write
      → WritesParts limit (BeginNoValue limit) at held [] [] write
  parts_of held slice old write at is none p =
      subst (λ o. WritesParts limit (BeginNoValue limit) at held [] o write) none
      (subst (λ b. WritesParts limit (BeginNoValue limit) at b [] old write) is p)

  module _ (held : List ℕ) (at : ℕ) (bytes : List ℕ) (output : List Output)
      (h : HasStretch limit_by limit held at bytes output)
      (write : List ℕ) (n : ℕ) (rest : List ℕ)
      (t : Takes limit at held [] write (AreRefused limit) n rest)
      (prefix : IsPrefix limit rest) where
    abbrev settled : IsSettled limit held
    settled = record {
      parts = t.0.parts;
      pending = rest;
      bytes_are = t.0.bytes_are;
      are = t.0.are;
      is_prefix = prefix;
    }

    abbrev stretch : IsFirstStretch limit held (text (bytes_of t.0.parts)) rest
    stretch = record {
      parts = t.0.parts;
      pending = rest;
      later = [];
      is = refl;
      more_is = sym (append-nil rest);
      bytes_are = t.0.bytes_are;
      stretch = stretch_of limit held h.decided.none
          (h.decided.prefix, h.decided.last, h.decided.bytes_are, h.decided.before) settled;
    }

    -- The output for the stretch.
    abbrev pub next_output : Output
    next_output = record {
      text = lines_of (positions_of (bytes_in h.items) t.0.parts);
      ok = true;
    }

    pub text_is : write ≡ next_output.text
    text_is = t.0.text_is ∙ ap (λ k. lines_of (positions_of k t.0.parts)) h.at_is

    first_output :
        OutputsFirst (searching limit_by) limit bytes (h.items ++ text (bytes_of t.0.parts) ∷ [])
        (output ++ next_output ∷ []) rest
    first_output =
        first_next (searching limit_by) limit bytes h.items output held (text (bytes_of t.0.parts)) rest
        next_output h.first stretch
        (output_of_stretch limit h.items held (text (bytes_of t.0.parts)) rest stretch)

    pub stretch_output : AreOutput (searching limit_by) limit bytes (output ++ next_output ∷ [])
    stretch_output = (h.items ++ text (bytes_of t.0.parts) ∷ [], rest, first_output)

    pub stretch_kept : HasKept rest (at + n) bytes (output ++ next_output ∷ [])
    stretch_kept = record {
      items = h.items ++ text (bytes_of t.0.parts) ∷ [];
      first = first_output;
      is_prefix = prefix;
      at_is = omega (arith, h.at_is, t.1, bytes_in-snoc h.items (bytes_of t.0.parts));
    }

    pub stretch_written :
        (reader : Reader) (left : List ℕ) (position : ℕ) → LeadsReader limit rest reader
        → left ≡ drop n held → position ≡ at + n
        → HasSearched limit_by limit left reader position bytes (output ++ next_output ∷ [])
    stretch_written reader left position leads is position_is =
        let same : rest ≡ left =
        sym (rest_is limit at held [] (AreRefused limit) write n rest t) ∙ sym is in
        subst (λ l. HasSearched limit_by limit l reader position bytes (output ++ next_output ∷ [])) same
        (record {
          items = h.items ++ text (bytes_of t.0.parts) ∷ [];
          first = first_output;
          is_prefix = prefix;
          leads = leads;
          at_is =
              omega (arith, position_is, h.at_is, t.1, bytes_in-snoc h.items (bytes_of t.0.parts));
        })

  -- ---- a value is written

  -- If the held bytes are one value, then the value is the only part.
  pub whole_taken :
      (held write : List ℕ) (at : ℕ) (value : Value) → Finishes limit held value
      → write ≡ [] ++ line_of (position_read at (length held) value)
      → Takes limit at held [] write (AreRefused limit) (length held) []
  whole_taken held write at value finishes line =
      let fits : length held ≤ length held = omega arith in
      let p = value_part limit at held [] write (length held) value fits
      (subst (λ b. Finishes limit b value) (sym (take_all (length held) held fits)) finishes) line in
      let none : p.1 ≡ [] =
      sym (rest_is limit at held [] (AreRefused limit) write (length held) p.1 p.2)
      ∙ drop_all (length held) held fits in
      subst (λ r. Takes limit at held [] write (AreRefused limit) (length held) r) none p.2

  -- ---- errors

  pub memory_next :
      {U : Type 0} (held : List ℕ) (reader : Reader) (at : ℕ) (bytes : List ℕ) (output : List Output)
      (o : ByteState) (result : Result U Error)
      → IsErrAnd result (λ e. e ≡ aborts.Exit out_of_memory)
      → WritesNext limit_by limit held reader at bytes output (change o o) result
  memory_next held reader at bytes output o (Ok u) is = absurd is
  memory_next held reader at bytes output o (Err e) is =
      subst (λ e. WritesNext {U = Unit {0}} limit_by limit held reader at bytes output (change o o) (Err e))
      (sym is) (refl, writes_nothing o)

  pub fault_next :
      {U : Type 0} (held : List ℕ) (reader : Reader) (at : ℕ) (bytes : List ℕ) (output : List Output)
      (out : Change ByteState) (next : Output)
      → AreOutput (searching limit_by) limit bytes (output ++ next ∷ []) → WritesPart out next.text
      → (result : Result U Error) → IsErrAnd result (λ e. e ≡ aborts.WriteFault)
      → WritesNext limit_by limit held reader at bytes output out result
  fault_next held reader at bytes output out next are part (Ok u) is = absurd is
  fault_next held reader at bytes output out next are part (Err e) is =
      subst (λ e. WritesNext {U = Unit {0}} limit_by limit held reader at bytes output out (Err e))
      (sym is) (next, are, part)

  module _ (held : List ℕ) (reader : Reader) (at : ℕ) (bytes : List ℕ) (output : List Output)
      (h : HasSearched limit_by limit held reader at bytes output) (buffered : List ℕ) where
    abbrev Aborts : Change ByteState → Error → Type 0
    Aborts out error = AbortsIn (searching limit_by) limit bytes buffered output out error

    pub memory_aborts : (o : ByteState) → Aborts (change o o) (aborts.Exit out_of_memory)
    memory_aborts o = (holds held reader at bytes output h, inr refl, writes_nothing o)

    -- If `WritesNext` fails at a stretch that ends within the buffered bytes, then the run ends
    -- with the error.
    pub next_aborts :
        (n : ℕ) (out : Change ByteState) (held' : List ℕ) (reader' : Reader) (at' : ℕ)
        (error : Error)
        → WritesNext {U = Unit {0}} limit_by limit held' reader' at' (bytes ++ take n buffered) output
        out (Err error)
        → Aborts out error
    next_aborts n out held' reader' at' (aborts.Exit exit) (memory, none) =
        (holds held reader at bytes output h, inr memory, none)
    next_aborts n out held' reader' at' aborts.WriteFault (next, (items, left, first), part) =
        let same : (bytes ++ take n buffered) ++ drop n buffered ≡ bytes ++ buffered =
        append_assoc bytes (take n buffered) (drop n buffered)
        ∙ ap (λ r. bytes ++ r) (take-append-drop n buffered) in
        let more = first_stays (searching limit_by) limit stretches_stay (bytes ++ take n buffered)
        items (output ++ next ∷ []) left (drop n buffered) first in (
          holds held reader at bytes output h,
          next,
          (
            items,
            left ++ drop n buffered,
            subst (λ b. OutputsFirst (searching limit_by) limit b items (output ++ next ∷ []) (left ++ drop n buffered))
                same more,
          ),
          part,
        )

    -- ---- the end

    module _ (write : List ℕ) (p : WritesParts limit (BeginNoValue limit) at held [] [] write) where
      abbrev final_output : Output
      final_output = record { text = write; ok = true }

      final_is : OutputsPositions limit h.items held final_output
      final_is = record {
        parts = p.parts;
        bytes_are = p.bytes_are ∙ append-nil (bytes_of p.parts);
        are = p.are;
        text_is = p.text_is ∙ ap (λ k. lines_of (positions_of k p.parts)) h.at_is;
        ok = refl;
      }

      abbrev Ends : Change ByteState → Result Bool Error → Type 0
      Ends out result = WritesLast (searching limit_by) limit output h.items held out result

      pub ends_written : (out : Change ByteState) → Writes out write → Ends out (Ok true)
      ends_written out writes = (
        final_output,
        final_is,
        sym (all_ok-snoc output final_output
            ∙ ap (λ w. w && true) (all_fine limit limit_by [] h.items output h.first.all_print)),
        writes,
      )

      pub ends_fault : (out : Change ByteState) → WritesPart out write → Ends out (Err aborts.WriteFault)
      ends_fault out part = (final_output, final_is, part)

    pub ends_memory :
        (o : ByteState) → WritesLast (searching limit_by) limit output h.items held (change o o)
        (Err (aborts.Exit out_of_memory))
    ends_memory o = (inr refl, writes_nothing o)

  -- ---- equal limits

  pub same_limit :
      (other : ℕ) (held : List ℕ) (reader : Reader) (at : ℕ) (bytes : List ℕ) (output : List Output)
      → other ≡ limit → HasSearched limit_by limit held reader at bytes output
      → HasSearched limit_by other held reader at bytes output
  same_limit other held reader at bytes output e h =
      subst (λ l. HasSearched limit_by l held reader at bytes output) (sym e) h
