-- If the tables of commands are exact, then the tables of the commands with `--skip` are exact.
use Rattle.std.proofs.Common.{◌≡◌, ◌+◌, ◌<◌, ◌≤◌, ℕ, Bool, true, false, List, [], ◌∷◌, ◌++◌, inl, inr, refl, sym, ap, ◌∙◌, subst, length, take, drop, length-append, arith, append_assoc}
use Rattle.std.proofs.lemmas.List.{take-append-drop, length-take-le}
use Rattle.std.proofs.lemmas.List.Elements.{All-drop}
use Rattle.std.specs.Prelude.{◌&&◌, if◌then◌else◌}
use Rattle.base_data.specs.model.Bytes.{AreBytes}
use Rattle.cli_spec.specs.declared.status.Status.TheVariants as statuses
use Rattle.cli_spec.specs.Outcome.{Request, status_of, Output, all_ok, Reply, outputs, exits, Replies, replies, ending_of}
use Rattle.cli_spec.specs.declared.exit.Exit.{Exit}
use Rattle.cli_spec.specs.declared.exit.Exit.TheVariants.{Short as short_input}
use Rattle.run_spec.specs.runs.Commands.{Item, text as text_item, Commands, Split, OutputsFirst, GoesOn, HaveExit}
use Rattle.run_spec.specs.runs.RunSpec.{HoldEnd}
use Rattle.run_spec.specs.exit_causes.Causes.{Tables, HaveExits, HaveEnds, AreExact}
use Rattle.opt_skip_only.specs.skip_spec.Skipping.{SkippedBytes, bytes_output, skipping}
use Rattle.opt_skip_only.specs.skip_spec.SkipTables.{skipping_tables}
use Rattle.opt_skip_only.proofs.skip_spec.PassedLemmas.{drop_first, byte_items, bytes_ok, byte_count, split, join_split, join_print, within_split, within_print, within_size, goes_on_after, goes_on_within}

ok_then : (w known all later : Bool) → w && known ≡ true → (known ≡ true → all ≡ later) → w && all ≡ later
ok_then true known all later fine next = next fine
ok_then false known all later fine next = absurd (cc fine)

pub all_ok_append : (known later : List Output) → all_ok known ≡ true → all_ok (known ++ later) ≡ all_ok later
all_ok_append [] later fine = refl
all_ok_append (s ∷ known) later fine =
    ok_then s.ok (all_ok known) (all_ok (known ++ later)) (all_ok later) fine (all_ok_append known later)

status_after : (known later : List Output) (last : Reply) → all_ok known ≡ true
    → (ending_of (replies (known ++ later) last)).status ≡ (ending_of (replies later last)).status
status_after known later (exits exit) fine = refl
status_after known later (outputs s) fine =
    ap (λ w. if w then statuses.AllOk else statuses.No)
    (ap all_ok (append_assoc known later (s ∷ [])) ∙ all_ok_append known (later ++ s ∷ []) fine)

module _ {A : Type 0} (passed_by : Request → SkippedBytes) (c : Commands A) (over : SkippedBytes) (a : A) where
  abbrev n : ℕ
  n = over.bytes

  abbrev after : Commands (SkippedBytes × A)
  after = skipping passed_by c

  goes_on : (items : List Item) (rest : List ℕ) → n ≤ length items → GoesOn after (over, a) items rest
      → GoesOn c a (drop n items) rest
  goes_on items rest few on = record {
    no_exit = λ exit at. on.no_exit exit (few, at);
    no_item = λ item more is. on.no_item item more (inr (few, is));
  }

  -- If there are at least `n` bytes, then the first `n` bytes have the length `n`.
  all_first : (bytes : List ℕ) → n ≤ length bytes → length (take n bytes) ≡ n
  all_first bytes few = length-take-le n bytes few

  first_after : (bytes : List ℕ) (items : List Item) (output : List Output) (rest : List ℕ) → n ≤ length bytes
      → OutputsFirst c a (drop n bytes) items output rest
      → OutputsFirst after (over, a) bytes (byte_items (take n bytes) ++ items) (bytes_output over.copied (take n bytes) ++ output) rest
  first_after bytes items output rest few first =
      let size = all_first bytes few in record {
        split = subst (λ b. Split after (over, a) [] b (byte_items (take n bytes) ++ items) rest) (take-append-drop n bytes)
            (join_split passed_by c over a (take n bytes) [] (drop n bytes) items rest (omega (arith, size)) first.split);
        all_print = join_print passed_by c over a (take n bytes) [] items output (omega (arith, size)) first.all_print;
      }

  -- ---- an exit reason

  pub stop_after : (bytes : List ℕ) (exit : Exit) → HaveExit after (over, a) bytes exit
      → (n ≤ length bytes) × HaveExit c a (drop n bytes) exit
  stop_after bytes exit h =
      let few = h.at.0 in
      let s = split passed_by c over a n [] bytes h.items h.output h.rest (omega arith) few h.first.split h.first.all_print in
      let left : drop n bytes ≡ s.left = ap (λ b. drop n b) s.bytes_are ∙ drop_first n s.passed s.left s.size in
      let others : drop n h.items ≡ s.others = ap (λ i. drop n i) s.items_are ∙ drop_first n s.firsts s.others s.count in
      let sizes = ap length s.bytes_are in
      let parts = length-append s.passed s.left in
      let size = s.size in (
        omega (arith, sizes, parts, size),
        subst (λ b. HaveExit c a b exit) (sym left) (record {
          items = s.others;
          output = s.later;
          rest = h.rest;
          first = record { split = s.splits; all_print = s.print };
          at = subst (λ i. c.Exits a i h.rest exit) others h.at.1;
        }),
      )

  pub exit_before : (bytes : List ℕ) (exit : Exit) → n ≤ length bytes → HaveExit c a (drop n bytes) exit
      → HaveExit after (over, a) bytes exit
  exit_before bytes exit few h =
      let firsts = byte_items (take n bytes) in
      let count : length firsts ≡ n = byte_count (take n bytes) ∙ all_first bytes few in
      let size = length-append firsts h.items in record {
        items = firsts ++ h.items;
        output = bytes_output over.copied (take n bytes) ++ h.output;
        rest = h.rest;
        first = first_after bytes h.items h.output h.rest few h.first;
        at = (
          omega (arith, size, count),
          subst (λ i. c.Exits a i h.rest exit) (sym (drop_first n firsts h.items count)) h.at,
        );
      }

  -- ---- an end

  -- If all bytes to skip were skipped, then the end of the input is the end for the commands.
  pub end_after : (bytes : List ℕ) (output : List Output) (last : Reply) (h : HoldEnd after (over, a) bytes output last)
      → n ≤ length h.items → c.Ends a (drop n h.items) h.rest last
      → (n ≤ length bytes) × ((later : List Output) × HoldEnd c a (drop n bytes) later last
      × ((ending_of (replies output last)).status ≡ (ending_of (replies later last)).status))
  end_after bytes output last h few ends =
      let s = split passed_by c over a n [] bytes h.items output h.rest (omega arith) few h.first.split h.first.all_print in
      let left : drop n bytes ≡ s.left = ap (λ b. drop n b) s.bytes_are ∙ drop_first n s.passed s.left s.size in
      let others : drop n h.items ≡ s.others = ap (λ i. drop n i) s.items_are ∙ drop_first n s.firsts s.others s.count in
      let sizes = ap length s.bytes_are in
      let parts = length-append s.passed s.left in
      let size = s.size in (
        omega (arith, sizes, parts, size),
        (
          s.later,
          subst (λ b. HoldEnd c a b s.later last) (sym left) (record {
            items = s.others;
            rest = h.rest;
            first = record { split = s.splits; all_print = s.print };
            goes_on = subst (λ i. GoesOn c a i h.rest) others (goes_on h.items h.rest few h.goes_on);
            ends = subst (λ i. c.Ends a i h.rest last) others ends;
          }),
          ap (λ s. (ending_of (replies s last)).status) s.output_are ∙ status_after s.known s.later last s.ok,
        ),
      )

  pub end_before : (bytes : List ℕ) (output : List Output) (last : Reply) → n ≤ length bytes
      → HoldEnd c a (drop n bytes) output last
      → HoldEnd after (over, a) bytes (bytes_output over.copied (take n bytes) ++ output) last
  end_before bytes output last few h =
      let firsts = byte_items (take n bytes) in
      let count : length firsts ≡ n = byte_count (take n bytes) ∙ all_first bytes few in
      let size = length-append firsts h.items in record {
        items = firsts ++ h.items;
        rest = h.rest;
        first = first_after bytes h.items output h.rest few h.first;
        goes_on = goes_on_after passed_by c over a firsts h.items h.rest count h.goes_on;
        ends = inr (
          omega (arith, size, count),
          subst (λ i. c.Ends a i h.rest last) (sym (drop_first n firsts h.items count)) h.ends,
        );
      }

  -- If the input ends while bytes remain to be skipped, then the input has fewer bytes than the
  -- option skips.
  pub short_after : (bytes : List ℕ) (output : List Output) (last : Reply) (h : HoldEnd after (over, a) bytes output last)
      → length h.items < n → length bytes < n
  short_after bytes output last h less = none h.rest refl where
    none : (rest : List ℕ) → h.rest ≡ rest → length bytes < n
    none [] e =
        let size = within_size passed_by c over a [] bytes h.items h.rest (omega (arith, less)) h.first.split in
        let empty = ap length e in omega (arith, size, empty, less)
    none (b ∷ more) e = absurd (h.goes_on.no_item (text_item (b ∷ [])) more
        (inl (less, record { byte = b; bytes_are = e; is = refl })))

  pub short_before : (bytes : List ℕ) → length bytes < n
      → HoldEnd after (over, a) bytes (bytes_output over.copied bytes) (exits (short_input (length bytes)))
  short_before bytes less =
      let count = byte_count bytes in record {
        items = byte_items bytes;
        rest = [];
        first = record {
          split = within_split passed_by c over a bytes [] (omega (arith, less));
          all_print = within_print passed_by c over a bytes [] (omega (arith, less));
        };
        goes_on = goes_on_within passed_by c over a bytes less;
        ends = inl (omega (arith, less, count), ap (λ k. exits (short_input k)) (sym count));
      }

module _ {A : Type 0} (passed_by : Request → SkippedBytes) (c : Commands A) (tables : Tables A) where
  pub have_exits : HaveExits c tables → HaveExits (skipping passed_by c) (skipping_tables tables)
  have_exits of_c (over, a) bytes status = (there, back) where
    there : (exit : Exit) × (status_of exit ≡ status) × HaveExit (skipping passed_by c) (over, a) bytes exit
        → (skipping_tables tables).ExitWith (over, a) bytes status
    there (exit, is, h) =
        let s = stop_after passed_by c over a bytes exit h in
        (s.0, (of_c a (drop over.bytes bytes) status).0 (exit, is, s.1))

    back : (skipping_tables tables).ExitWith (over, a) bytes status
        → (exit : Exit) × (status_of exit ≡ status) × HaveExit (skipping passed_by c) (over, a) bytes exit
    back (few, shown) =
        let s = (of_c a (drop over.bytes bytes) status).1 shown in
        (s.0, s.1, exit_before passed_by c over a bytes s.0 few s.2)

  pub have_ends : HaveEnds c tables → HaveEnds (skipping passed_by c) (skipping_tables tables)
  have_ends of_c (over, a) bytes status are_bytes = (there, back) where
    left_bytes : AreBytes (drop over.bytes bytes)
    left_bytes = All-drop (λ b. b < 256) over.bytes bytes are_bytes

    ended : (all : Replies) → (ending_of all).status ≡ status
        → (h : HoldEnd (skipping passed_by c) (over, a) bytes all.output all.last)
        → (skipping passed_by c).Ends (over, a) h.items h.rest all.last
        → (skipping_tables tables).EndWith (over, a) bytes status
    ended all is h (inl (less, last)) =
        let as_exit : (ending_of all).status ≡ statuses.Value =
        ap (λ l. (ending_of (replies all.output l)).status) last in
        inl (short_after passed_by c over a bytes all.output all.last h less, sym is ∙ as_exit)
    ended all is h (inr (few, ends)) =
        let e = end_after passed_by c over a bytes all.output all.last h few ends in
        inr (
          e.0,
          (of_c a (drop over.bytes bytes) status left_bytes).0
              (replies e.1.0 all.last, sym e.1.2 ∙ is, e.1.1),
        )

    there : (all : Replies) × ((ending_of all).status ≡ status) × HoldEnd (skipping passed_by c) (over, a) bytes all.output all.last
        → (skipping_tables tables).EndWith (over, a) bytes status
    there (all, is, h) = ended all is h h.ends

    back : (skipping_tables tables).EndWith (over, a) bytes status
        → (all : Replies) × ((ending_of all).status ≡ status) × HoldEnd (skipping passed_by c) (over, a) bytes all.output all.last
    back (inl (less, is)) = (
      replies (bytes_output over.copied bytes) (exits (short_input (length bytes))),
      sym is,
      short_before passed_by c over a bytes less,
    )
    back (inr (few, shown)) =
        let e = (of_c a (drop over.bytes bytes) status left_bytes).1 shown in (
          replies (bytes_output over.copied (take over.bytes bytes) ++ e.0.output) e.0.last,
          status_after (bytes_output over.copied (take over.bytes bytes)) e.0.output e.0.last
              (bytes_ok over.copied (take over.bytes bytes)) ∙ e.1,
          end_before passed_by c over a bytes e.0.output e.0.last few e.2,
        )

  pub exact : AreExact c tables → AreExact (skipping passed_by c) (skipping_tables tables)
  exact of_c = record {
    read = λ act. of_c.read act.1;
    exits = have_exits of_c.exits;
    ends = have_ends of_c.ends;
    bars = of_c.bars;
    bad_arguments = of_c.bad_arguments;
  }
