-- The items of an input whose first bytes are skipped: the skipped bytes, and then the items of the
-- bytes after the skipped bytes.
use Rattle.std.proofs.Common.{◌≡◌, ◌+◌, ◌<◌, ◌≤◌, ℕ, zero, suc, Bool, true, false, List, [], ◌∷◌, ◌++◌, inl, inr, refl, sym, ap, ◌∙◌, subst, length, drop, length-append, arith}
use Rattle.std.proofs.Math.Seq.{drop-append_seam}
use Rattle.std.proofs.lemmas.List.{drop-append-le}
use Rattle.std.specs.Prelude.{◌&&◌}
use Rattle.cli_spec.specs.Outcome.{Request, Output, all_ok}
use Rattle.cli_spec.specs.declared.exit.Exit.{Exit}
use Rattle.run_spec.specs.runs.Commands.{Item, value as value_item, text as text_item, Commands, Split, AllPrint, GoesOn}
use Rattle.opt_skip_only.specs.skip_spec.Skipping.{SkippedBytes, passed_output, bytes_output, skipping}

drop_none : (n : ℕ) (xs : List Item) → length xs ≤ n → drop n xs ≡ []
drop_none zero [] few = refl
drop_none (suc n) [] few = refl
drop_none zero (x ∷ xs) few = absurd (omega (arith, few))
drop_none (suc n) (x ∷ xs) few = drop_none n xs (omega (arith, few))

pub drop_first : {X : Type 0} (n : ℕ) (xs ys : List X) → length xs ≡ n → drop n (xs ++ ys) ≡ ys
drop_first n xs ys size = subst (λ k. drop k (xs ++ ys) ≡ ys) size (drop-append_seam xs ys)

passed_ok : (copied : Bool) (item : Item) → (passed_output copied item).ok ≡ true
passed_ok true (text_item bytes) = refl
passed_ok true (value_item tree) = refl
passed_ok false item = refl

-- The bytes, each as an item.
abbrev pub byte_items : List ℕ → List Item
byte_items [] = []
byte_items (b ∷ bytes) = text_item (b ∷ []) ∷ byte_items bytes

pub bytes_ok : (copied : Bool) (bytes : List ℕ) → all_ok (bytes_output copied bytes) ≡ true
bytes_ok copied [] = refl
bytes_ok copied (b ∷ bytes) =
    ap (λ w. w && all_ok (bytes_output copied bytes)) (passed_ok copied (text_item (b ∷ []))) ∙ bytes_ok copied bytes

pub bytes_output_more : (copied : Bool) (bytes : List ℕ) (b : ℕ)
    → bytes_output copied (bytes ++ b ∷ []) ≡ bytes_output copied bytes ++ passed_output copied (text_item (b ∷ [])) ∷ []
bytes_output_more copied [] b = refl
bytes_output_more copied (c ∷ bytes) b =
    ap (λ s. passed_output copied (text_item (c ∷ [])) ∷ s) (bytes_output_more copied bytes b)

pub byte_count : (bytes : List ℕ) → length (byte_items bytes) ≡ length bytes
byte_count [] = refl
byte_count (b ∷ bytes) = let next = byte_count bytes in omega (arith, next)

module _ {A : Type 0} (passed_by : Request → SkippedBytes) (c : Commands A) (over : SkippedBytes) (a : A) where
  abbrev n : ℕ
  n = over.bytes

  abbrev copied : Bool
  copied = over.copied

  abbrev after : Commands (SkippedBytes × A)
  after = skipping passed_by c

  one_more : (before : List Item) (item : Item) → n ≤ length before → n ≤ length (before ++ item ∷ [])
  one_more before item few = let size = length-append before (item ∷ []) in omega (arith, size, few)

  -- ---- all bytes were skipped before

  split_all : (before : List Item) (bytes : List ℕ) (items : List Item) (rest : List ℕ) → n ≤ length before
      → Split after (over, a) before bytes items rest → Split c a (drop n before) bytes items rest
  split_all before bytes [] rest few same = same
  split_all before bytes (item ∷ items) rest few (more, inl (less, p), splits) = absurd (omega (arith, few, less))
  split_all before bytes (item ∷ items) rest few (more, inr (few', is), splits) = (
    more,
    is,
    subst (λ b. Split c a b more items rest) (drop-append-le n before (item ∷ []) few)
        (split_all (before ++ item ∷ []) more items rest (one_more before item few) splits),
  )

  print_all : (before items : List Item) (output : List Output) → n ≤ length before
      → AllPrint after (over, a) before items output → AllPrint c a (drop n before) items output
  print_all before [] [] few print = print
  print_all before [] (s ∷ output) few print = print
  print_all before (item ∷ items) [] few print = print
  print_all before (item ∷ items) (s ∷ output) few (inl (less, is), print) = absurd (omega (arith, few, less))
  print_all before (item ∷ items) (s ∷ output) few (inr (few', is), print) = (
    is,
    subst (λ b. AllPrint c a b items output) (drop-append-le n before (item ∷ []) few)
        (print_all (before ++ item ∷ []) items output (one_more before item few) print),
  )

  split_back : (before : List Item) (bytes : List ℕ) (items : List Item) (rest : List ℕ) → n ≤ length before
      → Split c a (drop n before) bytes items rest → Split after (over, a) before bytes items rest
  split_back before bytes [] rest few same = same
  split_back before bytes (item ∷ items) rest few (more, is, splits) = (
    more,
    inr (few, is),
    split_back (before ++ item ∷ []) more items rest (one_more before item few)
        (subst (λ b. Split c a b more items rest) (sym (drop-append-le n before (item ∷ []) few)) splits),
  )

  print_back : (before items : List Item) (output : List Output) → n ≤ length before
      → AllPrint c a (drop n before) items output → AllPrint after (over, a) before items output
  print_back before [] [] few print = print
  print_back before [] (s ∷ output) few print = print
  print_back before (item ∷ items) [] few print = print
  print_back before (item ∷ items) (s ∷ output) few (is, print) = (
    inr (few, is),
    print_back (before ++ item ∷ []) items output (one_more before item few)
        (subst (λ b. AllPrint c a b items output) (sym (drop-append-le n before (item ∷ []) few)) print),
  )

  -- ---- some bytes remain to be skipped

  -- The bytes are `j` skipped bytes, followed by items of the commands.
  pub record Splits (j : ℕ) (bytes : List ℕ) (items : List Item) (output : List Output) (rest : List ℕ) : Type 0 where
    pub passed : List ℕ
    pub left : List ℕ
    pub bytes_are : bytes ≡ passed ++ left
    pub size : length passed ≡ j
    pub firsts : List Item
    pub others : List Item
    pub items_are : items ≡ firsts ++ others
    pub count : length firsts ≡ j
    pub known : List Output
    pub later : List Output
    pub output_are : output ≡ known ++ later
    pub ok : all_ok known ≡ true
    pub splits : Split c a [] left others rest
    pub print : AllPrint c a [] others later

  pub split : (j : ℕ) (before : List Item) (bytes : List ℕ) (items : List Item) (output : List Output) (rest : List ℕ)
      → j + length before ≡ n → j ≤ length items
      → Split after (over, a) before bytes items rest → AllPrint after (over, a) before items output → Splits j bytes items output rest
  split zero before bytes items output rest size few splits print =
      let all : n ≤ length before = omega (arith, size) in
      let none = drop_none n before (omega (arith, size)) in record {
        passed = [];
        left = bytes;
        bytes_are = refl;
        size = refl;
        firsts = [];
        others = items;
        items_are = refl;
        count = refl;
        known = [];
        later = output;
        output_are = refl;
        ok = refl;
        splits = subst (λ b. Split c a b bytes items rest) none (split_all before bytes items rest all splits);
        print = subst (λ b. AllPrint c a b items output) none (print_all before items output all print);
      }
  split (suc j) before bytes [] output rest size few splits print = absurd (omega (arith, few))
  split (suc j) before bytes (item ∷ items) [] rest size few splits print = absurd print
  split (suc j) before bytes (item ∷ items) (s ∷ output) rest size few (more, inr (all, is), splits) print =
      absurd (omega (arith, size, all))
  split (suc j) before bytes (item ∷ items) (s ∷ output) rest size few (more, inl (less, p), splits) (inr (all, is), print) =
      absurd (omega (arith, size, all))
  split (suc j) before bytes (item ∷ items) (s ∷ output) rest size few (more, inl (less, p), splits) (inl (less', is), print) =
      let along = length-append before (item ∷ []) in
      let next = split j (before ++ item ∷ []) more items output rest (omega (arith, along, size)) (omega (arith, few)) splits print in
      let sizes = next.size in
      let counts = next.count in record {
        passed = p.byte ∷ next.passed;
        left = next.left;
        bytes_are = p.bytes_are ∙ ap (λ b. p.byte ∷ b) next.bytes_are;
        size = omega (arith, sizes);
        firsts = item ∷ next.firsts;
        others = next.others;
        items_are = ap (λ i. item ∷ i) next.items_are;
        count = omega (arith, counts);
        known = s ∷ next.known;
        later = next.later;
        output_are = ap (λ l. s ∷ l) next.output_are;
        ok = ap (λ w. w && all_ok next.known) (ap (λ s. s.ok) is ∙ passed_ok copied item) ∙ next.ok;
        splits = next.splits;
        print = next.print;
      }

  pub join_split : (passed : List ℕ) (before : List Item) (left : List ℕ) (items : List Item) (rest : List ℕ)
      → length passed + length before ≡ n → Split c a [] left items rest
      → Split after (over, a) before (passed ++ left) (byte_items passed ++ items) rest
  join_split [] before left items rest size splits =
      let all : n ≤ length before = omega (arith, size) in
      let none = drop_none n before (omega (arith, size)) in
      split_back before left items rest all (subst (λ b. Split c a b left items rest) (sym none) splits)
  join_split (b ∷ passed) before left items rest size splits =
      let along = length-append before (text_item (b ∷ []) ∷ []) in (
        passed ++ left,
        inl (omega (arith, size), record { byte = b; bytes_are = refl; is = refl }),
        join_split passed (before ++ text_item (b ∷ []) ∷ []) left items rest (omega (arith, along, size)) splits,
      )

  pub join_print : (passed : List ℕ) (before items : List Item) (output : List Output)
      → length passed + length before ≡ n → AllPrint c a [] items output
      → AllPrint after (over, a) before (byte_items passed ++ items) (bytes_output copied passed ++ output)
  join_print [] before items output size print =
      let all : n ≤ length before = omega (arith, size) in
      let none = drop_none n before (omega (arith, size)) in
      print_back before items output all (subst (λ b. AllPrint c a b items output) (sym none) print)
  join_print (b ∷ passed) before items output size print =
      let along = length-append before (text_item (b ∷ []) ∷ []) in (
        inl (omega (arith, size), refl),
        join_print passed (before ++ text_item (b ∷ []) ∷ []) items output (omega (arith, along, size)) print,
      )

  -- If at most the bytes to skip were read, then the bytes are skipped bytes, each an item.
  pub within_split : (passed : List ℕ) (before : List Item) → length passed + length before ≤ n
      → Split after (over, a) before passed (byte_items passed) []
  within_split [] before few = refl
  within_split (b ∷ passed) before few =
      let along = length-append before (text_item (b ∷ []) ∷ []) in (
        passed,
        inl (omega (arith, few), record { byte = b; bytes_are = refl; is = refl }),
        within_split passed (before ++ text_item (b ∷ []) ∷ []) (omega (arith, along, few)),
      )

  pub within_print : (passed : List ℕ) (before : List Item) → length passed + length before ≤ n
      → AllPrint after (over, a) before (byte_items passed) (bytes_output copied passed)
  within_print [] before few = tt
  within_print (b ∷ passed) before few =
      let along = length-append before (text_item (b ∷ []) ∷ []) in (
        inl (omega (arith, few), refl),
        within_print passed (before ++ text_item (b ∷ []) ∷ []) (omega (arith, along, few)),
      )

  pub within_more : (passed more : List ℕ) (before : List Item) → length passed + length before ≤ n
      → Split after (over, a) before (passed ++ more) (byte_items passed) more
  within_more [] more before few = refl
  within_more (b ∷ passed) more before few =
      let along = length-append before (text_item (b ∷ []) ∷ []) in (
        passed ++ more,
        inl (omega (arith, few), record { byte = b; bytes_are = refl; is = refl }),
        within_more passed more (before ++ text_item (b ∷ []) ∷ []) (omega (arith, along, few)),
      )

  -- If the items and the earlier items are at most the bytes to skip, then each item is one byte.
  pub within_size : (before : List Item) (bytes : List ℕ) (items : List Item) (rest : List ℕ)
      → length items + length before ≤ n → Split after (over, a) before bytes items rest
      → length bytes ≡ length items + length rest
  within_size before bytes [] rest few same = let size = ap length same in omega (arith, size)
  within_size before bytes (item ∷ items) rest few (more, inr (all, is), splits) = absurd (omega (arith, few, all))
  within_size before bytes (item ∷ items) rest few (more, inl (less, p), splits) =
      let along = length-append before (item ∷ []) in
      let next = within_size (before ++ item ∷ []) more items rest (omega (arith, along, few)) splits in
      let size : length bytes ≡ length (p.byte ∷ more) = ap length p.bytes_are in
      omega (arith, next, size)

  -- ---- the run continues

  pub goes_on_after : (firsts items : List Item) (rest : List ℕ) → length firsts ≡ n → GoesOn c a items rest
      → GoesOn after (over, a) (firsts ++ items) rest
  goes_on_after firsts items rest count on = record {
    no_exit = λ exit at. on.no_exit exit (subst (λ i. c.Exits a i rest exit) (drop_first n firsts items count) at.1);
    no_item = λ item more is. no_item item more is;
  } where
    no_item : (item : Item) (more : List ℕ) → after.IsFirst (over, a) (firsts ++ items) rest item more → ⊥
    no_item item more (inl (less, p)) =
        let size = length-append firsts items in absurd (omega (arith, size, count, less))
    no_item item more (inr (few, is)) =
        on.no_item item more (subst (λ i. c.IsFirst a i rest item more) (drop_first n firsts items count) is)

  -- While bytes remain to be skipped, the run continues.
  pub goes_on_within : (passed : List ℕ) → length passed < n → GoesOn after (over, a) (byte_items passed) []
  goes_on_within passed less = record {
    no_exit = λ exit at. no_exit exit at;
    no_item = λ item more is. no_item item more is;
  } where
    no_exit : (exit : Exit) → after.Exits (over, a) (byte_items passed) [] exit → ⊥
    no_exit exit (all, at) = let count = byte_count passed in absurd (omega (arith, less, count, all))

    no_item : (item : Item) (more : List ℕ) → after.IsFirst (over, a) (byte_items passed) [] item more → ⊥
    no_item item more (inl (less', p)) = absurd (cc p.bytes_are)
    no_item item more (inr (all, is)) =
        let count = byte_count passed in absurd (omega (arith, less, count, all))
