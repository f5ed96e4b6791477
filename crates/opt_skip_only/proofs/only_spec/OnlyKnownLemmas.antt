-- The outputs if one item is selected, compared with the outputs without the option.
use Rattle.std.proofs.Common.{◌≡◌, ◌+◌, ◌<◌, ◌≤◌, ℕ, zero, suc, Bool, List, [], ◌∷◌, ◌++◌, Option, Some, inl, inr, refl, sym, ap, ◌∙◌, subst, length, length-append, append_assoc, append-nil, arith}
use Rattle.cli_spec.specs.Outcome.{Request, Output, nothing_output}
use Rattle.run_spec.specs.runs.Commands.{Item, Commands, Split, AllPrint, OutputsFirst, GoesOn}
use Rattle.cli_spec.specs.declared.exit.Exit.{Exit}
use Rattle.opt_skip_only.specs.only_spec.OnlyCommand.{IsKnown, ExitsBy, only_command}
use Rattle.opt_skip_only.specs.only_spec.OnlyOutput.{output_of_one}

-- If one more item comes before the selected item, then the outputs grow by an empty output.
pub output_before : (k : ℕ) (known : List Output) (output : Output) → length known < k
    → output_of_one k (known ++ output ∷ []) ≡ output_of_one k known ++ nothing_output ∷ []
output_before zero [] output less = absurd (omega (arith, less))
output_before (suc k) [] output less = refl
output_before zero (s ∷ known) output less = absurd (omega (arith, less))
output_before (suc k) (s ∷ known) output less =
    ap (λ rest. nothing_output ∷ rest) (output_before k known output (omega (arith, less)))

pub output_at : (k : ℕ) (known : List Output) (output : Output) → length known ≡ k
    → output_of_one k (known ++ output ∷ []) ≡ output_of_one k known ++ output ∷ []
output_at zero [] output size = refl
output_at (suc k) [] output size = absurd (omega (arith, size))
output_at zero (s ∷ known) output size = absurd (omega (arith, size))
output_at (suc k) (s ∷ known) output size =
    ap (λ rest. nothing_output ∷ rest) (output_at k known output (omega (arith, size)))

module _ {A : Type 0} (c : Commands A) (k : ℕ) (a : A) where
  -- If the selected item exists, then there are `k + 1` items.
  pub known_count : (items : List Item) (ok : Bool) → IsKnown c k a items ok
      → length items ≡ suc k
  known_count items ok known =
      let size = ap length known.items_are ∙ length-append known.earlier (known.item ∷ []) in
      let number = known.number in omega (arith, size, number)

  pub known_past : (items : List Item) (ok : Bool) → IsKnown c k a items ok → length items ≤ k → ⊥
  known_past items ok known few =
      let count = known_count items ok known in omega (arith, count, few)

module _ {A : Type 0} (c : Commands A) (a : A) where
  -- The outputs for items are the outputs for all items but the last, followed by the output for
  -- the last item.
  pub print_prefix : (before items : List Item) (item : Item) (known : List Output)
      → AllPrint c a before (items ++ item ∷ []) known
      → (earlier : List Output) × AllPrint c a before items earlier
  print_prefix before [] item known print = ([], tt)
  print_prefix before (i ∷ items) item [] print = absurd print
  print_prefix before (i ∷ items) item (s ∷ known) (here, print) =
      let next = print_prefix (before ++ i ∷ []) items item known print in (s ∷ next.0, (here, next.1))

  pub print_then : (before items : List Item) (item : Item) (earlier : List Output) (output : Output)
      → AllPrint c a before items earlier → c.Outputs a (before ++ items) item output
      → AllPrint c a before (items ++ item ∷ []) (earlier ++ output ∷ [])
  print_then before [] item [] output print last =
      (subst (λ b. c.Outputs a b item output) (append-nil before) last, tt)
  print_then before [] item (s ∷ earlier) output print last = absurd print
  print_then before (i ∷ items) item [] output print last = absurd print
  print_then before (i ∷ items) item (s ∷ earlier) output (here, print) last = (
    here,
    print_then (before ++ i ∷ []) items item earlier output print
        (subst (λ b. c.Outputs a b item output) (sym (append_assoc before (i ∷ []) items)) last),
  )

  pub print_last : (before items : List Item) (known : List Output) (last : Output)
      → AllPrint c a before items (known ++ last ∷ [])
      → (earlier : List Item) × (item : Item) × (items ≡ earlier ++ item ∷ [])
      × (length earlier ≡ length known) × c.Outputs a (before ++ earlier) item last
  print_last before [] [] last print = absurd print
  print_last before [] (s ∷ known) last print = absurd print
  print_last before (i ∷ []) [] last (here, print) =
      ([], i, refl, refl, subst (λ b. c.Outputs a b i last) (sym (append-nil before)) here)
  print_last before (i ∷ j ∷ items) [] last (here, print) = absurd print
  print_last before (i ∷ items) (s ∷ known) last (here, print) =
      let n = print_last (before ++ i ∷ []) items known last print in
      let size = n.3 in (
        i ∷ n.0,
        n.1,
        ap (λ rest. i ∷ rest) n.2,
        omega (arith, size),
        subst (λ b. c.Outputs a b n.1 last) (append_assoc before (i ∷ []) n.0) n.4,
      )

  -- If there are `k + 1` outputs for the items, then the last item is the selected one.
  pub is_known : (k : ℕ) (items : List Item) (known : List Output) (last : Output) → length known ≡ k
      → AllPrint c a [] items (known ++ last ∷ []) → IsKnown c k a items last.ok
  is_known k items known last size print =
      let n = print_last [] items known last print in record {
        earlier = n.0;
        item = n.1;
        items_are = n.2;
        number = n.3 ∙ size;
        output = last;
        outputs = n.4;
        ok_is = refl;
      }

  -- If items have outputs, then there are as many items as outputs.
  pub print_count : (before items : List Item) (known : List Output) → AllPrint c a before items known
      → length items ≡ length known
  print_count before [] [] print = refl
  print_count before [] (s ∷ known) print = absurd print
  print_count before (item ∷ items) [] print = absurd print
  print_count before (item ∷ items) (s ∷ known) print =
      let next = print_count (before ++ item ∷ []) items known print.1 in omega (arith, next)

module _ {A : Type 0} (picked_by : Request → Option ℕ) (c : Commands A) (a : A) where
  abbrev one : Commands (Option ℕ × A)
  one = only_command picked_by c

  module _ (k : ℕ) where
    split_of_one : (before : List Item) (bytes : List ℕ) (items : List Item) (rest : List ℕ)
        → length before + length items ≤ suc k → Split c a before bytes items rest
        → Split one (Some k, a) before bytes items rest
    split_of_one before bytes [] rest few same = same
    split_of_one before bytes (item ∷ items) rest few (more, is, split) =
        let size = length-append before (item ∷ []) in (
          more,
          (omega (arith, few), is),
          split_of_one (before ++ item ∷ []) more items rest (omega (arith, few, size)) split,
        )

    print_of_one : (left : ℕ) (before items : List Item) (known : List Output)
        → left + length before ≡ k → length known ≤ suc left → AllPrint c a before items known
        → AllPrint one (Some k, a) before items (output_of_one left known)
    print_of_one left before [] [] size few print = tt
    print_of_one left before [] (s ∷ known) size few print = absurd print
    print_of_one left before (item ∷ items) [] size few print = absurd print
    print_of_one zero before (item ∷ []) (s ∷ []) size few (outputs, print) =
        (inr (omega (arith, size), outputs), tt)
    print_of_one zero before (item ∷ other ∷ items) (s ∷ []) size few (outputs, print) = absurd print
    print_of_one zero before (item ∷ items) (s ∷ t ∷ known) size few print =
        absurd (omega (arith, few))
    print_of_one (suc left) before (item ∷ items) (s ∷ known) size few (outputs, print) =
        let more = length-append before (item ∷ []) in (
          inl (omega (arith, size), s, outputs, refl),
          print_of_one left (before ++ item ∷ []) items known (omega (arith, size, more))
              (omega (arith, few)) print,
        )

    pub first_of_one : (bytes : List ℕ) (items : List Item) (known : List Output) (rest : List ℕ)
        → length known ≤ suc k → OutputsFirst c a bytes items known rest
        → OutputsFirst one (Some k, a) bytes items (output_of_one k known) rest
    first_of_one bytes items known rest few first =
        let size = print_count c a [] items known first.all_print in record {
          split = split_of_one [] bytes items rest (omega (arith, few, size)) first.split;
          all_print = print_of_one k [] items known (omega arith) few first.all_print;
        }

    -- If the run of the command continues up to the selected item, then the run with `--only`
    -- continues.
    pub on_up_to : (items : List Item) (rest : List ℕ) → length items ≤ k → GoesOn c a items rest
        → GoesOn one (Some k, a) items rest
    on_up_to items rest few on = record {
      no_exit = λ exit at. by exit at;
      no_item = λ item more first. on.no_item item more first.1;
    } where
      by : (exit : Exit) → ExitsBy c (Some k) a items rest exit → ⊥
      by exit (inl (few, at)) = on.no_exit exit at
      by exit (inr (ok, known, is)) = known_past c k a items ok known few

    -- ---- the converse

    pub split_back : (before : List Item) (bytes : List ℕ) (items : List Item) (rest : List ℕ)
        → Split one (Some k, a) before bytes items rest → Split c a before bytes items rest
    split_back before bytes [] rest same = same
    split_back before bytes (item ∷ items) rest (more, (few, is), split) =
        (more, is, split_back (before ++ item ∷ []) more items rest split)

    -- The outputs with `--only`, computed from outputs without `--only`.
    abbrev pub Would : ℕ → List Item → List Item → List Output → Type 0
    Would left before items output =
        (known : List Output) × AllPrint c a before items known × (output ≡ output_of_one left known)

    pub would : (left : ℕ) (before items : List Item) (output : List Output)
        → left + length before ≡ k → length items ≤ suc left
        → AllPrint one (Some k, a) before items output → Would left before items output
    would left before [] [] size few print = ([], tt, refl)
    would left before [] (s ∷ output) size few print = absurd print
    would left before (item ∷ items) [] size few print = absurd print
    would zero before (item ∷ []) (s ∷ []) size few (inl (less, known, outputs, is), print) =
        absurd (omega (arith, size, less))
    would zero before (item ∷ []) (s ∷ []) size few (inr (at, outputs), print) =
        (s ∷ [], (outputs, tt), refl)
    would zero before (item ∷ []) (s ∷ t ∷ output) size few (outputs, print) = absurd print
    would zero before (item ∷ other ∷ items) (s ∷ output) size few print =
        absurd (omega (arith, few))
    would (suc left) before (item ∷ items) (s ∷ output) size few (inl (less, known, outputs, is), print) =
        let more = length-append before (item ∷ []) in
        let next = would left (before ++ item ∷ []) items output (omega (arith, size, more))
        (omega (arith, few)) print in (
          known ∷ next.0,
          (outputs, next.1),
          ap (λ first. first ∷ output) is ∙ ap (λ rest. nothing_output ∷ rest) next.2,
        )
    would (suc left) before (item ∷ items) (s ∷ output) size few (inr (at, outputs), print) =
        absurd (omega (arith, size, at))
