-- Lemmas about the first items of an input. If more bytes follow, then the first items stay
-- unchanged. If one more item follows, then that item is appended to the first items.
use Rattle.std.proofs.Common.{◌≡◌, ℕ, List, [], ◌∷◌, ◌++◌, refl, sym, ap, subst, append-nil, append_assoc}
use Rattle.cli_spec.specs.Outcome.{Output}
use Rattle.run_spec.specs.runs.Commands.{Item, Commands, Split, AllPrint, OutputsFirst}
use Rattle.run_loop.specs.work.Works.{ItemsStay}

module _ {A : Type 0} (c : Commands A) (a : A) where
  split_stays :
      ItemsStay c a → (before : List Item) (bytes : List ℕ) (items : List Item) (rest later : List ℕ)
      → Split c a before bytes items rest → Split c a before (bytes ++ later) items (rest ++ later)
  split_stays stay before bytes [] rest later same = ap (λ b. b ++ later) same
  split_stays stay before bytes (item ∷ items) rest later (more, is, splits) = (
    more ++ later,
    stay before bytes item more later is,
    split_stays stay (before ++ item ∷ []) more items rest later splits,
  )

  -- If more bytes follow, then the first items keep their outputs.
  pub first_stays :
      ItemsStay c a → (bytes : List ℕ) (items : List Item) (output : List Output) (rest later : List ℕ)
      → OutputsFirst c a bytes items output rest
      → OutputsFirst c a (bytes ++ later) items output (rest ++ later)
  first_stays stay bytes items output rest later first =
      record { split = split_stays stay [] bytes items rest later first.split; all_print = first.all_print }

  split_next :
      (before : List Item) (bytes : List ℕ) (items : List Item) (rest : List ℕ) (item : Item) (more : List ℕ)
      → Split c a before bytes items rest → c.IsFirst a (before ++ items) rest item more
      → Split c a before bytes (items ++ item ∷ []) more
  split_next before bytes [] rest item more same is = (
    more,
    subst (λ i. c.IsFirst a i bytes item more) (append-nil before)
        (subst (λ b. c.IsFirst a (before ++ []) b item more) (sym same) is),
    refl,
  )
  split_next before bytes (first ∷ items) rest item more (after, is_first, splits) is = (
    after,
    is_first,
    split_next (before ++ first ∷ []) after items rest item more splits
        (subst (λ i. c.IsFirst a i rest item more) (sym (append_assoc before (first ∷ []) items)) is),
  )

  print_next :
      (before items : List Item) (output : List Output) (item : Item) (next : Output)
      → AllPrint c a before items output → c.Outputs a (before ++ items) item next
      → AllPrint c a before (items ++ item ∷ []) (output ++ next ∷ [])
  print_next before [] [] item next all outputs =
      (subst (λ b. c.Outputs a b item next) (append-nil before) outputs, tt)
  print_next before [] (known ∷ output) item next all outputs = absurd all
  print_next before (first ∷ items) [] item next all outputs = absurd all
  print_next before (first ∷ items) (known ∷ output) item next (is_known, all) outputs = (
    is_known,
    print_next (before ++ first ∷ []) items output item next all
        (subst (λ b. c.Outputs a b item next) (sym (append_assoc before (first ∷ []) items)) outputs),
  )

  -- If one more item follows the first items, then the output of the item is appended to the
  -- outputs.
  pub first_next :
      (bytes : List ℕ) (items : List Item) (output : List Output) (rest : List ℕ)
      (item : Item) (more : List ℕ) (next : Output)
      → OutputsFirst c a bytes items output rest → c.IsFirst a items rest item more
      → c.Outputs a items item next
      → OutputsFirst c a bytes (items ++ item ∷ []) (output ++ next ∷ []) more
  first_next bytes items output rest item more next first is outputs = record {
    split = split_next [] bytes items rest item more first.split is;
    all_print = print_next [] items output item next first.all_print outputs;
  }

  -- If there are no bytes and no outputs, then there are no items and no remaining bytes.
  pub none_first :
      (items : List Item) (rest : List ℕ) → OutputsFirst c a [] items [] rest
      → (items ≡ []) × (rest ≡ [])
  none_first [] rest first = (refl, sym first.split)
  none_first (item ∷ items) rest first = absurd first.all_print
