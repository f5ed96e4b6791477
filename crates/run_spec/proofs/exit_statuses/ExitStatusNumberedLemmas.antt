-- Outputs for values that depend on the values' numbers. Outputs of a list determine properties of
-- the values, and the properties determine outputs, also for values as items.
use Rattle.std.proofs.Common.{◌≡◌, ℕ, suc, Bool, true, false, List, [], ◌∷◌, ◌++◌, length, inl, inr, refl, sym, ap, ◌∙◌, subst}
use Rattle.std.specs.Prelude.{◌&&◌, ◌↔◌}
use Rattle.std.proofs.lemmas.Bool.{and_parts}
use Rattle.marshal_spec.specs.format.Stream.{EncodeAll}
use Rattle.marshal_spec.specs.format.Tree.{Tree}
use Rattle.cli_spec.specs.Outcome.{Output, all_ok, Language}
use Rattle.run_spec.specs.runs.Commands.{Item, value, Commands, AllPrint, OutputsFirst}
use Rattle.run_spec.specs.value_commands.Tasks.{items_of, IsFirstValue}
use Rattle.run_spec.proofs.value_commands.ValueCommandPrefixLemmas.{split_of, encoded_of}
use Rattle.run_spec.specs.exit_statuses.NumberedItems.{HoldsOfAll, HoldsOfSome}
use Rattle.run_spec.proofs.exit_statuses.ExitStatusItemLemmas.{one_more}
use Rattle.run_spec.proofs.exit_statuses.ExitStatusOutputLemmas.{and_false}

-- The outputs are those of the values, where `number` is the number of the first value.
abbrev pub AreOutput : (ℕ → Tree → Output → Type 0) → ℕ → List Tree → List Output → Type 0
AreOutput OutputOf number [] [] = Unit {0}
AreOutput OutputOf number [] (output ∷ more) = ⊥
AreOutput OutputOf number (tree ∷ trees) [] = ⊥
AreOutput OutputOf number (tree ∷ trees) (output ∷ more) =
    OutputOf number tree output × AreOutput OutputOf (suc number) trees more

-- The value has an output, and `ok` states whether the output is without errors.
abbrev pub HasOutput : (ℕ → Tree → Output → Type 0) → Bool → ℕ → Tree → Type 0
HasOutput OutputOf ok number tree = (output : Output) × OutputOf number tree output × (output.ok ≡ ok)

-- If a value has an output, then `Certified` holds for the value.
module _ (OutputOf : ℕ → Tree → Output → Type 0) (Certified : Bool → ℕ → Tree → Type 0)
    (holds : (ok : Bool) (number : ℕ) (tree : Tree) → HasOutput OutputOf ok number tree
    → Certified ok number tree) where
  abbrev HasSection : ℕ → Tree → Type 0
  HasSection number tree = (ok : Bool) × Certified ok number tree

  pub all_have :
      (k : ℕ) (trees : List Tree) (output : List Output) → AreOutput OutputOf k trees output
      → HoldsOfAll HasSection k trees
  all_have k [] [] h = tt
  all_have k [] (s ∷ output) h = absurd h
  all_have k (t ∷ trees) [] h = absurd h
  all_have k (t ∷ trees) (s ∷ output) (is, more) =
      ((s.ok, holds s.ok k t (s, is, refl)), all_have (suc k) trees output more)

  pub all_certified :
      (k : ℕ) (trees : List Tree) (output : List Output) → AreOutput OutputOf k trees output
      → all_ok output ≡ true → HoldsOfAll (Certified true) k trees
  all_certified k [] [] h e = tt
  all_certified k [] (s ∷ output) h e = absurd h
  all_certified k (t ∷ trees) [] h e = absurd h
  all_certified k (t ∷ trees) (s ∷ output) (is, more) e =
      let both = and_parts s.ok (all_ok output) e in
      (holds true k t (s, is, both.0), all_certified (suc k) trees output more both.1)

  pub some_wrong :
      (k : ℕ) (trees : List Tree) (output : List Output) → AreOutput OutputOf k trees output
      → all_ok output ≡ false → HoldsOfSome (Certified false) k trees
  some_wrong k [] [] h e = absurd (cc e)
  some_wrong k [] (s ∷ output) h e = absurd h
  some_wrong k (t ∷ trees) [] h e = absurd h
  some_wrong k (t ∷ trees) (s ∷ output) (is, more) e =
      by (some_wrong (suc k) trees output more) s.ok refl where
        by : (all_ok output ≡ false → HoldsOfSome (Certified false) (suc k) trees)
            → (w : Bool) → s.ok ≡ w → HoldsOfSome (Certified false) k (t ∷ trees)
        by later false at = inl (holds false k t (s, is, at))
        by later true at = inr (later (ap (λ w. w && all_ok output) (sym at) ∙ e))

-- If `Certified` holds for a value, then the value has an output.
module _ (OutputOf : ℕ → Tree → Output → Type 0) (Certified : Bool → ℕ → Tree → Type 0)
    (output_of : (ok : Bool) (number : ℕ) (tree : Tree) → Certified ok number tree
    → HasOutput OutputOf ok number tree) where
  abbrev HasSome : ℕ → Tree → Type 0
  HasSome number tree = (ok : Bool) × Certified ok number tree

  pub print_some :
      (k : ℕ) (trees : List Tree) → HoldsOfAll HasSome k trees
      → (output : List Output) × AreOutput OutputOf k trees output
  print_some k [] h = ([], tt)
  print_some k (t ∷ trees) ((ok, h), more) =
      let one = output_of ok k t h in
      let next = print_some (suc k) trees more in (one.0 ∷ next.0, (one.1, next.1))

  pub print_ok :
      (k : ℕ) (trees : List Tree) → HoldsOfAll (Certified true) k trees
      → (output : List Output) × AreOutput OutputOf k trees output × (all_ok output ≡ true)
  print_ok k [] h = ([], tt, refl)
  print_ok k (t ∷ trees) (h, more) =
      let one = output_of true k t h in
      let next = print_ok (suc k) trees more in (
        one.0 ∷ next.0,
        (one.1, next.1),
        ap (λ w. w && all_ok next.0) one.2 ∙ next.2,
      )

  pub print_wrong :
      (k : ℕ) (trees : List Tree) → HoldsOfAll HasSome k trees
      → HoldsOfSome (Certified false) k trees
      → (output : List Output) × AreOutput OutputOf k trees output × (all_ok output ≡ false)
  print_wrong k [] h wrong = absurd wrong
  print_wrong k (t ∷ trees) (first, more) (inl h) =
      let one = output_of false k t h in
      let next = print_some (suc k) trees more in
      (one.0 ∷ next.0, (one.1, next.1), ap (λ w. w && all_ok next.0) one.2)
  print_wrong k (t ∷ trees) ((ok, h), more) (inr wrong) =
      let one = output_of ok k t h in
      let next = print_wrong (suc k) trees more wrong in (
        one.0 ∷ next.0,
        (one.1, next.1),
        ap (λ w. one.0.ok && w) next.2 ∙ and_false one.0.ok,
      )

-- ---- values as items

module _ {D T E A : Type 0} (language : Language D T E) (limit : ℕ) (c : Commands A) (a : A)
    (first : (items : List Item) (bytes : List ℕ) (item : Item) (more : List ℕ)
    → c.IsFirst a items bytes item more ↔ IsFirstValue language limit bytes item more)
    (OutputOf : ℕ → Tree → Output → Type 0)
    (reports : (items : List Item) (tree : Tree) (output : Output)
    → c.Outputs a items (value tree) output ↔ OutputOf (length items) tree output) where
  print_of :
      (before : List Item) (k : ℕ) → length before ≡ k → (trees : List Tree) (output : List Output)
      → AreOutput OutputOf k trees output → AllPrint c a before (items_of trees) output
  print_of before k at [] [] h = tt
  print_of before k at [] (s ∷ output) h = absurd h
  print_of before k at (t ∷ trees) [] h = absurd h
  print_of before k at (t ∷ trees) (s ∷ output) (is, more) = (
    (reports before t s).1 (subst (λ n. OutputOf n t s) (sym at) is),
    print_of (before ++ value t ∷ []) (suc k) (one_more before (value t) k at) trees output more,
  )

  known_of :
      (before : List Item) (k : ℕ) → length before ≡ k → (trees : List Tree) (output : List Output)
      → AllPrint c a before (items_of trees) output → AreOutput OutputOf k trees output
  known_of before k at [] [] h = tt
  known_of before k at [] (s ∷ output) h = absurd h
  known_of before k at (t ∷ trees) [] h = absurd h
  known_of before k at (t ∷ trees) (s ∷ output) (known, more) = (
    subst (λ n. OutputOf n t s) at ((reports before t s).0 known),
    known_of (before ++ value t ∷ []) (suc k) (one_more before (value t) k at) trees output more,
  )

  -- If the first values have outputs, then the values as items have the outputs.
  pub values_first :
      (bytes : List ℕ) (trees : List Tree) (output : List Output) (rest : List ℕ)
      → EncodeAll limit bytes trees rest → AreOutput OutputOf 0 trees output
      → OutputsFirst c a bytes (items_of trees) output rest
  values_first bytes trees output rest encoded print = record {
    split = split_of language limit c a first [] bytes trees rest encoded;
    all_print = print_of [] 0 refl trees output print;
  }

  -- If the first items have outputs, then the items are values with the outputs.
  pub items_first :
      (bytes : List ℕ) (items : List Item) (output : List Output) (rest : List ℕ)
      → OutputsFirst c a bytes items output rest
      → (trees : List Tree) × (items ≡ items_of trees) × EncodeAll limit bytes trees rest
      × AreOutput OutputOf 0 trees output
  items_first bytes items output rest h =
      let s = encoded_of language limit c a first [] bytes items rest h.split in
      let print = subst (λ items. AllPrint c a [] items output) s.1 h.all_print in
      (s.0, s.1, s.2, known_of [] 0 refl s.0 output print)
