-- The first values of the bytes and their outputs correspond to items and their outputs.
use Rattle.std.proofs.Common.{◌≡◌, ℕ, suc, ◌+◌, List, [], ◌∷◌, ◌++◌, length, refl, sym, ap, ◌∙◌, subst, length-append, arith}
use Rattle.std.specs.Prelude.{◌↔◌}
use Rattle.marshal_spec.specs.format.Stream.{EncodeAll}
use Rattle.marshal_spec.specs.format.Tree.{Tree}
use Rattle.cli_spec.specs.Outcome.{Output, Outputs, Language, ValueWork, Task}
use Rattle.run_spec.specs.runs.Commands.{Item, value, AllPrint, OutputsFirst}
use Rattle.run_spec.specs.value_commands.Tasks.{items_of, IsFirstValue, commands}
use Rattle.run_spec.proofs.value_commands.ValueCommandPrefixLemmas.{split_of, encoded_of}
use Rattle.run_spec.proofs.value_commands.ValueCommandItemLemmas.{items_once, items_more}

-- If a list has `k` items, then the list with one more item has `k + 1` items.
pub one_more : (before : List Item) (item : Item) (k : ℕ)
    → length before ≡ k → length (before ++ item ∷ []) ≡ suc k
one_more before item k at =
    let all : length (before ++ item ∷ []) ≡ length before + length (item ∷ []) =
    length-append before (item ∷ []) in
    omega arith

-- If items are values, then the items with one more value are the values with one more value.
items_on : (before : List Item) (earlier : List Tree) → before ≡ items_of earlier → (tree : Tree)
    → before ++ value tree ∷ [] ≡ items_of (earlier ++ tree ∷ [])
items_on before earlier at tree =
    ap (λ items. items ++ value tree ∷ []) at ∙ sym (items_more earlier tree)

module _ {D T E : Type 0} (language : Language D T E) where
  -- The outputs are those of the values that follow the values `earlier`.
  abbrev pub AreOutput : ValueWork T E → List Tree → List Tree → List Output → Type 0
  AreOutput work earlier [] [] = Unit {0}
  AreOutput work earlier [] (output ∷ more) = ⊥
  AreOutput work earlier (tree ∷ trees) [] = ⊥
  AreOutput work earlier (tree ∷ trees) (output ∷ more) =
      Outputs language work earlier tree output × AreOutput work (earlier ++ tree ∷ []) trees more

  module _ (a : Task T E) where
    -- The next item of the input is always a value.
    first : (items : List Item) (bytes : List ℕ) (item : Item) (more : List ℕ)
        → (commands language).IsFirst a items bytes item more
        ↔ IsFirstValue language a.limit bytes item more
    first items bytes item more = (λ h. h, λ h. h)

    print_of :
        (before : List Item) (earlier : List Tree) → before ≡ items_of earlier
        → (trees : List Tree) (output : List Output)
        → AreOutput a.work earlier trees output → AllPrint (commands language) a before (items_of trees) output
    print_of before earlier at [] [] h = tt
    print_of before earlier at [] (s ∷ output) h = absurd h
    print_of before earlier at (t ∷ trees) [] h = absurd h
    print_of before earlier at (t ∷ trees) (s ∷ output) (outputs, more) = (
      record { earlier = earlier; are = at; tree = t; is = refl; outputs = outputs },
      print_of (before ++ value t ∷ []) (earlier ++ t ∷ []) (items_on before earlier at t) trees output
          more,
    )

    known_of :
        (before : List Item) (earlier : List Tree) → before ≡ items_of earlier
        → (trees : List Tree) (output : List Output)
        → AllPrint (commands language) a before (items_of trees) output → AreOutput a.work earlier trees output
    known_of before earlier at [] [] h = tt
    known_of before earlier at [] (s ∷ output) h = absurd h
    known_of before earlier at (t ∷ trees) [] h = absurd h
    known_of before earlier at (t ∷ trees) (s ∷ output) (outputs, more) =
        let is : value t ≡ value outputs.tree = outputs.is in
        let same : outputs.tree ≡ t = cc is in
        let prefix = items_once outputs.earlier earlier (sym outputs.are ∙ at) in (
          subst (λ ts. Outputs language a.work ts t s) prefix
              (subst (λ tree. Outputs language a.work outputs.earlier tree s) same outputs.outputs),
          known_of (before ++ value t ∷ []) (earlier ++ t ∷ []) (items_on before earlier at t) trees
              output more,
        )

    -- If the first values have outputs, then the values as items have the outputs.
    pub outputs_first :
        (bytes : List ℕ) (trees : List Tree) (output : List Output) (rest : List ℕ)
        → EncodeAll a.limit bytes trees rest → AreOutput a.work [] trees output
        → OutputsFirst (commands language) a bytes (items_of trees) output rest
    outputs_first bytes trees output rest encoded print = record {
      split = split_of language a.limit (commands language) a first [] bytes trees rest encoded;
      all_print = print_of [] [] refl trees output print;
    }

    -- If the first items have outputs, then the items are values with the outputs.
    pub print_first :
        (bytes : List ℕ) (items : List Item) (output : List Output) (rest : List ℕ)
        → OutputsFirst (commands language) a bytes items output rest
        → (trees : List Tree) × (items ≡ items_of trees) × EncodeAll a.limit bytes trees rest
        × AreOutput a.work [] trees output
    print_first bytes items output rest h =
        let s = encoded_of language a.limit (commands language) a first [] bytes items rest h.split in
        let print = subst (λ items. AllPrint (commands language) a [] items output) s.1 h.all_print in
        (s.0, s.1, s.2, known_of [] [] refl s.0 output print)
