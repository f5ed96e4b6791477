-- Invariants of loops over lists, stated by the remaining additions.
use Rattle.std.proofs.Common.{ℕ, ◌+◌, ◌<◌, ◌≤◌, ◌≡◌, ◌∙◌, List, [], ◌∷◌, ◌++◌, length, drop, get_or}
use Rattle.std.proofs.Common.{refl, sym, ap, subst, append_assoc}
use Rattle.std.proofs.lemmas.List.{append-nil, drop-drop, drop_more, drop_all}
use Rattle.types_spec.specs.types.Occurrence.{Placed, Occurrence}
use Rattle.types_resolve.specs.declared.occurrences.found_occurrences.FoundOccurrences.{FoundOccurrences}
use Rattle.types_resolve.specs.occurrences.CountedFile.{along, count_all}
use Rattle.types_resolve.specs.occurrences.FoundOccurrences.{AddsFound}
use Rattle.types_resolve.proofs.occurrences.OccurrenceFoundLemmas.{AddsFound-none, AddsFound-then}

-- The list of the remaining elements begins with the current element.
pub left_is :
    {X : Type 0} (xs : List X) (i : ℕ) (x : X) → i < length xs → x ≡ get_or xs i x
    → drop i xs ≡ x ∷ drop (i + 1) xs
left_is xs i x below read = drop_more xs i x below ∙ ap (λ y. y ∷ drop (i + 1) xs) (sym read)

-- If each element has an empty result, then the list has an empty result.
pub along_none :
    {X Y : Type 0} (count : X → ℕ) (ms : List ℕ) (xs : List X) → along {X = X} {Y = Y} count (λ at x. []) ms xs ≡ []
along_none count ms [] = refl
along_none count ms (x ∷ xs) = along_none count (drop (count x) ms) xs

-- The remaining elements add to the current result what completes the additions of all elements to
-- the first result. The marks after the remaining elements are the marks after all elements.
pub record Follows {X : Type 0} (count : X → ℕ) (rows : List ℕ → X → List (List Placed))
    (carrying : List ℕ → X → List ℕ) (seen : List ℕ → X → List Occurrence) (start : FoundOccurrences) (ms : List ℕ)
    (all : List X) (found : FoundOccurrences) (rest : List ℕ) (left : List X) : Type 0 where
  pub adds :
      (last : FoundOccurrences)
      → AddsFound found last (along count rows rest left) (along count carrying rest left) (along count seen rest left)
      → AddsFound start last (along count rows ms all) (along count carrying ms all) (along count seen ms all)
  pub rest_is : drop (count_all count left) rest ≡ drop (count_all count all) ms

-- The collected row of names, followed by the names of the remaining elements, is the row of all
-- elements.
pub record RowFollows {X : Type 0} (count : X → ℕ) (name : List ℕ → X → List Placed) (ms : List ℕ)
    (all : List X) (row : List Placed) (rest : List ℕ) (left : List X) : Type 0 where
  pub row_is : row ++ along count name rest left ≡ along count name ms all

pub RowFollows-next :
    {X : Type 0} (count : X → ℕ) (name : List ℕ → X → List Placed) (ms : List ℕ) (all : List X)
    (row row' : List Placed) (rest rest' : List ℕ) (x : X) (left : List X)
    → RowFollows count name ms all row rest (x ∷ left) → row' ≡ row ++ name rest x → rest' ≡ drop (count x) rest
    → RowFollows count name ms all row' rest' left
RowFollows-next count name ms all row row' rest rest' x left follows row_is rest_is = record {
  row_is = ap (λ l. l ++ along count name rest' left) row_is
      ∙ ap (λ l. (row ++ name rest x) ++ along count name l left) rest_is
      ∙ append_assoc row (name rest x) (along count name (drop (count x) rest) left)
      ∙ follows.row_is;
}

pub RowFollows-last :
    {X : Type 0} (count : X → ℕ) (name : List ℕ → X → List Placed) (ms : List ℕ) (all : List X)
    (row : List Placed) (rest : List ℕ) → RowFollows count name ms all row rest [] → row ≡ along count name ms all
RowFollows-last count name ms all row rest follows = sym (append-nil row) ∙ follows.row_is

pub RowFollows-step :
    {X : Type 0} (count : X → ℕ) (name : List ℕ → X → List Placed) (ms : List ℕ) (all : List X)
    (row row' : List Placed) (rest rest' : List ℕ) (x : X) (i : ℕ) → i < length all → x ≡ get_or all i x
    → RowFollows count name ms all row rest (drop i all) → row' ≡ row ++ name rest x → rest' ≡ drop (count x) rest
    → RowFollows count name ms all row' rest' (drop (i + 1) all)
RowFollows-step count name ms all row row' rest rest' x i below read follows row_is rest_is =
    RowFollows-next count name ms all row row' rest rest' x (drop (i + 1) all)
    (subst (RowFollows count name ms all row rest) (left_is all i x below read) follows) row_is rest_is

pub RowFollows-end :
    {X : Type 0} (count : X → ℕ) (name : List ℕ → X → List Placed) (ms : List ℕ) (all : List X)
    (row : List Placed) (rest : List ℕ) (i : ℕ) → length all ≤ i
    → RowFollows count name ms all row rest (drop i all) → row ≡ along count name ms all
RowFollows-end count name ms all row rest i past follows = RowFollows-last count name ms all row rest
    (subst (RowFollows count name ms all row rest) (drop_all i all past) follows)

module _ {X : Type 0} (count : X → ℕ) (rows : List ℕ → X → List (List Placed))
    (carrying : List ℕ → X → List ℕ) (seen : List ℕ → X → List Occurrence) (start : FoundOccurrences) (ms : List ℕ)
    (all : List X) where
  pub Follows-next :
      (found found' : FoundOccurrences) (rest rest' : List ℕ) (x : X) (left : List X)
      → Follows count rows carrying seen start ms all found rest (x ∷ left)
      → AddsFound found found' (rows rest x) (carrying rest x) (seen rest x) → rest' ≡ drop (count x) rest
      → Follows count rows carrying seen start ms all found' rest' left
  Follows-next found found' rest rest' x left follows step is =
      let next = drop (count x) rest in
      subst (λ l. Follows count rows carrying seen start ms all found' l left) (sym is) (record {
        adds = λ last h. follows.adds last (AddsFound-then found found' last
            (rows rest x) (along count rows next left) (carrying rest x) (along count carrying next left)
            (seen rest x) (along count seen next left) step h);
        rest_is = drop-drop (count_all count left) (count x) rest ∙ follows.rest_is;
      })

  pub Follows-last :
      (found : FoundOccurrences) (rest : List ℕ) → Follows count rows carrying seen start ms all found rest []
      → AddsFound start found (along count rows ms all) (along count carrying ms all) (along count seen ms all)
  Follows-last found rest follows = follows.adds found (AddsFound-none found)

  pub Follows-step :
      (found found' : FoundOccurrences) (rest rest' : List ℕ) (x : X) (i : ℕ) → i < length all → x ≡ get_or all i x
      → Follows count rows carrying seen start ms all found rest (drop i all)
      → AddsFound found found' (rows rest x) (carrying rest x) (seen rest x) → rest' ≡ drop (count x) rest
      → Follows count rows carrying seen start ms all found' rest' (drop (i + 1) all)
  Follows-step found found' rest rest' x i below read follows step is =
      Follows-next found found' rest rest' x (drop (i + 1) all)
      (subst (Follows count rows carrying seen start ms all found rest) (left_is all i x below read) follows) step is

  pub Follows-end :
      (found : FoundOccurrences) (rest : List ℕ) (i : ℕ) → length all ≤ i
      → Follows count rows carrying seen start ms all found rest (drop i all)
      → AddsFound start found (along count rows ms all) (along count carrying ms all) (along count seen ms all)
  Follows-end found rest i past follows = Follows-last found rest
      (subst (Follows count rows carrying seen start ms all found rest) (drop_all i all past) follows)

-- If the elements add neither rows nor lexemes of constructors, then the invariant concerns
-- occurrences only.
pub Follows-plain :
    {X : Type 0} (count : X → ℕ) (seen : List ℕ → X → List Occurrence) (start : FoundOccurrences) (ms : List ℕ)
    (all : List X) (found : FoundOccurrences) (rest : List ℕ) (i : ℕ) → length all ≤ i
    → Follows count (λ at x. []) (λ at x. []) seen start ms all found rest (drop i all)
    → AddsFound start found [] [] (along count seen ms all)
Follows-plain count seen start ms all found rest i past follows =
    subst (λ rows. AddsFound start found rows [] (along count seen ms all)) (along_none count ms all)
    (subst (λ carrying. AddsFound start found (along count (λ at x. []) ms all) carrying (along count seen ms all))
    (along_none count ms all)
    (Follows-end count (λ at x. []) (λ at x. []) seen start ms all found rest i past follows))
