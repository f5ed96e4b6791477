-- Strictly increasing lists are determined by their elements.
use Rattle.std.proofs.Common.{ℕ, zero, suc, ◌<◌, ◌≡◌, ◌∙◌, ⊎_elim, List, [], ◌∷◌, refl, sym, subst, length, get_or, eqb, arith}
use Rattle.std.specs.Prelude.{Contains}
use Rattle.std.specs.Ordering.{nat_cmp}
use Rattle.std.specs.List.{dedup}
use Rattle.std.specs.List.Retain.{IsFiltered, DiffersFromLast}
use Rattle.std.specs.List.Sorted.{IsStrictlyIncreasing, IsSorted, IsPermutation}
use Rattle.std.proofs.lemmas.List.Filters.{dedup_is}
use Rattle.std.proofs.lemmas.List.Kept.{Contains-dedup_nat, Contains-from_dedup}
use Rattle.std.proofs.lemmas.List.Sorted.{Contains-permutation, IsPermutation-sym}
use Rattle.std.proofs.lemmas.Map.Keys.{IsStrictlyIncreasing-dedup, sorted_from_strictly_increasing, below_from_sorted}
use Rattle.base_data.proofs.model.Options.{Contains-first, Contains-later, Contains-none, Contains-cases}
use Rattle.types_table.specs.partition.Signature.{IsSetOf}

pub get_or_default : {X : Type 0} (xs : List X) (k : ℕ) (d e : X) → k < length xs → get_or xs k d ≡ get_or xs k e
get_or_default [] k d e within = absurd (omega arith)
get_or_default (x ∷ xs) zero d e within = refl
get_or_default (x ∷ xs) (suc k) d e within = get_or_default xs k d e (omega arith)

-- Each number of the list is below the numbers that follow the number in the list.
abbrev Rises : List ℕ → Type 0
Rises [] = Unit {0}
Rises (x ∷ xs) = ((y : ℕ) → Contains xs y → x < y) × Rises xs

rises_from : (xs : List ℕ) → ((i j : ℕ) → i < j → j < length xs → get_or xs i 0 < get_or xs j 0) → Rises xs
rises_from [] below = tt
rises_from (x ∷ xs) below = (
  λ y among. first y among,
  rises_from xs (λ i j before within. below (suc i) (suc j) (omega arith) (omega arith)),
) where
  first : (y : ℕ) → Contains xs y → x < y
  first y (k, within, is) =
      subst (λ z. x < z) (get_or_default xs k 0 y within ∙ is) (below 0 (suc k) (omega arith) (omega arith))

rises : (xs : List ℕ) → IsStrictlyIncreasing xs → Rises xs
rises xs increasing = rises_from xs (λ i j before within.
    below_from_sorted xs i j 0 (sorted_from_strictly_increasing xs increasing) before within)

same_first : (x y : ℕ) (xs ys : List ℕ) → Rises (x ∷ xs) → Rises (y ∷ ys) → Contains (y ∷ ys) x → Contains (x ∷ xs) y
    → x ≡ y
same_first x y xs ys up up' here there = ⊎_elim (λ is. sym is)
    (λ later. ⊎_elim (λ is. is) (λ later'. absurd (omega (arith, up'.0 x later, up.0 y later'))) (Contains-cases x xs y there))
    (Contains-cases y ys x here)

-- If two increasing lists begin with equal numbers, and one list includes the other, then inclusion
-- also holds for the lists without their first numbers.
rest_among : (x y : ℕ) (xs ys : List ℕ) → Rises (x ∷ xs) → x ≡ y → ((z : ℕ) → Contains (x ∷ xs) z → Contains (y ∷ ys) z)
    → (z : ℕ) → Contains xs z → Contains ys z
rest_among x y xs ys up same there z among = ⊎_elim (λ is. absurd (omega (arith, up.0 z among)))
    (λ later. later) (Contains-cases y ys z (there z (Contains-later x xs z among)))

same_rising : (xs ys : List ℕ) → Rises xs → Rises ys → ((z : ℕ) → Contains xs z → Contains ys z)
    → ((z : ℕ) → Contains ys z → Contains xs z) → xs ≡ ys
same_rising [] [] up up' there back = refl
same_rising [] (y ∷ ys) up up' there back = absurd (Contains-none y (back y (Contains-first y ys)))
same_rising (x ∷ xs) [] up up' there back = absurd (Contains-none x (there x (Contains-first x xs)))
same_rising (x ∷ xs) (y ∷ ys) up up' there back =
    let same : x ≡ y = same_first x y xs ys up up' (there x (Contains-first x xs)) (back y (Contains-first y ys)) in
    let rest : xs ≡ ys = same_rising xs ys up.1 up'.1 (rest_among x y xs ys up same there)
    (rest_among y x ys xs up' (sym same) back) in
    cc

-- If two lists have the same elements, then the set lists of the two lists are equal.
pub same_sets : (numbers others set other : List ℕ) → IsSetOf numbers set → IsSetOf others other
    → ((z : ℕ) → Contains numbers z → Contains others z) → ((z : ℕ) → Contains others z → Contains numbers z)
    → set ≡ other
same_sets numbers others set other one two there back =
    same_rising set other (rises set one.increasing) (rises other two.increasing)
    (λ z among. two.there z (there z (one.back z among))) (λ z among. one.there z (back z (two.back z among)))

-- Sorting a list and removing repeats gives the set list of the list.
pub is_set : (old sorted new : List ℕ) → IsPermutation old sorted → IsSorted nat_cmp sorted
    → IsFiltered (DiffersFromLast eqb) [] sorted new → IsSetOf old new
is_set old sorted new permutation in_order filtered = record {
  increasing = rw is (IsStrictlyIncreasing-dedup sorted in_order);
  there = λ x among. rw is (Contains-dedup_nat sorted x (Contains-permutation old sorted x permutation among));
  back = λ x among. Contains-permutation sorted old x (IsPermutation-sym old sorted permutation)
      (Contains-from_dedup eqb sorted x (subst (λ l. Contains l x) is among));
} where
  is : new ≡ dedup eqb sorted
  is = dedup_is eqb sorted new filtered
