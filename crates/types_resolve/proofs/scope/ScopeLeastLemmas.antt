-- Lemmas about the least of several positions, and about the least position over the items of a
-- list.
use Rattle.std.proofs.Common.{ℕ, ◌<◌, ◌≤◌, ◌+◌, ◌≡◌, ◌⊎◌, ⊎_elim, inl, inr, min, Option, Some, None}
use Rattle.std.proofs.Common.{List, Bool, true, false, length, get_or, refl, sym, ap, subst, arith, ◌∙◌}
use Rattle.std.specs.Prelude.{slice_get, Contains, IsTrue, ◌↔◌}
use Rattle.std.proofs.lemmas.Bool.{cases_lt, false≢true}
use Rattle.std.proofs.lemmas.Option.{same_Some}
use Rattle.std.proofs.lemmas.Option.{slice_get-get_or, get_or_from_slice_get, slice_get_read}
use Rattle.types_resolve.specs.scope.Least.{IsLeast, earliest, position_if}

pub least_same :
    (P Q : ℕ → Type 0) (o : Option ℕ) → IsLeast P o → ((k : ℕ) → P k → Q k)
    → ((k : ℕ) → Q k → P k) → IsLeast Q o
least_same P Q None least to from = λ k holds. least k (from k holds)
least_same P Q (Some k) least to from = (to k least.0, λ j before holds. least.1 j before (from j holds))

-- If the least position is `None`, then the property holds at no position.
pub least_none :
    (P : ℕ → Type 0) (o : Option ℕ) → o ≡ None → IsLeast P o → (k : ℕ) → ¬ P k
least_none P o is least = subst (IsLeast P) is least

pub least_of_either :
    (P Q : ℕ → Type 0) (a b : Option ℕ) → IsLeast P a → IsLeast Q b
    → IsLeast (λ k. P k ⊎ Q k) (earliest a b)
least_of_either P Q None None first second = λ k. ⊎_elim (first k) (second k)
least_of_either P Q None (Some k) first second =
    (inr second.0, λ i before. ⊎_elim (first i) (second.1 i before))
least_of_either P Q (Some j) None first second =
    (inl first.0, λ i before. ⊎_elim (first.1 i before) (second i))
least_of_either P Q (Some j) (Some k) first second = ⊎_elim
    (λ less. let e : min j k ≡ j = omega arith in
    subst (λ m. IsLeast (λ k. P k ⊎ Q k) (Some m)) (sym e)
    (inl first.0, λ i before. ⊎_elim (first.1 i before) (second.1 i (omega arith))))
    (λ more. let e : min j k ≡ k = omega arith in
    subst (λ m. IsLeast (λ k. P k ⊎ Q k) (Some m)) (sym e)
    (inr second.0, λ i before. ⊎_elim (first.1 i (omega arith)) (second.1 i before)))
    (cases_lt j k)

-- If a test decides a property of a single position, then `position_if` gives the least position.
pub least_if :
    (Q : Type 0) (test : Bool) (position : ℕ) → (IsTrue test → Q) → (Q → IsTrue test)
    → IsLeast (λ k. (position ≡ k) × Q) (position_if test position)
least_if Q true position to from =
    ((refl, to refl), λ j before here. let same : position ≡ j = here.0 in absurd (omega arith))
least_if Q false position to from = λ k here. absurd (false≢true (from here.1))

-- ---- items in order

-- `At` holds for position `k` at some index below `i`.
abbrev pub Before : (ℕ → ℕ → Type 0) → ℕ → ℕ → Type 0
Before At i k = (j : ℕ) × (j < i) × At j k

pub before_more :
    (At : ℕ → ℕ → Type 0) (i k : ℕ) → (Before At i k ⊎ At i k) ↔ Before At (i + 1) k
before_more At i k = (
  ⊎_elim (λ some. (some.0, (let less : some.0 < i = some.1 in omega arith), some.2))
      (λ last. (i, omega arith, last)),
  λ some. let less : some.0 < i + 1 = some.1 in ⊎_elim
      (λ before. inl (some.0, before, some.2))
      (λ last. let same : some.0 ≡ i = omega arith in inr (subst (λ j. At j k) same some.2))
      (cases_lt some.0 i),
)

pub least_more :
    (At : ℕ → ℕ → Type 0) (i : ℕ) (best found : Option ℕ) → IsLeast (Before At i) best
    → IsLeast (At i) found → IsLeast (Before At (i + 1)) (earliest best found)
least_more At i best found so_far here =
    least_same (λ k. Before At i k ⊎ At i k) (Before At (i + 1)) (earliest best found)
    (least_of_either (Before At i) (At i) best found so_far here)
    (λ k. (before_more At i k).0) (λ k. (before_more At i k).1)

module _ {X : Type 0} (xs : List X) (Holds : X → ℕ → Type 0) where
  -- `Holds` relates the item at index `j` to position `k`.
  abbrev pub AtItem : ℕ → ℕ → Type 0
  AtItem j k = (x : X) × (slice_get xs j ≡ Some x) × Holds x k

  pub least_at :
      (j : ℕ) (x : X) (found : Option ℕ) → slice_get xs j ≡ Some x → IsLeast (Holds x) found
      → IsLeast (AtItem j) found
  least_at j x found is least = least_same (Holds x) (AtItem j) found least
      (λ k holds. (x, is, holds))
      (λ k some. subst (λ y. Holds y k) (same_Some some.0 x (sym some.1 ∙ is)) some.2)

  pub before_end : (k : ℕ) → Before AtItem (length xs) k ↔ ((x : X) × Contains xs x × Holds x k)
  before_end k = (
    λ some. (some.2.0, (some.0, some.1, get_or_from_slice_get xs some.0 some.2.0 some.2.0 some.2.1), some.2.2),
    λ some. (some.1.0, some.1.1, (some.0, slice_get-get_or xs some.1.0 some.0 some.1.1 ∙ ap Some some.1.2, some.2)),
  )

  pub least_of_items :
      (best : Option ℕ) → IsLeast (Before AtItem (length xs)) best
      → IsLeast (λ k. (x : X) × Contains xs x × Holds x k) best
  least_of_items best least =
      least_same (Before AtItem (length xs)) (λ k. (x : X) × Contains xs x × Holds x k) best least
      (λ k. (before_end k).0) (λ k. (before_end k).1)

  -- The invariant of a loop over the items holds after one more iteration.
  pub more_items :
      (i : ℕ) (x : X) (best found next : Option ℕ) → i < length xs → x ≡ get_or xs i x
      → IsLeast (Before AtItem i) best → IsLeast (Holds x) found → next ≡ earliest best found
      → IsLeast (Before AtItem (i + 1)) next
  more_items i x best found next below read so_far here is =
      subst (IsLeast (Before AtItem (i + 1))) (sym is) (least_more AtItem i best found so_far
      (least_at i x found (slice_get_read xs (length xs) i x refl below read) here))

  -- At the end of a loop over the items, the best position is the least position over all items.
  pub all_items :
      (i : ℕ) (best : Option ℕ) → i ≤ length xs → length xs ≤ i → IsLeast (Before AtItem i) best
      → IsLeast (λ k. (x : X) × Contains xs x × Holds x k) best
  all_items i best le ge least = let e : i ≡ length xs = omega arith in
      least_of_items best (subst (λ n. IsLeast (Before AtItem n) best) e least)

-- The invariant of a loop that tests each item holds after one more iteration.
pub more_tested :
    {X : Type 0} (xs : List X) (position : X → ℕ) (Breaks : X → Type 0) (i : ℕ) (x : X)
    (best found next : Option ℕ) (test : Bool) → i < length xs → x ≡ get_or xs i x
    → IsLeast (Before (AtItem xs (λ y k. (position y ≡ k) × Breaks y)) i) best
    → (IsTrue test ↔ Breaks x) → found ≡ position_if test (position x) → next ≡ earliest best found
    → IsLeast (Before (AtItem xs (λ y k. (position y ≡ k) × Breaks y)) (i + 1)) next
more_tested xs position Breaks i x best found next test below read so_far says found_is is =
    more_items xs (λ y k. (position y ≡ k) × Breaks y) i x best found next below read so_far
    (subst (IsLeast (λ k. (position x ≡ k) × Breaks x)) (sym found_is)
    (least_if (Breaks x) test (position x) says.0 says.1)) is
