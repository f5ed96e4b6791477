-- If pairs are sorted and distinct, then they increase strictly.
use Rattle.std.proofs.Common.{ℕ, zero, suc, ◌≡◌, inl, inr, Bool, true, List, [], ◌∷◌, Some, refl, sym, ap, subst, arith, ◌∙◌}
use Rattle.std.specs.Prelude.{slice_get, ◌==◌, ◌&&◌}
use Rattle.std.specs.Cmp.{IsTotalOrder, IsEquivalence, unsigned_tied, both_tied}
use Rattle.std.specs.List.{AllByRecursion}
use Rattle.std.specs.List.Sorted.{IsStrictlySortedBy}
use Rattle.std.specs.Ordering.{nat_cmp, ordering_then, eq_by_cmp}
use Rattle.std.specs.declared.cmp.Ordering.{Ordering}
use Rattle.std.specs.declared.cmp.Ordering.TheVariants.{Less, Equal, Greater}
use Rattle.std.proofs.lemmas.Cmp.{ranked, nat_cmp_total, on_total, then_total, nat_eq_equiv, on_equiv, and_equiv}
use Rattle.std.proofs.lemmas.Bool.Decides.{nat_tests}
use Rattle.std.proofs.lemmas.Map.Keys.{sorted_head, sorted_tail}
use Rattle.std.proofs.lemmas.Option.{same_Some, none-some}
use Rattle.cert_format.specs.Increasing.{IsSmaller, AreIncreasing}
use Rattle.cert_verify.specs.certificate.Testing.{pair_cmp}

by_parts :
    (x y : ℕ × ℕ) (first second : Ordering) → first ≡ nat_cmp x.0 y.0 → second ≡ nat_cmp x.1 y.1 → ordering_then first second ≡ Less
    → IsSmaller x y
by_parts x y Less second one other is = inl (ranked x.0 y.0 Less one)
by_parts x y Equal Less one other is = inr (ranked x.0 y.0 Equal one, ranked x.1 y.1 Less other)
by_parts x y Equal Equal one other is = absurd (cc)
by_parts x y Equal Greater one other is = absurd (cc)
by_parts x y Greater second one other is = absurd (cc)

smaller_by_cmp : (x y : ℕ × ℕ) → pair_cmp x y ≡ Less → IsSmaller x y
smaller_by_cmp x y is = by_parts x y (nat_cmp x.0 y.0) (nat_cmp x.1 y.1) refl refl is

all_at : (P : ℕ × ℕ → Type 0) (xs : List (ℕ × ℕ)) (k : ℕ) (x : ℕ × ℕ) → AllByRecursion P xs → slice_get xs k ≡ Some x → P x
all_at P [] k x all at_k = absurd (none-some x at_k)
all_at P (y ∷ xs) zero x all at_k = subst P (same_Some y x at_k) all.0
all_at P (y ∷ xs) (suc k) x all at_k = all_at P xs k x all.1 at_k

pub sorted_increase : (xs : List (ℕ × ℕ)) → IsStrictlySortedBy pair_cmp xs → AreIncreasing xs
sorted_increase [] sorted j k one other less at_j at_k = absurd (none-some one at_j)
sorted_increase (x ∷ xs) sorted zero zero one other less at_j at_k = absurd (omega (arith, less))
sorted_increase (x ∷ xs) sorted zero (suc k) one other less at_j at_k =
    subst (λ p. IsSmaller p other) (same_Some x one at_j)
    (smaller_by_cmp x other (all_at (λ y. pair_cmp x y ≡ Less) xs k other (sorted_head pair_cmp x xs sorted) at_k))
sorted_increase (x ∷ xs) sorted (suc j) zero one other less at_j at_k = absurd (omega (arith, less))
sorted_increase (x ∷ xs) sorted (suc j) (suc k) one other less at_j at_k =
    sorted_increase xs (sorted_tail pair_cmp x xs sorted) j k one other (omega (arith, less)) at_j at_k

pub pair_cmp_total : IsTotalOrder pair_cmp
pair_cmp_total = then_total (on_total (λ (p : ℕ × ℕ). p.0) nat_cmp_total) (on_total (λ (p : ℕ × ℕ). p.1) nat_cmp_total)

-- ---- boolean equality tests

abbrev pub same_test : ℕ × ℕ → ℕ × ℕ → Bool
same_test x y = (x.0 == y.0) && (x.1 == y.1)

pub same_test_ties : (x y : ℕ × ℕ) → same_test x y ≡ eq_by_cmp pair_cmp x y
same_test_ties x y =
    both_tied (x.0 == y.0) (x.1 == y.1) (nat_cmp x.0 y.0) (nat_cmp x.1 y.1) (sym (unsigned_tied x.0 y.0)) (sym (unsigned_tied x.1 y.1))

pub same_test_equiv : IsEquivalence same_test
same_test_equiv = and_equiv (on_equiv (λ (p : ℕ × ℕ). p.0) nat_eq_equiv) (on_equiv (λ (p : ℕ × ℕ). p.1) nat_eq_equiv)

both_same : (a b c d : ℕ) → ((a == c) && (b == d)) ≡ true → (a ≡ c) × (b ≡ d)
both_same a b c d is = (grind (arith, nat_tests), grind (arith, nat_tests))

pub same_test_exact : (x y : ℕ × ℕ) → same_test x y ≡ true → x ≡ y
same_test_exact x y is =
    let both = both_same x.0 x.1 y.0 y.1 is in
    ap (λ a. (a, x.1)) both.0 ∙ ap (λ b. (y.0, b)) both.1
