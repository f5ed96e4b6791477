-- If the last of increasing pairs is smaller than a pair, then all of the increasing pairs are
-- smaller than the pair.
use Rattle.std.proofs.Common.{ℕ, zero, suc, ◌≡◌, ◌<◌, ◌-◌, ◌∙◌, ◌⊎◌, ⊎_elim, inl, inr, Bool, List, [], ◌∷◌, ◌++◌, length, Some, refl, sym, ap, subst, arith}
use Rattle.std.specs.Prelude.{slice_get, IsTrue, ◌↔◌}
use Rattle.std.proofs.lemmas.Option.{same_Some, none-some, slice_get_within}
use Rattle.cert_format.specs.Increasing.{IsSmaller, AreIncreasing, IsAbove}

smaller_transitive : (a b c : ℕ × ℕ) → IsSmaller a b → IsSmaller b c → IsSmaller a c
smaller_transitive a b c (inl x) (inl y) = inl (omega (arith, x, y))
smaller_transitive a b c (inl x) (inr y) = let e = y.0 in inl (omega (arith, x, e))
smaller_transitive a b c (inr x) (inl y) = let e = x.0 in inl (omega (arith, e, y))
smaller_transitive a b c (inr x) (inr y) = let l = x.1 in let m = y.1 in inr (x.0 ∙ y.0, omega (arith, l, m))

two_ways : (k n : ℕ) → k < n → (k < n - 1) ⊎ (k ≡ n - 1)
two_ways zero zero less = absurd (omega (arith, less))
two_ways zero (suc zero) less = inr (omega arith)
two_ways zero (suc (suc n)) less = inl (omega arith)
two_ways (suc k) zero less = absurd (omega (arith, less))
two_ways (suc k) (suc n) less = ⊎_elim (λ one. inl (omega (arith, one))) (λ same. inr (omega (arith, same, less))) (two_ways k n (omega (arith, less)))

push_cases :
    (xs : List (ℕ × ℕ)) (y : ℕ × ℕ) (k : ℕ) (x : ℕ × ℕ) → slice_get (xs ++ y ∷ []) k ≡ Some x → (slice_get xs k ≡ Some x) ⊎ ((k ≡ length xs) × (y ≡ x))
push_cases [] y zero x at_k = inr (refl, same_Some y x at_k)
push_cases [] y (suc k) x at_k = absurd (none-some x at_k)
push_cases (z ∷ xs) y zero x at_k = inl at_k
push_cases (z ∷ xs) y (suc k) x at_k = ⊎_elim (λ here. inl here) (λ last. inr (ap suc last.0, last.1)) (push_cases xs y k x at_k)

pub increasing_push : (xs : List (ℕ × ℕ)) (pair : ℕ × ℕ) → AreIncreasing xs → IsAbove xs pair → AreIncreasing (xs ++ pair ∷ [])
increasing_push xs pair increasing above j k one other less at_j at_k = ⊎_elim
    (λ here. ⊎_elim
    (λ before. increasing j k one other less before here)
    (λ last. let inside = slice_get_within xs k other here in let end = last.0 in absurd (omega (arith, less, inside, end)))
    (push_cases xs pair j one at_j))
    (λ last. ⊎_elim
    (λ before. subst (λ p. IsSmaller one p) last.1 (above j one before))
    (λ same. let here = last.0 in let end = same.0 in absurd (omega (arith, less, here, end)))
    (push_cases xs pair j one at_j))
    (push_cases xs pair k other at_k)

pub above_last :
    (pairs : List (ℕ × ℕ)) (last pair : ℕ × ℕ) (test : Bool) → AreIncreasing pairs → slice_get pairs (length pairs - 1) ≡ Some last
    → (IsTrue test ↔ IsSmaller last pair) → IsTrue test ↔ IsAbove pairs pair
above_last pairs last pair test increasing at_last reports = (λ yes'. all (reports.0 yes'), λ above. reports.1 (above (length pairs - 1) last at_last)) where
  all : IsSmaller last pair → IsAbove pairs pair
  all smaller k one at = ⊎_elim
      (λ less. smaller_transitive one last pair (increasing k (length pairs - 1) one last less at at_last) smaller)
      (λ same. subst (λ p. IsSmaller p pair) (same_Some last one (sym at_last ∙ (ap (slice_get pairs) (sym same) ∙ at))) smaller)
      (two_ways k (length pairs) (slice_get_within pairs k one at))
