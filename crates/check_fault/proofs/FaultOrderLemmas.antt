-- The order of two paths of equal length.
use Rattle.std.proofs.Common.{ℕ, zero, suc, ◌<◌, ◌≡◌, ⊎_elim, inl, inr, List, [], ◌∷◌, length}
use Rattle.std.proofs.Common.{get_or, arith}
use Rattle.std.specs.Prelude.{◌↔◌}
use Rattle.types_spec.specs.types.Fault.{IsLexicallyBefore}

-- If two paths first differ at index `i`, then the steps at index `i` decide the order.
pub lexical_at :
    (xs ys : List ℕ) (i : ℕ) → length xs ≡ length ys
    → ((k : ℕ) → k < i → get_or xs k 0 ≡ get_or ys k 0) → i < length xs
    → (get_or xs i 0 ≡ get_or ys i 0 → ⊥)
    → (get_or xs i 0 < get_or ys i 0) ↔ IsLexicallyBefore xs ys
lexical_at [] ys i same below within other = absurd (omega arith)
lexical_at (x ∷ xs) [] i same below within other = absurd (omega (arith, same))
lexical_at (x ∷ xs) (y ∷ ys) zero same below within other =
    (λ less. inl less, λ lex. ⊎_elim (λ less. less) (λ eq. absurd (other eq.0)) lex)
lexical_at (x ∷ xs) (y ∷ ys) (suc i) same below within other =
    let rest = lexical_at xs ys i (omega (arith, same)) (λ k less. below (suc k) (omega arith))
    (omega arith) other in
    let first : x ≡ y = below 0 (omega arith) in (
      λ less. inr (first, rest.0 less),
      λ lex. ⊎_elim (λ less. absurd (omega (arith, first, less))) (λ eq. rest.1 eq.1) lex,
    )

-- If two paths do not differ, then neither path is lexicographically smaller.
pub lexical_never :
    (xs ys : List ℕ) → length xs ≡ length ys
    → ((k : ℕ) → k < length xs → get_or xs k 0 ≡ get_or ys k 0) → IsLexicallyBefore xs ys → ⊥
lexical_never [] ys same below lex = lex
lexical_never (x ∷ xs) [] same below lex = lex
lexical_never (x ∷ xs) (y ∷ ys) same below lex =
    let first : x ≡ y = below 0 (omega arith) in
    ⊎_elim (λ less. absurd (omega (arith, first, less)))
    (λ eq. lexical_never xs ys (omega (arith, same)) (λ k less. below (suc k) (omega arith)) eq.1)
    lex
