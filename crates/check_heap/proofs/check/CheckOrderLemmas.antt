-- The order of paths that are extended by a step.
use Rattle.std.proofs.Common.{ℕ, ◌<◌, ◌≡◌, inl, inr, ◌++◌, List, [], ◌∷◌, length, refl, arith}
use Rattle.types_spec.specs.types.Fault.{IsLexicallyBefore, IsBefore}
use Rattle.types_theory.proofs.typing.SearchedLemmas.{length_pushed}

-- ---- paths

lexically_more : (p q : List ℕ) (i j : ℕ) → length p ≡ length q → IsLexicallyBefore p q → IsLexicallyBefore (p ++ i ∷ []) (q ++ j ∷ [])
lexically_more [] q i j same before = absurd before
lexically_more (k ∷ p) [] i j same before = absurd before
lexically_more (k ∷ p) (l ∷ q) i j same (inl less) = inl less
lexically_more (k ∷ p) (l ∷ q) i j same (inr later) = inr (later.0, lexically_more p q i j (omega arith) later.1)

-- If two paths are ordered, then the paths extended by one step each are ordered.
pub both_pushed : (p q : List ℕ) (i j : ℕ) → IsBefore p q → IsBefore (p ++ i ∷ []) (q ++ j ∷ [])
both_pushed p q i j (inl shorter) = inl (omega (arith, length_pushed p i, length_pushed q j))
both_pushed p q i j (inr equal) =
    inr (omega (arith, length_pushed p i, length_pushed q j, equal.0), lexically_more p q i j equal.0 equal.1)

lexically_next : (p : List ℕ) (i j : ℕ) → i < j → IsLexicallyBefore (p ++ i ∷ []) (p ++ j ∷ [])
lexically_next [] i j less = inl less
lexically_next (k ∷ p) i j less = inr (refl, lexically_next p i j less)

-- If one path is extended by two steps, then the smaller step gives the smaller path.
pub pushed_less : (p : List ℕ) (i j : ℕ) → i < j → IsBefore (p ++ i ∷ []) (p ++ j ∷ [])
pushed_less p i j less = inr (omega (arith, length_pushed p i, length_pushed p j), lexically_next p i j less)

pub root_before : (p : List ℕ) (i : ℕ) → IsBefore [] (p ++ i ∷ [])
root_before p i = inl (omega (arith, length_pushed p i))
