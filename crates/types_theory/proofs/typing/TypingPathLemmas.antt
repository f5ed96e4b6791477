-- Lemmas about the extension of paths, and about the order of paths.
use Rattle.std.proofs.Common.{ℕ, zero, suc, ◌<◌, ◌≡◌, ◌∙◌, ◌⊎◌, inl, inr, ◌++◌, List, [], ◌∷◌, length, Some, refl, sym, ap, subst, arith}
use Rattle.std.specs.Prelude.{option_and_then}
use Rattle.std.proofs.lemmas.Option.{option_and_then_some, same_Some}
use Rattle.base_data.specs.declared.model.value.Val.{Val}
use Rattle.base_data.specs.declared.model.value.Obj.{Obj}
use Rattle.types_spec.specs.types.Shapes.{Shapes}
use Rattle.types_spec.specs.types.Fault.{step, value_at, IsLexicallyBefore, IsBefore}

-- ---- one more step

module _ {T : Type 0} (shapes : Shapes T) (graph : List Obj) where
  -- If a path leads to a position and a step leads from the position to `next`, then the path with
  -- the step leads to `next`.
  pub value_at-push : (path : List ℕ) (v : Val) (t : T) (i : ℕ) (position next : Val × T) → value_at shapes graph v t path ≡ Some position → step shapes graph position.0 position.1 i ≡ Some next → value_at shapes graph v t (path ++ i ∷ []) ≡ Some next
  value_at-push [] v t i position next placed stepped =
      let here : step shapes graph v t i ≡ Some next = subst (λ (p : Val × T). step shapes graph p.0 p.1 i ≡ Some next) (sym (same_Some (v, t) position placed)) stepped in
      ap (λ p. option_and_then (λ (q : Val × T). value_at shapes graph q.0 q.1 []) p) here
  value_at-push (j ∷ path) v t i position next placed stepped =
      option_and_then_some (λ q. value_at shapes graph q.0 q.1 path) (step shapes graph v t j) position placed (λ q first rest.
      ap (λ p. option_and_then (λ (q : Val × T). value_at shapes graph q.0 q.1 (path ++ i ∷ [])) p) first ∙ value_at-push path q.0 q.1 i position next rest stepped)

-- ---- order

-- Trichotomy: one of the three relations before, same and after holds.
abbrev pub OneOfThree : Type 0 → Type 0 → Type 0 → Type 0
OneOfThree Before Same After = Before ⊎ (Same ⊎ After)

numbers_compare : (m n : ℕ) → OneOfThree (m < n) (m ≡ n) (n < m)
numbers_compare zero zero = inr (inl refl)
numbers_compare zero (suc n) = inl (omega arith)
numbers_compare (suc m) zero = inr (inr (omega arith))
numbers_compare (suc m) (suc n) = one_more (numbers_compare m n) where
  one_more : OneOfThree (m < n) (m ≡ n) (n < m) → OneOfThree (suc m < suc n) (suc m ≡ suc n) (suc n < suc m)
  one_more (inl less) = inl (omega arith)
  one_more (inr (inl same)) = inr (inl (ap suc same))
  one_more (inr (inr greater)) = inr (inr (omega arith))

abbrev LexicallyCompare : List ℕ → List ℕ → Type 0
LexicallyCompare p q = OneOfThree (IsLexicallyBefore p q) (p ≡ q) (IsLexicallyBefore q p)

with_heads : (i j : ℕ) (p q : List ℕ) → OneOfThree (i < j) (i ≡ j) (j < i) → LexicallyCompare p q → LexicallyCompare (i ∷ p) (j ∷ q)
with_heads i j p q (inl less) rest = inl (inl less)
with_heads i j p q (inr (inr greater)) rest = inr (inr (inl greater))
with_heads i j p q (inr (inl same)) (inl less) = inl (inr (same, less))
with_heads i j p q (inr (inl same)) (inr (inl equal)) = inr (inl (cc))
with_heads i j p q (inr (inl same)) (inr (inr greater)) = inr (inr (inr (sym same, greater)))

lexically_compare : (p q : List ℕ) → length p ≡ length q → LexicallyCompare p q
lexically_compare [] [] same = inr (inl refl)
lexically_compare [] (j ∷ q) same = absurd (omega arith)
lexically_compare (i ∷ p) [] same = absurd (omega arith)
lexically_compare (i ∷ p) (j ∷ q) same = with_heads i j p q (numbers_compare i j) (lexically_compare p q (omega arith))

-- Of two paths, one path is before the other path, or the two paths are equal.
pub paths_compare : (p q : List ℕ) → OneOfThree (IsBefore p q) (p ≡ q) (IsBefore q p)
paths_compare p q = by_length (numbers_compare (length p) (length q)) where
  of_one_length : length p ≡ length q → LexicallyCompare p q → OneOfThree (IsBefore p q) (p ≡ q) (IsBefore q p)
  of_one_length same (inl less) = inl (inr (same, less))
  of_one_length same (inr (inl equal)) = inr (inl equal)
  of_one_length same (inr (inr greater)) = inr (inr (inr (sym same, greater)))

  by_length : OneOfThree (length p < length q) (length p ≡ length q) (length q < length p) → OneOfThree (IsBefore p q) (p ≡ q) (IsBefore q p)
  by_length (inl shorter) = inl (inl shorter)
  by_length (inr (inl same)) = of_one_length same (lexically_compare p q same)
  by_length (inr (inr longer)) = inr (inr (inl longer))
