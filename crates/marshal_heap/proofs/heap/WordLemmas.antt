-- Lemmas on the words of values: decoding is the inverse of encoding.
use Rattle.std.proofs.Common.{◌≡◌, ℕ, ◌+◌, ◌-◌, ◌*◌, ◌/◌, ◌%◌, ◌^◌, ◌<◌, ◌≤◌, eqb, ℤ, pos, negsuc, List, [], ◌∷◌, map, refl, ap, ap₂, ◌∙◌, arith, lt-ltb, le-ltb, eq-eqb, ne_eqb}
use Rattle.std.specs.Prelude.{All}
use Rattle.std.specs.List.{position_or_len}
use Rattle.std.proofs.lemmas.Bool.{cond-true, cond-false}
use Rattle.std.proofs.lemmas.List.Elements.{All-head, All-tail}
use Rattle.base_data.specs.declared.model.value.Val.{Val}
use Rattle.base_data.specs.declared.model.value.Val.TheVariants as vals
use Rattle.base_data.specs.model.Graph.{IsSigned, IsInteger, IsValue}
use Rattle.marshal_heap.specs.heap.Heap.{integer_word, word_with}
use Rattle.marshal_heap.specs.heap.Stored.{signed_from, integer_from, value_from}
use Rattle.marshal_heap.specs.heap.ObjectWords.{signed_word}

-- If two functions agree on each element of a list, then the mapped lists are equal.
pub map_same : {X Y : Type 0} (f g : X → Y) (xs : List X) → All (λ x. f x ≡ g x) xs → map f xs ≡ map g xs
map_same f g [] same = refl
map_same {X = X} f g (x ∷ xs) same = ap₂ (λ y ys. y ∷ ys) (All-head (λ (x : X). f x ≡ g x) x xs same) (map_same f g xs (All-tail (λ (x : X). f x ≡ g x) x xs same))

pub map_back : {X Y : Type 0} (f : Y → X) (g : X → Y) (xs : List X) → All (λ x. f (g x) ≡ x) xs → map f (map g xs) ≡ xs
map_back f g [] same = refl
map_back {X = X} f g (x ∷ xs) same = ap₂ (λ y ys. y ∷ ys) (All-head (λ (x : X). f (g x) ≡ x) x xs same) (map_back f g xs (All-tail (λ (x : X). f (g x) ≡ x) x xs same))

pub integer_back : (z : ℤ) → IsInteger z → integer_from (integer_word z) ≡ z
integer_back (pos n) small =
    let low : 2 * n + 1 < 2 ^ 63 = omega arith in
    let half : (2 * n + 1) / 2 ≡ n = omega arith in
    cond-true _ _ _ (lt-ltb (2 * n + 1) (2 ^ 63) low) ∙ ap pos half
integer_back (negsuc n) small =
    let high : 2 ^ 63 ≤ 2 ^ 64 - 1 - 2 * n = omega arith in
    let half : (2 ^ 64 - 1 - (2 ^ 64 - 1 - 2 * n)) / 2 ≡ n = omega arith in
    cond-false _ _ _ (le-ltb (2 ^ 64 - 1 - 2 * n) (2 ^ 63) high) ∙ ap negsuc half

pub signed_back : (z : ℤ) → IsSigned 63 z → signed_from (signed_word z) ≡ z
signed_back (pos n) small = cond-true _ _ _ (lt-ltb n (2 ^ 63) small)
signed_back (negsuc n) small =
    let high : 2 ^ 63 ≤ 2 ^ 64 - 1 - n = omega arith in
    let same : 2 ^ 64 - 1 - (2 ^ 64 - 1 - n) ≡ n = omega arith in
    cond-false _ _ _ (le-ltb (2 ^ 64 - 1 - n) (2 ^ 63) high) ∙ ap negsuc same

-- The word of an integer is odd.
pub integer_odd : (z : ℤ) → IsInteger z → integer_word z % 2 ≡ 1
integer_odd (pos n) small = omega arith
integer_odd (negsuc n) small = omega arith

module _ (at : ℕ → ℕ) (positions : List ℕ) (n : ℕ) (numbered : (k : ℕ) → k < n → position_or_len (λ p. eqb p (at k)) positions ≡ k) where
  pub value_back : (v : Val) → IsValue n v → value_from positions (word_with at v) ≡ v
  value_back (vals.Int z) valid = cond-true _ _ _ (eq-eqb _ 1 (integer_odd z valid)) ∙ ap vals.Int (integer_back z valid)
  value_back (vals.Atom tag) valid =
      let even : (8 * tag + 2) % 2 ≡ 1 → ⊥ = λ e. omega arith in
      let ends : (8 * tag + 2) % 8 ≡ 2 = omega arith in
      let eighth : (8 * tag + 2) / 8 ≡ tag = omega arith in
      cond-false _ _ _ (ne_eqb ((8 * tag + 2) % 2) 1 even) ∙ cond-true _ _ _ (eq-eqb ((8 * tag + 2) % 8) 2 ends) ∙ ap vals.Atom eighth
  value_back (vals.Ref k) valid =
      let even : 8 * at k % 2 ≡ 1 → ⊥ = λ e. omega arith in
      let ends : 8 * at k % 8 ≡ 2 → ⊥ = λ e. omega arith in
      let eighth : 8 * at k / 8 ≡ at k = omega arith in
      cond-false _ _ _ (ne_eqb (8 * at k % 2) 1 even) ∙ cond-false _ _ _ (ne_eqb (8 * at k % 8) 2 ends)
      ∙ ap (λ (p : ℕ). vals.Ref (position_or_len (λ q. eqb q p) positions)) eighth ∙ ap vals.Ref (numbered k valid)
