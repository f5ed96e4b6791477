-- Lemmas about appending bytes with and without escapes.
use Rattle.std.proofs.Common.{true, ℕ, zero, suc, refl, ◌+◌, ◌-◌, ◌<◌, ◌≤◌, ◌≡◌, ◌==◌, ◌∙◌, ⊎_elim, List, [], ◌∷◌, ◌++◌, length, take, drop, get_or, sym, ap, append_assoc, arith, length-drop, get_or-drop}
use Rattle.std.specs.List.{flat_map, slice_range}
use Rattle.std.proofs.lemmas.Bool.Decides.{eqb_tells}
use Rattle.std.proofs.lemmas.List.{append-nil, take_more, flat_map_more}

range_more : (xs : List ℕ) (start i : ℕ) → start ≤ i → i < length xs → slice_range xs start (i + 1) ≡ slice_range xs start i ++ get_or xs i 0 ∷ []
range_more xs start i behind less =
    let longer : i + 1 - start ≡ i - start + 1 = omega arith in
    let at : start + (i - start) ≡ i = omega arith in
    ap (λ k. take k (drop start xs)) longer
    ∙ take_more (drop start xs) (i - start) 0 (omega (arith, length-drop start xs))
    ∙ ap (λ b. slice_range xs start i ++ b ∷ []) (get_or-drop start xs (i - start) 0 ∙ ap (λ k. get_or xs k 0) at)

module _ (f : ℕ → List ℕ) (xs old text : List ℕ) (start i : ℕ) (less : i < length xs) (write : text ++ slice_range xs start i ≡ old ++ flat_map f (take i xs)) where
  next : old ++ flat_map f (take i xs) ++ f (get_or xs i 0) ≡ old ++ flat_map f (take (i + 1) xs)
  next = flat_map_more f old (take i xs) (get_or xs i 0) ∙ ap (λ t. old ++ flat_map f t) (sym (take_more xs i 0 less))

  pub plain_byte : start ≤ i → f (get_or xs i 0) ≡ get_or xs i 0 ∷ [] → text ++ slice_range xs start (i + 1) ≡ old ++ flat_map f (take (i + 1) xs)
  plain_byte behind plain =
      ap (λ t. text ++ t) (range_more xs start i behind less)
      ∙ sym (append_assoc text (slice_range xs start i) (get_or xs i 0 ∷ []))
      ∙ ap (λ t. t ++ get_or xs i 0 ∷ []) write
      ∙ ap (λ t. old ++ flat_map f (take i xs) ++ t) (sym plain)
      ∙ next

  pub other_byte : (led all : List ℕ) → led ≡ text ++ slice_range xs start i → all ≡ led ++ f (get_or xs i 0) → all ++ slice_range xs (i + 1) (i + 1) ≡ old ++ flat_map f (take (i + 1) xs)
  other_byte led all is_led is_all =
      let none : i + 1 - (i + 1) ≡ 0 = omega arith in
      ap (λ k. all ++ take k (drop (i + 1) xs)) none
      ∙ append-nil all
      ∙ is_all
      ∙ ap (λ t. t ++ f (get_or xs i 0)) (is_led ∙ write)
      ∙ next

-- If no byte needs an escape, then the escaped text of the bytes is the bytes.
pub all_plain : (f : ℕ → List ℕ) (xs : List ℕ) → ((j : ℕ) → j < length xs → f (get_or xs j 0) ≡ get_or xs j 0 ∷ []) → flat_map f xs ≡ xs
all_plain f [] plain = refl
all_plain f (x ∷ xs) plain =
    ap (λ t. t ++ flat_map f xs) (plain 0 (omega arith)) ∙ ap (λ t. x ∷ t) (all_plain f xs (λ j inside. plain (suc j) (omega arith)))

pub eq_zero : (n : ℕ) → (n == 0) ≡ true → n ≡ 0
eq_zero zero is = refl
eq_zero (suc n) is = ⊎_elim (λ same. same.1) (λ other. absurd (cc)) (eqb_tells (suc n) 0)
