-- Lemmas about the results of a loop for the elements that the loop has processed.
use Rattle.std.proofs.Common.{ℕ, suc, ◌+◌, ◌≡◌, ◌∙◌, Bool, true, false, List, [], ◌∷◌, ◌++◌, take, drop, Option, Some, None, refl, sym, ap, arith}
use Rattle.std.specs.Prelude.{slice_get, ◌&&◌}
use Rattle.std.specs.List.{list_all, filter_map}
use Rattle.std.proofs.Math.Seq.{take-suc, drop-cons}
use Rattle.std.proofs.lemmas.List.Elements.{filter_map-append}
use Rattle.std.proofs.lemmas.Option.{slice_get_within, get_or_from_slice_get}

module _ {X : Type 0} (xs : List X) (k : ℕ) (x : X) (is : slice_get xs k ≡ Some x) where
  pub one_more : take (k + 1) xs ≡ take k xs ++ x ∷ []
  one_more =
      let next : k + 1 ≡ suc k = omega arith in
      ap (λ n. take n xs) next
      ∙ take-suc xs k x (slice_get_within xs k x is)
      ∙ ap (λ y. take k xs ++ y ∷ []) (get_or_from_slice_get xs k x x is)

  first_left : drop k xs ≡ x ∷ drop (k + 1) xs
  first_left =
      let next : suc k ≡ k + 1 = omega arith in
      drop-cons xs k x (slice_get_within xs k x is)
      ∙ ap (λ y. y ∷ drop (suc k) xs) (get_or_from_slice_get xs k x x is)
      ∙ ap (λ n. x ∷ drop n xs) next

  filtered :
      {Y : Type 0} (f : X → Option Y) (o : Option Y) → f x ≡ o
      → filter_map f (take (k + 1) xs) ≡ filter_map f (take k xs) ++ filter_map (λ (p : Option Y). p) (o ∷ [])
  filtered {Y} f o is_o =
      ap (filter_map f) one_more ∙ filter_map-append f (take k xs) (x ∷ [])
      ∙ ap (λ ys. filter_map f (take k xs) ++ ys) (by (f x) o is_o) where
        by : (p q : Option Y) → p ≡ q
            → filter_map (λ (r : Option Y). r) (p ∷ []) ≡ filter_map (λ (r : Option Y). r) (q ∷ [])
        by p q same = ap (λ r. filter_map (λ (s : Option Y). s) (r ∷ [])) same

  pub filtered_some :
      {Y : Type 0} (f : X → Option Y) (y : Y) → f x ≡ Some y
      → filter_map f (take (k + 1) xs) ≡ filter_map f (take k xs) ++ y ∷ []
  filtered_some f y is_y = filtered f (Some y) is_y

  pub filtered_none :
      {Y : Type 0} (f : X → Option Y) → f x ≡ None
      → filter_map f (take (k + 1) xs) ≡ filter_map f (take k xs)
  filtered_none f is_none = filtered f None is_none ∙ no_more (filter_map f (take k xs)) where
    no_more : {Y : Type 0} (ys : List Y) → ys ++ [] ≡ ys
    no_more [] = refl
    no_more (y ∷ ys) = ap (λ zs. y ∷ zs) (no_more ys)

  module _ {Y : Type 0} (f : X → Option Y) (found : List Y) (are : found ≡ filter_map f (take k xs)) (o : Option Y) (is_o : o ≡ f x) where
    pub filtered_more : (y : Y) → o ≡ Some y → found ++ y ∷ [] ≡ filter_map f (take (k + 1) xs)
    filtered_more y some = ap (λ ys. ys ++ y ∷ []) are ∙ sym (filtered_some f y (sym is_o ∙ some))

    pub filtered_same : ((y : Y) → o ≡ Some y → ⊥) → found ≡ filter_map f (take (k + 1) xs)
    filtered_same never = are ∙ sym (filtered_none f (sym is_o ∙ none o never)) where
      none : (p : Option Y) → ((y : Y) → p ≡ Some y → ⊥) → p ≡ None
      none None unsome = refl
      none (Some y) unsome = absurd (unsome y refl)

  -- ---- tests of all elements

  module _ (p : X → Bool) where
    tested : list_all p (drop k xs) ≡ (p x && list_all p (drop (k + 1) xs))
    tested = ap (list_all p) first_left

    pub all_passed : p x ≡ true → list_all p (drop k xs) ≡ list_all p (drop (k + 1) xs)
    all_passed passes = tested ∙ ap (λ b. b && list_all p (drop (k + 1) xs)) passes

    pub one_failed : p x ≡ false → list_all p (drop k xs) ≡ false
    one_failed fails = tested ∙ ap (λ b. b && list_all p (drop (k + 1) xs)) fails
