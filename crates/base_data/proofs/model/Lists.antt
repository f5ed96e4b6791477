-- Lemmas on lists: elements at an index, predicates of each element, and filters.
use Rattle.std.proofs.Common.{ℕ, zero, suc, ◌+◌, ◌<◌, ◌≡◌, ◌≢◌, ◌∙◌, ◌⊎◌, ⊎_elim, inl, inr, List, [], ◌∷◌, ◌++◌, length, take, set, get_or, Bool, cond, true, false, Some, refl, sym, ap, subst, arith}
use Rattle.std.specs.Prelude.{slice_get, slice_index, map, filter, replicate, Contains}
use Rattle.std.specs.List.{AllByRecursion, AllZip, find}
use Rattle.std.proofs.Math.Seq.{take-length}
use Rattle.std.proofs.lemmas.Option.{none-some, same_Some, slice_get-get_or}
use Rattle.base_data.proofs.model.Options.{Contains-none, Contains-cases}

-- ---- indices

pub slice_get-append_left :
    {X : Type 0} (xs ys : List X) (k : ℕ) (x : X) → slice_get xs k ≡ Some x
    → slice_get (xs ++ ys) k ≡ Some x
slice_get-append_left [] ys k x at_k = absurd (none-some x at_k)
slice_get-append_left (y ∷ xs) ys zero x at_k = at_k
slice_get-append_left (y ∷ xs) ys (suc k) x at_k = slice_get-append_left xs ys k x at_k

pub slice_get-last :
    {X : Type 0} (xs : List X) (y : X) → slice_get (xs ++ y ∷ []) (length xs) ≡ Some y
slice_get-last [] y = refl
slice_get-last (x ∷ xs) y = slice_get-last xs y

-- If an index is the length of `xs` plus `i`, then reading `xs ++ ys` at the index gives element
-- `i` of `ys`.
pub slice_get-append_right :
    {X : Type 0} (xs ys : List X) (i : ℕ) → slice_get (xs ++ ys) (length xs + i) ≡ slice_get ys i
slice_get-append_right [] ys i = ap (slice_get ys) (omega arith)
slice_get-append_right (x ∷ xs) ys i =
    let e : suc (length xs) + i ≡ suc (length xs + i) = omega arith in
    rw e (slice_get-append_right xs ys i)

-- If a list is extended by one element, then each element of the result is an old element or the
-- new element.
pub slice_get-push_cases :
    {X : Type 0} (xs : List X) (y : X) (k : ℕ) (x : X) → slice_get (xs ++ y ∷ []) k ≡ Some x
    → (slice_get xs k ≡ Some x) ⊎ ((k ≡ length xs) × (y ≡ x))
slice_get-push_cases [] y zero x at_k = inr (refl, same_Some y x at_k)
slice_get-push_cases [] y (suc k) x at_k = absurd (none-some x at_k)
slice_get-push_cases (z ∷ xs) y zero x at_k = inl at_k
slice_get-push_cases (z ∷ xs) y (suc k) x at_k = ⊎_elim
    (λ here. inl here)
    (λ last. inr (ap suc last.0, last.1))
    (slice_get-push_cases xs y k x at_k)

-- Each element of a mapped list is the image of the element at the same index.
pub map-slice_get :
    {X Y : Type 0} (f : X → Y) (xs : List X) (k : ℕ) (y : Y) → slice_get (map f xs) k ≡ Some y
    → (x : X) × (slice_get xs k ≡ Some x) × (f x ≡ y)
map-slice_get f [] k y at_k = absurd (none-some y at_k)
map-slice_get f (x ∷ xs) zero y at_k = (x, refl, same_Some (f x) y at_k)
map-slice_get f (x ∷ xs) (suc k) y at_k = map-slice_get f xs k y at_k

pub slice_index-zeros : (n k : ℕ) → slice_index (replicate n 0) k ≡ 0
slice_index-zeros zero k = refl
slice_index-zeros (suc n) zero = refl
slice_index-zeros (suc n) (suc k) = slice_index-zeros n k

-- If `get_or` reads an element below the length of a list, then `slice_get` reads the element too.
pub slice_get-read :
    {X : Type 0} (xs : List X) (i : ℕ) (x : X) → i < length xs → x ≡ get_or xs i x
    → slice_get xs i ≡ Some x
slice_get-read xs i x below is = slice_get-get_or xs i x below ∙ ap Some (sym is)

pub slice_get-set_here :
    {X : Type 0} (xs : List X) (i : ℕ) (y : X) → i < length xs → slice_get (set xs i y) i ≡ Some y
slice_get-set_here [] i y below = absurd (omega arith)
slice_get-set_here (x ∷ xs) zero y below = refl
slice_get-set_here (x ∷ xs) (suc i) y below = slice_get-set_here xs i y (omega arith)

pub slice_get-set_other :
    {X : Type 0} (xs : List X) (i j : ℕ) (y : X) → j ≢ i
    → slice_get (set xs i y) j ≡ slice_get xs j
slice_get-set_other [] i j y other = refl
slice_get-set_other (x ∷ xs) zero zero y other = absurd (other refl)
slice_get-set_other (x ∷ xs) zero (suc j) y other = refl
slice_get-set_other (x ∷ xs) (suc i) zero y other = refl
slice_get-set_other (x ∷ xs) (suc i) (suc j) y other =
    slice_get-set_other xs i j y (λ same. other (ap suc same))

-- Each element of a list has an index.
pub Contains-position :
    {X : Type 0} (xs : List X) (x : X) → Contains xs x → (k : ℕ) × (slice_get xs k ≡ Some x)
Contains-position [] x among = absurd (Contains-none x among)
Contains-position (z ∷ xs) x among = ⊎_elim
    (λ here. (0, ap Some here))
    (λ later. let p = Contains-position xs x later in (suc p.0, p.1))
    (Contains-cases z xs x among)

pub take-whole : {X : Type 0} (xs : List X) (i : ℕ) → i ≡ length xs → take i xs ≡ xs
take-whole xs i end = ap (λ k. take k xs) end ∙ take-length xs

-- ---- predicates of each element

pub AllByRecursion-append :
    {X : Type 0} (P : X → Type 0) (xs ys : List X) → AllByRecursion P xs → AllByRecursion P ys
    → AllByRecursion P (xs ++ ys)
AllByRecursion-append P [] ys h k = k
AllByRecursion-append P (x ∷ xs) ys h k = (h.0, AllByRecursion-append P xs ys h.1 k)

pub AllByRecursion-filter :
    {X : Type 0} (P : X → Type 0) (p : X → Bool) (xs : List X) → AllByRecursion P xs
    → AllByRecursion P (filter p xs)
AllByRecursion-filter P p [] h = tt
AllByRecursion-filter P p (x ∷ xs) h = by_test (p x) (AllByRecursion-filter P p xs h.1) where
  by_test :
      (b : Bool) → AllByRecursion P (filter p xs)
      → AllByRecursion P (cond b (x ∷ filter p xs) (filter p xs))
  by_test true rest = (h.0, rest)
  by_test false rest = rest

pub AllByRecursion-Contains :
    {X : Type 0} (P : X → Type 0) (xs : List X) (x : X) → AllByRecursion P xs → Contains xs x
    → P x
AllByRecursion-Contains P [] x h among = absurd (Contains-none x among)
AllByRecursion-Contains P (y ∷ ys) x h among = ⊎_elim
    (λ here. subst P here h.0)
    (λ later. AllByRecursion-Contains P ys x h.1 later)
    (Contains-cases y ys x among)

pub AllZip-length :
    {A B : Type 0} (R : A → B → Type 0) (xs : List A) (ys : List B) → AllZip R xs ys
    → length xs ≡ length ys
AllZip-length R [] [] all = refl
AllZip-length R [] (y ∷ ys) all = absurd all
AllZip-length R (x ∷ xs) [] all = absurd all
AllZip-length R (x ∷ xs) (y ∷ ys) all = ap suc (AllZip-length R xs ys all.1)

-- If two related lists are each extended by one of two related elements, then the extended lists
-- are related.
pub AllZip-push :
    {A B : Type 0} (R : A → B → Type 0) (xs : List A) (ys : List B) (x : A) (y : B) → AllZip R xs ys
    → R x y → AllZip R (xs ++ x ∷ []) (ys ++ y ∷ [])
AllZip-push R [] [] x y all more = (more, tt)
AllZip-push R [] (b ∷ ys) x y all more = absurd all
AllZip-push R (a ∷ xs) [] x y all more = absurd all
AllZip-push R (a ∷ xs) (b ∷ ys) x y all more = (all.0, AllZip-push R xs ys x y all.1 more)

-- ---- filters

-- If `find` returns an element, then the element satisfies the predicate.
pub found_passes :
    {X : Type 0} (p : X → Bool) (xs : List X) (x : X) → find p xs ≡ Some x → p x ≡ true
found_passes p [] x found = absurd (none-some x found)
found_passes p (y ∷ ys) x found = by_test (found_passes p ys x) (p y) refl found where
  by_test :
      (find p ys ≡ Some x → p x ≡ true) → (b : Bool) → p y ≡ b
      → cond b (Some y) (find p ys) ≡ Some x → p x ≡ true
  by_test others true is found = ap p (sym (same_Some y x found)) ∙ is
  by_test others false is found = others found

-- If an element satisfies the predicate, then the filter keeps it.
pub Contains-filter :
    {X : Type 0} (p : X → Bool) (xs : List X) (x : X) → Contains xs x → p x ≡ true
    → Contains (filter p xs) x
Contains-filter p [] x (k, within, at) passes = absurd (omega (arith, within))
Contains-filter p (y ∷ ys) x (zero, within, at) passes =
    subst (λ z. Contains (filter p (z ∷ ys)) x) (sym at)
    (subst (λ b. Contains (cond b (x ∷ filter p ys) (filter p ys)) x) (sym passes)
    (0, omega arith, refl))
Contains-filter p (y ∷ ys) x (suc k, within, at) passes =
    by (p y) (Contains-filter p ys x (k, omega (arith, within), at) passes) where
      by : (b : Bool) → Contains (filter p ys) x → Contains (cond b (y ∷ filter p ys) (filter p ys)) x
      by true (i, inside, is) = (suc i, omega (arith, inside), is)
      by false rest = rest
