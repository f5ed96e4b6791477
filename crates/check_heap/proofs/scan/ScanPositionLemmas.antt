-- Indices in lists that grow at the end.
use Rattle.std.proofs.Common.{ℕ, zero, suc, ◌+◌, ◌<◌, ◌≡◌, ◌⊎◌, inl, inr, ⊎_elim, ◌++◌, List, [], ◌∷◌, length, Some, refl, sym, ap, subst, arith}
use Rattle.std.specs.Prelude.{slice_get, slice_index, slice_set, Contains}
use Rattle.std.proofs.lemmas.Option.{same_Some, none-some}
use Rattle.base_data.proofs.model.Options.{Contains-cases, Contains-first, Contains-later, slice_get-Contains}
use Rattle.base_data.proofs.model.Lists.{slice_get-append_left, slice_get-last, Contains-position}
pub use Rattle.base_data.proofs.model.Lists.{slice_get-push_cases, map-slice_get as mapped_at}

pub slice_get-append_below : {X : Type 0} (xs ys : List X) (k : ℕ) (x : X) → k < length xs → slice_get (xs ++ ys) k ≡ Some x → slice_get xs k ≡ Some x
slice_get-append_below [] ys k x below at_k = absurd (omega arith)
slice_get-append_below (y ∷ xs) ys zero x below at_k = at_k
slice_get-append_below (y ∷ xs) ys (suc k) x below at_k = slice_get-append_below xs ys k x (omega arith) at_k

pub read_at : (xs : List ℕ) (k x : ℕ) → k < length xs → x ≡ slice_index xs k → slice_get xs k ≡ Some x
read_at [] k x less is = absurd (omega arith)
read_at (y ∷ xs) zero x less is = ap Some (sym is)
read_at (y ∷ xs) (suc k) x less is = read_at xs k x (omega arith) is

-- An element of a list with one more element is in the list or is the new element.
pub contains_push : {X : Type 0} (xs : List X) (y x : X) → Contains (xs ++ y ∷ []) x → Contains xs x ⊎ (y ≡ x)
contains_push xs y x among =
    let k = Contains-position (xs ++ y ∷ []) x among in
    ⊎_elim (λ before. inl (slice_get-Contains xs k.0 x before)) (λ last. inr last.1) (slice_get-push_cases xs y k.0 x k.1)

pub contains_left : {X : Type 0} (xs ys : List X) (x : X) → Contains xs x → Contains (xs ++ ys) x
contains_left xs ys x among =
    let k = Contains-position xs x among in
    slice_get-Contains (xs ++ ys) k.0 x (slice_get-append_left xs ys k.0 x k.1)

pub contains_last : {X : Type 0} (xs : List X) (y : X) → Contains (xs ++ y ∷ []) y
contains_last xs y = slice_get-Contains (xs ++ y ∷ []) (length xs) y (slice_get-last xs y)

pub contains_right : {X : Type 0} (xs ys : List X) (x : X) → Contains ys x → Contains (xs ++ ys) x
contains_right [] ys x among = among
contains_right (z ∷ xs) ys x among = Contains-later z (xs ++ ys) x (contains_right xs ys x among)

pub contains_cases : {X : Type 0} (xs ys : List X) (x : X) → Contains (xs ++ ys) x → Contains xs x ⊎ Contains ys x
contains_cases [] ys x among = inr among
contains_cases (z ∷ xs) ys x among = ⊎_elim
    (λ here. inl (subst (Contains (z ∷ xs)) here (Contains-first z xs)))
    (λ later. ⊎_elim (λ one. inl (Contains-later z xs x one)) (λ other. inr other) (contains_cases xs ys x later))
    (Contains-cases z (xs ++ ys) x among)

-- An element of a concatenation is in one of the two lists.
pub slice_get-append_cases :
    {X : Type 0} (xs ys : List X) (k : ℕ) (x : X) → slice_get (xs ++ ys) k ≡ Some x
    → (slice_get xs k ≡ Some x) ⊎ ((m : ℕ) × (k ≡ length xs + m) × (slice_get ys m ≡ Some x))
slice_get-append_cases [] ys k x at_k = inr (k, omega arith, at_k)
slice_get-append_cases (z ∷ xs) ys zero x at_k = inl at_k
slice_get-append_cases (z ∷ xs) ys (suc k) x at_k = ⊎_elim
    (λ here. inl here)
    (λ there. inr (there.0, omega (arith, there.1), there.2))
    (slice_get-append_cases xs ys k x at_k)

-- ---- replacing an element

pub slice_set_here : (xs : List ℕ) (k x y : ℕ) → slice_get (slice_set xs k y) k ≡ Some x → x ≡ y
slice_set_here [] k x y at_k = absurd (none-some x at_k)
slice_set_here (z ∷ xs) zero x y at_k = sym (same_Some y x at_k)
slice_set_here (z ∷ xs) (suc k) x y at_k = slice_set_here xs k x y at_k

pub slice_set_other : (xs : List ℕ) (k j y : ℕ) → ¬ (j ≡ k) → slice_get (slice_set xs k y) j ≡ slice_get xs j
slice_set_other [] k j y other = refl
slice_set_other (z ∷ xs) zero zero y other = absurd (other refl)
slice_set_other (z ∷ xs) zero (suc j) y other = refl
slice_set_other (z ∷ xs) (suc k) zero y other = refl
slice_set_other (z ∷ xs) (suc k) (suc j) y other = slice_set_other xs k j y (λ same. other (ap suc same))

pub slice_set_at : (xs : List ℕ) (k y : ℕ) → k < length xs → slice_get (slice_set xs k y) k ≡ Some y
slice_set_at [] k y inside = absurd (omega (arith, inside))
slice_set_at (z ∷ xs) zero y inside = refl
slice_set_at (z ∷ xs) (suc k) y inside = slice_set_at xs k y (omega (arith, inside))
