-- Lemmas on options, membership in lists, and boolean tests.
use Rattle.std.proofs.Common.{ℕ, zero, suc, ◌≡◌, ◌<◌, ◌⊎◌, ⊎_elim, inl, inr, List, [], ◌∷◌, length, Bool, true, false, Option, Some, None, refl, sym, subst, arith}
use Rattle.std.specs.Prelude.{slice_get, map, flat_map, Contains, IsSome, IsSomeAnd, IsTrue, ◌==◌}
use Rattle.std.proofs.lemmas.Bool.{false≢true}
use Rattle.std.proofs.lemmas.Bool.Decides.{Decides-eqb}
use Rattle.std.proofs.lemmas.List.Elements.{Contains-append_left, Contains-append_right, Contains-append_cases}
use Rattle.std.proofs.lemmas.Option.{none-some, slice_get_within, get_or_from_slice_get}

pub none_or_some : {X : Type 0} (o : Option X) → (o ≡ None) ⊎ ((x : X) × (o ≡ Some x))
none_or_some None = inl refl
none_or_some (Some x) = inr (x, refl)

pub IsSomeAnd-some : {A : Type 0} (o : Option A) (P : A → Type 0) → IsSomeAnd o P → (x : A) × (o ≡ Some x) × P x
IsSomeAnd-some None P holds = absurd holds
IsSomeAnd-some (Some x) P holds = (x, refl, holds)

pub IsSomeAnd-at :
    {A : Type 0} (o : Option A) (x : A) (P : A → Type 0) → o ≡ Some x → P x → IsSomeAnd o P
IsSomeAnd-at o x P is holds = subst (λ p. IsSomeAnd p P) (sym is) holds

pub IsSomeAnd-weaker :
    {A : Type 0} (P Q : A → Type 0) (o : Option A) → ((x : A) → P x → Q x) → IsSomeAnd o P
    → IsSomeAnd o Q
IsSomeAnd-weaker P Q None weaker holds = absurd holds
IsSomeAnd-weaker P Q (Some x) weaker holds = weaker x holds

pub none_is_not_some : {X : Type 0} (o : Option X) → o ≡ None → IsSome o → ⊥
none_is_not_some None is some = false≢true some
none_is_not_some (Some x) is some = none-some x (sym is)

pub Contains-first : {X : Type 0} (x : X) (xs : List X) → Contains (x ∷ xs) x
Contains-first x xs = (0, omega arith, refl)

pub Contains-later : {X : Type 0} (x : X) (xs : List X) (y : X) → Contains xs y → Contains (x ∷ xs) y
Contains-later x xs y (k, below, is) = (suc k, omega arith, is)

pub Contains-none : {X : Type 0} (x : X) → Contains [] x → ⊥
Contains-none x (k, below, is) = omega arith

pub Contains-cases :
    {X : Type 0} (x : X) (xs : List X) (y : X) → Contains (x ∷ xs) y → (x ≡ y) ⊎ Contains xs y
Contains-cases x xs y (zero, below, is) = inl is
Contains-cases x xs y (suc k, below, is) = inr (k, omega arith, is)

pub slice_get-Contains :
    {X : Type 0} (xs : List X) (k : ℕ) (x : X) → slice_get xs k ≡ Some x → Contains xs x
slice_get-Contains xs k x at_k =
    (k, slice_get_within xs k x at_k, get_or_from_slice_get xs k x x at_k)

pub Contains-map :
    {X Y : Type 0} (f : X → Y) (xs : List X) (x : X) → Contains xs x → Contains (map f xs) (f x)
Contains-map f [] x among = absurd (Contains-none x among)
Contains-map f (z ∷ xs) x among = ⊎_elim
    (λ here. subst (λ y. Contains (map f (z ∷ xs)) (f y)) here (Contains-first (f z) (map f xs)))
    (λ later. Contains-later (f z) (map f xs) (f x) (Contains-map f xs x later))
    (Contains-cases z xs x among)

pub Contains-flat_map :
    {X Y : Type 0} (f : X → List Y) (xs : List X) (x : X) (y : Y) → Contains xs x → Contains (f x) y
    → Contains (flat_map f xs) y
Contains-flat_map f [] x y among has = absurd (Contains-none x among)
Contains-flat_map f (z ∷ xs) x y among has = ⊎_elim
    (λ here. Contains-append_left (f z) (flat_map f xs) y (subst (λ w. Contains (f w) y) (sym here)
    has))
    (λ later. Contains-append_right (f z) (flat_map f xs) y (Contains-flat_map f xs x y later has))
    (Contains-cases z xs x among)

pub slice_get_there : {X : Type 0} (xs : List X) (k : ℕ) → k < length xs → (x : X) × (slice_get xs k ≡ Some x)
slice_get_there [] k there = absurd (omega arith)
slice_get_there (x ∷ xs) zero there = (x, refl)
slice_get_there (x ∷ xs) (suc k) there = slice_get_there xs k (omega arith)

pub map-Contains : {X Y : Type 0} (f : X → Y) (xs : List X) (y : Y) → Contains (map f xs) y → (x : X) × Contains xs x × (f x ≡ y)
map-Contains f [] y among = absurd (Contains-none y among)
map-Contains f (z ∷ xs) y among = ⊎_elim
    (λ here. (z, Contains-first z xs, here))
    (λ later. let r = map-Contains f xs y later in (r.0, Contains-later z xs r.0 r.1, r.2))
    (Contains-cases (f z) (map f xs) y among)

pub flat_map-Contains : {X Y : Type 0} (f : X → List Y) (xs : List X) (y : Y) → Contains (flat_map f xs) y → (x : X) × Contains xs x × Contains (f x) y
flat_map-Contains f [] y among = absurd (Contains-none y among)
flat_map-Contains f (z ∷ xs) y among = ⊎_elim
    (λ here. (z, Contains-first z xs, here))
    (λ later. let r = flat_map-Contains f xs y later in (r.0, Contains-later z xs r.0 r.1, r.2))
    (Contains-append_cases (f z) (flat_map f xs) y among)

-- ---- boolean tests

pub true_or_not : (test : Bool) → IsTrue test ⊎ (¬ IsTrue test)
true_or_not true = inl refl
true_or_not false = inr false≢true

pub same_or_not : (m n : ℕ) → (m ≡ n) ⊎ (¬ (m ≡ n))
same_or_not m n = by_test (true_or_not (m == n)) where
  by_test : IsTrue (m == n) ⊎ (¬ IsTrue (m == n)) → (m ≡ n) ⊎ (¬ (m ≡ n))
  by_test (inl yes') = inl ((Decides-eqb m n).0 yes')
  by_test (inr no') = inr (λ same. no' ((Decides-eqb m n).1 same))
