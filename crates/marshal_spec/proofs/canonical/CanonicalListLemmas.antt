-- Elements of lists, and lists that are related element by element.
use Rattle.std.proofs.Common.{ℕ, zero, suc, ◌≡◌, ◌+◌, ◌<◌, ◌⊎◌, ⊎_elim, inl, inr, Bool, true, false, cond, List, [], ◌∷◌, ◌++◌, length, Option, Some, None, refl, sym, ap, subst, arith}
use Rattle.std.proofs.lemmas.Option.{same_Some, none-some}
use Rattle.std.specs.Prelude.{slice_get, Contains, IsSomeAnd}
use Rattle.std.specs.List.{AllZip}
pub use Rattle.base_data.proofs.model.Lists.{slice_get-append_right as slice_get_right}
use Rattle.base_data.proofs.model.Options.{Contains-first, Contains-later, Contains-none, Contains-cases, same_or_not}

-- ---- options

pub IsSomeAnd-weaker : {A : Type 0} (o : Option A) (P Q : A → Type 0) → ((x : A) → P x → Q x) → IsSomeAnd o P → IsSomeAnd o Q
IsSomeAnd-weaker None P Q weaker holds = holds
IsSomeAnd-weaker (Some x) P Q weaker holds = weaker x holds

-- ---- elements of a list

-- If an element is appended to a list, then the element is at the position `length ks`.
pub slice_get_push : (ks : List ℕ) (k : ℕ) → slice_get (ks ++ k ∷ []) (length ks) ≡ Some k
slice_get_push [] k = refl
slice_get_push (m ∷ ks) k = slice_get_push ks k

pub slice_get_push_cases : (ks : List ℕ) (k i m : ℕ) → slice_get (ks ++ k ∷ []) i ≡ Some m → (slice_get ks i ≡ Some m) ⊎ ((i ≡ length ks) × (m ≡ k))
slice_get_push_cases [] k zero m is = inr (refl, sym (same_Some k m is))
slice_get_push_cases [] k (suc i) m is = absurd (none-some m is)
slice_get_push_cases (n ∷ ks) k zero m is = inl is
slice_get_push_cases (n ∷ ks) k (suc i) m is = ⊎_elim (λ before. inl before) (λ last. inr (ap suc last.0, last.1)) (slice_get_push_cases ks k i m is)

-- If a list of at most one element contains `x`, then the condition is true and the element is `x`.
pub Contains-cond : {X : Type 0} (b : Bool) (z x : X) → Contains (cond b (z ∷ []) []) x → (b ≡ true) × (z ≡ x)
Contains-cond true z x among = (refl, ⊎_elim (λ here. here) (λ later. absurd (Contains-none x later)) (Contains-cases z [] x among))
Contains-cond false z x among = absurd (Contains-none x among)

pub cond-Contains : {X : Type 0} (b : Bool) (z : X) → b ≡ true → Contains (cond b (z ∷ []) []) z
cond-Contains b z is = subst (λ c. Contains (cond c (z ∷ []) []) z) (sym is) (Contains-first z [])

-- ---- numbers

greatest_or_less : (n k : ℕ) → k < suc n → (n ≡ k) ⊎ (k < n)
greatest_or_less n k less = elim (same_or_not n k) [ inl e ↦ inl e | inr e ↦ inr (omega arith) ]

-- The numbers below `n`, in descending order.
abbrev pub below : ℕ → List ℕ
below zero = []
below (suc n) = n ∷ below n

pub Contains-below : (n k : ℕ) → k < n → Contains (below n) k
Contains-below zero k less = absurd (omega arith)
Contains-below (suc n) k less = ⊎_elim
    (λ same. subst (λ m. Contains (n ∷ below n) m) same (Contains-first n (below n)))
    (λ fewer. Contains-later n (below n) k (Contains-below n k fewer))
    (greatest_or_less n k less)

pub below-Contains : (n k : ℕ) → Contains (below n) k → k < n
below-Contains zero k among = absurd (Contains-none k among)
below-Contains (suc n) k among = ⊎_elim
    (λ same. omega arith)
    (λ later. omega (arith, below-Contains n k later))
    (Contains-cases n (below n) k among)

-- ---- element by element

pub AllZip-weaker : {A B : Type 0} (R S : A → B → Type 0) (xs : List A) (ys : List B) → ((x : A) (y : B) → R x y → S x y) → AllZip R xs ys → AllZip S xs ys
AllZip-weaker R S [] [] weaker all = all
AllZip-weaker R S [] (y ∷ ys) weaker all = all
AllZip-weaker R S (x ∷ xs) [] weaker all = all
AllZip-weaker R S (x ∷ xs) (y ∷ ys) weaker all = (weaker x y all.0, AllZip-weaker R S xs ys weaker all.1)

-- If `R` relates two lists, then the converse relation `S` relates the lists in the other order.
pub AllZip-swapped : {A B : Type 0} (R : A → B → Type 0) (S : B → A → Type 0) (xs : List A) (ys : List B) → ((x : A) (y : B) → R x y → S y x) → AllZip R xs ys → AllZip S ys xs
AllZip-swapped R S [] [] turns all = all
AllZip-swapped R S [] (y ∷ ys) turns all = all
AllZip-swapped R S (x ∷ xs) [] turns all = all
AllZip-swapped R S (x ∷ xs) (y ∷ ys) turns all = (turns x y all.0, AllZip-swapped R S xs ys turns all.1)

-- If `R` relates `xs` to `ys` and `S` relates `ys` to `zs`, then the composition `T` relates `xs`
-- to `zs`.
pub AllZip-composed : {A B C : Type 0} (R : A → B → Type 0) (S : B → C → Type 0) (T : A → C → Type 0) (xs : List A) (ys : List B) (zs : List C) → ((x : A) (y : B) (z : C) → R x y → S y z → T x z) → AllZip R xs ys → AllZip S ys zs → AllZip T xs zs
AllZip-composed R S T [] [] [] joins all more = tt
AllZip-composed R S T [] [] (z ∷ zs) joins all more = more
AllZip-composed R S T [] (y ∷ ys) zs joins all more = absurd all
AllZip-composed R S T (x ∷ xs) [] zs joins all more = absurd all
AllZip-composed R S T (x ∷ xs) (y ∷ ys) [] joins all more = more
AllZip-composed R S T (x ∷ xs) (y ∷ ys) (z ∷ zs) joins all more = (joins x y z all.0 more.0, AllZip-composed R S T xs ys zs joins all.1 more.1)

pub AllZip-append : {A B : Type 0} (R : A → B → Type 0) (xs xs' : List A) (ys ys' : List B) → AllZip R xs ys → AllZip R xs' ys' → AllZip R (xs ++ xs') (ys ++ ys')
AllZip-append R [] xs' [] ys' all more = more
AllZip-append R [] xs' (y ∷ ys) ys' all more = absurd all
AllZip-append R (x ∷ xs) xs' [] ys' all more = absurd all
AllZip-append R (x ∷ xs) xs' (y ∷ ys) ys' all more = (all.0, AllZip-append R xs xs' ys ys' all.1 more)

-- If `R` relates each element of a list to itself, then `R` relates the list to itself element by
-- element.
pub AllZip-same : {A : Type 0} (R : A → A → Type 0) (xs : List A) → ((x : A) → Contains xs x → R x x) → AllZip R xs xs
AllZip-same R [] each = tt
AllZip-same R (x ∷ xs) each = (each x (Contains-first x xs), AllZip-same R xs (λ y among. each y (Contains-later x xs y among)))

-- If `R` relates two lists element by element, then `R` relates the elements at each position.
pub AllZip-at : {A B : Type 0} (R : A → B → Type 0) (xs : List A) (ys : List B) (i : ℕ) (x : A) → AllZip R xs ys → slice_get xs i ≡ Some x → IsSomeAnd (slice_get ys i) (λ y. R x y)
AllZip-at R [] ys i x all is = absurd (cc)
AllZip-at R (z ∷ xs) [] i x all is = absurd all
AllZip-at R (z ∷ xs) (y ∷ ys) zero x all is = let same : z ≡ x = cc in subst (λ w. R w y) same all.0
AllZip-at R (z ∷ xs) (y ∷ ys) (suc i) x all is = AllZip-at R xs ys i x all.1 is
