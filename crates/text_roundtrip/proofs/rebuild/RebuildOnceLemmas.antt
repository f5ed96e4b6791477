-- If a key occurs once, then the search finds the key at its index.
use Rattle.std.proofs.Common.{◌≡◌, ◌≢◌, ℕ, zero, suc, ◌<◌, Bool, true, false, cond, List, [], ◌∷◌, length, Option, Some, None, refl, sym, ap, subst, ◌∙◌, arith}
use Rattle.std.specs.Prelude.{slice_get, find}
use Rattle.std.specs.List.{AllByRecursion, position, position_or_len, filter_map, cons_option}
use Rattle.std.proofs.lemmas.Bool.{lt-ltb}
use Rattle.text_roundtrip.specs.rebuild.Spoken.{AreOnce}

module _ {X : Type 0} where
  -- If a property holds for all elements, then the property holds for the element at an index.
  pub all_at : (P : X → Type 0) (xs : List X) (i : ℕ) (x : X) → AllByRecursion P xs → slice_get xs i ≡ Some x → P x
  all_at P [] i x all e = absurd cc
  all_at P (y ∷ ys) zero x all e = let same : y ≡ x = cc in subst P same all.0
  all_at P (y ∷ ys) (suc i) x all e = all_at P ys i x all.1 e

  -- If the search finds an element, then the element passes the test.
  pub found_at : (p : X → Bool) (xs : List X) (x : X) → find p xs ≡ Some x → (i : ℕ) × (slice_get xs i ≡ Some x) × (p x ≡ true)
  found_at p [] x e = absurd cc
  found_at p (y ∷ ys) x e = by_test (found_at p ys x) (p y) refl e
    where
      by_test : (find p ys ≡ Some x → (i : ℕ) × (slice_get ys i ≡ Some x) × (p x ≡ true)) → (b : Bool) → p y ≡ b → cond b (Some y) (find p ys) ≡ Some x → (i : ℕ) × (slice_get (y ∷ ys) i ≡ Some x) × (p x ≡ true)
      by_test others true q e = let same : y ≡ x = cc in (0, e, ap p (sym same) ∙ q)
      by_test others false q e = let r = others e in (suc r.0, r.1, r.2)

  -- If an element passes the test, then the search finds an element.
  pub some_found : (p : X → Bool) (xs : List X) (i : ℕ) (x : X) → slice_get xs i ≡ Some x → p x ≡ true → (y : X) × (find p xs ≡ Some y)
  some_found p [] i x e q = absurd cc
  some_found p (y ∷ ys) zero x e q = let same : y ≡ x = cc in let passes : p y ≡ true = ap p same ∙ q in (y, rw passes refl)
  some_found p (y ∷ ys) (suc i) x e q = by_test (some_found p ys i x e q) (p y) refl
    where
      by_test : (z : X) × (find p ys ≡ Some z) → (b : Bool) → p y ≡ b → (z : X) × (cond (p y) (Some y) (find p ys) ≡ Some z)
      by_test others true r = (y, rw r refl)
      by_test others false r = (others.0, rw r others.1)

  module _ (key : X → List ℕ) (p : X → Bool) (x : X) (passes : p x ≡ true) (only : (y : X) → p y ≡ true → key y ≡ key x) where
    fails : (y : X) → (key y ≡ key x → ⊥) → p y ≡ false
    fails y other = by_test (p y) refl
      where
        by_test : (b : Bool) → p y ≡ b → p y ≡ false
        by_test true e = absurd (other (only y e))
        by_test false e = e

    len_at : (xs : List X) (i : ℕ) → AreOnce key xs → slice_get xs i ≡ Some x → (position_or_len p xs ≡ i) × (i < length xs)
    len_at [] i once e = absurd cc
    len_at (y ∷ ys) zero once e = let same : y ≡ x = cc in let q : p y ≡ true = ap p same ∙ passes in (rw q refl, omega arith)
    len_at (y ∷ ys) (suc i) once e =
        let later = len_at ys i once.1 e in
        let other : (key y ≡ key x → ⊥) = λ same. all_at (λ z. key z ≢ key y) ys i x once.0 e (sym same) in
        (rw (fails y other) (omega (arith, later.0)), omega (arith, later.1))

    pub position_at : (xs : List X) (i : ℕ) → AreOnce key xs → slice_get xs i ≡ Some x → position p xs ≡ Some i
    position_at xs i once e = let l = len_at xs i once e in rw (l.0, lt-ltb i (length xs) l.1) refl

  module _ {Y : Type 0} (key : X → List ℕ) (other : Y → List ℕ) (h : X → Option Y) (same : (x : X) (y : Y) → h x ≡ Some y → other y ≡ key x) where
    kept_apart : (xs : List X) (k : List ℕ) → AllByRecursion (λ x. key x ≢ k) xs → AllByRecursion (λ y. other y ≢ k) (filter_map h xs)
    kept_apart [] k all = tt
    kept_apart (x ∷ xs) k all = by_kept (h x) refl (kept_apart xs k all.1)
      where
        by_kept : (o : Option Y) → h x ≡ o → AllByRecursion (λ y. other y ≢ k) (filter_map h xs) → AllByRecursion (λ y. other y ≢ k) (cons_option o (filter_map h xs))
        by_kept None e rest = rest
        by_kept (Some y) e rest = (λ is. all.0 (sym (same x y e) ∙ is), rest)

    pub kept_once : (xs : List X) → AreOnce key xs → AreOnce other (filter_map h xs)
    kept_once [] once = tt
    kept_once (x ∷ xs) once = by_kept (h x) refl (kept_once xs once.1)
      where
        by_kept : (o : Option Y) → h x ≡ o → AreOnce other (filter_map h xs) → AreOnce other (cons_option o (filter_map h xs))
        by_kept None e rest = rest
        by_kept (Some y) e rest = (subst (λ k. AllByRecursion (λ z. other z ≢ k) (filter_map h xs)) (sym (same x y e)) (kept_apart xs (key x) once.0), rest)

    pub kept_all : (P : X → Type 0) (Q : Y → Type 0) → ((x : X) (y : Y) → h x ≡ Some y → P x → Q y) → (xs : List X) → AllByRecursion P xs → AllByRecursion Q (filter_map h xs)
    kept_all P Q each [] all = tt
    kept_all P Q each (x ∷ xs) all = by_kept (h x) refl (kept_all P Q each xs all.1)
      where
        by_kept : (o : Option Y) → h x ≡ o → AllByRecursion Q (filter_map h xs) → AllByRecursion Q (cons_option o (filter_map h xs))
        by_kept None e rest = rest
        by_kept (Some y) e rest = (each x y e all.0, rest)
