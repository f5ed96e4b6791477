-- Lemmas about lists without repeated elements.
use Rattle.std.proofs.Common.{ℕ, zero, suc, ◌≡◌, ◌⊎◌, inl, inr, List, [], ◌∷◌, ◌++◌, Some, refl, sym, ap, subst, arith, ◌≤◌, ⊎_elim, length}
use Rattle.std.specs.Prelude.{Contains, slice_get}
use Rattle.std.proofs.lemmas.List.{append_assoc, append-nil}
use Rattle.std.proofs.lemmas.List.Elements.{Contains-append_left, Contains-append_right}
use Rattle.std.proofs.lemmas.Option.{none-some, same_Some}
use Rattle.base_data.proofs.model.Options.{Contains-first, Contains-later, Contains-cases, slice_get-Contains}
use Rattle.types_spec.specs.types.Ty.{Ty}
use Rattle.types_spec.specs.types.Reached.{IsWithoutRepeats, AreDistinct}

-- If repetitions are removed from two lists in sequence, the results together are the concatenation
-- without repetitions.
pub repeats_then :
    (seen ts others us more : List Ty) → IsWithoutRepeats seen ts others
    → IsWithoutRepeats (seen ++ others) us more → IsWithoutRepeats seen (ts ++ us) (others ++ more)
repeats_then seen [] others us more first second =
    subst (λ (os : List Ty). IsWithoutRepeats seen us (os ++ more)) (sym first)
    (subst (λ (os : List Ty). IsWithoutRepeats os us more) (append-nil seen)
    (subst (λ (os : List Ty). IsWithoutRepeats (seen ++ os) us more) first second))
repeats_then seen (t ∷ ts) others us more (inl again) second =
    inl (again.0, repeats_then seen ts others us more again.1 second)
repeats_then seen (t ∷ ts) others us more (inr new) second =
    let rest = new.1 in
    let before : IsWithoutRepeats (seen ++ (t ∷ rest)) us more =
    subst (λ (os : List Ty). IsWithoutRepeats (seen ++ os) us more) new.2 second in
    let moved : IsWithoutRepeats ((seen ++ t ∷ []) ++ rest) us more =
    subst (λ (os : List Ty). IsWithoutRepeats os us more) (sym (append_assoc seen (t ∷ []) rest)) before in
    inr (
      new.0,
      rest ++ more,
      ap (λ (os : List Ty). os ++ more) new.2,
      repeats_then (seen ++ t ∷ []) ts rest us more new.3 moved,
    )

-- If repetitions are removed from a list, no element of the result is in `seen`.
none_seen :
    (ts seen others : List Ty) → IsWithoutRepeats seen ts others → (i : ℕ) (u : Ty)
    → slice_get others i ≡ Some u → Contains seen u → ⊥
none_seen [] seen others without i u is among =
    no_element i (subst (λ (os : List Ty). slice_get os i ≡ Some u) without is) where
      no_element : (k : ℕ) → slice_get [] k ≡ Some u → ⊥
      no_element k never = none-some u never
none_seen (t ∷ ts) seen others (inl again) i u is among = none_seen ts seen others again.1 i u is among
none_seen (t ∷ ts) seen others (inr new) i u is among =
    by (λ k there. none_seen ts (seen ++ t ∷ []) new.1 new.3 k u there
    (Contains-append_left seen (t ∷ []) u among)) i
    (subst (λ (os : List Ty). slice_get os i ≡ Some u) new.2 is) where
      by : ((k : ℕ) → slice_get new.1 k ≡ Some u → ⊥) → (k : ℕ) → slice_get (t ∷ new.1) k ≡ Some u → ⊥
      by later zero here = new.0 (subst (λ (w : Ty). Contains seen w) (sym (same_Some t u here)) among)
      by later (suc k) there = later k there

pub repeats_distinct :
    (ts seen others : List Ty) → IsWithoutRepeats seen ts others → AreDistinct others
repeats_distinct [] seen others without i j u at_i at_j =
    absurd (none-some u (subst (λ (os : List Ty). slice_get os i ≡ Some u) without at_i))
repeats_distinct (t ∷ ts) seen others (inl again) i j u at_i at_j =
    repeats_distinct ts seen others again.1 i j u at_i at_j
repeats_distinct (t ∷ ts) seen others (inr new) i j u at_i at_j =
    by (repeats_distinct ts (seen ++ t ∷ []) new.1 new.3) i j
    (subst (λ (os : List Ty). slice_get os i ≡ Some u) new.2 at_i)
    (subst (λ (os : List Ty). slice_get os j ≡ Some u) new.2 at_j) where
      first_again : (k : ℕ) → Some t ≡ Some u → slice_get new.1 k ≡ Some u → ⊥
      first_again k here there =
          none_seen ts (seen ++ t ∷ []) new.1 new.3 k u there
          (subst (λ (w : Ty). Contains (seen ++ t ∷ []) w) (same_Some t u here)
          (Contains-append_right seen (t ∷ []) t (Contains-first t [])))

      by : AreDistinct new.1 → (k l : ℕ) → slice_get (t ∷ new.1) k ≡ Some u → slice_get (t ∷ new.1) l ≡ Some u → k ≡ l
      by later zero zero here there = refl
      by later zero (suc l) here there = absurd (first_again l here there)
      by later (suc k) zero here there = absurd (first_again k there here)
      by later (suc k) (suc l) here there = ap (λ (n : ℕ). suc n) (later k l u here there)

-- If repetitions are removed from a list, each element of the result is in the list.
pub repeats_among :
    (ts seen others : List Ty) → IsWithoutRepeats seen ts others → (u : Ty) → Contains others u → Contains ts u
repeats_among [] seen others without u among = subst (λ (os : List Ty). Contains os u) without among
repeats_among (t ∷ ts) seen others (inl again) u among =
    Contains-later t ts u (repeats_among ts seen others again.1 u among)
repeats_among (t ∷ ts) seen others (inr new) u among = ⊎_elim
    (λ here. subst (λ (w : Ty). Contains (t ∷ ts) w) here (Contains-first t ts))
    (λ later. Contains-later t ts u (repeats_among ts (seen ++ t ∷ []) new.1 new.3 u later))
    (Contains-cases t new.1 u (subst (λ (os : List Ty). Contains os u) new.2 among))

-- If two lists are concatenated, then each element of the result is in the first list or in the
-- second list.
pub old_or_added :
    {X : Type 0} (xs ys : List X) (j : ℕ) (x : X) → slice_get (xs ++ ys) j ≡ Some x
    → (slice_get xs j ≡ Some x) ⊎ ((length xs ≤ j) × Contains ys x)
old_or_added [] ys j x is = inr (omega arith, slice_get-Contains ys j x is)
old_or_added (y ∷ xs) ys zero x is = inl is
old_or_added (y ∷ xs) ys (suc j) x is = ⊎_elim
    (λ old. inl old)
    (λ added. inr (omega (arith, added.0), added.1))
    (old_or_added xs ys j x is)
