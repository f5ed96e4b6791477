-- Lemmas about exhaustive searches of lists.
use Rattle.std.proofs.Common.{suc, ◌≡◌, ◌∙◌, ◌⊎◌, ⊎_elim, inl, inr, List, [], ◌∷◌, length, sym, subst, arith}
use Rattle.std.specs.Prelude.{Contains}
use Rattle.base_data.proofs.model.Options.{Contains-first, Contains-later, Contains-none, Contains-cases}

-- ---- searches

search_more : {X E : Type 0} (Q : X → Type 0) (x : X) (xs : List X) → E ⊎ Q x → E ⊎ ((y : X) → Contains xs y → Q y) → E ⊎ ((y : X) → Contains (x ∷ xs) y → Q y)
search_more Q x xs (inl found) rest = inl found
search_more Q x xs (inr first) (inl found) = inl found
search_more {X} Q x xs (inr first) (inr all) = inr each where
  by_position : (y : X) → (x ≡ y) ⊎ Contains xs y → Q y
  by_position y (inl here) = subst Q here first
  by_position y (inr later) = all y later

  each : (y : X) → Contains (x ∷ xs) y → Q y
  each y among = by_position y (Contains-cases x xs y among)

-- If each item either yields an `E` or has the property, then some item yields an `E` or all items
-- have the property.
pub search_all : {X E : Type 0} (Q : X → Type 0) (xs : List X) → ((x : X) → Contains xs x → E ⊎ Q x) → E ⊎ ((x : X) → Contains xs x → Q x)
search_all Q [] test = inr (λ x among. absurd (Contains-none x among))
search_all Q (x ∷ xs) test =
    search_more Q x xs (test x (Contains-first x xs)) (search_all Q xs (λ y among. test y (Contains-later x xs y among)))

-- ---- a list without one of its items

pub record IsWithout {X : Type 0} (xs : List X) (x : X) : Type 0 where
  pub rest : List X
  pub shorter : length xs ≡ suc (length rest)
  pub others : (y : X) → Contains xs y → (x ≡ y) ⊎ Contains rest y

without_first : {X : Type 0} (z x : X) (xs : List X) → z ≡ x → IsWithout (z ∷ xs) x
without_first z x xs here = record {
  rest = xs;
  shorter = omega arith;
  others = λ y has. ⊎_elim (λ first. inl (sym here ∙ first)) (λ later. inr later) (Contains-cases z xs y has);
}

without_later : {X : Type 0} (z x : X) (xs : List X) → IsWithout xs x → IsWithout (z ∷ xs) x
without_later z x xs left = record {
  rest = z ∷ left.rest;
  shorter = omega (arith, left.shorter);
  others = λ y has. ⊎_elim
      (λ first. inr (subst (λ w. Contains (z ∷ left.rest) w) first (Contains-first z left.rest)))
      (λ later. ⊎_elim (λ same. inl same) (λ kept. inr (Contains-later z left.rest y kept)) (left.others y later))
      (Contains-cases z xs y has);
}

pub without : {X : Type 0} (xs : List X) (x : X) → Contains xs x → IsWithout xs x
without [] x among = absurd (Contains-none x among)
without (z ∷ xs) x among = ⊎_elim
    (λ here. without_first z x xs here)
    (λ later. without_later z x xs (without xs x later))
    (Contains-cases z xs x among)
