-- Lemmas on filters of lists.
use Rattle.std.proofs.Common.{◌≡◌, ◌⊎◌, ⊎_elim, inl, inr, List, [], ◌∷◌, Bool, true, false}
use Rattle.std.proofs.Common.{Option, Some, None, refl, ap, subst, ◌∙◌}
use Rattle.std.specs.Prelude.{Contains, filter, cond}
use Rattle.std.specs.List.{filter_map, cons_option}
use Rattle.std.proofs.lemmas.Option.{same_Some, none-some}
use Rattle.base_data.proofs.model.Options.{Contains-first, Contains-later, Contains-none, Contains-cases}

-- ---- filters that select items

write_has : {Y : Type 0} (found : Option Y) (rest : List Y) (y : Y) → (found ≡ Some y)
    ⊎ Contains rest y → Contains (cons_option found rest) y
write_has None rest y (inl is) = absurd (none-some y is)
write_has None rest y (inr later) = later
write_has (Some z) rest y (inl is) =
    subst (λ x. Contains (z ∷ rest) x) (same_Some z y is) (Contains-first z rest)
write_has (Some z) rest y (inr later) = Contains-later z rest y later

write_is : {Y : Type 0} (found : Option Y) (rest : List Y) (y : Y) → Contains (cons_option found rest)
    y → (found ≡ Some y) ⊎ Contains rest y
write_is None rest y among = inr among
write_is (Some z) rest y among =
    ⊎_elim (λ here. inl (ap Some here)) (λ later. inr later) (Contains-cases z rest y among)

module _ {X Y : Type 0} where
  pub Contains-filter_mapped :
      (h : X → Option Y) (xs : List X) (x : X) (y : Y) → Contains xs x → h x ≡ Some y
      → Contains (filter_map h xs) y
  Contains-filter_mapped h [] x y among is = absurd (Contains-none x among)
  Contains-filter_mapped h (z ∷ xs) x y among is = write_has (h z) (filter_map h xs) y (⊎_elim
      (λ here. inl (ap h here ∙ is))
      (λ later. inr (Contains-filter_mapped h xs x y later is))
      (Contains-cases z xs x among))

  pub filter_mapped_is :
      (h : X → Option Y) (xs : List X) (y : Y) → Contains (filter_map h xs) y → (x : X)
      × Contains xs x × (h x ≡ Some y)
  filter_mapped_is h [] y among = absurd (Contains-none y among)
  filter_mapped_is h (z ∷ xs) y among = ⊎_elim
      (λ here. (z, Contains-first z xs, here))
      (λ later. let found = filter_mapped_is h xs y later in
      (found.0, Contains-later z xs found.0 found.1, found.2))
      (write_is (h z) (filter_map h xs) y among)

-- ---- filters by a test

kept_is : {X : Type 0} (test : Bool) (x : X) (xs : List X) (y : X)
    → Contains (cond test (x ∷ xs) xs) y → ((test ≡ true) × (x ≡ y)) ⊎ Contains xs y
kept_is true x xs y among =
    ⊎_elim (λ here. inl (refl, here)) (λ later. inr later) (Contains-cases x xs y among)
kept_is false x xs y among = inr among

pub filtered-Contains :
    {X : Type 0} (p : X → Bool) (xs : List X) (x : X) → Contains (filter p xs) x → Contains xs x
    × (p x ≡ true)
filtered-Contains p [] x among = absurd (Contains-none x among)
filtered-Contains p (y ∷ xs) x among = ⊎_elim
    (λ here. (
      subst (λ z. Contains (y ∷ xs) z) here.1 (Contains-first y xs),
      subst (λ z. p z ≡ true)
          here.1 here.0,
    ))
    (λ later. let is = filtered-Contains p xs x later in (Contains-later y xs x is.0, is.1))
    (kept_is (p y) y (filter p xs) x among)
