-- Lemmas about store numbers and the types that the numbers denote.
use Rattle.std.proofs.Common.{ℕ, ◌<◌, ◌≡◌, ◌∙◌, inl, inr, Bool, true, false, cond, List, [], ◌∷◌, ◌++◌, length, Some, refl, sym, ap, subst}
use Rattle.std.proofs.Common.{true≢false, ⊎_elim, ◌||◌}
use Rattle.std.specs.Prelude.{Contains, nat_eq}
use Rattle.std.specs.List.{list_any}
use Rattle.std.proofs.lemmas.List.{append_assoc, append-nil, map-append}
use Rattle.std.proofs.lemmas.List.Elements.{All-head, All-tail, All-nil, All-cons, All-push, All-contains}
use Rattle.std.proofs.Math.Bool.{or-true}
use Rattle.std.proofs.lemmas.Bool.{eq-eqb, eqb-true}
use Rattle.std.proofs.lemmas.Map.Views.{Contains-from_any}
use Rattle.std.proofs.lemmas.Option.{slice_get-get_or}
use Rattle.indexmap.specs.IndexSet.{insert_all}
use Rattle.base_data.proofs.model.Options.{map-Contains, Contains-map, Contains-none, Contains-cases}
use Rattle.types_spec.specs.types.Ty.{Ty, tuple}
use Rattle.types_spec.specs.types.TypeNodes.{type_at}
use Rattle.types_spec.specs.types.Reached.{IsWithoutRepeats}
use Rattle.types_table.specs.store.Held.{AreDistinct}
use Rattle.types_build.specs.builder.Listed.{types_at, AreWithin}

-- If a number is in the list, then the search finds the number.
any_there : (n : ℕ) (met : List ℕ) → Contains met n → list_any (nat_eq n) met ≡ true
any_there n [] among = absurd (Contains-none n among)
any_there n (m ∷ met) among = ⊎_elim
    (λ here. ap (λ (b : Bool). b || list_any (nat_eq n) met) (eq-eqb n m (sym here)))
    (λ later. ap (λ (b : Bool). nat_eq n m || b) (any_there n met later) ∙ or-true (nat_eq n m))
    (Contains-cases m met n among)

-- The insertion of `numbers` into `met` adds the numbers `added`, whose types are distinct from
-- earlier types.
pub record MetAfter (types : List Ty) (met numbers : List ℕ) : Type 0 where
  pub added : List ℕ
  pub kept : insert_all nat_eq met numbers ≡ met ++ added
  pub within : AreWithin types added
  pub new : IsWithoutRepeats (types_at types met) (types_at types numbers) (types_at types added)

module _ (types : List Ty) (distinct : AreDistinct types) where
  same_number :
      (n m : ℕ) → n < length types → m < length types → type_at types n ≡ type_at types m → n ≡ m
  same_number n m below below' same =
      distinct n m (type_at types m)
      (slice_get-get_or types n tuple below ∙ ap (λ (t : Ty). Some t) same)
      (slice_get-get_or types m tuple below')

  -- If the type with a store number was discovered, then the store number is in the list.
  met_by_number :
      (met : List ℕ) (n : ℕ) → AreWithin types met → n < length types
      → Contains (types_at types met) (type_at types n) → Contains met n
  met_by_number met n within below among =
      let found = map-Contains (type_at types) met (type_at types n) among in
      subst (λ (m : ℕ). Contains met m)
      (same_number found.0 n (All-contains (λ i. i < length types) met found.0 within found.1) below found.2)
      found.1

  pub met_after :
      (numbers met : List ℕ) → AreWithin types met → AreWithin types numbers → MetAfter types met numbers
  met_after [] met within all = record {
    added = [];
    kept = sym (append-nil met);
    within = All-nil (λ i. i < length types);
    new = refl;
  }
  met_after (n ∷ numbers) met within all =
      by (λ later before. met_after numbers later before others) (list_any (nat_eq n) met) refl where
        below : n < length types
        below = All-head (λ i. i < length types) n numbers all

        others : AreWithin types numbers
        others = All-tail (λ i. i < length types) n numbers all

        by : ((later : List ℕ) → AreWithin types later → MetAfter types later numbers)
            → (there : Bool) → list_any (nat_eq n) met ≡ there → MetAfter types met (n ∷ numbers)
        by after true is =
            let rest = after met within in record {
              added = rest.added;
              kept = ap (λ (b : Bool). insert_all nat_eq (cond b met (met ++ n ∷ [])) numbers) is ∙ rest.kept;
              within = rest.within;
              new = inl (Contains-map (type_at types) met n (Contains-from_any eqb-true n met is), rest.new);
            }
        by after false is =
            let rest = after (met ++ n ∷ []) (All-push (λ i. i < length types) met n within below) in record {
              added = n ∷ rest.added;
              kept = ap (λ (b : Bool). insert_all nat_eq (cond b met (met ++ n ∷ [])) numbers) is ∙ rest.kept
                  ∙ append_assoc met (n ∷ []) rest.added;
              within = All-cons (λ i. i < length types) n rest.added below rest.within;
              new = inr (
                λ among. true≢false (sym (any_there n met (met_by_number met n within below among)) ∙ is),
                types_at types rest.added,
                refl,
                subst (λ (ts : List Ty). IsWithoutRepeats ts (types_at types numbers) (types_at types rest.added))
                    (map-append (type_at types) met (n ∷ [])) rest.new,
              );
            }
