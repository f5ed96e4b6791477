-- Lemmas about the types of required fields.
use Rattle.std.proofs.Common.{ℕ, ◌≡◌, ◌∙◌, ◌⊎◌, inl, inr, List, [], ◌∷◌, Bool, true, false, cond, Some, refl, sym, ap}
use Rattle.std.specs.Prelude.{option_map, find, Contains, ◌==◌}
use Rattle.std.proofs.lemmas.Bool.{false≢true}
use Rattle.std.proofs.lemmas.Bool.Decides.{Decides-eqb}
use Rattle.base_data.proofs.model.Options.{Contains-none, Contains-cases}
use Rattle.types_spec.specs.types.Fault.{type_of_field}

named_by_test : {T : Type 0} (test : Bool) (first : ℕ × T) (needs : List (ℕ × T)) (i : ℕ) → (test ≡ false → (u : T) × (type_of_field needs i ≡ Some u)) → (u : T) × (option_map (λ (need : ℕ × T). need.1) (cond test (Some first) (find (λ need. need.0 == i) needs)) ≡ Some u)
named_by_test true first needs i later = (first.1, refl)
named_by_test false first needs i later = later refl

not_at_first : {T : Type 0} (first : ℕ × T) (needs : List (ℕ × T)) (i : ℕ) (t : T) → (first.0 == i) ≡ false → (first ≡ (i, t)) ⊎ Contains needs (i, t) → Contains needs (i, t)
not_at_first first needs i t other (inl same) = absurd (false≢true (sym other ∙ (Decides-eqb first.0 i).1 (ap (λ need. need.0) same)))
not_at_first first needs i t other (inr later) = later

-- If a field is required, then the lookup of its type succeeds.
pub needed_is_named : {T : Type 0} (needs : List (ℕ × T)) (i : ℕ) (t : T) → Contains needs (i, t) → (u : T) × (type_of_field needs i ≡ Some u)
needed_is_named [] i t need = absurd (Contains-none (i, t) need)
needed_is_named (first ∷ needs) i t need =
    named_by_test (first.0 == i) first needs i (λ other. needed_is_named needs i t (not_at_first first needs i t other (Contains-cases first needs (i, t) need)))
