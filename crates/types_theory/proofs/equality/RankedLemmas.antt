-- A ranking of abbreviations gives the premises of the weight lemmas.
use Rattle.std.proofs.Common.{ℕ, zero, suc, ◌<◌, ◌≤◌, ◌^◌, ◌≡◌, List, [], ◌∷◌, Some, refl, subst}
use Rattle.std.proofs.Common.{arith}
use Rattle.std.specs.Prelude.{Contains}
use Rattle.std.proofs.lemmas.Option.{same_Some, none-some}
use Rattle.std.proofs.Math.Nat.{one-le-pow, pow-le-pow_right}
use Rattle.std.proofs.lemmas.List.Elements.{Contains-append_left, Contains-append_right}
use Rattle.types_spec.specs.declared.types.decl.Body.TheVariants as bodies
use Rattle.types_spec.specs.declared.types.decl.Decl.{Decl}
use Rattle.types_spec.specs.declared.types.decl.Body.{Body}
use Rattle.types_spec.specs.types.Ty.{Ty, variable, named, tuple, bracket, part, tag, tag_of, including}
use Rattle.types_spec.specs.types.Declarations.{abbreviated}
use Rattle.types_spec.specs.types.WellFormed.{names_outside, AreSound, types_of_body}
use Rattle.base_data.proofs.model.Options.{Contains-first}
use Rattle.types_theory.proofs.equality.WeightLemmas.{AreRanked, CostsWithin}

module _ (rank : List ℕ → ℕ) where
  priced : (name : List ℕ) → 0 < 202 ^ rank name
  priced name = one-le-pow (rank name) 202 (omega arith)

  costs_within : (r : ℕ) (t : Ty) → ((other : List ℕ) → Contains (names_outside t) other
      → rank other ≤ r) → CostsWithin (λ other. 202 ^ rank other)
      (λ other. one-le-pow (rank other) 202 (omega arith)) (202 ^ r) t
  costs_within r (variable x) below = tt
  costs_within r (named name) below =
      pow-le-pow_right (omega arith) (below name (Contains-first name []))
  costs_within r tuple below = tt
  costs_within r bracket below = tt
  costs_within r (part whole added) below = (
    costs_within r whole (λ other among. below other (Contains-append_left (names_outside whole)
        (names_outside added) other among)),
    costs_within r added (λ other among. below other (Contains-append_right (names_outside whole)
        (names_outside added) other among)),
  )
  costs_within r (tag whole x) below = costs_within r whole below
  costs_within r (tag_of whole x argument) below = costs_within r whole below
  costs_within r (including whole included) below = (
    costs_within r whole (λ other among. below other (Contains-append_left (names_outside whole)
        (names_outside included) other among)),
    costs_within r included (λ other among. below other (Contains-append_right (names_outside whole)
        (names_outside included) other among)),
  )

before : (n : ℕ) → 0 < n → (r : ℕ) × (n ≡ suc r)
before zero positive = absurd (omega arith)
before (suc r) positive = (r, refl)

its_type : (body : Body) (t : Ty) → abbreviated body ≡ Some t → Contains (types_of_body body) t
its_type (bodies.Abbreviation u) t is =
    subst (λ w. Contains (u ∷ []) w) (same_Some u t is) (Contains-first u [])
its_type (bodies.Record fields) t is = absurd (none-some t is)
its_type (bodies.Variant constructors) t is = absurd (none-some t is)

pub are_ranked : (decls : List Decl) (sound : AreSound decls) → AreRanked decls sound.rank
are_ranked decls sound = record {
  bounded = sound.ranking.bounded;
  falls = λ name d t found is.
      let r = before (sound.rank name) (sound.ranking.positive name d t found is) in
      let written = sound.written name d t found (its_type d.body t is) in (
        r.0,
        r.1,
        costs_within sound.rank r.0 t (λ other among.
            omega (arith, r.1, sound.ranking.falls name d t found is other among)),
        written.0,
        written.1,
      );
}
