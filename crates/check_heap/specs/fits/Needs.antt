-- The fields that have types, as a list of indices and types in the sense of the table of
-- representations.
use Rattle.std.specs.Prelude.{ℕ, List, [], ◌∷◌, replicate}
use Rattle.types_spec.specs.types.Fitting.{numbered_from}
use Rattle.types_spec.specs.declared.types.shape.Constr.{Constr}
use Rattle.check_heap.specs.declared.fits.needs.Needs.{Needs}
use Rattle.check_heap.specs.declared.fits.needs.Needs.TheVariants as needs

abbrev pub needs_in : Needs → List (ℕ × ℕ)
needs_in needs.Nothing = []
needs_in (needs.Listed types) = numbered_from 0 types.now
needs_in (needs.Each size t) = numbered_from 0 (replicate size t)
needs_in (needs.Argument t) = (1, t) ∷ []

-- The fields of the first constructor.
abbrev pub first_fields : List (Constr ℕ) → List ℕ
first_fields [] = []
first_fields (constr ∷ blocks) = constr.fields

-- The fields of a constructor, by index.
abbrev pub constr_needed : Constr ℕ → List (ℕ × ℕ)
constr_needed constr = numbered_from 0 constr.fields
