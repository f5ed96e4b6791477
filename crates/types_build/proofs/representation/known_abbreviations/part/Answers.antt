use Rattle.std.proofs.Common.{◌∙◌, ap, ℕ, List}
use Rattle.std.specs.Prelude.{slice_get}
use Rattle.types_build.proofs.representation.RepresentationKnownLemmas.{some_less}
use Rattle.types_build.proofs.representation.known_abbreviations.part.Goals as goal

pub returns-clause-below : goal.returns-clause-below
returns-clause-below c =
    some_less c.args.t.now.number c.args.i c.in_ok-parts.parts.items c.nth.result c.in_ok-parts.ensures.less
    (c.nth.ensures ∙ ap (λ (xs : List ℕ). slice_get xs c.args.i) c.as_slice.ensures.value)
