use Rattle.std.proofs.Common.{sym}
use Rattle.types_spec.specs.types.TypeNodes.{type_at}
use Rattle.types_build.proofs.representation.RepresentationKnownLemmas.{abbreviation_found}
use Rattle.types_build.proofs.representation.known_abbreviations.abbreviation.Goals as goal

pub returns-in-Abbreviation : goal.returns-in-Abbreviation
returns-in-Abbreviation c =
    abbreviation_found c.args.decls.now (type_at c.args.t.now.types.now c.args.t.now.number) c.in_ok-name.name.now c.in_ok-found.found
    c.at.result.now c.in-Abbreviation.field-0 c.in_ok-found.ensures (sym c.in_ok-name.ensures) c.at.ensures
    c.in-Abbreviation.is
