use Rattle.std.proofs.lemmas.Result.{IfOk-weaker}
use Rattle.types_spec.specs.types.TypeNodes.{type_at}
use Rattle.types_build.proofs.representation.RepresentationKnownLemmas.{part_passes}
use Rattle.types_build.proofs.representation.known_abbreviations.known_part.Goals as goal

pub returns-in-Some-known_argument-clause-passes : goal.returns-in-Some-known_argument-clause-passes
returns-in-Some-known_argument-clause-passes c =
    IfOk-weaker c.part.result _ _
    (λ part is group known.
    part_passes c.args.decls.now group c.args.t.now.types.now (type_at c.args.t.now.types.now c.args.t.now.number) c.in-Some.decl
    c.in-Some-known_argument.i c.args.known.now c.in-Some.ensures c.in-Some-known_argument.ensures known part is)
    c.part.ensures.is
