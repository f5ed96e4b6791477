use Rattle.std.proofs.Common.{◌<◌}
use Rattle.std.proofs.lemmas.Result.{IfOk-weaker}
use Rattle.types_spec.specs.types.TypeNodes.{type_at}
use Rattle.types_build.specs.representation.AbbreviationWay.{EachPasses}
use Rattle.types_build.proofs.representation.RepresentationKnownLemmas.{some_at}
use Rattle.types_build.proofs.representation.NearerLemmas.{once_is, passed_is}
use Rattle.types_build.proofs.representation.replaced.passed.Goals as goal

pub returns-in-Some-clause-ok : goal.returns-in-Some-clause-ok
returns-in-Some-clause-ok c group known =
    let types = c.args.types.now in
    let less = some_at (λ n. n < c.args.number) c.in_ok-next.field-0 c.in-Some.next c.in-Some.is c.in_ok-next.ensures.below in
    passed_is c.args.decls.now group types c.args.number c.in-Some.next c.requires.number less
    (some_at (λ n. EachPasses c.args.decls.now group (type_at types c.args.number) (type_at types n)) c.in_ok-next.field-0
    c.in-Some.next c.in-Some.is (c.in_ok-next.ensures.passes group known))

pub returns-in-None-clause-ok : goal.returns-in-None-clause-ok
returns-in-None-clause-ok c =
    IfOk-weaker c.unfolded.result _ _
    (λ next is group known.
    once_is c.args.decls.now group c.args.types.now c.unfolded.new.types (type_at c.args.types.now c.args.number) next is)
    c.unfolded.ensures.ok
