use Rattle.std.proofs.Common.{◌<◌, arith}
use Rattle.types_spec.specs.types.TypeNodes.{type_at}
use Rattle.types_build.specs.representation.AbbreviationWay.{EachPasses}
use Rattle.types_build.proofs.representation.RepresentationWayLemmas.{leads_more}
use Rattle.types_build.proofs.representation.RepresentationKnownLemmas.{some_at}
use Rattle.types_build.proofs.representation.known_abbreviations.known_end.Goals as goal

pub loop-next-preserved : goal.loop-next-preserved
loop-next-preserved c =
    let types = c.args.t.now.types.now in
    let less = some_at (λ n. n < c.loop-next.at) c.in_ok-next.field-0 c.in-Some.next c.in-Some.is c.in_ok-next.ensures.below in (
      omega (arith, less, c.loop-next.invariant.0),
      λ group known.
          leads_more c.args.decls.now group (type_at types c.args.t.now.number) (type_at types c.loop-next.at) (type_at types c.in-Some.next)
          (c.loop-next.invariant.1 group known)
          (some_at (λ n. EachPasses c.args.decls.now group (type_at types c.loop-next.at) (type_at types n)) c.in_ok-next.field-0
          c.in-Some.next c.in-Some.is (c.in_ok-next.ensures.passes group known)),
    )
