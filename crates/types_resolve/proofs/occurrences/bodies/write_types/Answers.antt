use Rattle.std.proofs.Common.{[], false}
use Rattle.types_resolve.specs.occurrences.Counted.{in_type}
use Rattle.types_resolve.specs.occurrences.CountedFile.{type_count}
use Rattle.types_resolve.proofs.occurrences.OccurrenceLoopLemmas.{Follows-step, Follows-plain}
use Rattle.types_resolve.proofs.occurrences.bodies.write_types.Goals as goal

pub loop-ty-preserved : goal.loop-ty-preserved
loop-ty-preserved c =
    Follows-step type_count (λ at x. []) (λ at x. []) (λ at t. in_type at false t) c.args.found.now c.args.marks.now
    c.args.types.now c.loop-ty.found c.write_type.new.found c.loop-ty.rest.now c.in_ok-rest.rest.now c.ty-item.result
    c.loop-ty.ty-index c.loop-ty-test.true c.ty-item.is c.loop-ty.invariant c.in_ok-rest.ensures.adds
    c.in_ok-rest.ensures.rest

pub returns-clause-adds : goal.returns-clause-adds
returns-clause-adds c =
    Follows-plain type_count (λ at t. in_type at false t) c.args.found.now c.args.marks.now c.args.types.now c.loop-ty.found
    c.loop-ty.rest.now c.loop-ty.ty-index c.loop-ty-test.false c.loop-ty.invariant
