use Rattle.types_build.proofs.representation.RepresentationSumLemmas.{wrong_parts, right_parts}
use Rattle.types_build.proofs.representation.sum.row_shape.Goals as goal

pub returns-then-row-parts-clause-ok : goal.returns-then-row-parts-clause-ok
returns-then-row-parts-clause-ok c =
    wrong_parts c.args.types.now c.args.parts.now c.args.row c.args.name.now c.if-row-parts.true

pub returns-clause-ok : goal.returns-clause-ok
returns-clause-ok c =
    rw c.of.ensures
    (right_parts c.args.types.now c.args.parts.now c.args.row c.args.name.now c.if-row-parts.false
    c.blocks-2.new.types c.in_ok-found.found.items c.in_ok-found.ensures.ok)
