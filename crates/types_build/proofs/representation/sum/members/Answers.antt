use Rattle.types_build.proofs.representation.RepresentationSumLemmas.{parts_below, next_member}
use Rattle.types_build.proofs.representation.sum.members.Goals as goal

pub member-requires : goal.member-requires
member-requires c =
    parts_below c.args.types.now c.loop-field.types c.loop-field.invariant.grown c.args.parts.now c.requires c.args.name.now

pub loop-field-preserved : goal.loop-field-preserved
loop-field-preserved c =
    rw c.in_ok-push.ensures.items
    (next_member c.args.types.now c.loop-field.types c.loop-field.invariant.grown c.args.parts.now c.requires c.args.name.now
    c.args.fields.now c.loop-field.field-index _ c.loop-field-test.true _ c.loop-field.invariant.has
    c.member.new.types c.in_ok-number.number c.in_ok-number.ensures.ok)
