use Rattle.std.proofs.Common.{refl}
use Rattle.std.proofs.lemmas.List.{map-append}
use Rattle.std.proofs.lemmas.Option.{slice_get_read}
use Rattle.types_build.proofs.representation.RepresentationLoopLemmas.{one_more}
use Rattle.types_build.proofs.representation.DatatypeLemmas.{instance_more}
use Rattle.types_build.proofs.representation.datatype.instances_of_fields.Goals as goal

pub loop-field-preserved : goal.loop-field-preserved
loop-field-preserved c =
    let at = slice_get_read _ _ _ _ refl c.loop-field-test.true c.field-item.is in
    rw (c.in_ok-push.ensures.items, one_more c.args.fields.now c.loop-field.field-index _ at, map-append)
    (instance_more c.args.types.now c.loop-field.types c.loop-field.invariant.grown c.args.decl.now c.args.arguments.now c.requires _ _ c.loop-field.invariant.has
    c.instance.new.self c.field-item.result.ty c.in_ok-number.number (rw (← c.as_slice.ensures) c.in_ok-number.ensures.ok))
