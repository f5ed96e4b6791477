use Rattle.std.proofs.Common.{refl}
use Rattle.std.proofs.lemmas.Option.{slice_get_read}
use Rattle.types_build.proofs.representation.RepresentationLoopLemmas.{one_more}
use Rattle.types_build.proofs.representation.DatatypeLemmas.{instance_more}
use Rattle.types_build.proofs.representation.datatype.instances.Goals as goal

pub loop-t-preserved : goal.loop-t-preserved
loop-t-preserved c =
    let at = slice_get_read _ _ _ _ refl c.loop-t-test.true c.t-item.is in
    rw (c.in_ok-push.ensures.items, one_more c.args.written.now c.loop-t.t-index _ at)
    (instance_more c.args.types.now c.loop-t.types c.loop-t.invariant.grown c.args.decl.now c.args.arguments.now c.requires _ _ c.loop-t.invariant.has
    c.instance.new.self c.t-item.result c.in_ok-number.number (rw (← c.as_slice.ensures) c.in_ok-number.ensures.ok))
