use Rattle.types_table.proofs.partition.PartitionLoopLemmas.{signed_more}
use Rattle.types_table.proofs.partition.moves.positions_of.Goals as goal
use Rattle.base_data.proofs.model.Lists.{slice_get-read}

pub loop-number-preserved : goal.loop-number-preserved
loop-number-preserved c = signed_more c.args.forms.now c.args.class.now _ _ _ c.args.inspected.now _ _
    c.loop-number.number-index _ _ _ c.loop-number-test.true c.loop-number.invariant
    (slice_get-read c.args.forms.now _ c.index-forms-number.result (c.requires.within _ 0 c.loop-number-test.true) c.index-forms-number.is) c.in_ok-signature.ensures
    c.in_ok-position.ensures.ok c.in_ok-position.ensures.distinct c.in_ok-push.ensures.items
