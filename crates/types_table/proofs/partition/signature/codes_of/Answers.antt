use Rattle.std.specs.Prelude.{slice_index}
use Rattle.types_table.specs.partition.Signature.{IsCode}
use Rattle.types_table.proofs.partition.PartitionSetLemmas.{get_or_default}
use Rattle.types_table.proofs.partition.FormLemmas.{AllZip-next}
use Rattle.types_table.proofs.partition.signature.codes_of.Goals as goal

pub loop-tag-preserved : goal.loop-tag-preserved
loop-tag-preserved c =
    AllZip-next (IsCode (slice_index c.args.class.now)) c.args.tags.now c.loop-tag.tag-index c.loop-tag.codes.items _
    _ c.in_ok-code_of.field-0 c.loop-tag-test.true c.loop-tag.invariant
    (get_or_default c.args.tags.now c.loop-tag.tag-index _ _ c.loop-tag-test.true) c.in_ok-code_of.ensures c.in_ok-push.ensures.items
