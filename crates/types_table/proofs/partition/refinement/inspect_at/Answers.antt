use Rattle.std.proofs.Common.{arith}
use Rattle.base_data.proofs.model.Lists.{slice_get-read}
use Rattle.types_table.proofs.partition.PartitionEndLemmas.{settled_as, members_there}
use Rattle.types_table.proofs.partition.refinement.inspect_at.Goals as goal

pub inspect_at_few-requires-clause-settled : goal.inspect_at_few-requires-clause-settled
inspect_at_few-requires-clause-settled c = settled_as c.args.forms.now _ _ _ _ c.args.waited.now c.args.parted
    c.as_slice-class.ensures.value c.as_slice-signatures.ensures.value c.requires.here

pub inspect_at_all-requires-clause-members : goal.inspect_at_all-requires-clause-members
inspect_at_all-requires-clause-members c = members_there _ _ c.args.refinement.now.members.items c.args.parted c.index.result.now _
    c.as_slice-class.ensures.value
    (slice_get-read c.args.refinement.now.members.items c.args.parted c.index.result.now (omega (arith, c.requires.inside, c.requires.rooms))
    c.index.ensures) c.as_slice-members.ensures.value c.requires.has
