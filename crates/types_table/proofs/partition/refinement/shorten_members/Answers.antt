use Rattle.std.proofs.Common.{subst}
use Rattle.types_table.specs.partition.Lists.{IsShorter}
use Rattle.types_table.proofs.partition.PartitionListLemmas.{members_shorter}
use Rattle.types_table.proofs.partition.refinement.shorten_members.Goals as goal

pub returns-clause-members : goal.returns-clause-members
returns-clause-members c = members_shorter c.args.refinement.now.class.items c.args.parted _ _
    (subst (λ l. IsShorter l c.args.parted c.args.refinement.now.members.items c.shorten.new.lists.items)
    c.as_slice.ensures.value c.in_ok-shorten.ensures)
