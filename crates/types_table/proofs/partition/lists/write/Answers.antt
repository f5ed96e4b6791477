use Rattle.std.proofs.Common.{arith}
use Rattle.types_table.proofs.partition.PartitionListLemmas.{write_is}
use Rattle.types_table.proofs.partition.lists.write.Goals as goal

pub returns : goal.returns
returns c = write_is c.args.lists.now.items c.args.at c.index_mut.result.now _ (omega arith) c.index_mut.ensures.value
    c.args.number c.in_ok-push.ensures.items
