use Rattle.types_table.proofs.partition.PartitionSetLemmas.{is_set}
use Rattle.types_table.proofs.partition.set.as_set.Goals as goal

pub returns : goal.returns
returns c = is_set _ _ _ c.sort_unstable.ensures.permutation c.sort_unstable.ensures.sorted c.dedup.ensures.filtered
