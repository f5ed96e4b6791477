use Rattle.std.proofs.Common.{subst, refl, arith}
use Rattle.types_table.specs.partition.Lists.{IsOfClass}
use Rattle.types_table.proofs.partition.PartitionListLemmas.{shorter_is}
use Rattle.types_table.proofs.partition.lists.shorten.Goals as goal

pub returns : goal.returns
returns c = shorter_is c.args.lists.now.items c.args.wanted c.index.result.now c.in_ok-shorter.shorter (omega arith)
    c.index.ensures c.args.class.now c.in_ok-shorter.shorter.items
    (subst (λ l. IsOfClass l c.args.class.now c.args.wanted c.in_ok-shorter.shorter.items) c.as_slice.ensures.value
    c.in_ok-shorter.ensures) refl
