use Rattle.std.proofs.Common.{ap, ◌∙◌, ℕ}
use Rattle.std.specs.Global.{Vec}
use Rattle.std.proofs.Common.{arith}
use Rattle.types_table.proofs.partition.PartitionListLemmas.{taken_is}
use Rattle.types_table.proofs.partition.lists.taken.Goals as goal

pub returns : goal.returns
returns c = taken_is c.args.lists.now.items c.args.at c.index_mut.result.now _ (omega arith) c.index_mut.ensures.value
    _ (ap (λ (v : Vec ℕ). v.items) c.replace.ensures.value)
    (ap (λ (v : Vec ℕ). v.items) c.replace.ensures.after ∙ c.new.ensures.items)
