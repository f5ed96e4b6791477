use Rattle.std.proofs.Common.{subst}
use Rattle.types_table.specs.partition.Start.{IsParted}
use Rattle.types_table.proofs.partition.PartitionEndLemmas.{ended}
use Rattle.types_table.proofs.partition.all_classes.classes.Goals as goal

pub returns : goal.returns
returns c = ended c.args.all.now c.in_ok-forms.forms _ c.in_ok-forms.ensures c.requires
    (subst (λ l. IsParted l c.in_ok-found.found.items) c.as_slice-2.ensures c.in_ok-found.ensures)
