use Rattle.std.proofs.Common.{length, refl}
use Rattle.types_table.specs.type_table.Made.{table_of}
use Rattle.check_heap.proofs.check.CheckNotedLemmas.{linked_none}
use Rattle.check_heap.proofs.check.visits.Visits.new.Goals as goal

pub enter-requires-clause-linked : goal.enter-requires-clause-linked
enter-requires-clause-linked c =
    linked_none (table_of c.args.table.now) (length c.in_ok-new.field-0) _ _ c.new.ensures
    refl c.in_ok-new.ensures c.none.ensures
