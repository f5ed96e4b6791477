use Rattle.std.proofs.Common.{subst}
use Rattle.types_table.specs.partition.Refinement.{IsReady}
use Rattle.types_table.proofs.partition.PartitionLoopLemmas.{ready_written}
use Rattle.types_table.proofs.partition.waits.mark.Goals as goal

pub returns-clause-ready : goal.returns-clause-ready
returns-clause-ready c = ready_written _ _ _ _ _
    (subst (λ l. IsReady l c.have_done.new.todo.items) c.as_slice.ensures.value c.in_ok-have_done.ensures.ready)
    c.in_ok-have_done.ensures.there c.in_ok-write.ensures
