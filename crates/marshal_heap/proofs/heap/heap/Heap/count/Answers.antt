use Rattle.std.proofs.Common.{◌∙◌}
use Rattle.marshal_heap.proofs.heap.StoredLemmas.{held}
use Rattle.marshal_heap.proofs.heap.ChangeLemmas.{many_positions}
use Rattle.marshal_heap.proofs.heap.heap.Heap.count.Goals as goal

pub returns-clause-count : goal.returns-clause-count
returns-clause-count c = c.len.ensures ∙ many_positions _ _ _ (held _ _ _ c.self.invariant c.self.view_is)
