use Rattle.std.proofs.Common.{◌∙◌}
use Rattle.marshal_heap.proofs.heap.StoredLemmas.{held}
use Rattle.marshal_heap.proofs.heap.ChangeLemmas.{many_words}
use Rattle.marshal_heap.proofs.heap.heap.Heap.words.Goals as goal

pub returns : goal.returns
returns c = c.len.ensures.len ∙ many_words _ _ _ (held _ _ _ c.self.invariant c.self.view_is)
