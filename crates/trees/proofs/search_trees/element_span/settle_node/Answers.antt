use Rattle.std.proofs.Common.{sym, ◌∙◌, ⊎_elim}
use Rattle.std.proofs.lemmas.Bool.{false≢true}
use Rattle.trees.proofs.search_trees.SpanLemmas.{from_right_under, disorder_cases}
use Rattle.trees.proofs.search_trees.element_span.settle_node.Goals as goal

pub returns-else-left : goal.returns-else-left
returns-else-left c = record {
  span = c.with_right-whole.ensures.span;
  disordered = (
    λ is. from_right_under c.args.heap.now c.args.o (c.with_right-whole.ensures.under.0 is),
    λ wrong. ⊎_elim
        (λ over. absurd (false≢true (sym c.if-left.false ∙ c.with_left-left.ensures.over.1 over)))
        (λ under. c.with_right-whole.ensures.under.1 under)
        (disorder_cases c.args.heap.now c.args.o wrong),
  );
}
