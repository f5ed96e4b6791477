use Rattle.std.proofs.Common.{sym, ◌∙◌}
use Rattle.std.proofs.lemmas.Bool.{false≢true}
use Rattle.trees.proofs.search_trees.SpanLemmas.{first_greater, second_greater}
use Rattle.trees.proofs.search_trees.element_span.greater.Goals as goal

pub returns-then-is_element_less : goal.returns-then-is_element_less
returns-then-is_element_less c =
    second_greater c.args.nodes.now.heap.now c.args.nodes.now.first c.args.nodes.now.second (c.is_element_less.ensures.0 c.if-is_element_less.true)

pub returns-else-is_element_less : goal.returns-else-is_element_less
returns-else-is_element_less c =
    first_greater c.args.nodes.now.heap.now c.args.nodes.now.first c.args.nodes.now.second
    (λ is. false≢true (sym c.if-is_element_less.false ∙ c.is_element_less.ensures.1 is))
