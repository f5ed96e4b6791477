use Rattle.std.proofs.Common.{sym, subst}
use Rattle.trees.specs.search_trees.Span.{IsLesser, IsGreater}
use Rattle.trees.proofs.search_trees.SpanLemmas.{apart_lesser, apart_greater}
use Rattle.trees.proofs.search_trees.element_span.joined.Goals as goal

pub returns-then-is_element_less-clause-least : goal.returns-then-is_element_less-clause-least
returns-then-is_element_less-clause-least c =
    subst (λ n. IsLesser c.args.heap.now c.args.first.least c.args.second.least n) (sym c.apart.ensures.least)
    (apart_lesser c.args.heap.now c.args.first c.args.second c.requires.first (c.is_element_less.ensures.0 c.if-is_element_less.true))

pub returns-then-is_element_less-clause-greatest : goal.returns-then-is_element_less-clause-greatest
returns-then-is_element_less-clause-greatest c =
    subst (λ n. IsGreater c.args.heap.now c.args.first.greatest c.args.second.greatest n) (sym c.apart.ensures.greatest)
    (apart_greater c.args.heap.now c.args.first c.args.second c.requires.second (c.is_element_less.ensures.0 c.if-is_element_less.true))
