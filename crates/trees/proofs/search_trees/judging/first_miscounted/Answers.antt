use Rattle.std.proofs.Common.{get_or, sym, ◌∙◌, arith}
use Rattle.std.proofs.lemmas.Bool.{false≢true}
use Rattle.std.proofs.lemmas.Option.{slice_get-get_or}
use Rattle.trees.specs.search_trees.TreeFault.{IsMiscounted}
use Rattle.trees.proofs.search_trees.SearchTreeJudgeLemmas.{none_more, none_at_all}
use Rattle.trees.proofs.search_trees.judging.first_miscounted.Goals as goal

pub loop-i-preserved : goal.loop-i-preserved
loop-i-preserved c =
    none_more (IsMiscounted c.args.heap.now) c.args.nodes.now c.loop-i.i (get_or c.args.nodes.now c.loop-i.i 0) c.loop-i.invariant
    (slice_get-get_or c.args.nodes.now c.loop-i.i 0 c.loop-i-test.true)
    (λ wrong. false≢true (sym c.if-is_miscounted.false ∙ c.is_miscounted.ensures.1 wrong))

pub returns : goal.returns
returns c = none_at_all (IsMiscounted c.args.heap.now) c.args.nodes.now c.loop-i.i (omega arith) c.loop-i.invariant
