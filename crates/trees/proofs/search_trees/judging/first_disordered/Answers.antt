use Rattle.std.proofs.Common.{ℕ, List, sym, subst}
use Rattle.std.specs.Global.{Vec}
use Rattle.trees.specs.declared.search_trees.element_span.SettledNode.{SettledNode}
use Rattle.trees.specs.search_trees.NodeJudgement.{IsFirst}
use Rattle.trees.specs.search_trees.Span.{IsMarked}
use Rattle.trees.specs.search_trees.TreeLevels.{Has, AreRising}
use Rattle.trees.proofs.search_trees.SearchTreeJudgeLemmas.{first_disordered}
use Rattle.trees.proofs.search_trees.SearchTreeLevelLemmas.{has_level, rising}
use Rattle.trees.proofs.search_trees.judging.first_disordered.Goals as goal

pub by_height-requires-clause-level : goal.by_height-requires-clause-level
by_height-requires-clause-level c = has_level c.args.heap.now c.args.nodes.now c.requires.closed c.requires.counted

pub settle_all-requires : goal.settle_all-requires
settle_all-requires c =
    subst (λ (l : List (Vec ℕ)). AreRising c.args.heap.now l) (sym c.as_slice.ensures.value)
    (rising c.args.heap.now c.args.nodes.now c.requires.closed c.requires.counted c.in_ok-levels.levels.items c.in_ok-levels.ensures)

pub returns : goal.returns
returns c =
    let graph = c.args.heap.now in
    let nodes = c.args.nodes.now in
    let levels = c.in_ok-levels.levels.items in
    first_disordered graph nodes c.in_ok-all.all.items c.first_marked.result
    (λ o among.
    let level = has_level graph nodes c.requires.closed c.requires.counted o among in
    c.in_ok-all.ensures.settled level.0 o
    (subst (λ (l : List (Vec ℕ)). Has l level.0 o) (sym c.as_slice.ensures.value) (c.in_ok-levels.ensures.has level.0 o among level.1)))
    (subst (λ (l : List SettledNode). IsFirst (IsMarked l) nodes c.first_marked.result) c.as_slice-2.ensures.value c.first_marked.ensures)
