use Rattle.std.proofs.Common.{get_or, sym, subst, take}
use Rattle.std.proofs.lemmas.List.{take_more}
use Rattle.trees.specs.search_trees.TreeLevels.{AreLevels}
use Rattle.trees.proofs.search_trees.SearchTreeWriteLemmas.{levels_more}
use Rattle.trees.proofs.search_trees.levels.by_height.Goals as goal

pub loop-o-preserved : goal.loop-o-preserved
loop-o-preserved c =
    let nodes = c.args.nodes.now in
    let o = get_or nodes c.loop-o.o-index 0 in
    subst (λ done. AreLevels c.args.heap.now done c.write.new.levels.items) (sym (take_more nodes c.loop-o.o-index 0 c.loop-o-test.true))
    (levels_more c.args.heap.now (take c.loop-o.o-index nodes) o c.loop-o.levels.items c.write.new.levels.items _ c.loop-o.invariant
    c.level_of.ensures.level c.in_ok-write.ensures)
