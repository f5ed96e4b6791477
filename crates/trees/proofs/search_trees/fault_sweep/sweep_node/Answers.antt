use Rattle.std.proofs.Common.{arith}
use Rattle.trees.proofs.search_trees.SweepLemmas.{one_more_known}
use Rattle.trees.proofs.search_trees.fault_sweep.sweep_node.Goals as goal

pub returns-clause-known : goal.returns-clause-known
returns-clause-known c =
    let inside = c.args.placed.now.there in
    let many = c.requires.many in
    one_more_known c.args.placed.now.heap.now c.args.all.now.items c.args.placed.now.object c.settle_node-settled.result
    (omega (arith, inside, many)) c.requires.known c.settle_node-settled.ensures
