use Rattle.std.proofs.Common.{◌≡◌, ◌<◌, ◌+◌, ◌-◌, length, get_or, sym, subst, arith}
use Rattle.std.specs.Prelude.{IfSome}
use Rattle.std.proofs.lemmas.Option.{slice_get-get_or}
use Rattle.trees.specs.search_trees.Sweep.{IsMostSevere, IsMostSevereFrom}
use Rattle.trees.proofs.search_trees.SweepLemmas.{more_severe_from, swept}
use Rattle.trees.proofs.search_trees.fault_sweep.sweep.Goals as goal

pub loop-k-preserved : goal.loop-k-preserved
loop-k-preserved c =
    let graph = c.args.heap.now in
    let nodes = c.args.nodes.now in
    let k = c.loop-k.k in
    let i = length nodes - 1 - k in
    let o = get_or nodes i 0 in
    let below = c.loop-k-test.true in
    let inside : i < length nodes = omega (arith, below) in
    let next : length nodes - k ≡ i + 1 = omega (arith, below) in
    let now : i ≡ length nodes - (k + 1) = omega (arith, below) in
    let own = subst (λ found. IfSome found (IsMostSevere graph o)) c.in-Some.is
    c.sweep_node.ensures.fault in (
      let many = c.sweep_node.ensures.many in omega (arith, many),
      (
        c.sweep_node.ensures.known,
        subst (λ n. IsMostSevereFrom graph nodes n c.more_severe-most_severe.result) now
            (subst (IsMostSevereFrom graph nodes i) (sym c.more_severe-most_severe.ensures)
            (more_severe_from graph nodes i o (slice_get-get_or nodes i 0 inside) c.loop-k.most_severe
            c.in-Some.fault
            (subst (λ n. IsMostSevereFrom graph nodes n c.loop-k.most_severe) next
            c.loop-k.invariant.1.1)
            own)),
      ),
    )

pub returns : goal.returns
returns c =
    let nodes = c.args.nodes.now in
    swept c.args.heap.now nodes c.loop-k.most_severe (length nodes - c.loop-k.k) (omega arith)
    c.loop-k.invariant.1.1
