use Rattle.std.proofs.Common.{subst, ◌≡◌, arith}
use Rattle.types_spec.proofs.types.TypeNodeLemmas.{AreOrdered-none}
use Rattle.types_table.proofs.store.StoreTreeLemmas.{AreFirst, first_none, first_more, now_ordered, last_of_all}
use Rattle.types_table.proofs.store.type_store.TypeStore.tree.Goals as goal

pub loop-i-init : goal.loop-i-init
loop-i-init c = rw c.new-nodes.ensures.items (first_none c.args.self.now AreOrdered-none)

pub loop-i-preserved : goal.loop-i-preserved
loop-i-preserved c =
    rw (c.in_ok-push.ensures.items, c.in_ok-node.ensures)
    (first_more c.args.self.now c.loop-i.i c.loop-i.nodes.items c.loop-i.invariant _ c.node.ensures.is c.node.ensures.below)

pub of-requires : goal.of-requires
of-requires c =
    let end : c.loop-i.i ≡ c.args.number = omega arith in
    let first = subst (λ k. AreFirst c.args.self.now k c.loop-i.nodes.items) end c.loop-i.invariant in
    rw (c.in_ok-push-2.ensures.items, c.in_ok-last.ensures)
    (now_ordered c.args.self.now c.args.number c.loop-i.nodes.items first _ c.node-2.ensures.is c.node-2.ensures.below)

pub returns : goal.returns
returns c =
    let end : c.loop-i.i ≡ c.args.number = omega arith in
    let first = subst (λ k. AreFirst c.args.self.now k c.loop-i.nodes.items) end c.loop-i.invariant in
    rw (c.of.ensures, c.in_ok-push-2.ensures.items, c.in_ok-last.ensures)
    (last_of_all c.args.self.now c.args.number c.loop-i.nodes.items first _ c.node-2.ensures.is c.node-2.ensures.below)
