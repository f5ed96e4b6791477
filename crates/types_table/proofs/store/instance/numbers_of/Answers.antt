use Rattle.std.proofs.Common.{sym, ap, ◌∙◌, subst, refl, ◌≡◌, length, arith}
use Rattle.std.proofs.lemmas.Option.{slice_get_read}
use Rattle.types_spec.specs.types.TypeNodes.{IsBelow}
use Rattle.types_table.specs.store.Instance.{argument_at, AreInstances}
use Rattle.types_table.proofs.store.StoreInstanceLemmas.{AreInstances-none, AreInstances-many, AreInstances-next, grown_next}
use Rattle.types_table.proofs.store.instance.numbers_of.Goals as goal

pub loop-node-init : goal.loop-node-init
loop-node-init c = rw c.new-numbers.ensures.items (AreInstances-none _ _ _)

pub add_node-requires-clause-below : goal.add_node-requires-clause-below
add_node-requires-clause-below c =
    let there = slice_get_read _ _ _ _ refl c.loop-node-test.true c.node-item.is in
    let many : length c.as_slice.result.now ≡ c.loop-node.node-index =
    ap length c.as_slice.ensures.value
    ∙ AreInstances-many _ _ _ _ _ _ c.loop-node.invariant c.loop-node.auto.node-index-end in
    subst (λ n. IsBelow n c.node-item.result) (sym many) (c.requires.ordered c.loop-node.node-index c.node-item.result there)

pub returns-in_err-push-clause-grown : goal.returns-in_err-push-clause-grown
returns-in_err-push-clause-grown c =
    grown_next _ _ _ _ _ _ _ c.loop-node.invariant c.requires.among c.node-item.result _ c.as_slice.ensures.value _ _ c.in_ok-number.ensures.ok

pub loop-node-preserved : goal.loop-node-preserved
loop-node-preserved c =
    rw c.in_ok-push.ensures.items
    (AreInstances-next _ _ _ _ _ _ _ c.loop-node.invariant c.requires.among c.node-item.result _ c.as_slice.ensures.value _ _ c.in_ok-number.ensures.ok
    (slice_get_read _ _ _ _ refl c.loop-node-test.true c.node-item.is))

pub returns-clause-ok : goal.returns-clause-ok
returns-clause-ok c =
    let end : c.loop-node.node-index ≡ length c.args.nodes.now = omega arith in
    let value = argument_at c.args.types.now c.args.parameters.now c.args.arguments.now in
    subst (λ k. AreInstances c.args.types.now c.loop-node.types value c.args.nodes.now k c.loop-node.numbers.items) end c.loop-node.invariant
