use Rattle.std.proofs.Common.{ℕ, ◌≡◌, ◌∙◌, List, length, take, get_or, sym, subst, ap, arith}
use Rattle.std.specs.Prelude.{Contains}
use Rattle.std.proofs.Math.Seq.{take-length}
use Rattle.std.proofs.lemmas.Option.{slice_get-get_or}
use Rattle.base_data.proofs.model.Options.{slice_get-Contains}
use Rattle.trees.specs.declared.search_trees.element_span.SettledNode.{SettledNode}
use Rattle.trees.specs.search_trees.Span.{IsReady}
use Rattle.trees.proofs.search_trees.SearchTreeSettleLemmas.{none_yet, one_more_taken, still_ready}
use Rattle.trees.proofs.search_trees.element_span.settle.Goals as goal

pub loop-o-init : goal.loop-o-init
loop-o-init c = none_yet c.args.heap.now c.args.all.now.items

pub settle_node-known-requires : goal.settle_node-known-requires
settle_node-known-requires c =
    let nodes = c.args.nodes.now in
    let i = c.loop-o.o-index in
    let o = get_or nodes i 0 in
    let among = slice_get-Contains nodes i o (slice_get-get_or nodes i 0 c.loop-o-test.true) in
    record {
      ready = subst (λ (l : List SettledNode). IsReady c.args.heap.now l o) (sym c.as_slice.ensures.value)
          (still_ready c.args.heap.now c.args.all.now.items c.loop-o.all.items c.loop-o.invariant.kept
          o (c.requires.ready o among));
      node = c.node_at-node.ensures.node;
      valid = c.node_at-node.ensures.valid;
    }

pub invariant_of-node_at : goal.invariant_of-node_at
invariant_of-node_at c =
    let nodes = c.args.nodes.now in
    let i = c.loop-o.o-index in
    let o = get_or nodes i 0 in
    let among = slice_get-Contains nodes i o (slice_get-get_or nodes i 0 c.loop-o-test.true) in
    record { there = (c.requires.ready o among).inside }

pub index_mut-requires : goal.index_mut-requires
index_mut-requires c =
    let nodes = c.args.nodes.now in
    let i = c.loop-o.o-index in
    let o = get_or nodes i 0 in
    let ready = c.requires.ready o (slice_get-Contains nodes i o (slice_get-get_or nodes i 0 c.loop-o-test.true)) in
    let inside = ready.inside in
    let many = c.loop-o.invariant.many in
    omega (arith, inside, many)

pub loop-o-preserved : goal.loop-o-preserved
loop-o-preserved c =
    let nodes = c.args.nodes.now in
    let i = c.loop-o.o-index in
    let o = get_or nodes i 0 in
    let ready = c.requires.ready o (slice_get-Contains nodes i o (slice_get-get_or nodes i 0 c.loop-o-test.true)) in
    let inside = ready.inside in
    let many = c.loop-o.invariant.many in
    one_more_taken c.args.heap.now nodes i c.args.all.now.items c.loop-o.all.items c.settle_node-known.result c.loop-o.invariant
    c.loop-o-test.true (omega (arith, inside, many)) c.settle_node-known.ensures

pub returns-clause-settled : goal.returns-clause-settled
returns-clause-settled c o among =
    let nodes = c.args.nodes.now in
    let end : c.loop-o.o-index ≡ length nodes = omega arith in
    c.loop-o.invariant.settled o (subst (λ (l : List ℕ). Contains l o) (sym (ap (λ n. take n nodes) end ∙ take-length nodes)) among)

pub returns-clause-kept : goal.returns-clause-kept
returns-clause-kept c = c.loop-o.invariant.kept
