use Rattle.std.proofs.Common.{sym, ap, ◌∙◌, ◌<◌, length, reverse, map, ◌++◌}
use Rattle.std.proofs.lemmas.List.Elements.{All-push}
use Rattle.std.proofs.Common.{arith}
use Rattle.types_spec.specs.types.Ty.{parts}
use Rattle.types_spec.specs.types.TypeNodes.{type_at}
use Rattle.types_spec.specs.declared.types.ty.TypeTreeNode.TheVariants as nodes
use Rattle.types_build.proofs.representation.SpineLemmas.{type_at-node, parts-step, parts-end, All-reverse}
use Rattle.types_build.proofs.representation.spine.parts.Goals as goal

pub loop-whole-preserved : goal.loop-whole-preserved
loop-whole-preserved c =
    let types = c.args.t.now.types.now in
    let is = type_at-node types c.loop-whole.at (nodes.Part c.in-Part.whole c.in-Part.added) c.in-Part.ensures.is in
    rw c.in_ok-push.ensures.items (
      omega (arith, c.in-Part.ensures.below, c.loop-whole.invariant.0),
      All-push (λ i. i < length types) c.loop-whole.found.items c.in-Part.added c.loop-whole.invariant.1
          (omega (arith, c.in-Part.ensures.below, c.loop-whole.invariant.0)),
      omega (arith, c.in-Part.ensures.below, c.loop-whole.invariant.2),
      All-push (λ i. i < c.args.t.now.number) c.loop-whole.found.items c.in-Part.added c.loop-whole.invariant.3
          (omega (arith, c.in-Part.ensures.below, c.loop-whole.invariant.2)),
      parts-step types c.loop-whole.at c.in-Part.whole c.in-Part.added c.loop-whole.found.items _ is c.loop-whole.invariant.4,
    )

pub returns : goal.returns
returns c =
    let types = c.args.t.now.types.now in
    let none = ap parts (type_at-node types c.loop-whole.at _ c.node.ensures.is) ∙ parts-end types c.node.result c.in_default.not-Part in
    rw c.reverse.ensures.items (record {
      are = ap (λ ts. ts ++ map (type_at types) (reverse c.loop-whole.found.items)) (sym none) ∙ c.loop-whole.invariant.4;
      below = All-reverse (λ i. i < length types) c.loop-whole.found.items c.loop-whole.invariant.1;
      less = All-reverse (λ i. i < c.args.t.now.number) c.loop-whole.found.items c.loop-whole.invariant.3;
    })
