use Rattle.std.proofs.Common.{sym, ap, ◌∙◌}
use Rattle.types_build.specs.representation.PlainHeads.{root_of}
use Rattle.types_build.proofs.representation.SpineLemmas.{type_at-node, root-end}
use Rattle.types_build.proofs.representation.spine.root.Goals as goal

pub returns-clause-is : goal.returns-clause-is
returns-clause-is c =
    let is = type_at-node c.args.t.now.types.now c.loop-whole.at _ c.node.ensures.is in
    is ∙ sym (ap root_of is ∙ root-end c.args.t.now.types.now c.node.result c.in_default.not-Part) ∙ c.loop-whole.invariant.2
