use Rattle.std.proofs.Common.{sym, ◌∙◌}
use Rattle.types_build.proofs.representation.SpineLemmas.{type_at-node}
use Rattle.types_build.proofs.representation.RepresentationPlainLemmas.{plain_by_root, plain_result}
use Rattle.types_build.proofs.representation.plain_heads.plain.Goals as goal

pub returns : goal.returns
returns c =
    let is = sym (type_at-node c.args.t.now.types.now c.root.result _ c.node.ensures.is) ∙ c.root.ensures.is in
    plain_result c.of_root.result _ _ _ c.of_root.ensures
    (plain_by_root c.args.t.now.types.now _ c.in_ok-found.found.items c.in_ok-found.ensures.are c.in_ok-found.ensures.below _ is)
