use Rattle.std.proofs.Common.{sym, arith, ◌∙◌}
use Rattle.std.proofs.lemmas.Option.{get_or_from_slice_get}
use Rattle.types_wellformed.specs.head_rules.Rules.{IsMixedDecl}
use Rattle.types_wellformed.proofs.head_rules.HeadRuleDeclaredLemmas.{more_declared, all_declared}
use Rattle.types_wellformed.proofs.head_rules.mixed.least_mixed.Goals as goal

pub loop-i-preserved : goal.loop-i-preserved
loop-i-preserved c =
    let decls = c.args.decls.now in
    let d = c.at.result.now in
    more_declared (IsMixedDecl decls) decls c.args.names.now c.loop-i.i d c.index-names-i.result c.in_ok-mixed.mixed
    c.position.result c.loop-i.best c.position_if.result c.earliest-best.result c.requires.named (omega arith)
    (sym (get_or_from_slice_get decls c.loop-i.i d d c.at.ensures))
    c.index-names-i.is c.position.ensures c.position_if.ensures
    (λ t. sym c.in_ok-mixed.ensures ∙ t, λ t. c.in_ok-mixed.ensures ∙ t) c.loop-i.invariant c.earliest-best.ensures

pub returns : goal.returns
returns c =
    all_declared (IsMixedDecl c.args.decls.now) c.args.decls.now c.args.names.now c.loop-i.i c.loop-i.best (omega arith) (omega arith) c.loop-i.invariant
