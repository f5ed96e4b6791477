use Rattle.std.proofs.Common.{arith, ◌≡◌}
use Rattle.types_resolve.specs.declared.scope.site.TypeUse.{TypeUse}
use Rattle.types_resolve.specs.scope.Breaks.{BreaksUse}
use Rattle.types_resolve.proofs.scope.ScopeLeastLemmas.{more_tested, all_items}
use Rattle.types_resolve.proofs.scope.name_uses.least_use.Goals as goal

pub loop-i-preserved : goal.loop-i-preserved
loop-i-preserved c =
    more_tested c.args.uses.now (λ (u : TypeUse). u.position) (λ (u : TypeUse). BreaksUse c.args.rule c.args.decls.now c.args.group u)
    c.loop-i.i c.index-uses-i.result c.loop-i.best c.position_if.result c.earliest-best.result c.breaks-broken.result (omega arith)
    c.index-uses-i.is c.loop-i.invariant c.breaks-broken.ensures c.position_if.ensures c.earliest-best.ensures

pub returns : goal.returns
returns c = all_items c.args.uses.now (λ (u : TypeUse) k. (u.position ≡ k) × BreaksUse c.args.rule c.args.decls.now c.args.group u)
    c.loop-i.i c.loop-i.best (omega arith) (omega arith) c.loop-i.invariant
