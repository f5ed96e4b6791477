use Rattle.std.proofs.Common.{arith, ◌≡◌, ◌∙◌, ap, ℕ, length, sym, subst}
use Rattle.std.specs.Prelude.{Contains}
use Rattle.types_spec.specs.types.Occurrence.{Placed}
use Rattle.types_resolve.specs.scope.Least.{position_if}
use Rattle.types_resolve.specs.scope.NamePositions.{number_of, IsPosition}
use Rattle.types_resolve.proofs.scope.ScopeNameLemmas.{absent}
use Rattle.types_resolve.proofs.scope.ScopeLeastLemmas.{more_tested, all_items}
use Rattle.types_resolve.proofs.scope.variables.least_unbound.Goals as goal

pub loop-i-preserved : goal.loop-i-preserved
loop-i-preserved c =
    more_tested c.args.variables.now (λ (v : Placed). v.0) (λ (v : Placed). ¬ Contains c.args.parameters.now v.1)
    c.loop-i.i c.index-variables-i.result c.loop-i.best c.position_if.result c.earliest-best.result c.is_none-unbound.result (omega arith)
    c.index-variables-i.is c.loop-i.invariant
    (absent c.args.parameters.now c.index-variables-i.result.1 c.find.result c.is_none-unbound.result
    (subst (λ o. IsPosition c.args.parameters.now (length c.args.parameters.now) c.index-variables-i.result.1 o)
    (sym (c.find.ensures ∙ ap (number_of c.in_ok-table.table) c.name.ensures)) (c.in_ok-table.ensures c.index-variables-i.result.1))
    c.is_none-unbound.ensures)
    (c.position_if.ensures ∙ ap (λ (k : ℕ). position_if c.is_none-unbound.result k) c.position.ensures) c.earliest-best.ensures

pub returns : goal.returns
returns c = all_items c.args.variables.now (λ (v : Placed) k. (v.0 ≡ k) × (¬ Contains c.args.parameters.now v.1))
    c.loop-i.i c.loop-i.best (omega arith) (omega arith) c.loop-i.invariant
