use Rattle.std.proofs.Common.{arith, ◌≡◌, ◌∙◌, ap, ℕ, List}
use Rattle.std.specs.Prelude.{IsSome, is_some, option_map}
use Rattle.types_spec.specs.types.Declarations.{predeclared, predeclared_arity}
use Rattle.types_spec.specs.types.Occurrence.{Placed}
use Rattle.types_resolve.specs.scope.Least.{position_if}
use Rattle.types_resolve.proofs.scope.ScopeDeclaredLemmas.{known}
use Rattle.types_resolve.proofs.scope.ScopeLeastLemmas.{more_tested, all_items}
use Rattle.types_resolve.proofs.scope.declared_names.least_predeclared.Goals as goal

pub loop-i-preserved : goal.loop-i-preserved
loop-i-preserved c =
    more_tested c.args.names.now (λ (p : Placed). p.0) (λ (p : Placed). IsSome (predeclared p.1))
    c.loop-i.i c.index-names-i.result c.loop-i.best c.position_if.result c.earliest-best.result c.is_some-known.result (omega arith)
    c.index-names-i.is c.loop-i.invariant
    (known (predeclared c.index-names-i.result.1) c.is_some-known.result (c.is_some-known.ensures ∙ ap is_some c.predeclared_arity.ensures
    ∙ ap (λ (n : List ℕ). is_some (option_map predeclared_arity (predeclared n))) c.name.ensures))
    (c.position_if.ensures ∙ ap (λ (k : ℕ). position_if c.is_some-known.result k) c.position.ensures) c.earliest-best.ensures

pub returns : goal.returns
returns c = all_items c.args.names.now (λ (p : Placed) k. (p.0 ≡ k) × IsSome (predeclared p.1))
    c.loop-i.i c.loop-i.best (omega arith) (omega arith) c.loop-i.invariant
