use Rattle.std.proofs.Common.{None, subst, sym, List}
use Rattle.types_spec.specs.types.Occurrence.{Placed}
use Rattle.types_spec.specs.types.Scope.{IsSecond}
use Rattle.std.specs.Prelude.{Contains, IfOk}
use Rattle.types_resolve.specs.declared.scope.site.TypeUse.{TypeUse}
use Rattle.types_resolve.specs.declared.scope.rule.UseRule.TheVariants as use_rules
use Rattle.types_resolve.specs.scope.Breaks.{TypeBreaks, UsesBreak}
use Rattle.types_resolve.specs.scope.Least.{IsLeast}
use Rattle.types_resolve.proofs.scope.sites.least_in_type.Goals as goal

pub returns-in-Twice : goal.returns-in-Twice
returns-in-Twice c =
    subst (λ rule. IfOk c.least_second_of_rows.result (IsLeast (TypeBreaks rule c.args.decls.now c.args.site.now))) (sym c.in-Twice.is)
    (subst (λ (rows : List (List Placed)). IfOk c.least_second_of_rows.result (IsLeast (λ k. (row : List Placed) × Contains rows row × IsSecond row k)))
    c.as_slice.ensures c.least_second_of_rows.ensures)

pub returns-in-UnknownName : goal.returns-in-UnknownName
returns-in-UnknownName c =
    subst (λ rule. IsLeast (TypeBreaks rule c.args.decls.now c.args.site.now) c.least_use.result) (sym c.in-UnknownName.is)
    (subst (λ (us : List TypeUse). IsLeast (UsesBreak use_rules.UnknownName c.args.decls.now None us) c.least_use.result)
    c.as_slice-uses.ensures c.least_use.ensures)

pub returns-in-Arity : goal.returns-in-Arity
returns-in-Arity c =
    subst (λ rule. IsLeast (TypeBreaks rule c.args.decls.now c.args.site.now) c.least_use-in-Arity.result) (sym c.in-Arity.is)
    (subst (λ (us : List TypeUse). IsLeast (UsesBreak use_rules.Arity c.args.decls.now None us) c.least_use-in-Arity.result)
    c.as_slice-uses.ensures c.least_use-in-Arity.ensures)
