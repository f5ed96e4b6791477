use Rattle.std.proofs.Common.{subst, arith, ◌≡◌}
use Rattle.types_spec.specs.types.Scope.{BreaksInType}
use Rattle.types_resolve.specs.scope.Breaks.{rule_of}
use Rattle.types_resolve.specs.scope.First.{KeepsBefore}
use Rattle.types_resolve.specs.scope.Least.{IsLeast}
use Rattle.types_resolve.proofs.scope.ScopeFirstLemmas.{keeps_more, first_at}
use Rattle.types_resolve.proofs.scope.ScopeLeastLemmas.{least_none}
use Rattle.types_resolve.proofs.scope.first_name_rule.first_of_type.Goals as goal

pub returns-in-Some : goal.returns-in-Some
returns-in-Some g c = (
  omega (arith, c.rule_at-rule.ensures, c.loop-n-test.true),
  first_at (BreaksInType c.args.decls.now g.occurrences) c.loop-n.n c.loop-n.invariant (rule_of c.rule_at-rule.result) c.rule_at-rule.ensures
      c.in-Some.position
      (subst (IsLeast (BreaksInType c.args.decls.now g.occurrences (rule_of c.rule_at-rule.result))) c.in-Some.is c.in_ok-position.ensures),
)

pub loop-n-preserved : goal.loop-n-preserved
loop-n-preserved g c =
    let Breaks = BreaksInType c.args.decls.now g.occurrences (rule_of c.rule_at-rule.result) in
    keeps_more (BreaksInType c.args.decls.now g.occurrences) c.loop-n.n c.loop-n.invariant (rule_of c.rule_at-rule.result) c.rule_at-rule.ensures
    (least_none Breaks c.in_ok-position.field-0 c.in_default.is c.in_ok-position.ensures)

pub returns : goal.returns
returns g c = let e : c.loop-n.n ≡ 7 = omega arith in subst (KeepsBefore (BreaksInType c.args.decls.now g.occurrences)) e c.loop-n.invariant
