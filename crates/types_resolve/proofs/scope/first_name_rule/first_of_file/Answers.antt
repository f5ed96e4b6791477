use Rattle.std.proofs.Common.{subst, arith, ◌≡◌}
use Rattle.types_spec.specs.types.Scope.{BreaksInFile}
use Rattle.types_resolve.specs.scope.Breaks.{rule_of}
use Rattle.types_resolve.specs.scope.First.{KeepsBefore}
use Rattle.types_resolve.specs.scope.Least.{IsLeast}
use Rattle.types_resolve.proofs.scope.ScopeFirstLemmas.{keeps_more, first_at, distinct_by_then}
use Rattle.types_resolve.proofs.scope.ScopeLeastLemmas.{least_none}
use Rattle.types_resolve.proofs.scope.first_name_rule.first_of_file.Goals as goal

pub least_break-requires : goal.least_break-requires
least_break-requires g c =
    (c.requires, distinct_by_then g.all c.loop-i.i c.loop-i.invariant c.rule_at-rule.result c.rule_at-rule.ensures)

pub returns-in-Some : goal.returns-in-Some
returns-in-Some g c = (
  omega (arith, c.rule_at-rule.ensures, c.loop-i-test.true),
  first_at (BreaksInFile g.all) c.loop-i.i c.loop-i.invariant (rule_of c.rule_at-rule.result) c.rule_at-rule.ensures
      c.in-Some.position
      (subst (IsLeast (BreaksInFile g.all (rule_of c.rule_at-rule.result))) c.in-Some.is c.in_ok-position.ensures),
)

pub loop-i-preserved : goal.loop-i-preserved
loop-i-preserved g c =
    let Breaks = BreaksInFile g.all (rule_of c.rule_at-rule.result) in
    keeps_more (BreaksInFile g.all) c.loop-i.i c.loop-i.invariant (rule_of c.rule_at-rule.result) c.rule_at-rule.ensures
    (least_none Breaks c.in_ok-position.field-0 c.in_default.is c.in_ok-position.ensures)

pub returns : goal.returns
returns g c = let e : c.loop-i.i ≡ 7 = omega arith in subst (KeepsBefore (BreaksInFile g.all)) e c.loop-i.invariant
