use Rattle.std.proofs.Common.{◌+◌, length, refl, sym, subst, arith, ◌∙◌, ℕ, List}
use Rattle.std.specs.Prelude.{Contains}
use Rattle.std.proofs.lemmas.Option.{slice_get_read, none-some}
use Rattle.types_resolve.specs.declared.scope.site.TypeUse.{TypeUse}
use Rattle.types_resolve.specs.scope.AbbreviationSteps.{LeadsTo}
use Rattle.types_resolve.proofs.scope.ScopeStepLemmas.{AreLed, led_push, led_skip, led_all}
use Rattle.types_resolve.proofs.scope.abbreviation_steps.steps_of.Goals as goal
use Rattle.types_resolve.proofs.scope.abbreviation_steps.steps_of.Goals.{in-Some+in_ok-push, in_default}

pub loop-i-preserved : goal.loop-i-preserved
loop-i-preserved c =
    let uses = c.as_slice-uses.result.now in
    let u = c.index-uses-i.result in
    let Leads : TypeUse → ℕ → Type 0 = λ v j. LeadsTo c.args.decls.now c.args.decl.now.group v j in
    let u_is = slice_get_read uses (length uses) c.loop-i.i u refl (omega arith) c.index-uses-i.is in
    elim c.match-step.branch [
      | in-Some+in_ok-push w ↦
          subst (AreLed uses Leads (c.loop-i.i + 1)) (sym (w.steps-is ∙ w.in_ok-push.ensures.ok))
          (led_push uses Leads c.loop-i.i u c.loop-i.steps w.in-Some.j u_is w.in-Some.ensures c.loop-i.invariant)
      | in_default w ↦
          subst (AreLed uses Leads (c.loop-i.i + 1)) (sym w.steps-is)
          (led_skip uses Leads c.loop-i.i u c.loop-i.steps u_is (λ j leads. none-some j ((w.in_default.ensures j).1 leads))
          c.loop-i.invariant)
    ]

pub returns : goal.returns
returns c =
    let uses = c.as_slice-uses.result.now in
    let Leads : TypeUse → ℕ → Type 0 = λ v j. LeadsTo c.args.decls.now c.args.decl.now.group v j in
    let all = led_all uses Leads c.loop-i.i c.loop-i.steps (omega arith) (omega arith) c.loop-i.invariant in
    let same = c.as_slice-uses.ensures in
    λ j. (
      λ among. let some = (all j).0 among in
          (c.is_abbreviation.ensures.0 c.if-not-is_abbreviation.false, some.0, subst (λ (us : List TypeUse). Contains us some.0) same some.1, some.2),
      λ step. (all j).1 (step.1, subst (λ (us : List TypeUse). Contains us step.1) (sym same) step.2, step.3),
    )
