use Rattle.std.proofs.Common.{◌∙◌, sym}
use Rattle.std.proofs.lemmas.Bool.{false≢true}
use Rattle.types_spec.specs.declared.types.decl.Field.{Field}
use Rattle.types_spec.specs.types.Scope.{IsThrough}
use Rattle.types_wellformed.proofs.head_rules.HeadRuleLoopLemmas.{all_more, all_end}
use Rattle.types_wellformed.proofs.head_rules.flat_records.some_through.Goals as goal

pub loop-field-preserved : goal.loop-field-preserved
loop-field-preserved c =
    all_more (λ (f : Field). ¬ IsThrough c.args.decls.now c.args.group f.ty) c.args.fields.now c.loop-field.field-index
    c.field-item.result c.loop-field-test.true c.field-item.is c.loop-field.invariant
    (λ is. false≢true (sym c.if-branch.false
    ∙ c.in_ok-is_through.ensures.ok.1 is))

pub returns : goal.returns
returns c = (
  λ never. absurd (false≢true never),
  λ some. absurd (all_end (λ (f : Field). ¬ IsThrough c.args.decls.now c.args.group f.ty) c.args.fields.now
      c.loop-field.field-index c.loop-field-test.false c.loop-field.invariant some.0 some.1 some.2),
)
