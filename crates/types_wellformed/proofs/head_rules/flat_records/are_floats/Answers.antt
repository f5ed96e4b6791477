use Rattle.std.proofs.Common.{◌≡◌, ◌∙◌, true, refl, sym}
use Rattle.types_spec.specs.declared.types.decl.Field.{Field}
use Rattle.types_spec.specs.types.Shape.{is_float}
use Rattle.types_wellformed.proofs.head_rules.HeadRuleLoopLemmas.{all_more, all_end}
use Rattle.types_wellformed.proofs.head_rules.flat_records.are_floats.Goals as goal

pub loop-field-preserved : goal.loop-field-preserved
loop-field-preserved c =
    all_more (λ (f : Field). is_float c.args.decls.now f.ty ≡ true) c.args.fields.now c.loop-field.field-index
    c.field-item.result c.loop-field-test.true c.field-item.is c.loop-field.invariant
    (sym c.in_ok-is_float.ensures.ok ∙ c.if-not-branch.false)

pub returns : goal.returns
returns c = record {
  ok = (
    λ yes'. all_end (λ (f : Field). is_float c.args.decls.now f.ty ≡ true) c.args.fields.now c.loop-field.field-index
        c.loop-field-test.false c.loop-field.invariant,
    λ all. refl,
  );
}
