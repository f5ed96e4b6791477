use Rattle.std.proofs.Common.{sym, ◌∙◌, refl}
use Rattle.std.proofs.lemmas.Option.{slice_get_read}
use Rattle.types_spec.specs.types.Shape.{is_float}
use Rattle.types_spec.specs.declared.types.decl.Field.{Field}
use Rattle.types_table.proofs.store.StoreHeldLemmas.{Grows-then}
use Rattle.types_build.proofs.representation.RepresentationLoopLemmas.{all_passed, one_failed}
use Rattle.types_build.proofs.representation.datatype.is_flat.Goals as goal

pub returns-then-not-branch-clause-ok : goal.returns-then-not-branch-clause-ok
returns-then-not-branch-clause-ok c =
    let at = slice_get_read _ _ _ _ refl c.loop-field-test.true c.field-item.is in
    sym (one_failed c.args.fields.now c.loop-field.field-index _ at (λ (field : Field). is_float c.args.decls.now field.ty)
    (sym c.in_ok-is_float.ensures.ok ∙ c.if-not-branch.true)) ∙ c.loop-field.invariant.1

pub loop-field-preserved : goal.loop-field-preserved
loop-field-preserved c =
    let at = slice_get_read _ _ _ _ refl c.loop-field-test.true c.field-item.is in (
      Grows-then _ _ _ c.loop-field.invariant.0 c.in_ok-is_float.ensures.grown,
      sym (all_passed c.args.fields.now c.loop-field.field-index _ at (λ (field : Field). is_float c.args.decls.now field.ty)
          (sym c.in_ok-is_float.ensures.ok ∙ c.if-not-branch.false)) ∙ c.loop-field.invariant.1,
    )
