use Rattle.std.proofs.lemmas.Result.{IfOk-weaker}
use Rattle.std.specs.Prelude.{Contains, IsTrue, ◌↔◌}
use Rattle.types_spec.specs.declared.types.decl.Field.{Field}
use Rattle.types_spec.specs.types.Scope.{IsThrough, IsFlatThroughGroup}
use Rattle.types_wellformed.proofs.head_rules.HeadRuleFlatLemmas.{record_flat}
use Rattle.types_wellformed.proofs.head_rules.flat_records.is_flat.Goals as goal

pub returns : goal.returns
returns c =
    IfOk-weaker c.some_through.result
    (λ some. IsTrue some ↔ ((f : Field) × Contains c.as_slice-fields.result.now f × IsThrough c.args.decls.now c.args.decl.now.group f.ty))
    (λ is. IsTrue is ↔ IsFlatThroughGroup c.args.decls.now c.args.decl.now.group c.args.decl.now.body)
    (λ some says. record_flat c.args.decls.now c.args.decl.now.group c.args.decl.now.body c.in-Record.fields
    c.as_slice-fields.result.now c.in_ok-are_floats.field-0 some c.in-Record.is c.as_slice-fields.ensures
    c.if-not-branch.false c.in_ok-are_floats.ensures.ok says)
    c.some_through.ensures
