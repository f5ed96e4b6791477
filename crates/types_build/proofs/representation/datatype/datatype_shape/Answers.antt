use Rattle.std.proofs.Common.{map, subst, sym, ◌∙◌}
use Rattle.types_spec.specs.types.Shape.{constants_in, blocks_in, types_of_fields}
use Rattle.types_spec.specs.types.Ty.{Ty}
use Rattle.types_table.specs.store.Instance.{HasNumbers}
use Rattle.types_build.specs.representation.Representation.{instance_at}
use Rattle.types_build.proofs.representation.DatatypeLemmas.{boxed_record, instance_kept, sum_at}
use Rattle.types_build.proofs.representation.datatype.datatype_shape.Goals as goal

pub returns-in_ok-numbers-in-Record-clause-ok : goal.returns-in_ok-numbers-in-Record-clause-ok
returns-in_ok-numbers-in-Record-clause-ok c =
    let boxed = sym c.in_ok-is_flat-in-Record.ensures.ok ∙ c.if-branch.false in
    let kept = instance_kept c.args.types.now c.is_flat.new.types c.in_ok-is_flat-in-Record.ensures.grown c.args.decl.now c.args.arguments.now c.requires.within in
    let has = subst
    (λ (i : Ty → Ty). HasNumbers c.instances_of_fields.new.types (map i (types_of_fields c.as_slice-fields.result.now)) c.in_ok-numbers-in-Record.numbers.items)
    kept c.in_ok-numbers-in-Record.ensures.ok in
    rw (c.in-Record.is, c.of.ensures, c.any_mutable-mutable.ensures, ← c.as_slice-fields.ensures)
    (boxed_record c.args.decls.now c.instances_of_fields.new.types
    (instance_at c.args.types.now c.args.decl.now c.args.arguments.now) c.as_slice-fields.result.now c.in_ok-numbers-in-Record.numbers.items boxed has)

pub returns-in_ok-blocks-in-Variant-clause-ok : goal.returns-in_ok-blocks-in-Variant-clause-ok
returns-in_ok-blocks-in-Variant-clause-ok c =
    rw (c.in-Variant.is, c.of-in-Variant.ensures, c.constants_in.ensures, ← c.as_slice-constructors.ensures)
    (sum_at c.blocks-in-Variant.new.types (constants_in c.as_slice-constructors.result.now)
    (blocks_in (instance_at c.args.types.now c.args.decl.now c.args.arguments.now) c.as_slice-constructors.result.now)
    c.in_ok-blocks-in-Variant.blocks.items c.in_ok-blocks-in-Variant.ensures.ok)
