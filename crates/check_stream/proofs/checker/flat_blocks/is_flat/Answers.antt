use Rattle.std.proofs.Common.{rules, ◌≡◌, ◌∙◌, ap, sym, subst, length, Some}
use Rattle.std.specs.Prelude.{IsTrue, option_map, map}
use Rattle.std.proofs.lemmas.Bool.{false≢true}
use Rattle.base_data.specs.declared.model.value.Obj.TheVariants as objects
use Rattle.types_spec.specs.types.Fitting.{is_mutable}
use Rattle.types_table.specs.type_table.Made.{table_of}
use Rattle.check_stream.specs.theory.AskedNeeds.{of_type, block_needs}
use Rattle.check_stream.specs.checker.OpenPositions.{open_needs}
use Rattle.check_stream.proofs.checker.Weaker.{if_true, on_true_weaker, not_true}
use Rattle.check_stream.proofs.checker.AgainLemmas.{flat_block}
use Rattle.check_stream.proofs.checker.flat_blocks.is_flat.Goals as goal

pub returns-then-fields-size : goal.returns-then-fields-size
returns-then-fields-size c =
    let table = table_of c.args.table.now in
    let shape = c.in-Some-shape_of.shape.now in
    let tag = c.in-Some.tag in
    let size = c.in-Some.size in
    let fields = c.in-Some-Listed.fields.now in
    let listed : open_needs c.in-Some-Listed.field-0 ≡ map of_type fields = search rules in
    let many : length fields ≡ size = search rules in
    let first = if_true c.is_fixed_at_first.result c.if-not-is_fixed_at_first.false c.is_fixed_at_first.ensures in
    on_true_weaker c.are_fields.result
    (λ are tokens marks.
    flat_block table c.args.types.now c.args.prefix.now c.args.object c.args.ty tag size c.in-Some.start fields tokens (c.in-Some.ensures.is_block tokens marks) are
    (ap (λ s. block_needs s tag size) (sym c.in-Some-shape_of.ensures) ∙ sym c.block_positions.ensures ∙ ap (option_map open_needs) c.in-Some-Listed.is ∙ ap Some listed)
    many
    (λ values true'.
    not_true c.may_change.result (is_mutable shape (Some (objects.Block tag values))) (c.may_change.ensures values) c.if-may_change.false
    (subst (λ s. IsTrue (is_mutable s (Some (objects.Block tag values)))) (sym c.in-Some-shape_of.ensures) true'))
    (λ u at_o values true'. false≢true (sym (first u at_o values) ∙ true')))
    c.are_fields.ensures
