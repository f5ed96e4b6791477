use Rattle.std.proofs.Common.{subst, sym}
use Rattle.std.proofs.lemmas.List.{drop_all}
use Rattle.types_table.specs.type_table.Made.{table_of}
use Rattle.check_stream.specs.checker.Again.{AreFields}
use Rattle.check_stream.proofs.checker.AgainLemmas.{inspects_from, no_fields, fields_more}
use Rattle.check_stream.proofs.checker.flat_blocks.are_fields.Goals as goal

pub fields-init : goal.fields-init
fields-init c = (c.requires, λ whole. whole)

pub fields-preserved : goal.fields-preserved
fields-preserved c =
    let inspects = inspects_from c.args.prefix.now c.fields.at c.in-Some.seen c.in-Some.len c.in-Some.ensures in
    fields_more (table_of c.args.table.now) c.args.types.now c.args.object c.args.prefix.now c.args.start c.fields.at c.fields.ty-index c.args.fields.now c.in-Some.seen c.in-Some.len c.fields-test.true c.fields.invariant inspects c.if-is_flat_field.ensures

pub returns : goal.returns
returns c = c.fields.invariant.1
    (λ ts s. subst (λ fields. AreFields (table_of c.args.table.now) c.args.types.now c.args.object fields ts) (sym (drop_all c.fields.ty-index c.args.fields.now c.fields-test.false)) (no_fields (table_of c.args.table.now) c.args.types.now c.args.object ts))
