use Rattle.std.proofs.Common.{◌∙◌, Some, length, refl, sym, ap, arith}
use Rattle.std.specs.Prelude.{slice_get, nat_le}
use Rattle.base_data.specs.declared.model.value.Val.TheVariants as vals
use Rattle.types_spec.specs.types.Table.{typed_fields}
use Rattle.types_table.specs.type_table.Made.{table_of}
use Rattle.check_heap.proofs.scan.ScanFieldLemmas.{field_there}
use Rattle.check_heap.proofs.scan.ScanNeedLemmas.{need_field, need_node}
use Rattle.check_heap.specs.check.FlatValues.{last_of_all}
use Rattle.check_heap.proofs.check.CheckFlatLemmas.{none_yet, part_more, all_parts, last_more, not_flat}
use Rattle.check_heap.proofs.check.flat_values.are_flat.Goals as goal

pub loop-k-init : goal.loop-k-init
loop-k-init c = (none_yet (table_of c.args.table.now) c.args.heap.now c.args.object c.requires.fits, refl)

pub field-requires : goal.field-requires
field-requires c =
    let at_k = ap (λ needs. slice_get needs c.loop-k.k) (sym c.requires.needs) ∙ c.get-i.ensures in
    need_field (table_of c.args.table.now) c.args.heap.now c.args.object 0 c.loop-k.k c.get-i.result.0 c.get-i.result.1 c.requires.object at_k

pub after_flat-requires-clause-number : goal.after_flat-requires-clause-number
after_flat-requires-clause-number c =
    let at_k = ap (λ needs. slice_get needs c.loop-k.k) (sym c.requires.needs) ∙ c.get-i.ensures in
    need_node (table_of c.args.table.now) c.args.heap.now c.holds.ensures.lawful c.args.object 0 c.loop-k.k c.get-i.result.0 c.get-i.result.1 c.holds.ensures.lawful.rooted at_k

pub loop-k-preserved : goal.loop-k-preserved
loop-k-preserved c =
    let table = table_of c.args.table.now in
    let graph = c.args.heap.now in
    let o = c.args.object in
    let i = c.get-i.result.0 in
    let at_k = ap (λ needs. slice_get needs c.loop-k.k) (sym c.requires.needs) ∙ c.get-i.ensures in
    let short = need_field table graph o 0 c.loop-k.k i c.get-i.result.1 c.requires.object at_k in
    let there = field_there graph o i c.requires.object short ∙ ap Some (sym c.field.ensures.field) in (
      part_more table graph o c.loop-k.last c.in-Some.next c.loop-k.k i c.get-i.result.1 at_k c.in-Some.ensures.kept c.field.result there
          c.in-Some.ensures.flat c.loop-k.invariant.0,
      last_more table graph o (typed_fields table graph (vals.Ref o) 0) c.loop-k.k i c.get-i.result.1 at_k c.field.result there c.loop-k.last
          (last_of_all table graph o (typed_fields table graph (vals.Ref o) 0) o) c.loop-k.invariant.1 c.in-Some.next c.in-Some.ensures.last,
    )

pub returns-in-None-clause-flat : goal.returns-in-None-clause-flat
returns-in-None-clause-flat c =
    let table = table_of c.args.table.now in
    let graph = c.args.heap.now in
    let o = c.args.object in
    let parts = typed_fields table graph (vals.Ref o) 0 in
    let i = c.get-i.result.0 in
    let at_k = ap (λ needs. slice_get needs c.loop-k.k) (sym c.requires.needs) ∙ c.get-i.ensures in
    let short = need_field table graph o 0 c.loop-k.k i c.get-i.result.1 c.requires.object at_k in
    let there = field_there graph o i c.requires.object short ∙ ap Some (sym c.field.ensures.field) in
    not_flat table graph o parts c.loop-k.k i c.get-i.result.1 at_k c.field.result there c.loop-k.last
    (last_of_all table graph o parts o) c.loop-k.invariant.1 (nat_le (length parts) 8) c.in-None.ensures.last

pub returns-clause-typed : goal.returns-clause-typed
returns-clause-typed c = λ is.
    all_parts (table_of c.args.table.now) c.args.heap.now c.args.object c.loop-k.last c.loop-k.k c.loop-k.invariant.0
    (omega (arith, c.loop-k-test.false, ap length c.requires.needs, c.len.ensures)) c.requires.fits
