use Rattle.std.proofs.Common.{subst}
use Rattle.std.specs.Bool.{OnTrue}
use Rattle.types_table.specs.type_table.Made.{table_of}
use Rattle.marshal_heap.specs.heap.Heap.{field_at}
use Rattle.check_heap.specs.scan.Scanned.{IsSeen}
use Rattle.check_heap.proofs.scan.ScanFieldLemmas.{field_valid}
use Rattle.check_heap.proofs.check.SeenLemmas.{value_seen}
use Rattle.check_heap.proofs.check.search.value_fits.Goals as goal

pub returns-then-seen : goal.returns-then-seen
returns-then-seen c =
    let need = c.args.need in
    let v = field_at c.args.heap.now need.object need.step in
    let seen = subst (λ test. OnTrue test (IsSeen (table_of c.args.fitting.table.now) c.args.heap.now c.args.taken.now need.object need.step v need.ty)) c.if-seen.true c.requires.seen in
    value_seen (table_of c.args.fitting.table.now) c.args.heap.now c.args.taken.now need.object need.step v need.ty c.args.word c.is_unfit_field.result c.requires.word c.requires.value c.is_unfit_field.ensures seen

pub returns : goal.returns
returns c =
    let need = c.args.need in
    c.fits_type.ensures (field_at c.args.heap.now need.object need.step) (field_valid c.args.heap.now need.object need.step c.requires.object c.requires.field c.count-count.ensures.heap.is_graph) c.requires.word
