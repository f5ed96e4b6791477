use Rattle.std.proofs.Common.{◌≡◌, ◌≤◌, ◌∙◌, ap, sym, subst, length, Some, arith, rules}
use Rattle.std.proofs.lemmas.Grind.{common_steps}
use Rattle.check_heap.specs.fits.Needs.{needs_in}
use Rattle.marshal_heap.specs.heap.Heap.{field_at}
use Rattle.text_print.specs.leaves.Frames.{before_part}
use Rattle.text_print.specs.leaves.FrameView.{frame_in}
use Rattle.text_print.specs.print.FlatText.{WritesFlat}
use Rattle.text_print.specs.print.Typed.{IsTypedAt}
use Rattle.types_table.specs.type_table.Made.{table_of}
use Rattle.text_print.proofs.print.PrintFlatLemmas.{none_written, more_written, all_written, grown_so, grown_more}
use Rattle.text_print.proofs.print.PrintWalkLemmas.{word_is_field, words_many}
use Rattle.text_print.proofs.print.flat_text.write_flat_parts.Goals as goal

pub loop-k-init : goal.loop-k-init
loop-k-init c = none_written c.args.table.now c.args.heap.now c.args.block.now c.args.text.now.items c.requires.open.inside

pub value_at-v-requires-clause-valid : goal.value_at-v-requires-clause-valid
value_at-v-requires-clause-valid c = c.requires.open.valid

pub value_at-v-requires-clause-inside : goal.value_at-v-requires-clause-inside
value_at-v-requires-clause-inside c =
    omega (arith, words_many c.args.table.now c.args.heap.now c.args.block.now c.requires.open, (c.requires.open.parts c.loop-k.k c.get-i.result.0 c.get-i.result.1 c.get-i.ensures).there)

pub word_at-word-requires : goal.word_at-word-requires
word_at-word-requires c =
    omega (arith, words_many c.args.table.now c.args.heap.now c.args.block.now c.requires.open, (c.requires.open.parts c.loop-k.k c.get-i.result.0 c.get-i.result.1 c.get-i.ensures).there)

pub write_flat_part-requires-clause-last : goal.write_flat_part-requires-clause-last
write_flat_part-requires-clause-last c = c.loop-k.invariant.inside

pub write_flat_part-requires-clause-typed : goal.write_flat_part-requires-clause-typed
write_flat_part-requires-clause-typed c =
    let table = c.args.table.now in
    let graph = c.args.heap.now in
    let block = c.args.block.now in
    let part = c.requires.open.parts c.loop-k.k c.get-i.result.0 c.get-i.result.1 c.get-i.ensures in
    let is : c.value_at-v.result ≡ field_at graph block.object c.get-i.result.0 =
    word_is_field table graph block c.get-i.result.0 c.value_at-v.result c.count-count.ensures.heap.is_graph c.requires.open part.there c.value_at-v.ensures.valid c.value_at-v.ensures.word in
    subst (λ v. IsTypedAt (table_of table) graph v c.get-i.result.1) (sym is) part.typed

pub loop-k-preserved : goal.loop-k-preserved
loop-k-preserved c =
    let table = c.args.table.now in
    let graph = c.args.heap.now in
    let block = c.args.block.now in
    let loop = c.loop-k in
    let i = c.get-i.result.0 in
    let at = c.get-i.result.1 in
    let v = c.value_at-v.result in
    let part = c.requires.open.parts loop.k i at c.get-i.ensures in
    let is : v ≡ field_at graph block.object i =
    word_is_field table graph block i v c.count-count.ensures.heap.is_graph c.requires.open part.there c.value_at-v.ensures.valid c.value_at-v.ensures.word in
    more_written table graph block loop.k loop.last c.in-Some.next i at v c.args.text.now.items loop.text.items c.write_before.new.text.items c.write_flat_part.new.text.items c.get-i.ensures
    (part.field ∙ ap Some (sym is)) loop.invariant c.in_ok-write_before.ensures
    (subst (WritesFlat table graph v at loop.last c.write_before.new.text.items c.write_flat_part.new.text.items) c.in-Some.is c.in_ok-next.ensures)

pub returns-in_default : goal.returns-in_default
returns-in_default c =
    let table = c.args.table.now in
    let graph = c.args.heap.now in
    let block = c.args.block.now in
    let loop = c.loop-k in
    grown_more c.args.text.now.items loop.text.items (before_part (frame_in block.frame) loop.k) c.write_before.new.text.items c.write_flat_part.new.text.items
    (grown_so table graph block loop.k loop.last c.args.text.now.items loop.text.items loop.invariant) c.in_ok-write_before.ensures
    (subst (WritesFlat table graph c.value_at-v.result c.get-i.result.1 loop.last c.write_before.new.text.items c.write_flat_part.new.text.items) c.in_default.is c.in_ok-next.ensures)

pub returns : goal.returns
returns c =
    let block = c.args.block.now in
    let loop = c.loop-k in
    let past : length (needs_in block.needs) ≤ loop.k = first_of (omega arith, search rules, grind (arith, common_steps)) in
    all_written c.args.table.now c.args.heap.now block loop.k loop.last c.end_of.result c.args.text.now.items loop.text.items c.write_end.new.text.items past c.end_of.ensures loop.invariant c.in_ok-write_end.ensures
