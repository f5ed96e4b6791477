use Rattle.std.proofs.Common.{◌∙◌, ◌++◌, ap, sym, length}
use Rattle.marshal_heap.specs.heap.Heap.{kind_of, object_at}
use Rattle.marshal_heap.specs.declared.heap.kind.Kind.TheVariants as kinds
use Rattle.text_print.proofs.leaves.LeafObjectLemmas.{of_kind}
use Rattle.text_print.proofs.print.PrintFlatLemmas.{leaf_shown, block_known}
use Rattle.text_print.proofs.print.flat_text.write_flat_object.Goals as goal

pub returns-in_default : goal.returns-in_default
returns-in_default c =
    let table = c.args.table.now in
    let graph = c.args.placed.now.heap.now in
    let o = c.args.placed.now.object in
    c.in_ok-write_leaf.ensures
    ∙ ap (λ t. c.args.text.now.items ++ t)
    (sym (leaf_shown table graph o c.args.at c.args.placed.now.there c.requires.asked
    (λ tag values is. c.in_default.not-Block tag (length values) (c.kind_at.ensures o c.args.placed.now.there c.word-word.ensures ∙ ap kind_of is))))

pub write_leaf-requires-clause-step : goal.write_leaf-requires-clause-step
write_leaf-requires-clause-step c = (c.args.placed.now.there, c.requires.typed.number)

pub returns : goal.returns
returns c =
    let table = c.args.table.now in
    let graph = c.args.placed.now.heap.now in
    let o = c.args.placed.now.object in
    let made = c.open_block-block.ensures in
    let of = of_kind (kinds.Block c.in-Block.tag c.in-Block.field-1) (object_at graph o) (sym c.in-Block.is ∙ c.kind_at.ensures o c.args.placed.now.there c.word-word.ensures) in
    block_known table graph o c.args.at c.in-Block.tag 0 c.open_block-block.result c.args.text.now.items c.write_opening.new.text.items c.write_flat_parts.new.text.items c.args.placed.now.there c.requires.asked of.0
    (record { object = made.object; frame = made.frame; needs = made.needs; next = made.next; outside = made.outside; is_open = made.open })
    c.in_ok-write_opening.ensures c.in_ok-whole.whole c.in_ok-whole.ensures
