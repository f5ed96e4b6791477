use Rattle.std.proofs.Common.{◌∙◌, sym, subst}
use Rattle.marshal_spec.proofs.canonical.Walk.{tree_exists}
use Rattle.marshal_write.specs.write.Marks.{marks_of}
use Rattle.marshal_write.specs.graft.ObjectOrder.{IsOrder}
use Rattle.marshal_write.proofs.graft.write_order.WriteOrder.of.Goals as goal

pub order_of-requires : goal.order_of-requires
order_of-requires c =
    let found = tree_exists c.args.heap.now c.args.root c.count.ensures.heap.is_graph c.requires in
    let numbered = c.in_ok-numbers.ensures found.0 found.1 in
    c.count.ensures.count ∙ sym numbered.2.size

pub returns : goal.returns
returns c =
    let found = tree_exists c.args.heap.now c.args.root c.count.ensures.heap.is_graph c.requires in
    let numbered = c.in_ok-numbers.ensures found.0 found.1 in
    let ordered = c.in_ok-objects.ensures c.args.heap.now numbered.0 numbered.2 in
    subst (IsOrder c.args.heap.now c.args.root (marks_of c.in_ok-numbers.numbers.marks)) (sym ordered)
    (record { tree = found.0; is = found.1; numbering = numbered.1; marked = numbered.2 })
