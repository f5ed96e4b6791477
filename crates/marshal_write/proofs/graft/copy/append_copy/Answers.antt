use Rattle.std.proofs.Common.{◌<◌, ◌∙◌, ◌++◌, length, take, sym, ap, subst, arith}
use Rattle.std.specs.Prelude.{All}
use Rattle.marshal_write.specs.write.Marks.{marks_of}
use Rattle.marshal_write.specs.graft.Renamed.{blanks, renamed, IsMetObject}
use Rattle.marshal_write.proofs.graft.GraftOrderLemmas.{order_inside}
use Rattle.marshal_write.proofs.graft.GraftWholeLemmas.{whole_met, whole_top, whole_copy, whole_valid}
use Rattle.marshal_write.proofs.graft.copy.append_copy.Goals as goal

pub append_blanks-requires : goal.append_blanks-requires
append_blanks-requires c =
    let order = c.in_ok-order.order in
    subst (All (λ k. k < length c.args.from.now)) (sym c.deref.ensures.value)
    (order_inside c.args.from.now c.args.part (marks_of order.numbers.marks) order.objects.items c.in_ok-order.ensures 0)

pub fill_all-requires-clause-met : goal.fill_all-requires-clause-met
fill_all-requires-clause-met c =
    let order = c.in_ok-order.order in
    let first = c.in_ok-append_blanks.ensures {u = tt} ∙ ap (λ ks. c.args.heap.now ++ blanks c.args.from.now ks) c.deref.ensures.value in
    subst (All (IsMetObject c.args.from.now (marks_of order.numbers.marks) c.count-base.result (length c.append_blanks.new.heap))) (sym c.deref-2.ensures.value)
    (whole_met c.args.heap.now c.append_blanks.new.heap c.args.from.now c.args.part (marks_of order.numbers.marks) order.objects.items c.in_ok-order.ensures
    c.count-base.result c.count-base.ensures.count first)

pub renamed_by-requires : goal.renamed_by-requires
renamed_by-requires c =
    let order = c.in_ok-order.order in
    let marks = marks_of order.numbers.marks in
    let first = c.in_ok-append_blanks.ensures {u = tt} ∙ ap (λ ks. c.args.heap.now ++ blanks c.args.from.now ks) c.deref.ensures.value in
    let second = c.fill_all.ensures ∙ ap (λ ks. take c.count-base.result c.append_blanks.new.heap ++ renamed c.count-base.result marks c.args.from.now ks) c.deref-2.ensures.value in
    whole_top c.args.heap.now c.append_blanks.new.heap c.args.from.now c.args.part marks order.objects.items c.in_ok-order.ensures
    c.count-base.result c.count-base.ensures.count first c.fill_all.new.heap second 18446744073709551616 (omega (arith, c.count-count.ensures.count, c.count-count.type_inv))

pub returns-clause-copy : goal.returns-clause-copy
returns-clause-copy c =
    let order = c.in_ok-order.order in
    let marks = marks_of order.numbers.marks in
    let first = c.in_ok-append_blanks.ensures {u = tt} ∙ ap (λ ks. c.args.heap.now ++ blanks c.args.from.now ks) c.deref.ensures.value in
    let second = c.fill_all.ensures ∙ ap (λ ks. take c.count-base.result c.append_blanks.new.heap ++ renamed c.count-base.result marks c.args.from.now ks) c.deref-2.ensures.value in
    whole_copy c.args.heap.now c.append_blanks.new.heap c.args.from.now c.args.part marks order.objects.items c.in_ok-order.ensures
    c.count-base.result c.count-base.ensures.count first c.fill_all.new.heap second c.renamed_by.result c.renamed_by.ensures

pub returns-clause-value : goal.returns-clause-value
returns-clause-value c =
    let order = c.in_ok-order.order in
    let marks = marks_of order.numbers.marks in
    let first = c.in_ok-append_blanks.ensures {u = tt} ∙ ap (λ ks. c.args.heap.now ++ blanks c.args.from.now ks) c.deref.ensures.value in
    let second = c.fill_all.ensures ∙ ap (λ ks. take c.count-base.result c.append_blanks.new.heap ++ renamed c.count-base.result marks c.args.from.now ks) c.deref-2.ensures.value in
    whole_valid c.args.heap.now c.append_blanks.new.heap c.args.from.now c.args.part marks order.objects.items c.in_ok-order.ensures
    c.count-base.result c.count-base.ensures.count first c.fill_all.new.heap second c.renamed_by.result c.renamed_by.ensures c.requires
