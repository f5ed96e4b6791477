use Rattle.std.proofs.Common.{◌≡◌, ◌<◌, ◌∙◌, sym, ap, subst, false, get_or, length, replicate, Some, [], rules, arith}
use Rattle.std.proofs.lemmas.Grind.{common_steps}
use Rattle.std.specs.Prelude.{All, filter}
use Rattle.std.proofs.lemmas.List.Elements.{All-filter}
use Rattle.std.specs.List.{flat_map}
use Rattle.text_print.specs.show.TextChunks.{labelled, chunk_text}
use Rattle.text_print.specs.show.ShownValues.{chunks_of}
use Rattle.text_print.specs.show.TableShapes.{shape_in, names_in}
use Rattle.text_print.specs.print.Labels.{AreCounted}
use Rattle.text_print.specs.print.PrintWalk.{Gives, left_of, chunks_left}
use Rattle.text_print.proofs.print.PrintLeftLemmas.{start_left}
use Rattle.text_print.proofs.print.PrintLabelLemmas.{first_left, counted_more, counted_all}
use Rattle.text_print.proofs.print.PrintPlainLemmas.{counted_written, whole_written}
use Rattle.text_print.proofs.print.shown.write_without_labels.Goals as goal

pub returns-then-branch-clause-text : goal.returns-then-branch-clause-text
returns-then-branch-clause-text c =
    let table = c.args.table.now in
    let graph = c.args.value.now.heap.now in
    let walk = c.in_ok-walk.walk in
    let all = left_of table graph [] (Some (c.args.value.now.root, c.args.at)) [] in
    let chunks = chunks_of (shape_in table) (names_in table) graph c.args.value.now.root c.args.at in
    whole_written table graph walk c.write_until_again.new.walk c.args.text.now.items c.write_until_again.new.text.items all chunks (start_left table graph c.args.value.now.root c.args.at)
    (first_left table graph walk c.args.value.now.root c.args.at c.in_ok-walk.ensures.value c.in_ok-walk.ensures.blocks c.in_ok-walk.ensures.ends c.in_ok-walk.ensures.order)
    (c.in_ok-write_until_again.ensures.all c.if-branch.true) c.in_ok-write_until_again.ensures.write

pub loop-again-init : goal.loop-again-init
loop-again-init c =
    let graph = c.args.value.now.heap.now in
    let marks : c.in_ok-again.again.items ≡ replicate (length graph) false = first_of (search rules, grind (arith, common_steps)) in
    counted_written c.args.table.now graph c.in_ok-walk.walk c.write_until_again.new.walk c.args.value.now.root c.args.at c.in_ok-again.again.items c.args.text.now.items c.write_until_again.new.text.items
    c.in_ok-walk.ensures.value c.in_ok-walk.ensures.blocks c.in_ok-walk.ensures.ends c.in_ok-walk.ensures.order marks c.in_ok-write_until_again.ensures.write

pub loop-again-preserved : goal.loop-again-preserved
loop-again-preserved c =
    let table = c.args.table.now in
    let graph = c.args.value.now.heap.now in
    let walk = c.loop-again.walk in
    let all = left_of table graph [] (Some (c.args.value.now.root, c.args.at)) [] in
    let goes = subst (Gives table graph (chunks_left table graph walk) walk.order c.next.new.self) c.in-Some.is c.in_ok-step.ensures in
    subst (AreCounted table graph all c.next.new.self) (sym c.mark_again.ensures.marks)
    (counted_more table graph all walk c.next.new.self c.loop-again.again.items c.in-Some.step c.loop-again.invariant goes)

pub returns-clause-text : goal.returns-clause-text
returns-clause-text c =
    let table = c.args.table.now in
    let graph = c.args.value.now.heap.now in
    let walk = c.loop-again.walk in
    let all = left_of table graph [] (Some (c.args.value.now.root, c.args.at)) [] in
    let write = c.in_ok-write_until_again.ensures.write in
    let ends = subst (Gives table graph (chunks_left table graph walk) walk.order c.next.new.self) c.in_default.is c.in_ok-step.ensures in (
      c.in_ok-objects.ensures
          ∙ ap (λ marks. filter (λ o. get_or marks o false) c.as_slice.result.now) c.deref.ensures.value
          ∙ counted_all table graph all walk c.loop-again.again.items c.as_slice.result.now c.loop-again.invariant ends.0 (c.as_slice.ensures.value ∙ c.in_ok-order.ensures ∙ ends.1)
          ∙ ap labelled (start_left table graph c.args.value.now.root c.args.at),
      (flat_map (chunk_text []) write.now, write.write),
    )

pub returns-clause-inside : goal.returns-clause-inside
returns-clause-inside c =
    let table = c.args.table.now in
    let graph = c.args.value.now.heap.now in
    let walk = c.loop-again.walk in
    let ends = subst (Gives table graph (chunks_left table graph walk) walk.order c.next.new.self) c.in_default.is c.in_ok-step.ensures in
    let order : c.as_slice.result.now ≡ walk.order = c.as_slice.ensures.value ∙ c.in_ok-order.ensures ∙ ends.1 in
    subst (All (λ o. o < length graph)) (sym (c.in_ok-objects.ensures ∙ ap (filter (λ o. get_or c.deref.result.now o false)) order))
    (All-filter (λ o. get_or c.deref.result.now o false) (λ o. o < length graph) walk.order c.loop-again.invariant.is_walk.inside)
