use Rattle.std.proofs.Common.{subst, Some, []}
use Rattle.text_print.specs.show.ShownValues.{chunks_of}
use Rattle.text_print.specs.show.TableShapes.{shape_in, names_in}
use Rattle.text_print.specs.print.PrintWalk.{Gives, left_of, chunks_left, step_chunks}
use Rattle.text_print.proofs.print.PrintLeftLemmas.{start_left}
use Rattle.text_print.proofs.print.PrintShownLemmas.{text_more, text_all}
use Rattle.text_print.proofs.print.shown.write_with_labels.Goals as goal

pub loop-walk-preserved : goal.loop-walk-preserved
loop-walk-preserved c =
    let table = c.args.table.now in
    let graph = c.args.value.now.heap.now in
    let walk = c.loop-walk.walk in
    let left = chunks_left table graph walk in
    let goes = subst (Gives table graph left walk.order c.next.new.self) c.in-Some.is c.in_ok-step.ensures in (
      goes.walk,
      text_more c.args.labels.now.objects.items left (step_chunks table graph c.in-Some.step) (chunks_left table graph c.next.new.self) c.loop-walk.text.items c.write_step.new.text.items _
          goes.chunks c.in_ok-write_step.ensures c.loop-walk.invariant.1,
    )

pub returns : goal.returns
returns c =
    let table = c.args.table.now in
    let graph = c.args.value.now.heap.now in
    let walk = c.loop-walk.walk in
    let left = chunks_left table graph walk in
    let ends = subst (Gives table graph left walk.order c.next.new.self) c.in_default.is c.in_ok-step.ensures in
    text_all c.args.labels.now.objects.items left (left_of table graph [] (Some (c.args.value.now.root, c.args.at)) []) (chunks_of (shape_in table) (names_in table) graph c.args.value.now.root c.args.at)
    c.args.text.now.items c.loop-walk.text.items ends.0 (start_left table graph c.args.value.now.root c.args.at) c.loop-walk.invariant.1
