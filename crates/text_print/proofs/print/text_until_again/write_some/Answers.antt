use Rattle.text_print.specs.print.PrintWalk.{chunks_left}
use Rattle.text_print.proofs.print.PrintPlainLemmas.{write_then}
use Rattle.text_print.proofs.print.text_until_again.write_some.Goals as goal

pub loop-fresh-preserved : goal.loop-fresh-preserved
loop-fresh-preserved c = (
  write_then c.args.table.now c.args.heap.now (chunks_left c.args.table.now c.args.heap.now c.args.walk.now) c.args.walk.now.order c.args.text.now.items c.loop-fresh.text.items c.write_part.new.text.items
      c.loop-fresh.walk c.write_part.new.walk c.loop-fresh.invariant.0 c.in_ok-fresh-2.ensures.write,
  c.in_ok-fresh-2.ensures.none,
)
