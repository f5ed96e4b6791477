use Rattle.types_table.proofs.type_table.TypeTableWriteLemmas.{write_next}
use Rattle.types_table.proofs.type_table.type_printer.text_in.Goals as goal

pub loop-turn-preserved : goal.loop-turn-preserved
loop-turn-preserved c = (
  c.in_ok-write_next-in-Some.ensures.within,
  write_next c.args.types.now c.loop-turn.text.items c.write_next.new.text.items c.loop-turn.waiting.items c.pop.new.self.items
      c.write_next.new.waiting.items c.in-Some.next _ c.in-Some.ensures.items c.in_ok-write_next-in-Some.ensures.write
      c.loop-turn.invariant.1,
)
