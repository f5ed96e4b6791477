use Rattle.std.proofs.Common.{◌-◌}
use Rattle.text_print.proofs.print.PrintFlatLemmas.{ArePartlyWritten}
use Rattle.text_print.proofs.print.flat_text.write_flat_parts.Given as goal

abbrev pub invariant-loop-k : goal.invariant-loop-k
invariant-loop-k l = ArePartlyWritten l.table l.heap l.block l.k l.last l.fn.text.items l.text.items

abbrev pub decreases-loop-k : goal.decreases-loop-k
decreases-loop-k l = l.many - l.k
