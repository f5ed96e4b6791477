use Rattle.std.proofs.Common.{◌≡◌, true, None, length}
use Rattle.text_print.specs.print.PrintWalk.{chunks_left}
use Rattle.text_print.specs.print.TextUntilAgain.{IsWrittenOn}
use Rattle.text_print.proofs.print.text_until_again.write_some.Given as goal

abbrev pub invariant-loop-fresh : goal.invariant-loop-fresh
invariant-loop-fresh l =
    IsWrittenOn l.table l.heap (chunks_left l.table l.heap l.fn.walk) l.fn.walk.order l.fn.text.items l.text.items l.walk × (l.fresh ≡ true → l.walk.value ≡ None)

abbrev pub decreases-loop-fresh : goal.decreases-loop-fresh
decreases-loop-fresh l = length (chunks_left l.table l.heap l.walk)
