use Rattle.std.proofs.Common.{◌≡◌, []}
use Rattle.text_print.proofs.print.PrintPlainLemmas.{IsKnown}
use Rattle.text_print.proofs.print.shown_text.is_shown.Given as goal

abbrev pub invariant-chunk : goal.invariant-chunk
invariant-chunk l = IsKnown l.table l.value.heap.now l.fn.value.root l.fn.at l.text l.rest l.walk × (l.few.items ≡ [])
