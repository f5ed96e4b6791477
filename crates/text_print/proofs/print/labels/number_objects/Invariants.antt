use Rattle.std.proofs.Common.{◌≡◌, ◌≤◌, ◌-◌, length}
use Rattle.text_print.proofs.print.PrintLabelLemmas.{AreNumbersFrom}
use Rattle.text_print.proofs.print.labels.number_objects.Given as goal

abbrev pub invariant-loop-k : goal.invariant-loop-k
invariant-loop-k l = (l.k ≤ length l.objects) × (length l.numbers.items ≡ l.end - l.first) × AreNumbersFrom l.k l.objects l.first l.numbers.items

abbrev pub decreases-loop-k : goal.decreases-loop-k
decreases-loop-k l = l.k
