use Rattle.std.proofs.Common.{◌≡◌, ◌-◌, ◌≤◌}
use Rattle.text_print.specs.print.PrintRow.{row}
use Rattle.text_print.proofs.print.visit_order.VisitOrder.numbers.Given as goal

abbrev pub invariant-loop-o : goal.invariant-loop-o
invariant-loop-o l =
    (l.self-inside.first ≤ l.o) × ((l.o ≤ l.self-inside.next) × (l.numbers.items ≡ row l.self-inside.first (l.o - l.self-inside.first)))
