use Rattle.std.proofs.Common.{◌≡◌, length}
use Rattle.types_wellformed.specs.head_rules.Apart.{ReportsClosed}
use Rattle.types_wellformed.proofs.head_rules.apart.closed_types.Given as goal

abbrev pub invariant-loop-number : goal.invariant-loop-number
invariant-loop-number l = record {
  all : length l.known.items ≡ l.number;
  known : ReportsClosed l.types l.known.items;
}
