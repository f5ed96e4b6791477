use Rattle.std.proofs.Common.{◌≡◌, ◌<◌, length}
use Rattle.types_spec.specs.types.TypeNodes.{type_at}
use Rattle.types_table.specs.type_table.PrintedTypes.{stem}
use Rattle.types_table.proofs.type_table.waiting.stem_of.Given as goal

abbrev pub invariant-loop-whole : goal.invariant-loop-whole
invariant-loop-whole l =
    (l.at < length l.types) × (stem (type_at l.types l.at) ≡ stem (type_at l.types l.number))

abbrev pub decreases-loop-whole : goal.decreases-loop-whole
decreases-loop-whole l = l.at
