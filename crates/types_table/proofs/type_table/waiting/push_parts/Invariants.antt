use Rattle.std.proofs.Common.{◌≡◌, ◌<◌, ◌++◌, [], length, All}
use Rattle.types_spec.specs.types.TypeNodes.{type_at}
use Rattle.types_table.specs.type_table.PrintedTypes.{parts_text, waiting_text, IsWithin}
use Rattle.types_table.proofs.type_table.waiting.push_parts.Given as goal

-- The parts before the current part are still to be pushed.
abbrev pub invariant-loop-whole : goal.invariant-loop-whole
invariant-loop-whole l =
    (l.at < length l.types) × All (IsWithin l.types) l.waiting.items
    × (parts_text l.asked l.between l.end (type_at l.types l.at) ++ waiting_text l.types l.waiting.items
    ≡ parts_text l.asked l.between [] (type_at l.types l.number) ++ waiting_text l.types l.initial.waiting.items)

abbrev pub decreases-loop-whole : goal.decreases-loop-whole
decreases-loop-whole l = l.at
