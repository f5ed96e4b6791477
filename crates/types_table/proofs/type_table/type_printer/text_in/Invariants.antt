use Rattle.std.proofs.Common.{◌≡◌, ◌++◌, All}
use Rattle.types_spec.specs.types.TypeNodes.{type_at}
use Rattle.types_spec.specs.types.TypeText.{type_text}
use Rattle.types_table.specs.type_table.PrintedTypes.{waiting_text, IsWithin}
use Rattle.types_table.proofs.type_table.type_printer.text_in.Given as goal

-- The text written and the texts that wait are the whole text.
abbrev pub invariant-loop-turn : goal.invariant-loop-turn
invariant-loop-turn l =
    All (IsWithin l.types) l.waiting.items
    × (l.text.items ++ waiting_text l.types l.waiting.items ≡ type_text (type_at l.types l.number))
