-- The result of finishing the open blocks is the result of reading the parts of the first block.
use Rattle.std.proofs.Common.{◌-◌, length}
use Rattle.std.specs.Prelude.{ℕ, List, Result, [], ◌∷◌}
use Rattle.base_data.specs.declared.model.value.Obj.{Obj}
use Rattle.text_literal.specs.parser.LiteralReading.{LiteralRefusal}
use Rattle.text_literal.specs.parser.Underway.{IsUnderway}
use Rattle.text_literal.proofs.parser.literal_parts.read_parts.Given as goal

abbrev pub invariant-part : goal.invariant-part
invariant-part l =
    (old : List Obj) (outcome : Result (List Obj) (LiteralRefusal ℕ)) → IsUnderway l.text old outcome (l.fn.block ∷ []) 1 l.fn.heap l.fn.labels.items
    → IsUnderway l.text old outcome l.stack l.j l.heap l.labels.items

abbrev pub decreases-part : goal.decreases-part
decreases-part l = length l.text.nodes.now - l.j
