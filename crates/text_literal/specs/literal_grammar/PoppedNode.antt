-- The effect of removing the innermost bracket from the stack.
use Rattle.std.specs.Prelude.{◌≡◌, List, [], ◌∷◌, Option, Some, None}
use Rattle.text_literal.specs.declared.literal_grammar.pending_node.PendingNode.{PendingNode}

abbrev pub Popped : List PendingNode → List PendingNode → Option PendingNode → Type 0
Popped old new None = (old ≡ []) × (new ≡ [])
Popped old new (Some o) = old ≡ o ∷ new
