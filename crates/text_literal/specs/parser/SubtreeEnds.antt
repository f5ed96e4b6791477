-- For each literal in a list of nodes, the index of the node after the literal.
use Rattle.std.specs.Prelude.{ℕ, zero, suc, ◌+◌, ◌≡◌, ◌≤◌, nat_lt, if◌then◌else◌, List, length}
use Rattle.std.specs.Prelude.{slice_index}
use Rattle.text_literal.specs.declared.literal_grammar.literal_node.LiteralNode.{LiteralNode}
use Rattle.text_literal.specs.literal_grammar.Literal.{Literal}
use Rattle.text_literal.specs.literal_grammar.LiteralNodes.{literal_nodes}
use Rattle.text_literal.specs.parser.Standing.{IsAt}

-- Let j be a node from i on. If the nodes of a literal begin at j, then entry j is the index of the
-- node after the literal's last node.
abbrev pub AreEndsFrom : ℕ → List LiteralNode → List ℕ → Type 0
AreEndsFrom i nodes ends =
    (j k : ℕ) (v : Literal) → i ≤ j → IsAt nodes j (literal_nodes k v)
    → slice_index ends j ≡ j + length (literal_nodes k v)

abbrev pub AreEnds : List LiteralNode → List ℕ → Type 0
AreEnds nodes ends =
    (j k : ℕ) (v : Literal) → IsAt nodes j (literal_nodes k v)
    → slice_index ends j ≡ j + length (literal_nodes k v)

-- The index of the node that is a given number of siblings after the node `position`.
abbrev pub sibling : List ℕ → ℕ → ℕ → ℕ
sibling ends position zero = position
sibling ends position (suc n) =
    if nat_lt position (length ends) then sibling ends (slice_index ends position) n else position
