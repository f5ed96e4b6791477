-- Nodes in compact form, in eight bytes each.
use Rattle.std.specs.Prelude.{ℕ, ◌≡◌, ◌<◌, Option, Some, None, List, length, map, unwrap_or}
use Rattle.std.specs.Prelude.{slice_get, ⊤}
use Rattle.std.specs.List.{AllByRecursion}
use Rattle.text_literal.specs.declared.literal_grammar.literal_node.NodeForm.{NodeForm}
use Rattle.text_literal.specs.declared.literal_grammar.literal_node.NodeForm.TheVariants as forms
use Rattle.text_literal.specs.declared.literal_grammar.literal_node.LiteralNode.{LiteralNode}
use Rattle.text_literal.specs.declared.literal_grammar.literal_nodes.SmallNode.{SmallNode}

abbrev pub plain_node : NodeForm → ℕ → ℕ → LiteralNode
plain_node form first parts =
    record { form = form; label = None; first = first; parts = parts }

-- The node that an entry of eight bytes denotes. If the entry has a form, the form gives the node.
-- If not, the node has index `first` in `others`.
abbrev pub node_by : List LiteralNode → ℕ → ℕ → Option NodeForm → LiteralNode
node_by others first parts (Some form) = plain_node form first parts
node_by others first parts None = unwrap_or (slice_get others first) (plain_node forms.Unit 0 0)

abbrev pub node_in : List LiteralNode → SmallNode → LiteralNode
node_in others small = node_by others small.first small.parts small.form

abbrev pub nodes_in : List LiteralNode → List SmallNode → List LiteralNode
nodes_in others all = map (node_in others) all

-- If the entry has no form, then the entry's index is below the number `many` of nodes in `others`.
abbrev pub IsHeldBy : ℕ → ℕ → Option NodeForm → Type 0
IsHeldBy many first (Some form) = ⊤
IsHeldBy many first None = first < many

abbrev pub IsHeld : ℕ → SmallNode → Type 0
IsHeld many small = IsHeldBy many small.first small.form

abbrev pub AreHeld : ℕ → List SmallNode → Type 0
AreHeld many all = AllByRecursion (IsHeld many) all

-- ---- the result of functions

-- The entry denotes the node, independently of the nodes in `others`.
abbrev pub IsSmall : LiteralNode → SmallNode → Type 0
IsSmall node small =
    (form : NodeForm) × (small.form ≡ Some form) × (plain_node form small.first small.parts ≡ node)

-- The entry denotes the node if `others` are the nodes that do not fit into eight bytes.
abbrev pub Holds : List LiteralNode → LiteralNode → SmallNode → Type 0
Holds others node small = (node_in others small ≡ node) × IsHeld (length others) small

-- Every list of valid entries denotes the same nodes with the list `new` as with the list `old`.
abbrev pub Keeps : List LiteralNode → List LiteralNode → Type 0
Keeps old new =
    (all : List SmallNode) → AreHeld (length old) all
    → (nodes_in new all ≡ nodes_in old all) × AreHeld (length new) all
