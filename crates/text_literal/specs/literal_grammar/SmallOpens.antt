-- Open brackets in sixteen bytes, and the list of the brackets that do not fit. In both lists, the
-- innermost bracket comes first.
use Rattle.std.specs.Prelude.{◌≡◌, Option, Some, None, List, [], ◌∷◌}
use Rattle.text_literal.specs.declared.literal_grammar.literal_node.NodeForm.{NodeForm}
use Rattle.text_literal.specs.declared.literal_grammar.literal_node.NodeForm.TheVariants as forms
use Rattle.text_literal.specs.declared.literal_grammar.pending_node.OpenKind.TheVariants as brackets
use Rattle.text_literal.specs.declared.literal_grammar.pending_node.PendingNode.{PendingNode}
use Rattle.text_literal.specs.declared.literal_grammar.pending_node.SmallOpen.{SmallOpen}
use Rattle.text_literal.specs.literal_grammar.SmallNodes.{plain_node}

abbrev pub plain_open : SmallOpen → NodeForm → PendingNode
plain_open s form =
    record { bracket = s.bracket; index = s.index; node = plain_node form s.first s.parts }

abbrev pub blank_open : PendingNode
blank_open =
    record { bracket = brackets.Parens; index = 0; node = plain_node forms.Unit 0 0 }

-- The bracket that an entry of sixteen bytes denotes. If the entry has a form, the form gives the
-- bracket. If not, the bracket is the innermost bracket of `others`.
abbrev pub open_by : SmallOpen → Option NodeForm → List PendingNode → PendingNode
open_by s (Some form) others = plain_open s form
open_by s None [] = blank_open
open_by s None (o ∷ others) = o

abbrev pub others_behind : Option NodeForm → List PendingNode → List PendingNode
others_behind (Some form) others = others
others_behind None [] = []
others_behind None (o ∷ others) = others

abbrev pub opens_in : List SmallOpen → List PendingNode → List PendingNode
opens_in [] others = []
opens_in (s ∷ all) others = open_by s s.form others ∷ opens_in all (others_behind s.form others)

-- The entry denotes the bracket, independently of the brackets in `others`.
abbrev pub IsSmallOpen : PendingNode → SmallOpen → Type 0
IsSmallOpen outer small =
    (form : NodeForm) × (small.form ≡ Some form) × (plain_open small form ≡ outer)
