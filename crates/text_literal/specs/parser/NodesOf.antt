-- The nodes of a literal, in terms of the nodes of the literal's parts.
use Rattle.std.specs.Prelude.{ℕ, List, flat_map}
use Rattle.text_literal.specs.declared.literal_grammar.literal_node.NodeForm.{NodeForm}
use Rattle.text_literal.specs.declared.literal_grammar.literal_node.NodeForm.TheVariants as forms
use Rattle.text_literal.specs.declared.literal_grammar.literal_node.LiteralNode.{LiteralNode}
use Rattle.text_literal.specs.literal_grammar.Literal.{Literal, Plain, integer, character, string}
use Rattle.text_literal.specs.literal_grammar.Literal.{double}
use Rattle.text_literal.specs.literal_grammar.Literal.{truth, unit, constant, applied, fields}
use Rattle.text_literal.specs.literal_grammar.Literal.{tuple}
use Rattle.text_literal.specs.literal_grammar.Literal.{empty_array, array}
use Rattle.text_literal.specs.literal_grammar.LiteralNodes.{literal_nodes}
use Rattle.text_literal.specs.parser.Pending.{Open}

abbrev pub form_of : Plain → NodeForm
form_of (integer i) = forms.Integer
form_of (character c) = forms.Character
form_of (string s) = forms.Text
form_of (double d) = forms.Double
form_of (truth b) = forms.Truth
form_of unit = forms.Unit
form_of (constant h) = forms.Named
form_of (applied h ps v) = forms.Named
form_of (fields o rs x v) = forms.Fields
form_of (tuple ps u v) = forms.Tuple
form_of empty_array = forms.Array
form_of (array ps v) = forms.Array

abbrev pub part_nodes : ℕ × Literal → List LiteralNode
part_nodes part = literal_nodes part.0 part.1

abbrev pub nodes_of_parts : List (ℕ × Literal) → List LiteralNode
nodes_of_parts parts = flat_map part_nodes parts

-- The nodes of all parts of the open blocks that are still to be read.
abbrev pub nodes_to_come : {T : Type 0} → List (Open T) → List LiteralNode
nodes_to_come opens = flat_map (λ o. nodes_of_parts o.parts) opens
