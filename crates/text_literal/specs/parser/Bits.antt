-- The bits of the doubles that consecutive nodes denote.
use Rattle.std.specs.Prelude.{ℕ, Option, Some, None, List, slice_get}
use Rattle.std.specs.List.{fold}
use Rattle.types_lex.specs.declared.lexeme.LexemeKind.{LexemeKind}
use Rattle.types_lex.specs.declared.lexeme.LexemeKind.TheVariants as kinds
use Rattle.types_parse.specs.grammar.Grammar.{Kinds}
use Rattle.text_literal.specs.declared.literal_grammar.literal_node.NodeForm.{NodeForm}
use Rattle.text_literal.specs.declared.literal_grammar.literal_node.NodeForm.TheVariants as forms
use Rattle.text_literal.specs.declared.literal_grammar.literal_node.LiteralNode.{LiteralNode}
use Rattle.text_literal.specs.literal_grammar.Literal.{Literal}
use Rattle.text_literal.specs.parser.Starts.{bits_of, and_bits}

abbrev pub double_in : Option LexemeKind → Option ℕ
double_in (Some (kinds.Double bits)) = Some bits
double_in kind = None

-- The bits of a node, from the node's label, the node's form, and the double at the node's first
-- lexeme.
abbrev pub unlabelled_bits : Option ℕ → NodeForm → Option ℕ → Option ℕ
unlabelled_bits None forms.Double bits = bits
unlabelled_bits label form bits = None

abbrev pub bits_of_node : Kinds → LiteralNode → Option ℕ
bits_of_node all n = unlabelled_bits n.label n.form (double_in (slice_get all n.first))

-- The bits `before` and the bits of all nodes, if each node is a double without a label.
abbrev pub bits_of_nodes : Kinds → Option (List ℕ) → List LiteralNode → Option (List ℕ)
bits_of_nodes all before nodes = fold (λ bits n. and_bits bits (bits_of_node all n)) before nodes

abbrev pub bits_of_listed : Option (List ℕ) → List (ℕ × Literal) → Option (List ℕ)
bits_of_listed before parts =
    fold (λ bits (part : ℕ × Literal). and_bits bits (bits_of part.1)) before parts
