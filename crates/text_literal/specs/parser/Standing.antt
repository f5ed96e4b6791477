-- The location of a literal in a list of nodes and in a list of lexemes.
use Rattle.std.specs.Prelude.{ℕ, ◌+◌, ◌≡◌, Option, Some, None, List, [], ◌++◌, length, drop}
use Rattle.std.specs.List.{AllByRecursion}
use Rattle.types_lex.specs.declared.lexeme.Lexeme.{Lexeme}
use Rattle.types_lex.specs.declared.lexeme.LexemeKind.{LexemeKind}
use Rattle.types_lex.specs.declared.lexeme.LexemeKind.TheVariants as kinds
use Rattle.types_lex.specs.declared.lexeme.Symbol.TheVariants as symbols
use Rattle.types_parse.specs.grammar.Grammar.{Kinds}
use Rattle.text_literal.specs.declared.literal_grammar.literal_node.NodeForm.TheVariants as forms
use Rattle.text_literal.specs.declared.literal_grammar.literal_node.LiteralNode.{LiteralNode}
use Rattle.text_literal.specs.literal_grammar.Literal.{LiteralHead, Literal, labelled, again, Plain}
use Rattle.text_literal.specs.literal_grammar.Literal.{integer}
use Rattle.text_literal.specs.literal_grammar.Literal.{character, string, double, truth, unit}
use Rattle.text_literal.specs.literal_grammar.Literal.{constant}
use Rattle.text_literal.specs.literal_grammar.Literal.{applied, fields, tuple, empty_array, array}
use Rattle.text_literal.specs.literal_grammar.Literal.{label_kinds, truth_name, literal_kinds}
use Rattle.types_parse.specs.grammar.LexemeKinds.{kinds_of}
use Rattle.text_literal.specs.literal_grammar.LiteralNodes.{node, literal_nodes}
use Rattle.text_literal.specs.parser.LiteralLeaves.{lead_of}
use Rattle.text_literal.specs.parser.Pending.{parts_of}
use Rattle.text_literal.specs.parser.NodesOf.{form_of}

-- At index i, the list `all` continues with the list `own`.
pub record IsAt {T : Type 0} (all : List T) (i : ℕ) (own : List T) : Type 0 where
  pub rest : List T
  pub is : drop i all ≡ own ++ rest

-- The nodes of the literal begin at node j, and the literal's lexemes begin at lexeme k.
pub record Stands (nodes : List LiteralNode) (lexemes : List Lexeme) (j k : ℕ)
    (v : Literal) : Type 0 where
  pub nodes_at : IsAt nodes j (literal_nodes k v)
  pub kinds_at : IsAt (kinds_of lexemes) k (literal_kinds v)

-- ---- a literal as its own node and its parts

abbrev pub own_node : ℕ → Literal → LiteralNode
own_node k (labelled l p) = node (form_of p) l k (length (parts_of (k + length (label_kinds l)) p))
own_node k (again n) = node forms.Again (Some n) k 0

abbrev pub inner_parts : ℕ → Literal → List (ℕ × Literal)
inner_parts k (labelled l p) = parts_of (k + length (label_kinds l)) p
inner_parts k (again n) = []

-- The lexemes of each part begin at the index of the part.
abbrev pub AreEncoded : Kinds → List (ℕ × Literal) → Type 0
AreEncoded all parts =
    AllByRecursion (λ (part : ℕ × Literal). IsAt all part.0 (literal_kinds part.1)) parts

-- ---- the first lexeme of a plain literal

abbrev pub lead_of_owner : Option LiteralHead → LexemeKind
lead_of_owner None = kinds.Symbol symbols.OpenBrace
lead_of_owner (Some h) = lead_of h

abbrev pub lead_of_plain : Plain → LexemeKind
lead_of_plain (integer i) = kinds.Integer i
lead_of_plain (character c) = kinds.Character c
lead_of_plain (string s) = kinds.Text s
lead_of_plain (double d) = kinds.Double d
lead_of_plain (truth b) = kinds.Lower (truth_name b)
lead_of_plain unit = kinds.Symbol symbols.OpenParen
lead_of_plain (constant h) = lead_of h
lead_of_plain (applied h ps v) = lead_of h
lead_of_plain (fields o rs x v) = lead_of_owner o
lead_of_plain (tuple ps u v) = kinds.Symbol symbols.OpenParen
lead_of_plain empty_array = kinds.Symbol symbols.OpenArray
lead_of_plain (array ps v) = kinds.Symbol symbols.OpenArray
