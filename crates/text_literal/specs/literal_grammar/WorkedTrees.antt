-- Examples, worked out by hand: literals as trees, with their lexemes and nodes.
use Rattle.std.specs.Prelude.{ℕ, pos, ◌≡◌, false, Option, Some, None, List, [], ◌∷◌, codes}
use Rattle.std.specs.Prelude.{option_and_then}
use Rattle.types_lex.specs.declared.lexeme.LexemeKind.{LexemeKind}
use Rattle.types_lex.specs.declared.lexeme.LexemeKind.TheVariants as kinds
use Rattle.types_lex.specs.declared.lexeme.Suffix.TheVariants as suffixes
use Rattle.types_lex.specs.declared.lexeme.Symbol.{Symbol}
use Rattle.types_lex.specs.declared.lexeme.Symbol.TheVariants as symbols
use Rattle.types_parse.specs.grammar.Grammar.{Kinds}
use Rattle.types_parse.specs.grammar.TypeMachine.{run}
use Rattle.types_parse.specs.grammar.LexemeKinds.{number}
use Rattle.text_literal.specs.literal_grammar.Literal.{upper_head, tag_head, cons_head, ref_head}
use Rattle.text_literal.specs.literal_grammar.Literal.{Literal}
use Rattle.text_literal.specs.literal_grammar.Literal.{labelled, again, Plain, integer, double}
use Rattle.text_literal.specs.literal_grammar.Literal.{unit}
use Rattle.text_literal.specs.literal_grammar.Literal.{applied}
use Rattle.text_literal.specs.literal_grammar.Literal.{fields, tuple, empty_array, no_parts}
use Rattle.text_literal.specs.literal_grammar.Literal.{more_parts}
use Rattle.text_literal.specs.literal_grammar.Literal.{no_rows, more_rows, literal_kinds}
use Rattle.text_literal.specs.declared.literal_grammar.literal_node.NodeForm.TheVariants as forms
use Rattle.text_literal.specs.declared.literal_grammar.literal_node.LiteralNode.{LiteralNode}
use Rattle.text_literal.specs.literal_grammar.LiteralNodes.{node, literal_nodes}
use Rattle.text_literal.specs.literal_grammar.LiteralMachine.{start, step, accepted}

abbrev pub symbol : Symbol → LexemeKind
symbol s = kinds.Symbol s

abbrev pub alone : Plain → Literal
alone p = labelled None p

abbrev pub small : ℕ → Literal
small n = alone (integer (record { minus = false; value = pos n; suffix = suffixes.Absent }))

-- The literal that the parsing table reads from the lexemes, or `None` if the table reads no
-- literal.
abbrev pub reading : Kinds → Option Literal
reading lexemes = option_and_then accepted (run step start lexemes)

-- `#0=::(1, #0)`
abbrev pub cyclic : Literal
cyclic = labelled (Some 0) (applied cons_head (more_parts no_parts (small 1)) (again 0))

abbrev pub cyclic_lexemes : Kinds
cyclic_lexemes =
    symbol symbols.Hash ∷ number 0 ∷ symbol symbols.Equals ∷ symbol symbols.DoubleColon
    ∷ symbol symbols.OpenParen ∷ number 1 ∷ symbol symbols.Comma ∷ symbol symbols.Hash ∷ number 0
    ∷ symbol symbols.CloseParen ∷ []

-- `(#0=ref(0), #0)`
abbrev pub shared : Literal
shared = alone (tuple no_parts (labelled (Some 0) (applied ref_head no_parts (small 0))) (again 0))

abbrev pub shared_lexemes : Kinds
shared_lexemes =
    symbol symbols.OpenParen ∷ symbol symbols.Hash ∷ number 0 ∷ symbol symbols.Equals
    ∷ kinds.Lower (codes "ref") ∷ symbol symbols.OpenParen ∷ number 0 ∷ symbol symbols.CloseParen
    ∷ symbol symbols.Comma ∷ symbol symbols.Hash ∷ number 0 ∷ symbol symbols.CloseParen ∷ []

-- `{x = $3ff0000000000000; y = 5L}`
abbrev pub rows : Literal
rows =
    alone
    (fields None (more_rows no_rows (codes "x") (alone (double 4607182418800017408))) (codes "y")
    (alone (integer (record { minus = false; value = pos 5; suffix = suffixes.Int64 }))))

abbrev pub rows_lexemes : Kinds
rows_lexemes =
    symbol symbols.OpenBrace ∷ kinds.Lower (codes "x") ∷ symbol symbols.Equals
    ∷ kinds.Double 4607182418800017408 ∷ symbol symbols.Semicolon ∷ kinds.Lower (codes "y")
    ∷ symbol symbols.Equals
    ∷ kinds.Integer (record { minus = false; value = pos 5; suffix = suffixes.Int64 })
    ∷ symbol symbols.CloseBrace ∷ []

-- `C{x = 1}`
abbrev pub inline : Literal
inline = alone (fields (Some (upper_head (codes "C"))) no_rows (codes "x") (small 1))

abbrev pub inline_lexemes : Kinds
inline_lexemes =
    kinds.Upper (codes "C") ∷ symbol symbols.OpenBrace ∷ kinds.Lower (codes "x")
    ∷ symbol symbols.Equals ∷ number 1 ∷ symbol symbols.CloseBrace ∷ []

-- `` `B(3) ``
abbrev pub carrying : Literal
carrying = alone (applied (tag_head (codes "B")) no_parts (small 3))

abbrev pub carrying_lexemes : Kinds
carrying_lexemes =
    kinds.Tag (codes "B") ∷ symbol symbols.OpenParen ∷ number 3 ∷ symbol symbols.CloseParen ∷ []

-- The nodes of a literal that begins at lexeme 0.
abbrev pub nodes : Literal → List LiteralNode
nodes v = literal_nodes 0 v

pub record WorkedTreeRows : Type 0 where
  pub cyclic_encoded : literal_kinds cyclic ≡ cyclic_lexemes
  pub cyclic_read : reading cyclic_lexemes ≡ Some cyclic
  pub shared_encoded : literal_kinds shared ≡ shared_lexemes
  pub shared_read : reading shared_lexemes ≡ Some shared
  pub rows_encoded : literal_kinds rows ≡ rows_lexemes
  pub rows_read : reading rows_lexemes ≡ Some rows
  pub inline_encoded : literal_kinds inline ≡ inline_lexemes
  pub inline_read : reading inline_lexemes ≡ Some inline
  pub carrying_encoded : literal_kinds carrying ≡ carrying_lexemes
  pub carrying_read : reading carrying_lexemes ≡ Some carrying
  pub empty_encoded : literal_kinds (alone empty_array)
      ≡ symbol symbols.OpenArray ∷ symbol symbols.CloseArray ∷ []
  pub empty_read : reading (symbol symbols.OpenArray ∷ symbol symbols.CloseArray ∷ [])
      ≡ Some (alone empty_array)
  pub unit_encoded : literal_kinds (alone unit)
      ≡ symbol symbols.OpenParen ∷ symbol symbols.CloseParen ∷ []
  pub unit_read : reading (symbol symbols.OpenParen ∷ symbol symbols.CloseParen ∷ [])
      ≡ Some (alone unit)
  -- One part in parentheses is not a literal. A name with empty parentheses is not a literal.
  pub alone_refused : reading (symbol symbols.OpenParen ∷ number 1 ∷ symbol symbols.CloseParen ∷ [])
      ≡ None
  pub nothing_applied : reading
      (kinds.Upper (codes "C") ∷ symbol symbols.OpenParen ∷ symbol symbols.CloseParen ∷ [])
      ≡ None
  -- Each node has a form, a label, the index of its first lexeme, and its number of parts.
  pub cyclic_nodes : nodes cyclic
      ≡ node forms.Named (Some 0) 0 2 ∷ node forms.Integer None 5 0 ∷ node forms.Again (Some 0) 7 0
      ∷ []
  pub shared_nodes : nodes shared
      ≡ node forms.Tuple None 0 2 ∷ node forms.Named (Some 0) 1 1 ∷ node forms.Integer None 6 0
      ∷ node forms.Again (Some 0) 9 0 ∷ []
  pub rows_nodes : nodes rows
      ≡ node forms.Fields None 0 2 ∷ node forms.Double None 3 0 ∷ node forms.Integer None 7 0 ∷ []
  pub inline_nodes : nodes inline ≡ node forms.Fields None 0 1 ∷ node forms.Integer None 4 0 ∷ []
  pub carrying_nodes : nodes carrying ≡ node forms.Named None 0 1 ∷ node forms.Integer None 2 0 ∷ []
  pub empty_nodes : nodes (alone empty_array) ≡ node forms.Array None 0 0 ∷ []
  pub unit_nodes : nodes (alone unit) ≡ node forms.Unit None 0 0 ∷ []
