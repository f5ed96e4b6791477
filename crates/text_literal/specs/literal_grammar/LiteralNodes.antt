-- A literal as a list of nodes in preorder. Each node comes before its parts, and the nodes are in
-- the order of their first lexemes.
use Rattle.std.specs.Prelude.{ℕ, suc, ◌+◌, ◌≡◌, ◌<◌, Option, Some, Result, Ok, Err, List, [], ◌∷◌}
use Rattle.std.specs.Prelude.{◌++◌, length}
use Rattle.std.specs.List.{AllByRecursion}
use Rattle.types_lex.specs.declared.lexeme.Lexeme.{Lexeme}
use Rattle.types_lex.specs.declared.lexeme.Symbol.{Symbol}
use Rattle.types_lex.specs.declared.lexeme.Symbol.TheVariants as symbols
use Rattle.types_parse.specs.grammar.Grammar.{mark}
use Rattle.types_parse.specs.grammar.LexemeKinds.{kinds_of}
use Rattle.types_parse.specs.grammar.Refusals.{IsSyntax}
use Rattle.text_literal.specs.declared.literal_grammar.literal_node.NodeForm.{NodeForm}
use Rattle.text_literal.specs.declared.literal_grammar.literal_node.NodeForm.TheVariants as forms
use Rattle.text_literal.specs.declared.literal_grammar.literal_node.LiteralNode.{LiteralNode}
use Rattle.text_literal.specs.literal_grammar.Literal.{Literal, labelled, again, Plain, integer}
use Rattle.text_literal.specs.literal_grammar.Literal.{character}
use Rattle.text_literal.specs.literal_grammar.Literal.{string, double, truth, unit, constant}
use Rattle.text_literal.specs.literal_grammar.Literal.{applied}
use Rattle.text_literal.specs.literal_grammar.Literal.{fields}
use Rattle.text_literal.specs.literal_grammar.Literal.{tuple, empty_array, array, Parts, no_parts}
use Rattle.text_literal.specs.literal_grammar.Literal.{more_parts}
use Rattle.text_literal.specs.literal_grammar.Literal.{FieldRows, no_rows, more_rows, label_kinds}
use Rattle.text_literal.specs.literal_grammar.Literal.{head_kinds}
use Rattle.text_literal.specs.literal_grammar.Literal.{owner_kinds, row_start, literal_kinds}
use Rattle.text_literal.specs.literal_grammar.Literal.{parts_kinds}
use Rattle.text_literal.specs.literal_grammar.Literal.{rows_kinds}

abbrev pub node : NodeForm → Option ℕ → ℕ → ℕ → LiteralNode
node form label first parts = record { form = form; label = label; first = first; parts = parts }

abbrev pub count : Parts → ℕ
count no_parts = 0
count (more_parts ps v) = suc (count ps)

abbrev pub rows_count : FieldRows → ℕ
rows_count no_rows = 0
rows_count (more_rows rs x v) = suc (rows_count rs)

abbrev mutual
  -- The nodes of a literal whose first lexeme has index `k`.
  pub literal_nodes : ℕ → Literal → List LiteralNode
  literal_nodes k (labelled l p) = plain_nodes k l p
  literal_nodes k (again n) = node forms.Again (Some n) k 0 ∷ []

  pub plain_nodes : ℕ → Option ℕ → Plain → List LiteralNode
  plain_nodes k l (integer i) = node forms.Integer l k 0 ∷ []
  plain_nodes k l (character c) = node forms.Character l k 0 ∷ []
  plain_nodes k l (string s) = node forms.Text l k 0 ∷ []
  plain_nodes k l (double d) = node forms.Double l k 0 ∷ []
  plain_nodes k l (truth b) = node forms.Truth l k 0 ∷ []
  plain_nodes k l unit = node forms.Unit l k 0 ∷ []
  plain_nodes k l (constant h) = node forms.Named l k 0 ∷ []
  plain_nodes k l (applied h ps v) =
      node forms.Named l k (suc (count ps))
      ∷
      (parts_nodes symbols.Comma
      (k + length (label_kinds l ++ (head_kinds h ++ mark symbols.OpenParen))) ps
      ++ literal_nodes
      (k
      + length
      (label_kinds l
      ++ (head_kinds h ++ mark symbols.OpenParen ++ parts_kinds symbols.Comma ps)))
      v)
  plain_nodes k l (fields o rs x v) =
      node forms.Fields l k (suc (rows_count rs))
      ∷ (rows_nodes (k + length (label_kinds l ++ (owner_kinds o ++ mark symbols.OpenBrace))) rs
      ++ literal_nodes
      (k
      + length
      (label_kinds l
      ++ (owner_kinds o ++ mark symbols.OpenBrace ++ rows_kinds rs ++ row_start x)))
      v)
  plain_nodes k l (tuple ps u v) =
      node forms.Tuple l k (suc (suc (count ps)))
      ∷ (parts_nodes symbols.Comma (k + length (label_kinds l ++ mark symbols.OpenParen)) ps
      ++ literal_nodes
      (k + length (label_kinds l ++ mark symbols.OpenParen) + length (parts_kinds symbols.Comma ps))
      u
      ++ literal_nodes
      (k
      + length
      (label_kinds l
      ++
      (mark symbols.OpenParen
      ++
      (parts_kinds symbols.Comma ps ++ literal_kinds u
      ++ mark symbols.Comma))))
      v)
  plain_nodes k l empty_array = node forms.Array l k 0 ∷ []
  plain_nodes k l (array ps v) =
      node forms.Array l k (suc (count ps))
      ∷ (parts_nodes symbols.Semicolon (k + length (label_kinds l ++ mark symbols.OpenArray)) ps
      ++ literal_nodes
      (k + length (label_kinds l ++ (mark symbols.OpenArray ++ parts_kinds symbols.Semicolon ps)))
      v)

  pub parts_nodes : Symbol → ℕ → Parts → List LiteralNode
  parts_nodes separator k no_parts = []
  parts_nodes separator k (more_parts ps v) =
      parts_nodes separator k ps ++ literal_nodes (k + length (parts_kinds separator ps)) v

  pub rows_nodes : ℕ → FieldRows → List LiteralNode
  rows_nodes k no_rows = []
  rows_nodes k (more_rows rs x v) =
      rows_nodes k rs ++ literal_nodes (k + length (rows_kinds rs ++ row_start x)) v

-- ---- the result of parsing lexemes

-- The lexemes are a literal, and `nodes` are the nodes of the literal.
abbrev pub IsTreeOf : List Lexeme → List LiteralNode → Type 0
IsTreeOf lexemes nodes =
    (v : Literal) × (literal_kinds v ≡ kinds_of lexemes) × (nodes ≡ literal_nodes 0 v)

-- The lexemes are the literal with these nodes, or have a syntax error at this position.
abbrev pub IsTreeAnswer : List Lexeme → Result (List LiteralNode) ℕ → Type 0
IsTreeAnswer lexemes (Ok nodes) = IsTreeOf lexemes nodes
IsTreeAnswer lexemes (Err k) = IsSyntax literal_kinds (kinds_of lexemes) k

-- The index of each node's first lexeme is below `m`.
abbrev pub FirstsBelow : ℕ → List LiteralNode → Type 0
FirstsBelow m nodes = AllByRecursion (λ (n : LiteralNode). n.first < m) nodes
