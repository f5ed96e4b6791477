-- A text of a tree that is read back: the text's lexemes are a literal with the value of the tree.
use Rattle.std.specs.Prelude.{ℕ, ◌<◌, ◌≡◌, ◌≢◌, length, List, [], ◌∷◌, Ok, map}
use Rattle.std.specs.List.{AllByRecursion}
use Rattle.types_lex.specs.declared.lexeme.Lexeme.{Lexeme}
use Rattle.types_lex.specs.LexText.{Lexes}
use Rattle.types_spec.specs.declared.types.names.Names.{Names}
use Rattle.types_spec.specs.declared.types.shape.ShapeOf.{ShapeOf}
use Rattle.marshal_spec.specs.format.Tree.{Tree, root, objects_of}
use Rattle.text_literal.specs.literal_grammar.Literal.{Literal, literal_kinds}
use Rattle.text_literal.specs.parser.LiteralReading.{reading, literal_read}

-- The lexemes are a literal with the value of the tree at the type, and with the objects of the
-- tree in order.
pub record IsReadBack {T : Type 0} (shape : T → ShapeOf T) (names : T → Names) (tree : Tree)
    (t : T) (text : List ℕ) : Type 0 where
  -- The text is one non-empty line.
  pub one_line : AllByRecursion (λ b. b ≢ 10) text
  pub some : 0 < length text
  pub lexemes : List Lexeme
  pub lexes : Lexes text lexemes
  pub literal : Literal
  pub encoded : literal_kinds literal ≡ map (λ (l : Lexeme). l.kind) lexemes
  pub labels : List ℕ
  pub reads : (k : ℕ) → literal_read shape names k literal 0 [] t
      ≡ Ok (reading (root tree 0 ∷ []) (objects_of tree 0) labels)
