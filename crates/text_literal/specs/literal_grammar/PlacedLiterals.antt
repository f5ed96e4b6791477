-- The result of parsing a text whose lexemes are given by their byte offsets.
use Rattle.std.specs.Prelude.{ℕ, ◌≡◌, ◌≢◌, ◌≤◌, ◌^◌, option_map, unwrap_or, Option, Some, None}
use Rattle.std.specs.Prelude.{Result, Ok, Err, List, [], ◌++◌, length, map, slice_get, ⊤}
use Rattle.types_lex.specs.declared.lexeme.Lexeme.{Lexeme}
use Rattle.types_lex.specs.Lexemes.{lexeme_from}
use Rattle.types_lex.specs.LexText.{Lexes, Faults}
use Rattle.types_parse.specs.grammar.Refusals.{IsSyntax}
use Rattle.text_literal.specs.declared.literal_grammar.literal_node.LiteralNode.{LiteralNode}
use Rattle.text_literal.specs.declared.literal_grammar.placed_nodes.PlacedNodes.{PlacedNodes}
use Rattle.text_literal.specs.declared.literal_grammar.placed_nodes.PlacedFault.{PlacedFault}
use Rattle.text_literal.specs.declared.literal_grammar.placed_nodes.PlacedFault.TheVariants as faults
use Rattle.text_literal.specs.literal_grammar.Literal.{literal_kinds}
use Rattle.types_parse.specs.grammar.LexemeKinds.{kinds_of}
use Rattle.text_literal.specs.literal_grammar.LiteralNodes.{IsTreeOf}

abbrev pub lexemes_at : List ℕ → List ℕ → List Lexeme
lexemes_at text positions = map (lexeme_from text) positions

-- The text has at least one lexeme, and the text's lexemes are not a literal. The first error is at
-- the byte offset `byte`.
pub record StopsAt (text : List ℕ) (byte : ℕ) : Type 0 where
  pub lexemes : List Lexeme
  pub lexeme : ℕ
  pub lexes : Lexes text lexemes
  pub some : lexemes ≢ []
  pub syntax : IsSyntax literal_kinds (kinds_of lexemes) lexeme
  pub is : byte
      ≡ unwrap_or (option_map (λ (l : Lexeme). l.span.first) (slice_get lexemes lexeme))
      (length text)

-- ---- the result of functions

abbrev pub IsLexed : List ℕ → PlacedFault → Type 0
IsLexed text (faults.Lex fault) = Faults text fault
IsLexed text faults.Memory = ⊤
IsLexed text fault = ⊥

-- The text's lexemes begin with `prefix`, and no literal continues at the last lexeme of `prefix`.
abbrev pub Stopped : List ℕ → List Lexeme → ℕ → PlacedFault → Type 0
Stopped text prefix first (faults.Syntax byte) =
    (byte ≡ first) × ((more : List Lexeme) × Lexes text (prefix ++ more))
Stopped text prefix first fault = IsLexed text fault

abbrev pub IsPlacedFault : List ℕ → PlacedFault → Type 0
IsPlacedFault text (faults.Lex fault) = Faults text fault
IsPlacedFault text (faults.Syntax byte) = StopsAt text byte
IsPlacedFault text faults.TooLong = 2 ^ 32 ≤ length text
IsPlacedFault text faults.Memory = ⊤

-- `positions` are the byte offsets of the text's lexemes, and `nodes` are the nodes of the literal
-- with these lexemes.
abbrev pub IsPlaced : List ℕ → List ℕ → List LiteralNode → Type 0
IsPlaced text positions nodes =
    Lexes text (lexemes_at text positions) × IsTreeOf (lexemes_at text positions) nodes

abbrev pub ReadsAt : List ℕ → List ℕ → Result (Option (List LiteralNode)) PlacedFault → Type 0
ReadsAt text positions (Ok None) = Lexes text []
ReadsAt text positions (Ok (Some nodes)) = IsPlaced text positions nodes
ReadsAt text positions (Err fault) = IsPlacedFault text fault

abbrev pub ReadsPlaced : List ℕ → Result (Option PlacedNodes) PlacedFault → Type 0
ReadsPlaced text (Ok None) = Lexes text []
ReadsPlaced text (Ok (Some placed)) = IsPlaced text placed.positions.items placed.tree
ReadsPlaced text (Err fault) = IsPlacedFault text fault
