-- The text of a value at a type with its doubles as decimals is read back as the value.
use Rattle.std.specs.Prelude.{ℕ, ◌≡◌, List, map}
use Rattle.types_lex.specs.declared.lexeme.Lexeme.{Lexeme}
use Rattle.types_lex.specs.LexText.{Lexes}
use Rattle.types_spec.specs.declared.types.decl.Decl.{Decl}
use Rattle.types_spec.specs.types.Names.{names_of}
use Rattle.types_spec.specs.types.Shape.{shape}
use Rattle.types_spec.specs.types.Ty.{Ty}
use Rattle.marshal_spec.specs.format.Tree.{Tree}
use Rattle.text_literal.specs.literal_grammar.Literal.{Literal, literal_kinds}
use Rattle.text_roundtrip.specs.readback.ReadBack.{IsReadBack}
use Rattle.text_decimal.specs.texts.PlainTexts.{plain_text}
use Rattle.text_decimal.specs.texts.Texts.{decimal_text}
use Rattle.text_decimal.specs.texts.Laws.{AreApart}

-- If the lexemes of a text are a literal, then no lexeme contains a decimal.
abbrev pub LiteralsAreApart : Type 0
LiteralsAreApart =
    (text : List ℕ) (lexemes : List Lexeme) (literal : Literal) → Lexes text lexemes
    → literal_kinds literal ≡ map (λ (l : Lexeme). l.kind) lexemes → AreApart text lexemes

-- The plain text of `text` is `text`, and the plain text of `text` with decimals is `text`.
-- Therefore `text` and the text with decimals are read as one value.
pub record StandsForIt (text : List ℕ) : Type 0 where
  pub decimals : plain_text (decimal_text text) ≡ text
  pub plain : plain_text text ≡ text

abbrev pub TextsWithDecimalsAreReadBack : Type 0
TextsWithDecimalsAreReadBack =
    (decls : List Decl) (tree : Tree) (t : Ty) (text : List ℕ)
    → IsReadBack (shape decls) (names_of decls) tree t text → StandsForIt text
