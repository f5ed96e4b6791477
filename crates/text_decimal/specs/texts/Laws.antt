-- The laws of texts with doubles as decimals.
use Rattle.std.specs.Prelude.{ℕ, ◌+◌, ◌≡◌, ◌≢◌, true, false, List, slice_index_or}
use Rattle.std.specs.List.{AllByRecursion}
use Rattle.types_lex.specs.declared.lexeme.Lexeme.{Lexeme}
use Rattle.types_lex.specs.declared.lexeme.LexemeKind.{LexemeKind}
use Rattle.types_lex.specs.declared.lexeme.LexemeKind.TheVariants as kinds
use Rattle.types_lex.specs.declared.lexeme.LexFault.{LexFault}
use Rattle.types_lex.specs.Lexeme.{is_name_byte}
use Rattle.types_lex.specs.LexText.{Lexes, Faults}
use Rattle.text_decimal.specs.texts.PlainTexts.{plain_text}
use Rattle.text_decimal.specs.texts.Texts.{replaced, decimal_text}

-- Decimals replace doubles lexeme by lexeme, and a text with a lexical error is unchanged.
abbrev pub DecimalsAreByLexemes : Type 0
DecimalsAreByLexemes =
    (text : List ℕ)
    → ((lexemes : List Lexeme) → Lexes text lexemes
    → decimal_text text ≡ replaced text 0 true lexemes)
    × ((fault : LexFault) → Faults text fault → decimal_text text ≡ text)

-- The lexeme before the byte `next` contains no decimal. The lexeme is not a variable, and after an
-- integer, `next` is neither a point (46) nor a byte of a name.
abbrev pub IsApart : LexemeKind → ℕ → Type 0
IsApart (kinds.Integer integer) next = (next ≢ 46) × (is_name_byte next ≡ false)
IsApart (kinds.Variable name) next = ⊥
IsApart kind next = Unit {0}

-- All lexemes of a text satisfy `IsApart`. After the end of the text, a blank is assumed.
abbrev pub AreApart : List ℕ → List Lexeme → Type 0
AreApart text lexemes =
    AllByRecursion
    (λ (l : Lexeme). IsApart l.kind (slice_index_or text (l.span.first + l.span.len) 32))
    lexemes

-- If a text is on one line, then the text with its doubles as decimals is on one line. The byte 10
-- is the line feed.
abbrev pub DecimalsStayOnOneLine : Type 0
DecimalsStayOnOneLine =
    (text : List ℕ) → AllByRecursion (λ b. b ≢ 10) text
    → AllByRecursion (λ b. b ≢ 10) (decimal_text text)

-- Suppose no lexeme of a text contains a decimal. Then the text is its own plain text, and is the
-- plain text of the text with doubles as decimals. Each text of a value satisfies the condition.
abbrev pub DecimalTextsAreReadBack : Type 0
DecimalTextsAreReadBack =
    (text : List ℕ) (lexemes : List Lexeme) → Lexes text lexemes → AreApart text lexemes
    → (plain_text (decimal_text text) ≡ text) × (plain_text text ≡ text)
