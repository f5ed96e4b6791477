-- Errors in a list of lexemes, for any type of trees: where a syntax error is, and where a type is
-- too deep.
use Rattle.std.specs.Prelude.{
  ℕ,
  suc,
  ◌-◌,
  ◌<◌,
  ◌≤◌,
  ◌≡◌,
  ◌≢◌,
  ◌⊎◌,
  List,
  [],
  ◌∷◌,
  ◌++◌,
  length,
  take,
  slice_index,
}
use Rattle.types_lex.specs.declared.lexeme.LexemeKind.{LexemeKind}
use Rattle.types_lex.specs.declared.lexeme.LexemeKind.TheVariants as kinds
use Rattle.types_lex.specs.declared.lexeme.Symbol.TheVariants as symbols
use Rattle.types_parse.specs.grammar.Grammar.{Kinds}

-- ---- brackets

-- The number of open brackets after a lexeme, where `n` is the number before the lexeme.
abbrev pub opened : LexemeKind → ℕ → ℕ
opened (kinds.Symbol symbols.OpenParen) n = suc n
opened (kinds.Symbol symbols.OpenBracket) n = suc n
opened (kinds.Symbol symbols.OpenBrace) n = suc n
opened (kinds.Symbol symbols.CloseParen) n = n - 1
opened (kinds.Symbol symbols.CloseBracket) n = n - 1
opened (kinds.Symbol symbols.CloseBrace) n = n - 1
opened kind n = n

abbrev pub open_after : ℕ → Kinds → ℕ
open_after n [] = n
open_after n (kind ∷ rest) = open_after (opened kind n) rest

-- ---- syntax errors

module _ {Text : Type 0} (encoded : Text → Kinds) where
  -- Some text begins with these lexemes.
  abbrev pub IsViable : Kinds → Type 0
  IsViable prefix = (text : Text) × (rest : Kinds) × (encoded text ≡ prefix ++ rest)

  -- Lexeme `k`, or the end of the lexemes, is the first position at which no text continues.
  pub record IsSyntax (lexemes : Kinds) (k : ℕ) : Type 0 where
    pub within : k ≤ length lexemes
    pub viable : IsViable (take k lexemes)
    pub no_more : k < length lexemes → IsViable (take (suc k) lexemes) → ⊥
    pub no_text : k ≡ length lexemes → (text : Text) → encoded text ≢ lexemes

-- ---- too deep

module _ {Text : Type 0} (encoded : Text → Kinds) (ends : Text → List ℕ) where
  -- Some text begins with the lexemes up to and including lexeme `k`. In the text, a type of depth
  -- above 200 ends at `k`, or more than 200 brackets are open after `k`. In the given lexemes, the
  -- type that ends at `k` may continue after `k`.
  pub record IsDeep (lexemes : Kinds) (k : ℕ) : Type 0 where
    pub text : Text
    pub rest : Kinds
    pub within : k < length lexemes
    pub begins : encoded text ≡ take (suc k) lexemes ++ rest
    pub deep : (200 < slice_index (ends text) k) ⊎ (200 < open_after 0 (take (suc k) lexemes))

  -- Position `k` is the first position at which the lexemes are too deep. Some text begins with the
  -- lexemes up to and including `k`.
  pub record IsTooDeep (lexemes : Kinds) (k : ℕ) : Type 0 where
    pub deep : IsDeep lexemes k
    pub first : (j : ℕ) → j < k → IsDeep lexemes j → ⊥

  -- The lexemes have a syntax error at `k`, and no position before `k` is too deep.
  pub record IsRefusedAsSyntax (lexemes : Kinds) (k : ℕ) : Type 0 where
    pub syntax : IsSyntax encoded lexemes k
    pub shallow : (j : ℕ) → j < k → IsDeep lexemes j → ⊥

  -- The lexemes are those of `text`, and no position is too deep.
  pub record IsText (lexemes : Kinds) (text : Text) : Type 0 where
    pub encodes : encoded text ≡ lexemes
    pub shallow : (j : ℕ) → IsDeep lexemes j → ⊥

-- ---- the result

-- The text, or the index of the lexeme with the error. If the error is at the end, the index is the
-- number of lexemes.
pub data TextReading (Text : Type 0) : Type 0 where
  text_read : Text → TextReading Text
  syntax_at : ℕ → TextReading Text
  too_deep_at : ℕ → TextReading Text

module _ {Text : Type 0} (encoded : Text → Kinds) (ends : Text → List ℕ) where
  abbrev pub IsReading : Kinds → TextReading Text → Type 0
  IsReading lexemes (text_read text) = IsText encoded ends lexemes text
  IsReading lexemes (syntax_at k) = IsRefusedAsSyntax encoded ends lexemes k
  IsReading lexemes (too_deep_at k) = IsTooDeep encoded ends lexemes k
