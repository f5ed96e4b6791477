-- Lists of literals as the grammar groups them, where the last literal is separate.
use Rattle.std.specs.Prelude.{ℕ, List, [], ◌∷◌}
use Rattle.types_parse.specs.grammar.Grammar.{Name}
use Rattle.text_literal.specs.literal_grammar.Literal.{Literal, Parts, more_parts, FieldRows}
use Rattle.text_literal.specs.literal_grammar.Literal.{more_rows}
use Rattle.text_literal.specs.literal_grammar.Literal.{literal_kinds}
use Rattle.text_roundtrip.specs.lexed.Lexed.{Ends, IsLexed, BeginsWithoutStar}

-- Appends literals to a group whose last literal is `v`.
abbrev pub listing : Parts → Literal → List Literal → Parts × Literal
listing ps v [] = (ps, v)
listing ps v (w ∷ ws) = listing (more_parts ps v) w ws

-- Appends literals with field names to a group whose last field is `x` with the literal `v`.
abbrev pub rowing : FieldRows → Name → Literal → List Name → List Literal → FieldRows × Name
    × Literal
rowing rs x v [] ws = (rs, x, v)
rowing rs x v (y ∷ ys) [] = (rs, x, v)
rowing rs x v (y ∷ ys) (w ∷ ws) = rowing (more_rows rs x v) y w ys ws

-- The text is the text of the literal `v`.
pub record IsText (text : List ℕ) (v : Literal) : Type 0 where
  pub lexed : IsLexed Ends text (literal_kinds v)
  pub begins : BeginsWithoutStar text

abbrev pub AreTexts : List (List ℕ) → List Literal → Type 0
AreTexts [] [] = Unit {0}
AreTexts [] (v ∷ vs) = ⊥
AreTexts (text ∷ texts) [] = ⊥
AreTexts (text ∷ texts) (v ∷ vs) = IsText text v × AreTexts texts vs
