-- A table that reads lexemes one by one. Each state of the table stands for the lexemes read so
-- far.
use Rattle.std.specs.Prelude.{ℕ, ◌≡◌, ◌≤◌, Option, Some, List, [], ◌∷◌, option_and_then}
use Rattle.types_lex.specs.declared.lexeme.LexemeKind.{LexemeKind}
use Rattle.types_parse.specs.grammar.Grammar.{Kinds}

module _ {State : Type 0} (step : State → LexemeKind → Option State) where
  abbrev pub run : State → Kinds → Option State
  run s [] = Some s
  run s (kind ∷ rest) = option_and_then (λ next. run next rest) (step s kind)

-- Reading these lexemes leads from the first state to the second. At each lexeme, the state admits
-- the end of a type of the given depth.
pub data Leads {State : Type 0} (step : State → LexemeKind → Option State) (ended : State →
    ℕ) : State → Kinds → List ℕ → State → Type 0 where
  stop : {s : State} → Leads step ended s [] [] s
  go : {s next t : State} {kind : LexemeKind} {rest : Kinds} {depth : ℕ} {depths : List ℕ} →
      step s kind ≡ Some next → depth ≤ ended next → Leads step ended next rest depths t →
      Leads step ended s (kind ∷ rest) (depth ∷ depths) t
