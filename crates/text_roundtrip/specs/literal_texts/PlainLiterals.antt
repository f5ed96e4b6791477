-- A text that is a plain literal.
use Rattle.std.specs.Prelude.{ℕ, ◌≡◌, List}
use Rattle.types_spec.specs.declared.types.names.Names.{Names}
use Rattle.types_spec.specs.declared.types.shape.ShapeOf.{ShapeOf}
use Rattle.text_literal.specs.literal_grammar.Literal.{Plain, plain_kinds}
use Rattle.text_literal.specs.parser.Starts.{Start, start_at}
use Rattle.text_roundtrip.specs.lexed.Lexed.{Ends, IsLexed, BeginsWithoutStar}

-- The text is a plain literal with the start `start` at the type `t`.
pub record IsPlain {T : Type 0} (t : T) (s : ShapeOf T) (names : Names) (text : List ℕ)
    (start : Start T) : Type 0 where
  pub plain : Plain
  pub lexed : IsLexed Ends text (plain_kinds plain)
  pub begins : BeginsWithoutStar text
  pub starts : start_at t s names plain ≡ start
