-- The grammar of a path. The root's path is a single dot, and any other path has a dot and a number
-- for each step.
use Rattle.std.specs.Prelude.{ℕ, List, [], ◌∷◌}
use Rattle.types_lex.specs.declared.lexeme.LexemeKind.{LexemeKind}
use Rattle.types_lex.specs.declared.lexeme.LexemeKind.TheVariants as kinds
use Rattle.types_lex.specs.declared.lexeme.Symbol.TheVariants as symbols
use Rattle.types_parse.specs.grammar.Grammar.{Kinds}
use Rattle.types_parse.specs.grammar.LexemeKinds.{number}

abbrev pub dot : LexemeKind
dot = kinds.Symbol symbols.Dot

abbrev pub steps_kinds : List ℕ → Kinds
steps_kinds [] = []
steps_kinds (n ∷ ns) = dot ∷ number n ∷ steps_kinds ns

abbrev pub path_kinds : List ℕ → Kinds
path_kinds [] = dot ∷ []
path_kinds (n ∷ ns) = steps_kinds (n ∷ ns)
