-- The lexemes of a slice, or the lexemes at the given positions of a text.
use Rattle.std.specs.Prelude.{List, map}
use Rattle.types_lex.specs.declared.lexeme.Lexeme.{Lexeme}
use Rattle.types_lex.specs.declared.lexemes.LexemeStorage.{LexemeStorage}
use Rattle.types_lex.specs.declared.lexemes.LexemeStorage.TheVariants as sources
use Rattle.types_lex.specs.Lexemes.{lexeme_from}

abbrev pub lexemes_in : LexemeStorage → List Lexeme
lexemes_in (sources.Row row) = row.now
lexemes_in (sources.Text text positions) = map (lexeme_from text.now) positions.now
