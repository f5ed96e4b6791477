-- The errors of a plain text, mapped to the line with decimals from which the plain text comes.
use Rattle.std.specs.Prelude.{List}
use Rattle.types_lex.specs.declared.lexeme.LexFault.{LexFault}
use Rattle.types_lex.specs.declared.lexeme.LexFault.TheVariants as lexer
use Rattle.text_literal.specs.declared.parser.literal_fault.LiteralFault.{LiteralFault}
use Rattle.text_literal.specs.declared.parser.literal_fault.LiteralFault.TheVariants as literals
use Rattle.text_roundtrip.specs.declared.text_lines.text_reader.TextFault.{TextFault}
use Rattle.text_roundtrip.specs.declared.text_lines.text_reader.TextFault.TheVariants as faults
use Rattle.text_decimal.specs.declared.texts.decimals.Decimal.{Decimal}
use Rattle.text_decimal.specs.texts.PlainTexts.{given_position}

module _ (decimals : List Decimal) where
  abbrev pub given_lexer : LexFault → LexFault
  given_lexer (lexer.BadByte position) = lexer.BadByte (given_position decimals position)
  given_lexer (lexer.OpenString position) = lexer.OpenString (given_position decimals position)
  given_lexer (lexer.OpenComment position) = lexer.OpenComment (given_position decimals position)
  given_lexer (lexer.TooBig position) = lexer.TooBig (given_position decimals position)
  given_lexer lexer.Memory = lexer.Memory

  abbrev pub given_literal : LiteralFault → LiteralFault
  given_literal (literals.Syntax position) = literals.Syntax (given_position decimals position)
  given_literal (literals.Mismatch position t) =
      literals.Mismatch (given_position decimals position) t
  given_literal (literals.IntRange position) = literals.IntRange (given_position decimals position)
  given_literal (literals.Label position) = literals.Label (given_position decimals position)
  given_literal literals.Memory = literals.Memory

  abbrev pub given_fault : TextFault → TextFault
  given_fault (faults.Lex fault) = faults.Lex (given_lexer fault)
  given_fault (faults.Literal fault) = faults.Literal (given_literal fault)
  given_fault faults.Memory = faults.Memory
