use Rattle.std.proofs.Common.{◌≤◌, drop, length}
use Rattle.types_lex.specs.LexText.{SpansWithin}
use Rattle.text_decimal.proofs.texts.DecimalTextReplacedLemmas.{IsSoFar}
use Rattle.text_decimal.proofs.texts.texts.write_replaced.Given as goal

abbrev pub invariant-loop-lexeme : goal.invariant-loop-lexeme
invariant-loop-lexeme l =
    (l.at ≤ length l.text) × SpansWithin l.at (drop l.lexeme-index l.lexemes) (length l.text)
    × IsSoFar l.text l.lexemes l.at l.may (drop l.lexeme-index l.lexemes) l.fn.new.items l.new.items
