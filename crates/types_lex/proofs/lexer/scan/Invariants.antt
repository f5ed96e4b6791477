use Rattle.std.proofs.Common.{◌-◌, length}
use Rattle.types_lex.specs.Lexemes.{Reached}
use Rattle.types_lex.proofs.lexer.scan.Given as goal

abbrev pub invariant-loop-at : goal.invariant-loop-at
invariant-loop-at l = Reached l.text l.at l.lexemes.items

abbrev pub decreases-loop-at : goal.decreases-loop-at
decreases-loop-at l = length l.text - l.at
