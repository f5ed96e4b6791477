use Rattle.std.proofs.Common.{◌≡◌, ◌-◌, ◌^◌, min, take}
use Rattle.types_lex.specs.Lexeme.{number_in}
use Rattle.types_lex.proofs.numbers.number_in.Given as goal

abbrev pub invariant-loop-digit : goal.invariant-loop-digit
invariant-loop-digit l = l.number ≡ min (number_in l.base (take l.digit-index l.digits)) (2 ^ 64 - 1)
