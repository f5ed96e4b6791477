use Rattle.std.proofs.Common.{◌≡◌, map, take}
use Rattle.text_decimal.specs.scripts.Scripts.{given_lexeme}
use Rattle.text_decimal.proofs.scripts.given_offsets.given_literal.Given as goal

abbrev pub invariant-loop-k : goal.invariant-loop-k
invariant-loop-k l = l.given ≡ map (given_lexeme l.decimals) (take l.k l.literal)
