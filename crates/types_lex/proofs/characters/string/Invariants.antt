use Rattle.std.proofs.Common.{◌-◌, length}
use Rattle.types_lex.proofs.CharLaws.{ReadsChars}
use Rattle.types_lex.proofs.characters.string.Given as goal

abbrev pub invariant-loop-byte : goal.invariant-loop-byte
invariant-loop-byte l = ReadsChars l.text l.at l.value.items

abbrev pub decreases-loop-byte : goal.decreases-loop-byte
decreases-loop-byte l = length l.text - l.at
