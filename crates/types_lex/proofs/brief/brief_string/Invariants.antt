use Rattle.std.proofs.Common.{ℕ, ◌-◌, List, length}
use Rattle.types_lex.proofs.CharLaws.{ReadsChars}
use Rattle.types_lex.proofs.brief.brief_string.Given as goal

abbrev pub invariant-loop-len : goal.invariant-loop-len
invariant-loop-len l = (value : List ℕ) × ReadsChars l.text l.at value

abbrev pub decreases-loop-len : goal.decreases-loop-len
decreases-loop-len l = length l.text - l.at
