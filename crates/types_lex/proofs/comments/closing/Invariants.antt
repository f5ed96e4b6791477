use Rattle.std.proofs.Common.{◌≡◌, ◌-◌, ◌≤◌, length, drop}
use Rattle.types_lex.specs.Lexer.{plus, closing}
use Rattle.types_lex.proofs.comments.closing.Given as goal

-- The remaining bytes determine the end of the comment.
abbrev pub invariant-loop-at : goal.invariant-loop-at
invariant-loop-at l = record {
  shallow : l.depth ≤ l.at;
  inside : l.at ≤ length l.text;
  rest : plus l.at (closing l.depth (drop l.at l.text)) ≡ closing 0 l.text;
}

abbrev pub decreases-loop-at : goal.decreases-loop-at
decreases-loop-at l = length l.text - l.at
