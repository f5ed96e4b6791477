use Rattle.std.proofs.Common.{◌≡◌, length}
use Rattle.text_literal.specs.parser.SubtreeEnds.{AreEndsFrom}
use Rattle.text_literal.proofs.parser.siblings.subtree_ends.Given as goal

-- The entries of `ends` from i on are correct.
abbrev pub invariant-loop-i : goal.invariant-loop-i
invariant-loop-i l = (length l.ends.items ≡ length l.nodes) × AreEndsFrom l.i l.nodes l.ends.items
