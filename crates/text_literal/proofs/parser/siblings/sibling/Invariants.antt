use Rattle.std.proofs.Common.{◌≡◌}
use Rattle.text_literal.specs.parser.SubtreeEnds as specs
use Rattle.text_literal.proofs.parser.siblings.sibling.Given as goal

-- From the current node, the remaining steps lead to the node that is `many` siblings after `from`.
abbrev pub invariant-loop-left : goal.invariant-loop-left
invariant-loop-left l = specs.sibling l.ends l.position l.left ≡ specs.sibling l.ends l.from l.many

abbrev pub decreases-loop-left : goal.decreases-loop-left
decreases-loop-left l = l.left
