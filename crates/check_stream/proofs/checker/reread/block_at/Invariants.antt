use Rattle.std.proofs.Common.{◌≤◌, List}
use Rattle.marshal_spec.specs.format.Token.{Token}
use Rattle.check_stream.specs.checker.Again.{AreMarks, IsPosition}
use Rattle.check_stream.proofs.checker.reread.block_at.Given as goal

-- The offset that was reached is a position after `made` objects, which are not more than `object`.
abbrev pub invariant-skip : goal.invariant-skip
invariant-skip l = (l.made ≤ l.object) × ((tokens : List Token) → AreMarks l.prefix l.marks tokens → IsPosition l.prefix tokens l.at l.made)

abbrev pub decreases-skip : goal.decreases-skip
decreases-skip l = l.left
