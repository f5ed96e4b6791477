use Rattle.std.proofs.Common.{◌≡◌, length}
use Rattle.session.specs.Earlier.{AreInOrder, AreNamed, all_after}
use Rattle.session.proofs.earlier.drop_used.Given as goal

abbrev pub invariant-loop-line : goal.invariant-loop-line
invariant-loop-line l =
    AreInOrder l.kept
    × (all_after l.number l.kept ≡ all_after l.number l.initial.kept)
    × AreNamed l.number l.rest l.kept

abbrev pub decreases-loop-line : goal.decreases-loop-line
decreases-loop-line l = length l.rest
