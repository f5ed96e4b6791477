use Rattle.std.proofs.Common.{◌≡◌, ◌++◌, length}
use Rattle.text_path.specs.Uses.{uses_in}
use Rattle.text_path.proofs.graft_uses.uses.Given as goal

abbrev pub invariant-loop-line : goal.invariant-loop-line
invariant-loop-line l = l.uses.items ++ uses_in l.rest ≡ uses_in l.initial.rest

abbrev pub decreases-loop-line : goal.decreases-loop-line
decreases-loop-line l = length l.rest
