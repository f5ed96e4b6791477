use Rattle.std.proofs.Common.{◌≡◌, ◌++◌}
use Rattle.std.specs.Vec.Iter.{into_iter_items, into_iter_len}
use Rattle.omarshal.proofs.arguments_after.Given as goal

abbrev pub invariant-arguments : goal.invariant-arguments
invariant-arguments l = l.arguments.items ++ into_iter_items l.args ≡ into_iter_items l.initial.args

abbrev pub decreases-arguments : goal.decreases-arguments
decreases-arguments l = into_iter_len l.args
