use Rattle.std.proofs.Common.{◌≡◌, ◌++◌}
use Rattle.std.specs.Prelude.{reverse, vec_len}
use Rattle.types_resolve.proofs.occurrences.items.reversed.Given as goal

-- The moved items, followed by the remaining items in reverse order, are all items in reverse
-- order.
abbrev pub invariant-loop-item : goal.invariant-loop-item
invariant-loop-item l = l.all ++ reverse l.items.items ≡ reverse l.initial.items.items

abbrev pub decreases-loop-item : goal.decreases-loop-item
decreases-loop-item l = vec_len l.items
