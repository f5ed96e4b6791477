use Rattle.std.proofs.Common.{◌+◌}
use Rattle.std.specs.Prelude.{vec_len}
use Rattle.types_resolve.specs.scope.CycleSearch.{IsSearch, unseen_count}
use Rattle.types_resolve.proofs.scope.cycle_search.is_on_cycle.Given as goal

abbrev pub invariant-loop-next : goal.invariant-loop-next
invariant-loop-next l = IsSearch l.graph l.node l.seen.items l.stack.items

abbrev pub decreases-loop-next : goal.decreases-loop-next
decreases-loop-next l = unseen_count l.seen.items + vec_len l.stack
