use Rattle.std.proofs.Common.{◌≡◌, ◌+◌}
use Rattle.std.specs.Prelude.{vec_len}
use Rattle.types_resolve.specs.scope.CycleSearch.{unseen_count}
use Rattle.types_resolve.proofs.scope.ScopeSearchLemmas.{IsExpanding}
use Rattle.types_resolve.proofs.scope.cycle_search.expand.Given as goal

abbrev pub invariant-loop-i : goal.invariant-loop-i
invariant-loop-i l =
    IsExpanding l.graph l.node l.initial.seen l.initial.stack.items l.seen l.stack.items l.nodes l.i
    × (unseen_count l.seen + vec_len l.stack ≡ unseen_count l.initial.seen + vec_len l.initial.stack)
