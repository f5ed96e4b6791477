-- Names of nodes that lie on cycles.
use Rattle.std.specs.Prelude.{ℕ, ◌<◌, ◌≡◌, List, length, Option, None, Some, slice_get}
use Rattle.types_spec.specs.types.Occurrence.{Placed}
use Rattle.types_resolve.specs.scope.StepGraph.{AdjacencyLists, IsOnCycle}

-- Node `i` lies on a cycle, and the name of node `i` is at lexeme `k`.
abbrev pub CyclicAt : AdjacencyLists → List Placed → ℕ → ℕ → Type 0
CyclicAt graph names i k =
    (p : Placed) × (slice_get names i ≡ Some p) × ((p.0 ≡ k) × IsOnCycle graph i)

-- Some node lies on a cycle, and the name of the node is at lexeme `k`.
abbrev pub IsCyclicName : AdjacencyLists → List Placed → ℕ → Type 0
IsCyclicName graph names k = (i : ℕ) × (i < length names) × CyclicAt graph names i k

-- The best position is `None`, or `position` is less than the best position.
abbrev pub ComesBefore : ℕ → Option ℕ → Type 0
ComesBefore position None = Unit {0}
ComesBefore position (Some best) = position < best
