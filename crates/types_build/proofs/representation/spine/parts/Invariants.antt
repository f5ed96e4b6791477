use Rattle.std.proofs.Common.{◌≡◌, ◌<◌, ◌≤◌, length, map, reverse, ◌++◌, All}
use Rattle.types_spec.specs.types.Ty.{parts}
use Rattle.types_spec.specs.types.TypeNodes.{type_at}
use Rattle.types_build.proofs.representation.spine.parts.Given as goal

abbrev pub invariant-loop-whole : goal.invariant-loop-whole
invariant-loop-whole l =
    (l.at < length l.t.types.now) × All (λ i. i < length l.t.types.now) l.found.items
    × (l.at ≤ l.t.number) × All (λ i. i < l.t.number) l.found.items
    × (parts (type_at l.t.types.now l.at) ++ map (type_at l.t.types.now) (reverse l.found.items) ≡ parts (type_at l.t.types.now l.t.number))

abbrev pub decreases-loop-whole : goal.decreases-loop-whole
decreases-loop-whole l = l.at
