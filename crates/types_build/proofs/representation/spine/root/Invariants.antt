use Rattle.std.proofs.Common.{◌≡◌, ◌<◌, ◌≤◌, length}
use Rattle.types_spec.specs.types.TypeNodes.{type_at}
use Rattle.types_build.specs.representation.PlainHeads.{root_of}
use Rattle.types_build.proofs.representation.spine.root.Given as goal

abbrev pub invariant-loop-whole : goal.invariant-loop-whole
invariant-loop-whole l =
    (l.at < length l.t.types.now) × (l.at ≤ l.t.number) × (root_of (type_at l.t.types.now l.at) ≡ root_of (type_at l.t.types.now l.t.number))

abbrev pub decreases-loop-whole : goal.decreases-loop-whole
decreases-loop-whole l = l.at
