use Rattle.std.proofs.Common.{◌≡◌, ◌<◌, length}
use Rattle.types_spec.specs.types.Ty.{name_of}
use Rattle.types_spec.specs.types.TypeNodes.{type_at}
use Rattle.types_build.proofs.representation.spine.name.Given as goal

abbrev pub invariant-loop-whole : goal.invariant-loop-whole
invariant-loop-whole l =
    (l.at < length l.t.types.now) × (name_of (type_at l.t.types.now l.at) ≡ name_of (type_at l.t.types.now l.t.number))

abbrev pub decreases-loop-whole : goal.decreases-loop-whole
decreases-loop-whole l = l.at
