use Rattle.std.proofs.Common.{◌≡◌, map, take}
use Rattle.types_spec.specs.types.TypeNodes.{type_at}
use Rattle.types_build.proofs.representation.trees.trees.Given as goal

abbrev pub invariant-loop-number : goal.invariant-loop-number
invariant-loop-number l = l.found.items ≡ map (type_at l.types) (take l.number-index l.numbers)
