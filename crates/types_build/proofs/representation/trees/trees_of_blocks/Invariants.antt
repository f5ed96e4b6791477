use Rattle.std.proofs.Common.{◌≡◌, map, take}
use Rattle.types_spec.specs.types.TypeNodes.{type_at}
use Rattle.types_spec.specs.types.Table.{constr_with}
use Rattle.types_build.proofs.representation.trees.trees_of_blocks.Given as goal

abbrev pub invariant-loop-block : goal.invariant-loop-block
invariant-loop-block l = l.found.items ≡ map (constr_with (type_at l.types)) (take l.block-index l.blocks)
