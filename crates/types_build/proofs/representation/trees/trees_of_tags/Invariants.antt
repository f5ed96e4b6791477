use Rattle.std.proofs.Common.{◌≡◌, map, take}
use Rattle.types_spec.specs.types.TypeNodes.{type_at}
use Rattle.types_spec.specs.types.Table.{tag_with_parts}
use Rattle.types_build.proofs.representation.trees.trees_of_tags.Given as goal

abbrev pub invariant-loop-tag : goal.invariant-loop-tag
invariant-loop-tag l = l.found.items ≡ map (tag_with_parts (type_at l.types)) (take l.tag-index l.tags)
