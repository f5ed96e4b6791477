use Rattle.std.proofs.Common.{◌≡◌, map, take}
use Rattle.types_build.specs.representation.Representation.{named}
use Rattle.types_build.proofs.representation.representation_names.tag_names.Given as goal

abbrev pub invariant-loop-tag : goal.invariant-loop-tag
invariant-loop-tag l = l.names.items ≡ map named (take l.tag-index l.tags)
