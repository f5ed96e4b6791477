use Rattle.std.proofs.Common.{◌≡◌, map, take}
use Rattle.types_build.specs.representation.Representation.{hashed}
use Rattle.types_build.proofs.representation.representation.hashed.Given as goal

abbrev pub invariant-loop-tag : goal.invariant-loop-tag
invariant-loop-tag l = l.found.items ≡ map hashed (take l.tag-index l.tags)
