use Rattle.std.proofs.Common.{◌≡◌, take}
use Rattle.types_build.proofs.representation.remembered_heads.copied.Given as goal

abbrev pub invariant-loop-tag : goal.invariant-loop-tag
invariant-loop-tag l = l.found.items ≡ take l.tag-index l.tags
