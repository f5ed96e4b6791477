use Rattle.std.proofs.Common.{take}
use Rattle.types_build.specs.builder.PlacedTypes.{AreHeadTagsPlaced}
use Rattle.types_build.proofs.builder.placed_heads.placed_tags.Given as goal

abbrev pub invariant-loop-tag : goal.invariant-loop-tag
invariant-loop-tag l =
    AreHeadTagsPlaced l.initial.met.keys l.met.keys (take l.tag-index l.tags) l.found.items
