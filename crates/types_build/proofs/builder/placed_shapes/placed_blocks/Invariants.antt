use Rattle.std.proofs.Common.{take}
use Rattle.types_build.specs.builder.PlacedTypes.{AreBlocksPlaced}
use Rattle.types_build.proofs.builder.placed_shapes.placed_blocks.Given as goal

abbrev pub invariant-loop-block : goal.invariant-loop-block
invariant-loop-block l =
    AreBlocksPlaced l.initial.met.keys l.met.keys (take l.block-index l.blocks) l.found.items
