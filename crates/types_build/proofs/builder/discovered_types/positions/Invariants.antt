use Rattle.std.proofs.Common.{take}
use Rattle.types_build.specs.builder.PlacedTypes.{AreNumbersPlaced}
use Rattle.types_build.proofs.builder.discovered_types.positions.Given as goal

abbrev pub invariant-loop-number : goal.invariant-loop-number
invariant-loop-number l =
    AreNumbersPlaced l.initial.met.keys l.met.keys (take l.number-index l.numbers) l.found.items
