use Rattle.std.proofs.Common.{take}
use Rattle.types_spec.specs.types.Shape.{blocks_in}
use Rattle.types_table.specs.store.Held.{Grows}
use Rattle.types_build.specs.representation.Representation.{instance_at, HasBlocks}
use Rattle.types_build.proofs.representation.datatype.blocks.Given as goal

abbrev pub invariant-loop-constructor : goal.invariant-loop-constructor
invariant-loop-constructor l =
    Grows l.initial.types l.types
    × HasBlocks l.types
    (blocks_in (instance_at l.initial.types l.decl l.arguments) (take l.constructor-index l.constructors)) l.found.items
