use Rattle.std.proofs.Common.{map, take}
use Rattle.types_spec.specs.types.TypeNodes.{type_at}
use Rattle.types_spec.specs.types.Predeclared.{constr_of}
use Rattle.types_spec.specs.types.PredeclaredCode.{block_row}
use Rattle.types_table.specs.store.Held.{Grows}
use Rattle.types_build.specs.representation.Representation.{HasBlocks}
use Rattle.types_build.proofs.representation.sum.blocks.Given as goal

abbrev pub invariant-loop-row : goal.invariant-loop-row
invariant-loop-row l =
    Grows l.initial.types l.types
    × HasBlocks l.types
    (map (constr_of l.name (map (type_at l.initial.types) l.parts)) (map block_row (take l.row-index l.rows))) l.found.items
