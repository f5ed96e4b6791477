use Rattle.std.proofs.Common.{◌≡◌, ◌<◌, length, drop}
use Rattle.base_data.specs.model.Graph.{IsValue}
use Rattle.types_spec.specs.types.Table.{table_shapes}
use Rattle.types_table.specs.type_table.Made.{table_of}
use Rattle.edit_values.specs.EditPositions.{position_at, position_from, StandsAt}
use Rattle.edit_values.proofs.spots.find_position.Given as goal

-- The remaining path leads from the current location to the location at the end of the whole path.
abbrev pub invariant-loop-i : goal.invariant-loop-i
invariant-loop-i l = record {
  leads : position_at (table_shapes (table_of l.table)) l.heap l.fn.root 0 l.path
      ≡ position_from (table_shapes (table_of l.table)) l.heap l.i l.position (drop l.i l.path);
  value : IsValue (length l.heap) l.position.value;
  number : l.position.ty < length l.table.nodes;
  stands : StandsAt l.heap l.fn.root l.position.spot l.position.value;
}
