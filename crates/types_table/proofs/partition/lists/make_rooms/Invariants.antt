use Rattle.types_table.specs.partition.Lists.{HasRooms}
use Rattle.types_table.proofs.partition.lists.make_rooms.Given as goal

abbrev pub invariant-loop-room : goal.invariant-loop-room
invariant-loop-room l = HasRooms l.initial.lists.items l._room l.lists.items
