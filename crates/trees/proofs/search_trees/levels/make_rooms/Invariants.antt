use Rattle.trees.specs.search_trees.TreeLevels.{HasRooms}
use Rattle.trees.proofs.search_trees.levels.make_rooms.Given as goal

abbrev pub invariant-loop-room : goal.invariant-loop-room
invariant-loop-room l = HasRooms l.initial.levels.items l._room l.levels.items
