use Rattle.trees.proofs.search_trees.SearchTreeWriteLemmas.{room_more}
use Rattle.trees.proofs.search_trees.levels.make_rooms.Goals as goal

pub loop-room-preserved : goal.loop-room-preserved
loop-room-preserved c = room_more _ _ _ _ _ c.loop-room.invariant c.new.ensures.items c.in_ok-push.ensures.items
