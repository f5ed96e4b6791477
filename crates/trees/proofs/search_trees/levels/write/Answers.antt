use Rattle.std.proofs.Common.{arith}
use Rattle.trees.proofs.search_trees.SearchTreeWriteLemmas.{write_is, rooms_written}
use Rattle.trees.proofs.search_trees.levels.write.Goals as goal

pub returns : goal.returns
returns c =
    let enough = c.in_ok-make_rooms.ensures.enough in
    rooms_written c.args.levels.now.items c.make_rooms.new.levels.items _ _ c.args.at c.args.o c.in_ok-make_rooms.ensures
    (write_is c.make_rooms.new.levels.items c.args.at c.index_mut.result.now _ (omega (arith, enough)) c.index_mut.ensures.value
    c.args.o c.in_ok-push.ensures.items)
