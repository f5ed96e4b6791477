use Rattle.std.proofs.Common.{◌≡◌, length, subst, sym, arith}
use Rattle.types_table.specs.partition.Lists.{HasRooms}
use Rattle.types_table.proofs.partition.PartitionListLemmas.{room_more, rooms_now}
use Rattle.types_table.proofs.partition.lists.make_rooms.Goals as goal

pub loop-room-init : goal.loop-room-init
loop-room-init c =
    let lists = c.args.lists.now.items in
    let is : c.len-room.result ≡ length lists = omega arith in
    subst (λ n. HasRooms lists n lists) (sym is) (rooms_now lists)

pub loop-room-preserved : goal.loop-room-preserved
loop-room-preserved c = room_more _ _ _ _ _ c.loop-room.invariant c.new.ensures.items c.in_ok-push.ensures.items

pub returns : goal.returns
returns c =
    let end : c.loop-room._room ≡ c.args.many = omega arith in
    subst (λ n. HasRooms c.args.lists.now.items n c.loop-room.lists.items) end c.loop-room.invariant
