use Rattle.std.proofs.Common.{◌<◌, ◌≡◌, ◌∙◌, length, refl, ap, subst, sym, arith}
use Rattle.std.specs.Prelude.{slice_index}
use Rattle.types_table.specs.partition.Lists.{HasRooms}
use Rattle.types_table.proofs.partition.PartitionTurnLemmas.{within_new}
use Rattle.types_table.proofs.partition.PartitionEndLemmas.{inspected_in, positions_in, positions_long, moved_as, has_as, marks_as, All-as, ready_rooms, part_under, part_keeps}
use Rattle.types_table.proofs.partition.refinement.part.Goals as goal

pub move_all-requires-clause-inspected : goal.move_all-requires-clause-inspected
move_all-requires-clause-inspected c = All-as _ _ _ _ refl (sym c.as_slice-inspected.ensures.value)
    (inspected_in c.args.forms.now c.args.refinement.now.class.items c.args.parted c.in_ok-inspect.inspect c.in_ok-inspect.ensures)

pub move_all-requires-clause-positions : goal.move_all-requires-clause-positions
move_all-requires-clause-positions c = All-as _ _ _ _ (sym (ap length c.as_slice.ensures.value ∙ c.in_ok-numbers.ensures.many))
    (sym c.as_slice-positions.ensures.value)
    (positions_in c.args.forms.now c.args.refinement.now.class.items c.args.parted c.in_ok-inspect.inspect c.in_ok-inspect.ensures)

pub move_all-requires-clause-many : goal.move_all-requires-clause-many
move_all-requires-clause-many c = ap length c.as_slice-positions.ensures.value
    ∙ positions_long c.args.forms.now c.args.refinement.now.class.items c.args.parted c.in_ok-inspect.inspect c.in_ok-inspect.ensures
    ∙ ap length (sym c.as_slice-inspected.ensures.value)

pub add_members-requires : goal.add_members-requires
add_members-requires c i =
    let moved = moved_as _ _ _ _ _ _ _ _ c.as_slice-inspected.ensures.value c.as_slice-positions.ensures.value
    c.as_slice.ensures.value c.move_all.ensures.moved in
    let below : slice_index c.move_all.new.class.items i < length c.name_positions.new.signatures.items =
    within_new c.args.forms.now _ _ c.args.parted c.in_ok-inspect.inspect c.in_ok-numbers.numbers.items _ _
    c.in_ok-inspect.ensures c.in_ok-numbers.ensures moved c.requires.open.within i in
    omega (arith, ap (λ l. slice_index l i) c.as_slice-class.ensures.value, c.in_ok-make_rooms.ensures.many)

pub mark_users-requires-clause-within : goal.mark_users-requires-clause-within
mark_users-requires-clause-within c i =
    let moved = moved_as _ _ _ _ _ _ _ _ c.as_slice-inspected.ensures.value c.as_slice-positions.ensures.value
    c.as_slice.ensures.value c.move_all.ensures.moved in
    let below : slice_index c.move_all.new.class.items i < length c.name_positions.new.signatures.items =
    within_new c.args.forms.now _ _ c.args.parted c.in_ok-inspect.inspect c.in_ok-numbers.numbers.items _ _
    c.in_ok-inspect.ensures c.in_ok-numbers.ensures moved c.requires.open.within i in
    omega (arith, ap (λ l. slice_index l i) c.as_slice-class.ensures.value, c.in_ok-make_rooms-2.ensures.many)

pub mark_users-requires-clause-ready : goal.mark_users-requires-clause-ready
mark_users-requires-clause-ready c = ready_rooms c.args.refinement.now.waiting.items _ _ _ c.requires.open.ready
    c.in_ok-make_rooms-2.ensures (omega (arith, c.requires.open.waits, c.in_ok-numbers.ensures.more))

pub returns-clause-under_way : goal.returns-clause-under_way
returns-clause-under_way c =
    let moved = moved_as _ _ _ _ _ _ _ _ c.as_slice-inspected.ensures.value c.as_slice-positions.ensures.value
    c.as_slice.ensures.value c.move_all.ensures.moved in
    let many : c.len-many.result ≡ length c.name_positions.new.signatures.items = omega arith in
    part_under c.args.forms.now c.args.users.now c.args.refinement.now.class.items c.move_all.new.class.items _ _
    c.args.refinement.now.members.items c.make_rooms.new.lists.items _ c.args.refinement.now.waiting.items
    c.make_rooms-2.new.lists.items _ _ _ c.args.waited.now c.args.parted c.in_ok-inspect.inspect c.in_ok-numbers.numbers.items
    c.requires.open c.in_ok-inspect.ensures c.in_ok-numbers.ensures moved c.move_all.ensures.long
    (subst (λ n. HasRooms c.args.refinement.now.members.items n c.make_rooms.new.lists.items) many c.in_ok-make_rooms.ensures)
    c.in_ok-add_members.ensures.keeps
    (has_as _ _ _ _ _ _ c.as_slice-class.ensures.value c.as_slice-inspected.ensures.value c.in_ok-add_members.ensures.has)
    (subst (λ n. HasRooms c.args.refinement.now.waiting.items n c.make_rooms-2.new.lists.items) many
    c.in_ok-make_rooms-2.ensures)
    c.in_ok-mark_users.ensures.keeps c.in_ok-mark_users.ensures.ready c.requires.users
    (marks_as _ _ _ _ _ _ _ c.as_slice-class.ensures.value c.as_slice-inspected.ensures.value c.in_ok-mark_users.ensures.marked)

pub returns-clause-keeps : goal.returns-clause-keeps
returns-clause-keeps c =
    let moved = moved_as _ _ _ _ _ _ _ _ c.as_slice-inspected.ensures.value c.as_slice-positions.ensures.value
    c.as_slice.ensures.value c.move_all.ensures.moved in
    part_keeps c.args.forms.now c.args.users.now c.args.refinement.now.class.items c.move_all.new.class.items _ _
    c.args.refinement.now.members.items c.make_rooms.new.lists.items c.make_rooms.new.lists.items c.args.refinement.now.waiting.items
    c.make_rooms-2.new.lists.items c.make_rooms-2.new.lists.items c.args.refinement.now.todo.items c.args.refinement.now.todo.items
    c.args.waited.now c.args.parted c.in_ok-inspect.inspect c.in_ok-numbers.numbers.items
    c.requires.open c.in_ok-inspect.ensures c.in_ok-numbers.ensures moved
