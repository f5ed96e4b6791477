use Rattle.std.proofs.Common.{rules, ◌≡◌, List, sym, subst}
use Rattle.marshal_spec.specs.format.Token.{block}
use Rattle.marshal_read.specs.declared.graph_builder.PendingBlock.{PendingBlock}
use Rattle.marshal_read.specs.Build.{building, stack, in_room, absorb_in, WellOpen}
use Rattle.marshal_read.proofs.AbsorbLemmas.{well_added, well_absorbed}
use Rattle.marshal_read.proofs.ReaderRoomLemmas.{within_fields, within_filled}
use Rattle.marshal_read.proofs.graph_builder.Builder.block_in_room.Goals as goal

pub settle-requires : goal.settle-requires
settle-requires c = (well_added _ _ _ _ _ c.in-Some.ensures.1 c.self.invariant.well).are_open

pub fill_next-requires-clause-well : goal.fill_next-requires-clause-well
fill_next-requires-clause-well c =
    subst (λ (bs : List PendingBlock). WellOpen (building c.add_block_in_room.new.self bs c.self.inside.root)) (sym c.settle.ensures.same)
    (well_added _ _ _ _ _ c.in-Some.ensures.1 c.self.invariant.well)

pub invariant_of-self-2 : goal.invariant_of-self-2
invariant_of-self-2 c =
    let e : in_room (building c.fill_next.new.heap (stack c.open_in_room.new.inner c.open_in_room.new.outer.items) c.fill_next.new.root) c.self.inside.room ≡ absorb_in c.args.self.now (block c.args.tag c.args.size) = search rules in
    let added = well_added _ _ _ _ _ c.in-Some.ensures.1 c.self.invariant.well in
    let within = within_fields _ _ c.args.tag c.args.size _ _ _ _ c.self.view_is c.in-Some.ensures.1 c.requires.fits in
    record {
      within = within_filled _ _ _ _ _ _ _ added.are_open c.settle.ensures.same c.fill_next.ensures.fills within;
      well = well_absorbed _ c.args.self.now _ (block c.args.tag c.args.size) c.self.view_is c.self.invariant.well (c.requires.range, c.requires.some) e;
    }
