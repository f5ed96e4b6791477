use Rattle.std.proofs.Common.{List, sym, subst}
use Rattle.marshal_read.specs.declared.graph_builder.PendingBlock.{PendingBlock}
use Rattle.marshal_read.specs.Build.{building, WellOpen}
use Rattle.marshal_read.proofs.AbsorbLemmas.{well_added, well_filled}
use Rattle.marshal_read.proofs.ReaderRoomLemmas.{within_added, within_filled}
use Rattle.marshal_read.proofs.graph_builder.Builder.double_in_room.Goals as goal

pub settle-requires : goal.settle-requires
settle-requires c = (well_added _ _ _ _ _ c.in-Some.ensures.1 c.self.invariant.well).are_open

pub fill_next-requires-clause-well : goal.fill_next-requires-clause-well
fill_next-requires-clause-well c =
    subst (λ (bs : List PendingBlock). WellOpen (building c.add_double_in_room.new.self bs c.self.inside.root)) (sym c.settle.ensures.same)
    (well_added _ _ _ _ _ c.in-Some.ensures.1 c.self.invariant.well)

pub invariant_of-self-2 : goal.invariant_of-self-2
invariant_of-self-2 c =
    let well = well_added _ _ _ _ _ c.in-Some.ensures.1 c.self.invariant.well in
    let within = within_added _ _ _ _ _ _ _ c.self.view_is c.in-Some.ensures.1 c.requires in
    record {
      within = within_filled _ _ _ _ _ _ _ well.are_open c.settle.ensures.same c.fill_next.ensures.fills within;
      well = well_filled _ _ _ _ _ _ well c.settle.ensures.same c.fill_next.ensures.fills;
    }
