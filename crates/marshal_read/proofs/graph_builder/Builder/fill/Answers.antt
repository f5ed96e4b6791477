use Rattle.marshal_read.proofs.AbsorbLemmas.{well_filled}
use Rattle.marshal_read.proofs.ReaderRoomLemmas.{within_filled}
use Rattle.marshal_read.proofs.graph_builder.Builder.fill.Goals as goal

pub invariant_of-self : goal.invariant_of-self
invariant_of-self c = record {
  within = within_filled _ _ _ _ _ _ _ c.self.invariant.well.are_open c.settle.ensures.same c.fill_next.ensures.fills c.self.invariant.within;
  well = well_filled _ _ _ _ _ _ c.self.invariant.well c.settle.ensures.same c.fill_next.ensures.fills;
}
