use Rattle.std.proofs.Common.{arith}
use Rattle.marshal_read.proofs.AbsorbLemmas.{well_added}
use Rattle.marshal_read.proofs.ReaderRoomLemmas.{within_added}
use Rattle.marshal_read.proofs.graph_builder.Builder.doubles.Goals as goal

pub invariant_of-self-2 : goal.invariant_of-self-2
invariant_of-self-2 c = record {
  within = within_added _ _ _ _ _ _ _ c.self.view_is c.in_ok-object.ensures.1 (omega (arith, c.args.all.ok.0));
  well = well_added _ _ _ _ _ c.in_ok-object.ensures.1 c.self.invariant.well;
}
