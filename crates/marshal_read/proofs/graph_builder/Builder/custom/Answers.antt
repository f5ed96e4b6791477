use Rattle.std.proofs.Common.{◌+◌, ◌≤◌, subst}
use Rattle.marshal_heap.specs.heap.Heap.{heap_words}
use Rattle.marshal_read.proofs.AbsorbLemmas.{well_added}
use Rattle.marshal_read.proofs.ReaderRoomLemmas.{within_added, custom_words64}
use Rattle.marshal_read.proofs.graph_builder.Builder.custom.Goals as goal

pub invariant_of-self-2 : goal.invariant_of-self-2
invariant_of-self-2 c = record {
  within = within_added _ _ _ _ _ _ _ c.self.view_is c.in_ok-object.ensures.1 (subst (λ n. heap_words c.args.self.now.built.objects + n ≤ c.args.self.now.room) (custom_words64 c.args.value) c.requires);
  well = well_added _ _ _ _ _ c.in_ok-object.ensures.1 c.self.invariant.well;
}
