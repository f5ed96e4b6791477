use Rattle.std.proofs.Common.{◌≡◌, length}
use Rattle.base_io.specs.StreamState.{change}
use Rattle.run_loop.proofs.work.WorkChunkLemmas.{FedSoFar}
use Rattle.run_loop.proofs.work.chunk.feed_chunk.Given as goal

abbrev pub invariant-loop-rest : goal.invariant-loop-rest
invariant-loop-rest g l = record {
  kept : g.W.Work.act l.work ≡ g.W.Work.act l.initial.work;
  fed : FedSoFar (g.W.Work.has l.initial.work) (g.W.Work.has l.work) l.chunk l.rest
      (change (g.K.Sink.state l.initial.out) (g.K.Sink.state l.out));
}

abbrev pub decreases-loop-rest : goal.decreases-loop-rest
decreases-loop-rest g l = length l.rest
