use Rattle.std.proofs.Common.{◌≡◌, ◌-◌, ◌^◌, length}
use Rattle.base_io.specs.StreamState.{change}
use Rattle.run_spec.specs.runs.Given.{chunk_limit}
use Rattle.run_loop.proofs.work.WorkRunLemmas.{RunSoFar}
use Rattle.run_loop.proofs.work.input_loop.take_chunks.Given as goal

abbrev pub invariant-loop-taken : goal.invariant-loop-taken
invariant-loop-taken g l = record {
  room : length l.buffer ≡ chunk_limit;
  kept : g.W.Work.act l.work ≡ g.W.Work.act l.initial.work;
  so_far : RunSoFar (g.W.Work.has l.work) l.taken
      (change (g.S.Source.state l.initial.input) (g.S.Source.state l.input)) (change (g.K.Sink.state l.initial.out) (g.K.Sink.state l.out));
}

abbrev pub decreases-loop-taken : goal.decreases-loop-taken
decreases-loop-taken g l = 2 ^ 48 - l.taken
