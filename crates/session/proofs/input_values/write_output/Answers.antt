use Rattle.base_io.specs.StreamState.{change}
use Rattle.run_spec.proofs.runs.RunWriteLemmas.{writes_nothing}
use Rattle.session.proofs.SessionOutputLemmas.{output_memory, output_fault}
use Rattle.session.proofs.input_values.write_output.Goals as goal

pub returns-in_err-ok : goal.returns-in_err-ok
returns-in_err-ok g c = output_memory c.args.printing c.args.value.now.heap.now c.args.value.now.root _ c.from_residual.result c.from_residual.ensures.1 (writes_nothing (g.K.Sink.state c.args.out.now))

pub returns-in_err-write_all : goal.returns-in_err-write_all
returns-in_err-write_all g c =
    output_fault c.args.printing c.args.value.now.heap.now c.args.value.now.root (change (g.K.Sink.state c.args.out.now) (g.K.Sink.state c.write_all.new.sink)) c.from_residual-in_err-write_all.result c.from_residual-in_err-write_all.ensures.1
    c.as_slice.result.now c.in_ok-ok.ok (rw (← c.as_slice.ensures.value) at c.in_ok-ok.ensures) c.in_err-write_all.ensures.writes

pub returns : goal.returns
returns g c = (c.as_slice.result.now, rw (← c.as_slice.ensures.value) at c.in_ok-ok.ensures, c.in_ok-write_all.ensures.writes)
