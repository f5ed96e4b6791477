use Rattle.std.proofs.Common.{sym, subst, []}
use Rattle.base_io.specs.StreamState.{change}
use Rattle.base_io.specs.Sink.{Writes, WritesPart}
use Rattle.marshal_write.specs.write.WriteBuffer.{AddsAll}
use Rattle.marshal_write.proofs.write.WriterTextLemmas.{flushed, flush_failed, adds_if_failed}
use Rattle.marshal_write.proofs.write.write_buffer.flush.Goals as goal

pub returns-clause-adds : goal.returns-clause-adds
returns-clause-adds g c =
    let old = g.K.Sink.state c.args.out.now in
    let new = g.K.Sink.state c.write_all.new.sink in
    let writes = subst (Writes (change old new)) c.as_slice.ensures.value c.in_ok-write_all.ensures.writes in
    subst (λ y. AddsAll old new c.args.buffer.now.items y []) (sym c.clear.ensures.items) (flushed old new c.args.buffer.now.items writes)

pub returns-in_err-write_all-clause-adds : goal.returns-in_err-write_all-clause-adds
returns-in_err-write_all-clause-adds g c =
    let old = g.K.Sink.state c.args.out.now in
    let new = g.K.Sink.state c.write_all.new.sink in
    let part = subst (WritesPart (change old new)) c.as_slice.ensures.value c.in_err-write_all.ensures.writes in
    adds_if_failed old new _ _ _ c.from_residual.result c.from_residual.ensures.0 (flush_failed old new c.args.buffer.now.items part)
