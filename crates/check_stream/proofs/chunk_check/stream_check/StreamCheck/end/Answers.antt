use Rattle.check_stream.proofs.chunk_check.StreamCheckLemmas.{fresh_stream_check}
use Rattle.check_stream.proofs.chunk_check.stream_check.StreamCheck.end.Goals as goal

pub returns-clause-stream_check : goal.returns-clause-stream_check
returns-clause-stream_check c = fresh_stream_check _ c.clear.ensures.items c.restart.ensures.inspecting
