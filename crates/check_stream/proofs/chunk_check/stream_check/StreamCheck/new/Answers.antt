use Rattle.check_stream.proofs.chunk_check.StreamCheckLemmas.{fresh_stream_check}
use Rattle.check_stream.proofs.chunk_check.stream_check.StreamCheck.new.Goals as goal

pub returns-clause-stream_check : goal.returns-clause-stream_check
returns-clause-stream_check c = fresh_stream_check _ c.new.ensures.items c.new-2.ensures
