use Rattle.run_spec.proofs.runs.StreamLemmas.{one_stream_lem}
use Rattle.run_spec.proofs.runs.laws.one_stream.Goals as goal

pub returns : goal.returns
returns c = one_stream_lem
