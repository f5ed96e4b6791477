use Rattle.session.proofs.ProgressLemmas.{none_or_some}
use Rattle.session.proofs.session_state.keeps_none.Goals as goal

pub returns : goal.returns
returns c = none_or_some c.args.stream_check.now.kept.items c.kept.result.now c.is_empty.result c.kept.ensures c.is_empty.ensures
