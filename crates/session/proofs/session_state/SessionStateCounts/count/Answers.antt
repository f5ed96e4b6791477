use Rattle.session.proofs.SessionReadLemmas.{output_count}
use Rattle.session.proofs.session_state.SessionStateCounts.count.Goals as goal

pub returns : goal.returns
returns c = λ taken output h.
    output_count c.args.self.now.value_task h.before output c.args.self.now.values h.read
