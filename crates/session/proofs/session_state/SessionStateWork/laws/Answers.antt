use Rattle.session.proofs.SessionReadLemmas.{values_stay}
use Rattle.session.proofs.ProgressLemmas.{holds_taken}
use Rattle.session.proofs.session_state.SessionStateWork.laws.Goals as goal

pub returns-clause-holds : goal.returns-clause-holds
returns-clause-holds c = λ bytes output h. holds_taken c.args.self.now.value_task c.args.self.now.values c.args.self.now.stream_check bytes output h

pub returns-clause-stay : goal.returns-clause-stay
returns-clause-stay c = values_stay c.args.self.now.value_task
