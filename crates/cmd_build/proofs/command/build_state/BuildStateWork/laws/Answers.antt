use Rattle.cmd_build.proofs.command.TextsLemmas.{texts_hold}
use Rattle.cmd_build.proofs.command.build_state.BuildStateWork.laws.Goals as goal

pub returns-clause-holds : goal.returns-clause-holds
returns-clause-holds c = λ bytes output h.
    texts_hold c.args.self.now.requested.now c.args.self.now.held.items c.args.self.now.lines
    c.args.self.now.texts bytes output h
