use Rattle.run_loop.proofs.examples.LinesLemmas.{lines_hold}
use Rattle.run_loop.proofs.examples.lines_command.LinesWork.laws.Goals as goal

pub returns-clause-holds : goal.returns-clause-holds
returns-clause-holds c = λ bytes output h. lines_hold c.args.self.now.rest.items bytes output h
