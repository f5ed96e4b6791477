use Rattle.run_spec.proofs.runs.InTurnLemmas.{only_open_fault, if_missing, if_file_too_long, if_files}
use Rattle.run_spec.proofs.runs.RunSettledLemmas.{some_outcome}
use Rattle.run_spec.proofs.runs.laws.files_in_turns.Goals as goal

pub returns-clause-open_fault : goal.returns-clause-open_fault
returns-clause-open_fault g c arguments call reports p =
    only_open_fault g.A.Act.commands arguments call c.requires.lawful c.requires.turns (some_outcome g.A.Act.commands arguments call p.account)

pub returns-clause-missing : goal.returns-clause-missing
returns-clause-missing g c arguments call reports p =
    if_missing g.A.Act.commands arguments call c.requires.lawful c.requires.turns (some_outcome g.A.Act.commands arguments call p.account)

pub returns-clause-too_long : goal.returns-clause-too_long
returns-clause-too_long g c arguments call reports p =
    if_file_too_long g.A.Act.commands arguments call c.requires.lawful c.requires.turns (some_outcome g.A.Act.commands arguments call p.account)

pub returns-clause-exit : goal.returns-clause-exit
returns-clause-exit g c arguments call reports p =
    if_files g.A.Act.commands arguments call c.requires.lawful c.requires.turns (some_outcome g.A.Act.commands arguments call p.account)
