use Rattle.run_spec.proofs.runs.FailsLemmas.{if_input_fails}
use Rattle.run_spec.proofs.runs.FailedLemmas.{only_read_fault}
use Rattle.run_spec.proofs.runs.RunFaultLemmas.{only_write_fault, only_too_long}
use Rattle.run_spec.proofs.runs.RunFileLemmas.{as_known}
use Rattle.run_spec.proofs.runs.RunFirstLemmas.{if_memory, if_write_fault}
use Rattle.run_spec.proofs.runs.IfLemmas.{if_exit, if_end, if_alone, if_input_too_long}
use Rattle.run_spec.proofs.runs.MeantLemmas.{only_meant}
use Rattle.run_spec.proofs.runs.OutcomeLemmas.{decided, exact, complete}
use Rattle.run_spec.proofs.runs.RunAnswerLemmas.{headline}
use Rattle.run_spec.proofs.runs.RunSettledLemmas.{some_outcome, if_usage, if_arguments}
use Rattle.run_spec.proofs.runs.laws.run_spec_of_commands.Goals as goal

pub returns-clause-headline : goal.returns-clause-headline
returns-clause-headline g c arguments call reports p =
    headline g.A.Act.commands c.requires arguments call p.answered

pub returns-clause-status : goal.returns-clause-status
returns-clause-status g c arguments call reports p =
    some_outcome g.A.Act.commands arguments call p.account

pub returns-clause-exit : goal.returns-clause-exit
returns-clause-exit g c arguments call reports p =
    if_exit g.A.Act.commands arguments call c.requires (some_outcome g.A.Act.commands arguments call p.account) reports

pub returns-clause-end : goal.returns-clause-end
returns-clause-end g c arguments call reports p =
    if_end g.A.Act.commands arguments call c.requires (some_outcome g.A.Act.commands arguments call p.account) reports

pub returns-clause-alone : goal.returns-clause-alone
returns-clause-alone g c arguments call reports p =
    if_alone g.A.Act.commands arguments call c.requires (some_outcome g.A.Act.commands arguments call p.account)

pub returns-clause-usage : goal.returns-clause-usage
returns-clause-usage g c arguments call reports p =
    if_usage g.A.Act.commands arguments call c.requires (some_outcome g.A.Act.commands arguments call p.account)

pub returns-clause-arguments : goal.returns-clause-arguments
returns-clause-arguments g c arguments call reports p =
    if_arguments g.A.Act.commands arguments call c.requires (some_outcome g.A.Act.commands arguments call p.account)

pub returns-clause-meant : goal.returns-clause-meant
returns-clause-meant g c arguments call reports p =
    only_meant g.A.Act.commands arguments call c.requires (some_outcome g.A.Act.commands arguments call p.account)

pub returns-clause-read_fault : goal.returns-clause-read_fault
returns-clause-read_fault g c arguments call reports p =
    only_read_fault g.A.Act.commands arguments call c.requires (some_outcome g.A.Act.commands arguments call p.account)

pub returns-clause-write_fault : goal.returns-clause-write_fault
returns-clause-write_fault g c arguments call reports p =
    only_write_fault g.A.Act.commands arguments call p.account c.requires

pub returns-clause-too_long : goal.returns-clause-too_long
returns-clause-too_long g c arguments call reports p =
    only_too_long g.A.Act.commands arguments call c.requires (some_outcome g.A.Act.commands arguments call p.account)

pub returns-clause-input_too_long : goal.returns-clause-input_too_long
returns-clause-input_too_long g c arguments call reports p =
    if_input_too_long g.A.Act.commands arguments call c.requires (some_outcome g.A.Act.commands arguments call p.account) reports

pub returns-clause-decided : goal.returns-clause-decided
returns-clause-decided g c arguments call reports p =
    decided g.A.Act.commands arguments call c.requires reports (headline g.A.Act.commands c.requires arguments call p.answered)

pub returns-clause-exact : goal.returns-clause-exact
returns-clause-exact g c arguments call reports p =
    exact g.A.Act.commands arguments call c.requires reports (headline g.A.Act.commands c.requires arguments call p.answered)

pub returns-clause-complete : goal.returns-clause-complete
returns-clause-complete g c arguments call reports p =
    complete g.A.Act.commands arguments call c.requires reports (headline g.A.Act.commands c.requires arguments call p.answered)

pub returns-clause-input_fails : goal.returns-clause-input_fails
returns-clause-input_fails g c arguments call reports p =
    if_input_fails g.A.Act.commands arguments call c.requires p.account

pub returns-clause-memory : goal.returns-clause-memory
returns-clause-memory g c arguments call reports p =
    if_memory g.A.Act.commands arguments call c.requires reports p.account

pub returns-clause-write_fault_by : goal.returns-clause-write_fault_by
returns-clause-write_fault_by g c arguments call reports p =
    if_write_fault g.A.Act.commands arguments call c.requires reports p.account

pub returns-clause-as_known : goal.returns-clause-as_known
returns-clause-as_known g c arguments call reports p found fetches turn name wanted =
    as_known g.A.Act.commands arguments call.files found fetches c.requires turn name wanted
