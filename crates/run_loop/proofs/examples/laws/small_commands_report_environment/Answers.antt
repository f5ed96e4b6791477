use Rattle.run_loop.proofs.examples.ExampleLawfulLemmas.{reporting_lawful, lines_lawful, bytes_lawful}
use Rattle.run_loop.proofs.examples.laws.small_commands_report_environment.Goals as goal

pub returns-clause-reporting : goal.returns-clause-reporting
returns-clause-reporting c = (reporting_lawful, c.environment_is_known.ensures)

pub returns-clause-lines : goal.returns-clause-lines
returns-clause-lines c = (lines_lawful, c.environment_is_known-2.ensures)

pub returns-clause-bytes : goal.returns-clause-bytes
returns-clause-bytes c = (bytes_lawful, c.environment_is_known-3.ensures)
