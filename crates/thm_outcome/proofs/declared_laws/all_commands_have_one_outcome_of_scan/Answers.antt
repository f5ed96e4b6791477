use Rattle.cli_spec.specs.CommandLine.{searched_by}
use Rattle.session.specs.All.{all_commands}
use Rattle.thm_outcome.specs.TotalScan.{IsSearch}
use Rattle.thm_outcome.proofs.AllOutcomeLemmas.{all_scan_outcomes}
use Rattle.thm_outcome.proofs.SomeOutcomeLemmas.{one_outcome}
use Rattle.thm_outcome.proofs.declared_laws.all_commands_have_one_outcome_of_scan.Goals as goal

pub returns : goal.returns
returns c =
    one_outcome all_commands (IsSearch searched_by) c.all_commands_have_one_outcome.ensures
    (all_scan_outcomes (IsSearch searched_by) c.scan_has_one_outcome.ensures.some)
