use Rattle.run_spec.proofs.exit_statuses.ExitStatusEndLemmas.{have_ends}
use Rattle.run_spec.proofs.exit_statuses.StageLemmas.{bad_path_found, have_bars}
use Rattle.run_spec.proofs.exit_statuses.StatusExitLemmas.{have_exits}
use Rattle.run_spec.proofs.exit_statuses.laws.values_have_exit_statuses.Goals as goal

pub returns : goal.returns
returns g c =
    let language = g.L.Prints.language in record {
      read = λ a. tt;
      exits = have_exits language;
      ends = have_ends language;
      bars = have_bars language;
      bad_arguments = λ request bad files. bad_path_found language request files bad;
    }
