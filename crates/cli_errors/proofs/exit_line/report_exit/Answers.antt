use Rattle.std.proofs.Common.{refl, inr}
use Rattle.cli_spec.specs.declared.exit.Exit.TheVariants.{Memory as out_of_memory}
use Rattle.cli_errors.proofs.exit_line.report_exit.Goals as goal

pub returns-in-Err : goal.returns-in-Err
returns-in-Err g c = record { output = out_of_memory; which = inr refl; line = c.report-in-Err.ensures }
