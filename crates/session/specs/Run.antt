-- What is promised of a call of `run`.
use Rattle.std.specs.Prelude.{ℕ, List, IsSome}
use Rattle.cmd_build.specs.command.InputLines.{declared_texts}
use Rattle.cmd_build.specs.spec.ExitStatuses.{texts_tables}
use Rattle.cmd_certify.specs.command.CertifiedOutput.{declared_certificates}
use Rattle.cmd_certify.specs.spec.ExitStatuses.{certifying_tables}
use Rattle.cmd_gen.specs.spec.ExitStatuses.{GenCauses as CausesOfMade}
use Rattle.cmd_scan.specs.spec.ExitStatuses.{searching_tables}
use Rattle.cmd_verify.specs.command.VerifiedSections.{reads_sections, declared_sections}
use Rattle.cmd_verify.specs.spec.ExitStatuses.{certificate_tables}
use Rattle.opt_skip_only.specs.only_spec.OnlyTables.{only_command_tables}
use Rattle.opt_skip_only.specs.skip_spec.SkipTables.{skipping_tables}
use Rattle.run_spec.specs.exit_causes.Causes.{Causes}
use Rattle.run_spec.specs.exit_statuses.Tables.{values_tables}
use Rattle.run_spec.specs.runs.Call.{Call}
use Rattle.run_spec.specs.runs.RunCauses.{EnvironmentCauses}
use Rattle.run_spec.specs.runs.RunSpec.{RunSpec, Headline}
use Rattle.run_types.specs.Language.{declared_types}
use Rattle.session.specs.All.{on_values, on_values_after, on_texts, on_certificates_after}
use Rattle.session.specs.All.{on_certified_after, on_positions, all_commands, IsOfValues, IsOfTexts}
use Rattle.session.specs.All.{IsOfMade, IsOfCertificates, IsOfSections, IsOfPositions, AskOnly}
use Rattle.session.specs.Copied.{LeavesCanonical}

pub record IsRun (arguments : List (List ℕ)) (call : Call) : Type 0 where
  -- The specification of a run.
  pub run_spec : RunSpec all_commands arguments call
  -- Unless memory runs out, a fault-free run over known contents has the outcome of the contents.
  pub headline : Headline all_commands arguments call
  -- What the statuses of the environment mean.
  pub environment : EnvironmentCauses all_commands arguments call
  -- The causes of the other statuses, for each kind of command.
  pub causes : AskOnly IsOfValues arguments
      → Causes on_values_after
      (skipping_tables (only_command_tables on_values (values_tables declared_types)))
      arguments call
  pub causes_of_texts : AskOnly IsOfTexts arguments
      → Causes on_texts (texts_tables declared_types declared_texts) arguments call
  pub causes_of_certificates : AskOnly IsOfCertificates arguments
      → Causes on_certificates_after
      (skipping_tables (certificate_tables declared_types reads_sections declared_sections))
      arguments call
  pub causes_of_sections : AskOnly IsOfSections arguments
      → Causes on_certified_after
      (skipping_tables (certifying_tables declared_types declared_certificates)) arguments call
  pub causes_of_positions : AskOnly IsOfPositions arguments
      → Causes on_positions searching_tables arguments call
  pub causes_of_made : AskOnly IsOfMade arguments → CausesOfMade declared_types arguments call
  -- The bytes of the outputs are known before each run.
  pub out_known : IsSome call.out.before.bytes
  pub err_known : IsSome call.err.before.bytes
  -- If SCRIPT is empty and the input is canonical, then `edit` writes the input.
  pub canonical : LeavesCanonical arguments call
