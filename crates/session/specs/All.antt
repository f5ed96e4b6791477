-- All commands as one command set: the commands on values, and the other commands, each as a set of
-- one command. A new command set is added in this file.
use Rattle.std.specs.Prelude.{ℕ, ◌⊎◌, List, Option}
use Rattle.cert_format.specs.declared.section.Section.{Section}
use Rattle.cli_spec.specs.CommandLine.{certify, scan, searched_by}
use Rattle.cli_spec.specs.Outcome.{Request, own, build, generate, verify, Asks, Task}
use Rattle.text_path.specs.declared.edits.ScriptLine.{ScriptLine}
use Rattle.run_spec.specs.runs.Account.{Account}
use Rattle.run_spec.specs.runs.Call.{Call}
use Rattle.run_spec.specs.runs.Commands.{Commands}
use Rattle.run_spec.specs.runs.RunSpec.{RunSpec}
use Rattle.run_spec.specs.value_commands.Tasks.{commands}
use Rattle.run_spec.specs.command_sum.CommandSum.{command_sum}
use Rattle.cmd_build.specs.spec.InputTexts.{building}
use Rattle.cmd_gen.specs.spec.GenSpec.{Making, gen_spec}
use Rattle.cmd_verify.specs.spec.Verification.{Verification}
use Rattle.cmd_certify.specs.spec.Certification.{Certification}
use Rattle.cmd_scan.specs.spec.Searching.{searching}
use Rattle.cmd_build.specs.command.InputLines.{declared_texts}
use Rattle.run_types.specs.Language.{TypeOver, declared_types}
use Rattle.opt_skip_only.specs.skip_spec.SkipRequests.{passed_by}
use Rattle.opt_skip_only.specs.skip_spec.Skipping.{SkippedBytes, skipping}
use Rattle.opt_skip_only.specs.only_spec.OnlyRequests.{picked_by}
use Rattle.opt_skip_only.specs.only_spec.OnlyCommand.{only_command}
pub use Rattle.cmd_verify.specs.command.VerifyProgress.{on_certificates, on_certificates_after}
pub use Rattle.cmd_certify.specs.command.CertifiedOutput.{on_certified, on_certified_after}

-- The command sets: the commands on values without options, with `--only`, and with `--only` and
-- `--skip`, and the commands `build`, `scan` and `gen`.
abbrev pub on_values : Commands (Task TypeOver ScriptLine)
on_values = commands declared_types

abbrev pub on_values_picked : Commands (Option ℕ × Task TypeOver ScriptLine)
on_values_picked = only_command picked_by on_values

abbrev pub on_values_after : Commands (SkippedBytes × (Option ℕ × Task TypeOver ScriptLine))
on_values_after = skipping passed_by on_values_picked

abbrev pub on_texts : Commands TypeOver
on_texts = building declared_types declared_texts

abbrev pub on_positions : Commands ℕ
on_positions = searching searched_by

abbrev pub on_made : Commands (Making TypeOver)
on_made = gen_spec declared_types

-- The sum of the commands on values and on texts.
abbrev pub ActOnValuesOrTexts : Type 0
ActOnValuesOrTexts = (SkippedBytes × (Option ℕ × Task TypeOver ScriptLine)) ⊎ TypeOver

abbrev pub on_values_or_texts : Commands ActOnValuesOrTexts
on_values_or_texts = command_sum on_values_after on_texts

-- The sum of all commands on the values or lines of the input, except `check --cert`.
abbrev pub ActOnOthers : Type 0
ActOnOthers = ActOnValuesOrTexts ⊎ (SkippedBytes × Verification TypeOver Section)

abbrev pub on_others : Commands ActOnOthers
on_others = command_sum on_values_or_texts on_certificates_after

-- The sum of all commands on the values or lines of the input.
abbrev pub ActOnItems : Type 0
ActOnItems = ActOnOthers ⊎ (SkippedBytes × Certification TypeOver)

abbrev pub on_items : Commands ActOnItems
on_items = command_sum on_others on_certified_after

-- The sum of all commands on the input.
abbrev pub ActOnInput : Type 0
ActOnInput = ActOnItems ⊎ ℕ

abbrev pub on_input : Commands ActOnInput
on_input = command_sum on_items on_positions

-- The sum of all commands.
abbrev pub Act : Type 0
Act = ActOnInput ⊎ Making TypeOver

abbrev pub all_commands : Commands Act
all_commands = command_sum on_input on_made

-- The set to which a request belongs: values, texts (`build`), certificates (`verify`), certificate
-- entries (`check --cert`), positions of values (`scan`), or generated values (`gen`).
abbrev pub IsOfValues : Request → Type 0
IsOfValues (own request) = ⊥
IsOfValues request = Unit {0}

abbrev pub IsOfTexts : Request → Type 0
IsOfTexts (own (build file type lines decimal)) = Unit {0}
IsOfTexts request = ⊥

abbrev pub IsOfCertificates : Request → Type 0
IsOfCertificates (own (verify file type certificate lines reading)) = Unit {0}
IsOfCertificates request = ⊥

abbrev pub IsOfSections : Request → Type 0
IsOfSections (own (certify file type lines reading)) = Unit {0}
IsOfSections request = ⊥

abbrev pub IsOfPositions : Request → Type 0
IsOfPositions (own (scan limit)) = Unit {0}
IsOfPositions request = ⊥

abbrev pub IsOfMade : Request → Type 0
IsOfMade (own (generate number count type)) = Unit {0}
IsOfMade request = ⊥

-- Every request of the arguments belongs to the set `IsOf`. If the arguments request nothing, the
-- statement holds.
abbrev pub AskOnly : (Request → Type 0) → List (List ℕ) → Type 0
AskOnly IsOf arguments = (request : Request) → Asks arguments request → IsOf request

-- Suppose the arguments request only commands of `c`. Then an `Account` by `c` is an `Account` by
-- `whole`, and the specification of a run by `whole` implies the specification by `c`.
pub record IsPartOf {A B : Type 0} (whole : Commands B) (c : Commands A) (IsOf : Request → Type 0)
    : Type 0 where
  pub account : (arguments : List (List ℕ)) (call : Call) → AskOnly IsOf arguments
      → Account c arguments call → Account whole arguments call
  pub run_spec : (arguments : List (List ℕ)) (call : Call) → AskOnly IsOf arguments
      → RunSpec whole arguments call → RunSpec c arguments call

abbrev pub IsPart : {A : Type 0} → Commands A → (Request → Type 0) → Type 0
IsPart c IsOf = IsPartOf all_commands c IsOf
