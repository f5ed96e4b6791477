-- The command ends with status 0 or 2, or with a status that the environment causes.
use Rattle.std.proofs.Common.{ℕ, List, Option, inl, inr}
use Rattle.std.specs.Prelude.{◌≢◌}
use Rattle.cli_spec.specs.declared.status.Status.{Status}
use Rattle.cli_spec.specs.declared.status.Status.TheVariants.{AllOk, No, Usage, Types, Value, Script, WriteFault, OpenFault, Memory, Compat, Certificate}
use Rattle.cli_spec.specs.Outcome.{Request}
use Rattle.run_spec.specs.runs.Call.{Call}
use Rattle.run_spec.specs.runs.Environment.{IsWriteOrMemoryError}
use Rattle.run_spec.specs.exit_causes.Causes.{IsCaused, OnlyCaused}
use Rattle.cmd_scan.specs.spec.ExitStatuses.{searching_tables, IsNeverStopped}
use Rattle.cmd_scan.specs.spec.Searching.{searching}

module _ (limit_by : Request → Option ℕ) (arguments : List (List ℕ)) (call : Call) where
  uncaused :
      (status : Status) → status ≢ Usage → status ≢ AllOk
      → IsCaused (searching limit_by) searching_tables arguments call status → ⊥
  uncaused status usage ok (inl (none, is)) = usage is
  uncaused status usage ok (inr (inl b)) = b.bar
  uncaused status usage ok
      (inr (inr (found, files, limit, prepared, input, is, begins, (are_bytes, inl h)))) = h
  uncaused status usage ok
      (inr (inr (found, files, limit, prepared, input, is, begins, (are_bytes, inr h)))) = ok h

  output_of : (status : Status) → status ≢ WriteFault → status ≢ Memory → IsWriteOrMemoryError status → ⊥
  output_of status write memory (inl e) = memory e
  output_of status write memory (inr e) = write e

  pub never_stopped :
      OnlyCaused (searching limit_by) searching_tables arguments call → IsNeverStopped call
  never_stopped only = record {
    no = λ e. uncaused No (λ e. cc e) (λ e. cc e)
        (only No (λ e. cc e) (λ e. cc e) (output_of No (λ e. cc e) (λ e. cc e)) e);
    types = λ e. uncaused Types (λ e. cc e) (λ e. cc e)
        (only Types (λ e. cc e) (λ e. cc e) (output_of Types (λ e. cc e) (λ e. cc e)) e);
    value = λ e. uncaused Value (λ e. cc e) (λ e. cc e)
        (only Value (λ e. cc e) (λ e. cc e) (output_of Value (λ e. cc e) (λ e. cc e)) e);
    script = λ e. uncaused Script (λ e. cc e) (λ e. cc e)
        (only Script (λ e. cc e) (λ e. cc e) (output_of Script (λ e. cc e) (λ e. cc e)) e);
    open_fault = λ e. uncaused OpenFault (λ e. cc e) (λ e. cc e)
        (only OpenFault (λ e. cc e) (λ e. cc e) (output_of OpenFault (λ e. cc e) (λ e. cc e)) e);
    compat = λ e. uncaused Compat (λ e. cc e) (λ e. cc e)
        (only Compat (λ e. cc e) (λ e. cc e) (output_of Compat (λ e. cc e) (λ e. cc e)) e);
    certificate = λ e. uncaused Certificate (λ e. cc e) (λ e. cc e)
        (only Certificate (λ e. cc e) (λ e. cc e)
        (output_of Certificate (λ e. cc e) (λ e. cc e)) e);
  }
