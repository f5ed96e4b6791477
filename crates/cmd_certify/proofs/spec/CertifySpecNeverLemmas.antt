-- The command never ends with status 5, 11 or 12.
use Rattle.std.proofs.Common.{ℕ, List, inl, inr}
use Rattle.cli_spec.specs.declared.status.Status.{Status}
use Rattle.cli_spec.specs.declared.status.Status.TheVariants.{Script, Compat, Certificate}
use Rattle.cli_spec.specs.Outcome.{Language}
use Rattle.run_spec.specs.runs.Call.{Call}
use Rattle.run_spec.specs.runs.Environment.{IsWriteOrMemoryError}
use Rattle.run_spec.specs.exit_causes.Causes.{IsCaused, OnlyCaused}
use Rattle.cmd_certify.specs.spec.Certification.{OutputsSections, certifying}
use Rattle.cmd_certify.specs.spec.ExitStatuses.{certifying_tables, IsNeverRejected}

module _ {D T E : Type 0} (language : Language D T E) (SectionOf : OutputsSections T) (arguments : List (List ℕ)) (call : Call) where
  abbrev Caused : Status → Type 0
  Caused status =
      IsCaused (certifying language SectionOf) (certifying_tables language SectionOf) arguments call
      status

  not_five : Caused Script → ⊥
  not_five (inl (none, is)) = cc is
  not_five (inr (inl b)) = b.bar
  not_five (inr (inr (found, files, a, prepared, input, is, begins, (are_bytes, inl h)))) = cc h.0
  not_five (inr (inr (found, files, a, prepared, input, is, begins, (are_bytes, inr (inl h))))) =
      h.finishes
  not_five (inr (inr (found, files, a, prepared, input, is, begins, (are_bytes, inr (inr h))))) = cc h.0

  not_eleven : Caused Compat → ⊥
  not_eleven (inl (none, is)) = cc is
  not_eleven (inr (inl b)) = b.bar
  not_eleven (inr (inr (found, files, a, prepared, input, is, begins, (are_bytes, inl h)))) = cc h.0
  not_eleven (inr (inr (found, files, a, prepared, input, is, begins, (are_bytes, inr (inl h))))) =
      h.finishes
  not_eleven (inr (inr (found, files, a, prepared, input, is, begins, (are_bytes, inr (inr h))))) = cc h.0

  not_twelve : Caused Certificate → ⊥
  not_twelve (inl (none, is)) = cc is
  not_twelve (inr (inl b)) = b.bar
  not_twelve (inr (inr (found, files, a, prepared, input, is, begins, (are_bytes, inl h)))) = cc h.0
  not_twelve (inr (inr (found, files, a, prepared, input, is, begins, (are_bytes, inr (inl h))))) =
      h.finishes
  not_twelve (inr (inr (found, files, a, prepared, input, is, begins, (are_bytes, inr (inr h))))) = cc h.0

  pub never_rejected :
      OnlyCaused (certifying language SectionOf) (certifying_tables language SectionOf) arguments call
      → IsNeverRejected call
  never_rejected only = (
    λ e. not_five (only Script (λ e. cc e) (λ e. cc e) five e),
    λ e. not_eleven (only Compat (λ e. cc e) (λ e. cc e) eleven e),
    λ e. not_twelve (only Certificate (λ e. cc e) (λ e. cc e) twelve e),
  ) where
    five : IsWriteOrMemoryError Script → ⊥
    five (inl e) = cc e
    five (inr e) = cc e

    eleven : IsWriteOrMemoryError Compat → ⊥
    eleven (inl e) = cc e
    eleven (inr e) = cc e

    twelve : IsWriteOrMemoryError Certificate → ⊥
    twelve (inl e) = cc e
    twelve (inr e) = cc e
