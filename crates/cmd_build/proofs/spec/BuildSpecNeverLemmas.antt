-- The command on texts never returns status 4 or 11.
use Rattle.std.proofs.Common.{◌≡◌, ◌⊎◌, ℕ, List, inl, inr}
use Rattle.cli_spec.specs.declared.status.Status.{Status}
use Rattle.cli_spec.specs.declared.status.Status.TheVariants.{AllOk, Value, Compat}
use Rattle.cli_spec.specs.Outcome.{Language}
use Rattle.run_spec.specs.runs.Call.{Call}
use Rattle.run_spec.specs.runs.Environment.{IsWriteOrMemoryError}
use Rattle.run_spec.specs.exit_causes.Causes.{IsCaused, OnlyCaused}
use Rattle.cmd_build.specs.spec.InputTexts.{Built, building}
use Rattle.cmd_build.specs.spec.ExitStatuses.{IsFine, texts_tables, IsNeverRefused}

module _ {D T E : Type 0} (language : Language D T E) (TextOf : T → List ℕ → Built → Type 0)
    (arguments : List (List ℕ)) (call : Call) where
  abbrev Caused : Status → Type 0
  Caused status = IsCaused (building language TextOf) (texts_tables language TextOf) arguments call status

  not_four : Caused Value → ⊥
  not_four (inl (none, is)) = cc is
  not_four (inr (inl b)) = b.bar
  not_four (inr (inr (found, files, type, prepared, input, is, begins, (are_bytes, inl h)))) = h.breaks
  not_four (inr (inr (found, files, type, prepared, input, is, begins, (are_bytes, inr h)))) = by h.ends where
    by : (IsFine TextOf type h.last × (Value ≡ AllOk)) ⊎ ⊥ → ⊥
    by (inl (fine, e)) = cc e
    by (inr never) = never

  not_eleven : Caused Compat → ⊥
  not_eleven (inl (none, is)) = cc is
  not_eleven (inr (inl b)) = b.bar
  not_eleven (inr (inr (found, files, type, prepared, input, is, begins, (are_bytes, inl h)))) = h.breaks
  not_eleven (inr (inr (found, files, type, prepared, input, is, begins, (are_bytes, inr h)))) = by h.ends where
    by : (IsFine TextOf type h.last × (Compat ≡ AllOk)) ⊎ ⊥ → ⊥
    by (inl (fine, e)) = cc e
    by (inr never) = never

  pub never_refused :
      OnlyCaused (building language TextOf) (texts_tables language TextOf) arguments call
      → IsNeverRefused call
  never_refused only = (
    λ e. not_four (only Value (λ e. cc e) (λ e. cc e) four e),
    λ e. not_eleven (only Compat (λ e. cc e) (λ e. cc e) eleven e),
  ) where
    four : IsWriteOrMemoryError Value → ⊥
    four (inl e) = cc e
    four (inr e) = cc e

    eleven : IsWriteOrMemoryError Compat → ⊥
    eleven (inl e) = cc e
    eleven (inr e) = cc e
