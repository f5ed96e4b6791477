-- The command never ends with status 5 or 11.
use Rattle.std.proofs.Common.{ℕ, List, inl, inr}
use Rattle.marshal_spec.specs.format.Tree.{Tree}
use Rattle.cli_spec.specs.declared.status.Status.{Status}
use Rattle.cli_spec.specs.declared.status.Status.TheVariants.{Script, Compat}
use Rattle.cli_spec.specs.Outcome.{Language}
use Rattle.run_spec.specs.runs.Call.{Call}
use Rattle.run_spec.specs.runs.Environment.{IsWriteOrMemoryError}
use Rattle.run_spec.specs.exit_causes.Causes.{IsCaused, OnlyCaused}
use Rattle.cmd_verify.specs.spec.Verification.{Shown, Verification, ReadsSections, verifying}
use Rattle.cmd_verify.specs.spec.ExitStatuses.{ExitWith, EndWith, certificate_tables, IsNeverEdited}

module _ {D T E S : Type 0} (language : Language D T E) (Reads : ReadsSections S)
    (ShownBy : T → S → Tree → Shown → Type 0) (arguments : List (List ℕ)) (call : Call) where
  abbrev Caused : Status → Type 0
  Caused status =
      IsCaused (verifying language Reads ShownBy) (certificate_tables language Reads ShownBy) arguments
      call status

  -- No input ends the run with status 5 or 11.
  script_exit : (a : Verification T S) (input : List ℕ) → ExitWith ShownBy a input Script → ⊥
  script_exit a input (inl (is, h)) = cc is
  script_exit a input (inr (is, h)) = cc is

  script_end : (a : Verification T S) (input : List ℕ) → EndWith ShownBy a input Script → ⊥
  script_end a input (inl h) = h.finishes
  script_end a input (inr (is, h)) = cc is

  compat_exit : (a : Verification T S) (input : List ℕ) → ExitWith ShownBy a input Compat → ⊥
  compat_exit a input (inl (is, h)) = cc is
  compat_exit a input (inr (is, h)) = cc is

  compat_end : (a : Verification T S) (input : List ℕ) → EndWith ShownBy a input Compat → ⊥
  compat_end a input (inl h) = h.finishes
  compat_end a input (inr (is, h)) = cc is

  not_five : Caused Script → ⊥
  not_five (inl (none, is)) = cc is
  not_five (inr (inl b)) = b.bar
  not_five (inr (inr (found, files, a, prepared, input, is, begins, (are_bytes, inl h)))) =
      script_exit a input h
  not_five (inr (inr (found, files, a, prepared, input, is, begins, (are_bytes, inr h)))) =
      script_end a input h

  not_eleven : Caused Compat → ⊥
  not_eleven (inl (none, is)) = cc is
  not_eleven (inr (inl b)) = b.bar
  not_eleven (inr (inr (found, files, a, prepared, input, is, begins, (are_bytes, inl h)))) =
      compat_exit a input h
  not_eleven (inr (inr (found, files, a, prepared, input, is, begins, (are_bytes, inr h)))) =
      compat_end a input h

  pub never_edited :
      OnlyCaused (verifying language Reads ShownBy) (certificate_tables language Reads ShownBy)
      arguments call → IsNeverEdited call
  never_edited only = (
    λ e. not_five (only Script (λ e. cc e) (λ e. cc e) five e),
    λ e. not_eleven (only Compat (λ e. cc e) (λ e. cc e) eleven e),
  ) where
    five : IsWriteOrMemoryError Script → ⊥
    five (inl e) = cc e
    five (inr e) = cc e

    eleven : IsWriteOrMemoryError Compat → ⊥
    eleven (inl e) = cc e
    eleven (inr e) = cc e
