-- The values read so far, and the output for the values by their certificate entries, while the
-- bytes of the input arrive.
use Rattle.std.specs.Prelude.{ℕ, Bool, false, List, length, Result}
use Rattle.marshal_read.specs.declared.reader.Reader.{Reader}
use Rattle.cert_format.specs.declared.section.Section.{Section}
use Rattle.base_io.specs.StreamState.{ByteState, Change}
use Rattle.cli_spec.specs.Outcome.{Output}
use Rattle.cli_spec.specs.declared.exit.Exit.{Exit}
use Rattle.cli_errors.specs.declared.exit_line.Error.{Error}
use Rattle.run_spec.specs.runs.Commands.{Item, Commands}
use Rattle.cmd_certify.specs.value_items.ValueProgress as work
use Rattle.run_types.specs.Checked.{OrMemory}
use Rattle.run_types.specs.declared.requested.Prepared.{Prepared}
use Rattle.run_types.specs.Language.{TypeOver, declared_types}
use Rattle.run_types.specs.RequestedTexts.{type_over, IsReady}
use Rattle.cmd_verify.specs.spec.Verification.{Verification, ComesUncertified, verifying}
use Rattle.cmd_verify.specs.command.VerifiedSections.{reads_sections, declared_sections}
use Rattle.cli_spec.specs.declared.read_options.ReadOptions.{ReadOptions}
use Rattle.opt_skip_only.specs.skip_spec.SkipRequests.{passed_by}
use Rattle.opt_skip_only.specs.skip_spec.Skipping.{SkippedBytes, skipping}

-- `on_certificates`: the command at declared types. `on_certificates_after`: the command at
-- declared types after skipped bytes.
abbrev pub on_certificates : Commands (Verification TypeOver Section)
on_certificates = verifying declared_types reads_sections declared_sections

abbrev pub on_certificates_after : Commands (SkippedBytes × Verification TypeOver Section)
on_certificates_after = skipping passed_by on_certificates

-- The task of verifying values at the type of `r` by these entries under this limit.
abbrev pub certified : Prepared → List Section → ℕ → Verification TypeOver Section
certified r sections limit =
    record { type = type_over r; sections = sections; limit = limit }

-- The task of verifying values, with the number of skipped bytes.
abbrev pub certified_after :
    Prepared → List Section → ReadOptions → SkippedBytes × Verification TypeOver Section
certified_after r sections reading =
    (record { bytes = reading.skip; copied = false }, certified r sections reading.limit)

module _ (r : Prepared) (sections : List Section) (limit : ℕ) where
  -- Whole values were read and their output was written, and the reader has a prefix of the next
  -- value.
  abbrev pub HasRead : Reader → ℕ → Bool → List ℕ → List Output → Type 0
  HasRead = work.HasRead on_certificates (certified r sections limit) limit (IsReady r)

  -- Whole values were read and their output was written, and the reader has all bytes of the next
  -- value.
  abbrev pub IsValueRead : Reader → ℕ → Bool → List ℕ → List Output → Type 0
  IsValueRead = work.IsValueRead on_certificates (certified r sections limit) limit (IsReady r)

  -- The value after `items` is not certified, or memory ran out.
  abbrev pub ExitsNext : List Item → List ℕ → Exit → Type 0
  ExitsNext items whole =
      OrMemory (λ exit. ComesUncertified declared_sections (certified r sections limit)
      (length items) whole exit)

  -- How the output for the current value is written. Case `Ok`: the output is written. Case `Exit`:
  -- the value is not certified or memory ran out, and nothing is written. The last case is that
  -- writing the output fails.
  abbrev pub WritesNext : {U : Type 0} → Reader → ℕ → Bool → List ℕ → List Output → List Item
      → List ℕ → Change ByteState → Result U Error → Type 0
  WritesNext reader count ok taken output items whole =
      work.WritesNext on_certificates (certified r sections limit) limit (IsReady r) reader count
      ok taken output (ExitsNext items whole)
