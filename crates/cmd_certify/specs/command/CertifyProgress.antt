-- The values read so far, and the output for the values, while the bytes of the input arrive.
use Rattle.std.specs.Prelude.{ℕ, ◌≡◌, Bool, false, List, [], Result, Ok, Err}
use Rattle.base_data.specs.declared.model.value.Obj.{Obj}
use Rattle.base_data.specs.declared.model.value.Val.{Val}
use Rattle.marshal_read.specs.declared.reader.Reader.{Reader}
use Rattle.types_table.specs.type_table.Made.{table_of}
use Rattle.cert_produce.specs.LeastFaults.{AreLeastFaults}
use Rattle.base_io.specs.Sink.{Writes, WritesPart}
use Rattle.base_io.specs.StreamState.{ByteState, Change}
use Rattle.cli_spec.specs.Outcome.{Output}
use Rattle.cli_errors.specs.declared.exit_line.Error.{Error}
use Rattle.cli_errors.specs.declared.exit_line.Error.TheVariants as aborts
use Rattle.cmd_certify.specs.value_items.ValueProgress as work
use Rattle.run_types.specs.declared.requested.Prepared.{Prepared}
use Rattle.run_types.specs.Language.{TypeOver}
use Rattle.run_types.specs.RequestedTexts.{type_over, IsReady}
use Rattle.cmd_certify.specs.spec.Certification.{Certification}
use Rattle.cli_spec.specs.declared.read_options.ReadOptions.{ReadOptions}
use Rattle.cli_spec.specs.declared.exit.Exit.TheVariants.{Memory as out_of_memory}
use Rattle.opt_skip_only.specs.skip_spec.Skipping.{SkippedBytes}
use Rattle.cmd_certify.specs.command.CertifiedOutput.{OutputsSection, on_certified}

-- The task of certifying values at the type of `r` under this limit.
abbrev pub certified : Prepared → ℕ → Certification TypeOver
certified r limit = record { type = type_over r; limit = limit }

-- The task of certifying values, with the number of skipped bytes.
abbrev pub certified_after : Prepared → ReadOptions → SkippedBytes × Certification TypeOver
certified_after r reading =
    (record { bytes = reading.skip; copied = false }, certified r reading.limit)

-- How the entry of a value is written. Case `Ok`: the entry is written. Case `Exit`: memory ran
-- out, and nothing is written. The last case is that writing the output fails.
abbrev pub WritesSection : TypeOver → ℕ → List Obj → Val → Change ByteState → Result Bool Error
    → Type 0
WritesSection t number graph v out (Ok ok) =
    (text : List ℕ)
    × OutputsSection t number graph v (record { text = text; ok = ok }) × Writes out text
WritesSection t number graph v out (Err (aborts.Exit exit)) =
    (exit ≡ out_of_memory) × Writes out []
WritesSection t number graph v out (Err aborts.WriteFault) =
    (text : List ℕ) × (ok : Bool)
    × OutputsSection t number graph v (record { text = text; ok = ok }) × WritesPart out text

-- The type is ready for checks, and the least numbers of the type's table are right.
abbrev pub Ready : Prepared → List ℕ → Type 0
Ready r least_faults = IsReady r × AreLeastFaults (table_of r.table) least_faults

module _ (r : Prepared) (least_faults : List ℕ) (limit : ℕ) where
  -- Whole values were read and their output was written, and the reader has a prefix of the next
  -- value.
  abbrev pub HasRead : Reader → ℕ → Bool → List ℕ → List Output → Type 0
  HasRead = work.HasRead on_certified (certified r limit) limit (Ready r least_faults)

  -- Whole values were read and their output was written, and the reader has all bytes of the next
  -- value.
  abbrev pub IsValueRead : Reader → ℕ → Bool → List ℕ → List Output → Type 0
  IsValueRead = work.IsValueRead on_certified (certified r limit) limit (Ready r least_faults)

  -- How the output for the current value is written. Case `Ok`: the output is written. Case `Exit`:
  -- memory ran out, and nothing is written. The last case is that writing the output fails.
  abbrev pub WritesNext : {U : Type 0} → Reader → ℕ → Bool → List ℕ → List Output
      → Change ByteState → Result U Error → Type 0
  WritesNext reader count ok taken output =
      work.WritesNext on_certified (certified r limit) limit
      (Ready r least_faults) reader count ok taken
      output (λ exit. exit ≡ out_of_memory)
