-- The texts of exit reasons, and the effect of reporting them.
use Rattle.std.specs.Prelude.{ℕ, ◌≡◌, ◌≢◌, ◌⊎◌, List, ◌++◌, codes, decimal}
use Rattle.std.specs.Fmt.{signed_decimal}
use Rattle.base_data.specs.declared.model.refusal.ReadRefusal.{ReadRefusal}
use Rattle.base_data.specs.declared.model.refusal.ReadRefusal.TheVariants as refusals
use Rattle.cli_spec.specs.declared.status.Status.{Status}
use Rattle.cli_spec.specs.declared.status.Status.TheVariants.{WriteFault}
use Rattle.cli_spec.specs.Outcome.{status_of, exit_line}
use Rattle.cli_spec.specs.RefusalText.{refusal_text}
use Rattle.cli_spec.specs.declared.exit.Exit.{Exit}
use Rattle.cli_spec.specs.declared.exit.Exit.TheVariants.{Value as value, Memory as out_of_memory}
use Rattle.base_io.specs.Sink.{Writes, WritesPart}
use Rattle.base_io.specs.StreamState.{ByteState, Change}
use Rattle.marshal_write.specs.declared.write.compat.Compat.{Compat}
use Rattle.marshal_write.specs.declared.write.compat.Compat.TheVariants as compats

-- The text for an item that is too large for a 32-bit reader.
abbrev pub text_of_compat : Compat → List ℕ
text_of_compat (compats.Int z) = codes "Compat(int, " ++ signed_decimal z ++ codes ")"
text_of_compat (compats.Block size) = codes "Compat(block, " ++ decimal size ++ codes ")"
text_of_compat (compats.Bytes size) = codes "Compat(string, " ++ decimal size ++ codes ")"
text_of_compat (compats.Native z) = codes "Compat(nativeint, " ++ signed_decimal z ++ codes ")"
text_of_compat (compats.Doubles size) = codes "Compat(floats, " ++ decimal size ++ codes ")"
text_of_compat (compats.Header n) = codes "Compat(header, " ++ decimal n ++ codes ")"

-- The exit reason is `known`, or memory ran out for its text.
abbrev pub IsOrMemory : Exit → Exit → Type 0
IsOrMemory known exit = (exit ≡ known) ⊎ (exit ≡ out_of_memory)

-- The exit reason states that memory ran out; or value `k` was refused for another reason, and the
-- exit reason states that refusal.
abbrev pub IsExitOf : ℕ → ReadRefusal → Exit → Type 0
IsExitOf k refusal exit =
    (exit ≡ out_of_memory)
    ⊎ ((refusal ≢ refusals.Memory) × (exit ≡ value k (refusal_text refusal)))

-- The effect of reporting an exit reason. `output` is the exit reason, or, if memory ran out for
-- the line, `out_of_memory`. If the error line of `output` is written completely, the result is the
-- status of `output`. If a write fails, the result is `WriteFault`.
pub record Reports (exit : Exit) (err : Change ByteState) (status : Status) : Type 0 where
  pub output : Exit
  pub which : (output ≡ exit) ⊎ (output ≡ out_of_memory)
  pub line :
      (Writes err (exit_line output) × (status ≡ status_of output))
      ⊎ (WritesPart err (exit_line output) × (status ≡ WriteFault))
