-- Writing the bytes of a value.
use Rattle.std.specs.Prelude.{ℕ, ◌≡◌, Bool, List, [], Result, Ok, Err}
use Rattle.base_data.specs.declared.model.value.Val.{Val}
use Rattle.base_data.specs.declared.model.value.Obj.{Obj}
use Rattle.base_io.specs.Sink.{Writes, WritesPart}
use Rattle.base_io.specs.StreamState.{ByteState, Change}
use Rattle.cli_spec.specs.Outcome.{Unedited, unedited_exit}
use Rattle.cli_spec.specs.declared.exit.Exit.{Exit}
use Rattle.cli_errors.specs.declared.exit_line.Error.{Error}
use Rattle.cli_errors.specs.declared.exit_line.Error.TheVariants as aborts
use Rattle.run_types.specs.Checked.{OrMemory}
use Rattle.run_types.specs.Language.{AreBytesOf}

-- The exit reason states why value `k` has no bytes, and `Answers` allows that reason.
abbrev pub IsUnedited : ℕ → (Result (List ℕ) Unedited → Type 0) → Exit → Type 0
IsUnedited k Answers exit =
    (why : Unedited) × Answers (Err why) × (exit ≡ unedited_exit k why)

-- The effect of writing the bytes of value `k`. If the result is `Ok`, all bytes are written. If
-- the result is an exit reason, nothing is written. If the result is a failed write, only a part of
-- the bytes is written.
abbrev pub WritesAnswer : {U : Type 0} → ℕ → (Result (List ℕ) Unedited → Type 0) → Change ByteState
    → Result U Error → Type 0
WritesAnswer k Answers out (Ok unit) = (bytes : List ℕ) × Answers (Ok bytes) × Writes out bytes
WritesAnswer k Answers out (Err (aborts.Exit exit)) =
    OrMemory (IsUnedited k Answers) exit × Writes out []
WritesAnswer k Answers out (Err aborts.WriteFault) =
    (bytes : List ℕ) × Answers (Ok bytes) × WritesPart out bytes

abbrev pub WritesBytes : {U : Type 0} → Bool → ℕ → List Obj → Val → Change ByteState
    → Result U Error
    → Type 0
WritesBytes compat k graph v out result = WritesAnswer k (AreBytesOf compat graph v) out result
