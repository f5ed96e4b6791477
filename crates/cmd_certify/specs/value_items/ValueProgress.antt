-- The state of a command while the bytes of its input arrive: the values read so far, and the
-- output for the values.
use Rattle.std.specs.Prelude.{ℕ, ◌<◌, ◌≡◌, Bool, List, [], ◌∷◌, ◌++◌, length, Result, Ok, Err}
use Rattle.marshal_spec.specs.format.Prefix.{IsPrefix}
use Rattle.marshal_read.specs.declared.reader.Reader.{Reader}
use Rattle.marshal_read.specs.Reader.{LeadsReader, IsDone}
use Rattle.base_io.specs.Sink.{Writes, WritesPart}
use Rattle.base_io.specs.StreamState.{ByteState, Change}
use Rattle.cli_spec.specs.Outcome.{Output, all_ok}
use Rattle.cli_spec.specs.declared.exit.Exit.{Exit}
use Rattle.cli_errors.specs.declared.exit_line.Error.{Error}
use Rattle.cli_errors.specs.declared.exit_line.Error.TheVariants as aborts
use Rattle.run_spec.specs.runs.Commands.{Item, Commands, OutputsFirst}
use Rattle.run_loop.specs.work.Works.{AreOutput}

module _ {A : Type 0} (commands : Commands A) (a : A) (limit : ℕ) (Ready : Type 0)
    (reader : Reader) (count : ℕ) (ok : Bool) (taken : List ℕ) (output : List Output) where
  -- The reader has consumed the bytes after the complete values, which are a prefix of the next
  -- value. `output` is the output for the complete values. The command's own state is ready.
  pub record HasRead : Type 0 where
    pub ready : Ready
    pub items : List Item
    pub prefix : List ℕ
    pub first : OutputsFirst commands a taken items output prefix
    pub is_prefix : IsPrefix limit prefix
    pub leads : LeadsReader limit prefix reader
    pub counted : count ≡ length items
    pub is_all_ok : ok ≡ all_ok output

  -- The reader has consumed all bytes of the value after the complete values. `output` is the
  -- output for the complete values. The command's own state is ready.
  pub record IsValueRead : Type 0 where
    pub ready : Ready
    pub items : List Item
    pub whole : List ℕ
    pub first : OutputsFirst commands a taken items output whole
    pub some : 0 < length whole
    pub leads : LeadsReader limit whole reader
    pub done : IsDone reader
    pub counted : count ≡ length items
    pub is_all_ok : ok ≡ all_ok output

-- How the output for the current value is written. Case `Ok`: the output is written, and the reader
-- waits for the next value. Case `Exit`: the run ends with an exit reason, and nothing is written.
-- The last case is that writing the output fails.
abbrev pub WritesNext : {A U : Type 0} → Commands A → A → ℕ → Type 0 → Reader → ℕ → Bool → List ℕ
    → List Output → (Exit → Type 0) → Change ByteState → Result U Error → Type 0
WritesNext commands a limit Ready reader count ok taken output ExitsSo out (Ok unit) =
    (next : Output)
    × HasRead commands a limit Ready reader count ok taken (output ++ next ∷ [])
    × Writes out next.text
WritesNext commands a limit Ready reader count ok taken output ExitsSo out
    (Err (aborts.Exit exit)) =
    ExitsSo exit × Writes out []
WritesNext commands a limit Ready reader count ok taken output ExitsSo out
    (Err aborts.WriteFault) =
    (next : Output) × AreOutput commands a taken (output ++ next ∷ []) × WritesPart out next.text
