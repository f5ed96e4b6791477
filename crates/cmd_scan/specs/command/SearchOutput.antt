-- The state of the search while the bytes of the input arrive.
use Rattle.std.specs.Prelude.{ℕ, ◌<◌, ◌≤◌, ◌≡◌, true, false, List, [], ◌∷◌, ◌++◌, length, take}
use Rattle.std.specs.Prelude.{Option, Result, Ok, Err}
use Rattle.marshal_spec.specs.format.Prefix.{IsPrefix}
use Rattle.marshal_read.specs.declared.reader.Reader.{Reader}
use Rattle.marshal_read.specs.Reader.{LeadsReader}
use Rattle.base_io.specs.Sink.{Writes, WritesPart}
use Rattle.base_io.specs.StreamState.{ByteState, Change}
use Rattle.cli_spec.specs.Outcome.{Request, Output}
use Rattle.cli_spec.specs.declared.exit.Exit.TheVariants.{Memory as out_of_memory}
use Rattle.cli_errors.specs.declared.exit_line.Error.{Error}
use Rattle.cli_errors.specs.declared.exit_line.Error.TheVariants as aborts
use Rattle.run_spec.specs.runs.Commands.{Item, OutputsFirst}
use Rattle.run_loop.specs.work.Works.{AreOutput}
use Rattle.cmd_scan.specs.spec.Searching.{bytes_in, searching}
use Rattle.cmd_scan.specs.declared.command.last.TakenBytes.{TakenBytes}
use Rattle.cmd_scan.specs.command.Last.{IsDecided}

module _ (limit_by : Request → Option ℕ) (limit : ℕ) (held : List ℕ) where
  -- The stretches in these bytes were taken, and `output` is their output. The held bytes are a
  -- prefix of a value, which the reader has taken. `at` bytes come before the held bytes.
  pub record HasSearched (reader : Reader) (at : ℕ) (bytes : List ℕ) (output : List Output) : Type 0
    where
      pub items : List Item
      pub first : OutputsFirst (searching limit_by) limit bytes items output held
      pub is_prefix : IsPrefix limit held
      pub leads : LeadsReader limit held reader
      pub at_is : at ≡ bytes_in items

  -- The stretches in these bytes were taken, and `output` is their output. The last of the held
  -- bytes decides what the held bytes begin with. `at` bytes come before the held bytes.
  pub record HasStretch (at : ℕ) (bytes : List ℕ) (output : List Output) : Type 0 where
    pub items : List Item
    pub first : OutputsFirst (searching limit_by) limit bytes items output held
    pub decided : IsDecided limit held
    pub at_is : at ≡ bytes_in items

-- Some of the buffered bytes are taken. Afterwards, the held bytes are a stretch, or a prefix of a
-- value.
abbrev pub HasTaken : (Request → Option ℕ) → ℕ → List ℕ → Reader → ℕ → List ℕ → List ℕ → List Output
    → TakenBytes → Type 0
HasTaken limit_by limit held reader at buffered bytes output t =
    (0 < t.bytes) × (t.bytes ≤ length buffered)
    × (t.decided ≡ false
    → HasSearched limit_by limit held reader at (bytes ++ take t.bytes buffered) output)
    × (t.decided ≡ true → HasStretch limit_by limit held at (bytes ++ take t.bytes buffered) output)

-- Some of the buffered bytes are taken, or memory ran out.
abbrev pub TakesSome : {E : Type 0} → (Request → Option ℕ) → ℕ → List ℕ → Reader → ℕ → List ℕ
    → List ℕ → List Output → Result TakenBytes E → Type 0
TakesSome limit_by limit held reader at buffered bytes output (Ok t) =
    HasTaken limit_by limit held reader at buffered bytes output t
TakesSome limit_by limit held reader at buffered bytes output (Err e) = Unit {0}

-- The effect of writing the stretch. If the result is `Ok`, the output for the stretch is written,
-- and a prefix of a value is held after the stretch. If the result is an exit reason, memory ran
-- out and nothing is written. If the result is a failed write, only a part of the output is
-- written.
abbrev pub WritesNext : {U : Type 0} → (Request → Option ℕ) → ℕ → List ℕ → Reader → ℕ → List ℕ
    → List Output → Change ByteState → Result U Error → Type 0
WritesNext limit_by limit held reader at bytes output out (Ok unit) =
    (next : Output) × HasSearched limit_by limit held reader at bytes (output ++ next ∷ [])
    × Writes out next.text
WritesNext limit_by limit held reader at bytes output out (Err (aborts.Exit exit)) =
    (exit ≡ out_of_memory) × Writes out []
WritesNext limit_by limit held reader at bytes output out (Err aborts.WriteFault) =
    (next : Output) × AreOutput (searching limit_by) limit bytes (output ++ next ∷ [])
    × WritesPart out next.text
