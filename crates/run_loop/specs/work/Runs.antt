-- A run of a command on its input, chunk by chunk.
use Rattle.std.specs.Prelude.{◌≡◌, ◌⊎◌, Bool, List, [], ◌∷◌, ◌++◌, Result, Ok, Err}
use Rattle.cli_spec.specs.Outcome.{Taken, nothing, Output, outputs, exits, replies, texts_of}
use Rattle.cli_spec.specs.Outcome.{all_ok}
use Rattle.cli_spec.specs.declared.exit.Exit.TheVariants.{Memory as out_of_memory}
use Rattle.base_io.specs.Sink.{Writes}
use Rattle.base_io.specs.StreamState.{ByteState, SourceState, Change}
use Rattle.cli_errors.specs.declared.exit_line.Error.{Error}
use Rattle.cli_errors.specs.declared.exit_line.Error.TheVariants as aborts
use Rattle.run_spec.specs.runs.Account.{IsPaced}
use Rattle.run_spec.specs.runs.Commands.{Commands, Answers}
use Rattle.run_spec.specs.runs.Given.{Gathers}
use Rattle.run_spec.specs.runs.Environment.{WritesPartAfter}
use Rattle.run_loop.specs.work.Works.{AreOutput}

module _ {A : Type 0} (c : Commands A) (a : A) where
  -- The outputs for the items so far. If the input is read, no chunk is read after a chunk that
  -- ends the run. If the input is not read, then nothing is consumed.
  abbrev pub IsOutputOf : Taken → List Output → Type 0
  IsOutputOf taken output =
      (c.Reads a × IsPaced c a taken output)
      ⊎ ((c.Reads a → ⊥) × (taken ≡ nothing) × (output ≡ []))

  -- How a run ends after the outputs `output`. If the result is `Ok`, the final output is written.
  -- If the result is an exit reason, the exit reason follows from the consumed input, or memory ran
  -- out. If the result is a failed write, writing failed within the next output.
  abbrev pub EndsRun : Taken → List Output → Change ByteState → Result Bool Error → Type 0
  EndsRun taken output out (Ok ok) =
      (final : Output) × Answers c a taken (replies output (outputs final))
      × (ok ≡ all_ok (output ++ final ∷ [])) × Writes out (texts_of (output ++ final ∷ []))
  EndsRun taken output out (Err (aborts.Exit exit)) =
      (Answers c a taken (replies output (exits exit))
      ⊎ (exit ≡ out_of_memory)) × Writes out (texts_of output)
  EndsRun taken output out (Err aborts.WriteFault) =
      (next : Output)
      × ((c.Reads a × AreOutput c a taken.bytes (output ++ next ∷ []))
      ⊎ Answers c a taken (replies output (outputs next)))
      × WritesPartAfter out (texts_of output) next.text

  -- The input is read chunk by chunk, and the outputs for the items of the input are written.
  pub record Runs (input : Change SourceState) (out : Change ByteState)
      (result : Result Bool Error) : Type 0 where
    pub taken : Taken
    pub gathers : Gathers input taken
    pub output : List Output
    pub first : IsOutputOf taken output
    pub ends : EndsRun taken output out result
