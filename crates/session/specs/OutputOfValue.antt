-- The output for a value and the writing of the output.
use Rattle.std.specs.Prelude.{ℕ, ◌≡◌, Bool, List, [], Result, Ok, Err}
use Rattle.cli_spec.specs.declared.exit.Exit.TheVariants.{Memory as out_of_memory}
use Rattle.base_data.specs.declared.model.value.Val.{Val}
use Rattle.base_data.specs.declared.model.value.Obj.{Obj}
use Rattle.base_io.specs.Sink.{Writes, WritesPart}
use Rattle.base_io.specs.StreamState.{ByteState, Change}
use Rattle.cli_errors.specs.declared.exit_line.Error.{Error}
use Rattle.cli_errors.specs.declared.exit_line.Error.TheVariants as aborts
use Rattle.session.specs.declared.value_output.Printing.{Printing}
use Rattle.session.specs.ValueOutput.{IsOutputOf}

-- If the result is `Ok`, the text is written, and the result states whether the value is ok. If the
-- result is `Err`, memory ran out and nothing is written, or writing the output fails.
abbrev pub WritesOutput : Printing → List Obj → Val → Change ByteState → Result Bool Error → Type 0
WritesOutput printing graph root out (Ok ok) =
    (text : List ℕ) × IsOutputOf printing graph root text ok × Writes out text
WritesOutput printing graph root out (Err (aborts.Exit exit)) =
    (exit ≡ out_of_memory) × Writes out []
WritesOutput printing graph root out (Err aborts.WriteFault) =
    (text : List ℕ) × (ok : Bool) × IsOutputOf printing graph root text ok × WritesPart out text
