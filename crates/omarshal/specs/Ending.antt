-- How a run ends if its arguments could not be read.
use Rattle.std.specs.Prelude.{◌≡◌, ◌⊎◌}
use Rattle.cli_spec.specs.declared.status.Status.{Status}
use Rattle.cli_spec.specs.declared.status.Status.TheVariants.{WriteFault}
use Rattle.cli_spec.specs.Outcome.{status_of, exit_line}
use Rattle.cli_spec.specs.declared.exit.Exit.{Exit}
use Rattle.base_io.specs.Sink.{Writes, WritesPart}
use Rattle.base_io.specs.StreamState.{ByteState, Change}

-- If the error line of the exit reason is written completely, `status` is the status of the exit
-- reason. If not, `status` is `WriteFault`.
abbrev pub Outputs : Exit → Change ByteState → Status → Type 0
Outputs exit err status =
    (Writes err (exit_line exit) × (status ≡ status_of exit))
    ⊎ (WritesPart err (exit_line exit) × (status ≡ WriteFault))
