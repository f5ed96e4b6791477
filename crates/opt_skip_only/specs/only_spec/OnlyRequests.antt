-- The option `--only`: the number of the selected value, or `None` for all values.
use Rattle.std.specs.Prelude.{ℕ, Option}
use Rattle.cli_spec.specs.CommandLine.{reading_of}
use Rattle.cli_spec.specs.Outcome.{Request}

abbrev pub picked_by : Request → Option ℕ
picked_by request = (reading_of request).only
