-- Whether the command of the request writes the skipped bytes. Only `edit` does.
use Rattle.std.specs.Prelude.{Bool, true, false}
use Rattle.cli_spec.specs.CommandLine.{reading_of}
use Rattle.cli_spec.specs.Outcome.{Request, edit}
use Rattle.opt_skip_only.specs.skip_spec.Skipping.{SkippedBytes}

abbrev pub copied_by : Request → Bool
copied_by (edit file type script compat lines decimal reading) = true
copied_by request = false

abbrev pub passed_by : Request → SkippedBytes
passed_by request = record { bytes = (reading_of request).skip; copied = copied_by request }
