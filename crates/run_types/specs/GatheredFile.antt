-- The bytes of a file, as bytes that were consumed from a source.
use Rattle.std.specs.Prelude.{◌≡◌}
use Rattle.cli_spec.specs.Outcome.{Taken, at_end, at_fault, at_length, unasked}
use Rattle.cli_spec.specs.Outcome as outcome
use Rattle.base_io.specs.StreamState.{SourceState, Change}
use Rattle.run_types.specs.declared.gathered_file.InputEnd.{InputEnd}
use Rattle.run_types.specs.declared.gathered_file.InputEnd.TheVariants.{End, Fault, Length}
use Rattle.run_types.specs.declared.gathered_file.Gathered.{Gathered}
use Rattle.run_spec.specs.runs.Given.{Gathers}

abbrev pub until_of : InputEnd → outcome.ReadingEnd
until_of End = at_end
until_of Fault = at_fault
until_of Length = at_length

abbrev pub taken_of : Gathered → Taken
taken_of g = record { bytes = g.bytes.items; until = until_of g.until }

-- Some bytes were read, and no more were requested.
abbrev pub GathersSome : Change SourceState → Type 0
GathersSome source = (taken : Taken) × Gathers source taken × (taken.until ≡ unasked)
