-- The result of fetching a file.
use Rattle.std.specs.Prelude.{ℕ, List}
use Rattle.cli_spec.specs.Outcome as outcome
use Rattle.base_io.specs.StreamState.{FilesState, Change}
use Rattle.run_types.specs.declared.fetch.Fetch.{Fetch}
use Rattle.run_types.specs.declared.fetch.Fetch.TheVariants.{Opened, Missing, Failed}
use Rattle.run_types.specs.GatheredFile.{taken_of}
use Rattle.run_spec.specs.runs.Given.{Fetched}

abbrev pub fetch_found : Fetch → outcome.Found
fetch_found (Opened gathered) = outcome.opened (taken_of gathered)
fetch_found Missing = outcome.missing
fetch_found Failed = outcome.failed

-- The file was fetched with some result. `FetchedSome` is the effect if memory runs out while the
-- file is read.
abbrev pub FetchedSome : Change FilesState → List ℕ → Type 0
FetchedSome files name = (found : outcome.Found) × Fetched files name found
