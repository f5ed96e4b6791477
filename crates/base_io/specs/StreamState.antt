-- The known part of the state of the environment.
use Rattle.std.specs.Prelude.{ℕ, List, Option}
use Rattle.base_io.specs.Files.{File}
use Rattle.base_io.specs.History.{Event}

-- The state of a sink: the bytes written, if they are known, and the number of failed calls.
pub record ByteState : Type 0 where
  pub bytes : Option (List ℕ)
  pub faults : ℕ

-- The state of a source: the remaining bytes, if they are known, and the calls so far. The calls
-- are always known.
pub record SourceState : Type 0 where
  pub bytes : Option (List ℕ)
  pub calls : List Event

-- The state of an `Opener`. If the files are known, `map` contains the name and bytes of each file,
-- and `left` is what remains of the file fetched last. `calls` are the calls so far. The calls are
-- always known.
pub record FilesState : Type 0 where
  pub map : Option (List File)
  pub left : Option (List ℕ)
  pub calls : List Event

-- The file fetched last, seen as the state of a source.
abbrev pub as_source : FilesState → SourceState
as_source files = record { bytes = files.left; calls = files.calls }

-- The state before a call and the state after the call.
pub record Change (X : Type 0) : Type 0 where
  pub before : X
  pub after : X

abbrev pub change : {X : Type 0} → X → X → Change X
change before after = record { before = before; after = after }
