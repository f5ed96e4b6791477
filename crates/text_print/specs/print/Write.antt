-- A text that is appended if no object has a label.
use Rattle.std.specs.Prelude.{ℕ, ◌≡◌, List, ◌++◌, Option, Some, None}
use Rattle.std.specs.Global.{Vec}
use Rattle.text_print.specs.show.TextChunks.{TextChunk, labelled, text_of}

-- `new` is `old` followed by zero or more bytes.
abbrev pub IsGrown : List ℕ → List ℕ → Type 0
IsGrown old new = (more : List ℕ) × (new ≡ old ++ more)

-- If no objects are returned, then the text of the chunks was appended. If objects are returned,
-- then they are the objects with labels, and some bytes were appended.
abbrev pub IsWritten : Option (Vec ℕ) → List ℕ → List ℕ → List TextChunk → Type 0
IsWritten None old new chunks = new ≡ old ++ text_of chunks
IsWritten (Some objects) old new chunks = (objects.items ≡ labelled chunks) × IsGrown old new
