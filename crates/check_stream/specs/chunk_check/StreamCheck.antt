-- The state of the streaming check after some bytes of a value.
use Rattle.std.specs.Prelude.{ℕ, ◌+◌, ◌<◌, ◌≤◌, ◌≡◌, List, [], ◌++◌, length, Option, Some}
use Rattle.base_data.specs.model.Bytes.{AreBytes}
use Rattle.types_spec.specs.types.Table.{Table}
use Rattle.marshal_spec.specs.format.Prefix.{IsPrefix}
use Rattle.check_stream.specs.theory.OnePass.{IsTypedPrefix}
use Rattle.check_stream.specs.mismatch_search.Find.{IsFound}
use Rattle.check_stream.specs.declared.mismatch_search.mismatch.FoundMismatch.{FoundMismatch}
use Rattle.check_stream.specs.declared.chunk_check.stream_check.StreamCheck.{StreamCheck}
use Rattle.check_stream.specs.declared.chunk_check.stream_check.ChunkResult.{ChunkResult}
use Rattle.check_stream.specs.declared.chunk_check.stream_check.ChunkResult.TheVariants as answers
use Rattle.check_stream.specs.chunk_check.Inspection.{IsInspecting, missed_in}

-- The buffered bytes are a prefix of a value, and the buffered bytes lead to the state of the
-- check.
pub record IsStreamCheck (table : Table) (limit : ℕ) (g : StreamCheck) : Type 0 where
  pub bytes : AreBytes g.kept.items
  pub is_prefix : IsPrefix limit g.kept.items
  pub inspecting : IsInspecting table limit g.kept.items g.inspecting

-- The mismatch that the check found last, or `None`.
abbrev pub held : StreamCheck → Option FoundMismatch
held g = missed_in g.inspecting

-- The buffered bytes and the first `n` bytes of the chunk are a value that has the table's first
-- type. No byte of the next value is buffered.
pub record IsTypedNext
    (table : Table) (limit : ℕ) (old : StreamCheck) (chunk : List ℕ) (new : StreamCheck) (n : ℕ)
    : Type 0 where
  pub some : 0 < n
  pub within : n ≤ length chunk
  pub typed :
      IsTypedPrefix table limit (length old.kept.items + n) (old.kept.items ++ chunk)
  pub none : new.kept.items ≡ []
  pub stream_check : (other : Table) (limit' : ℕ) → IsStreamCheck other limit' new

-- The buffered bytes and the first `n` bytes of the chunk are a value whose first fault is a
-- mismatch at one of the table's types. The mismatch is available, and no byte of the next value is
-- buffered.
pub record IsMissedNext
    (table : Table) (limit : ℕ) (old : StreamCheck) (chunk : List ℕ) (new : StreamCheck) (n : ℕ)
    : Type 0 where
  pub some : 0 < n
  pub within : n ≤ length chunk
  pub missed :
      (found : FoundMismatch) × (held new ≡ Some found)
      × IsFound table limit (length old.kept.items + n) (old.kept.items ++ chunk) found
      × (found.ty < length table.nodes)
  pub none : new.kept.items ≡ []
  pub stream_check : (other : Table) (limit' : ℕ) → IsStreamCheck other limit' new

-- What each `ChunkResult` means for the buffered bytes, the chunk and the new state.
abbrev pub IsChunkResult : Table → ℕ → StreamCheck → List ℕ → StreamCheck → ChunkResult → Type 0
IsChunkResult table limit old chunk new (answers.Typed n) = IsTypedNext table limit old chunk new n
IsChunkResult table limit old chunk new (answers.Missed n) =
    IsMissedNext table limit old chunk new n
IsChunkResult table limit old chunk new answers.More =
    (new.kept.items ≡ old.kept.items ++ chunk) × IsStreamCheck table limit new
IsChunkResult table limit old chunk new answers.Inconclusive =
    (new.kept.items ≡ old.kept.items) × IsStreamCheck table limit new
