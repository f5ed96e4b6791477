-- The state of a reader, in terms of the bytes that the reader consumed.
use Rattle.std.specs.Prelude.{ℕ, ◌+◌, ◌<◌, ◌≤◌, ◌≡◌, ◌⊎◌, true, false, List, [], ◌++◌, length, take}
use Rattle.std.specs.Prelude.{Option, Some, None, Result, Ok, Err}
use Rattle.base_data.specs.declared.model.refusal.ReadRefusal.{ReadRefusal}
use Rattle.base_data.specs.model.Bytes.{AreBytes}
use Rattle.marshal_spec.specs.format.Header.{head_of}
use Rattle.marshal_spec.specs.format.Tree.{Tree}
use Rattle.marshal_spec.specs.format.Encoded.{EncodedUnder}
use Rattle.marshal_spec.specs.format.Prefix.{IsPrefix}
use Rattle.marshal_heap.specs.heap.Heap.{heap_words}
use Rattle.marshal_read.specs.declared.read_totals.ReadTotals.{ReadTotals}
use Rattle.marshal_read.specs.declared.reader.Reader.{Reader}
use Rattle.marshal_read.specs.declared.reader.Fed.{Fed}
use Rattle.marshal_read.specs.declared.reader.Truncated.{Truncated}
use Rattle.marshal_read.specs.declared.returned_value.Value.{Value}
use Rattle.marshal_read.specs.Build.{Bounded}
use Rattle.marshal_read.specs.Chunks.{LeadsChunks, IsWhole}
use Rattle.marshal_read.specs.Reading.{IsValueOf}

-- The reader has not refused any bytes.
abbrev pub IsReading : Reader → Type 0
IsReading reader = reader.refusal ≡ None

-- The reader has consumed the bytes `taken` under the limit and refused none of them. The state of
-- the reader is the state that `taken` produces.
pub record LeadsReader (limit : ℕ) (taken : List ℕ) (reader : Reader) : Type 0 where
  pub bytes : AreBytes taken
  pub reads : IsReading reader
  pub chunks : LeadsChunks limit taken reader.chunks

-- The reader has refused its bytes with this refusal, and keeps the refusal.
abbrev pub IsStopped : ReadRefusal → Reader → Type 0
IsStopped refusal reader = reader.refusal ≡ Some refusal

-- The invariant of a reader: some bytes lead to the reader, or the reader has refused its bytes.
abbrev pub IsReader : Reader → Type 0
IsReader reader =
    ((limit : ℕ) × (taken : List ℕ) × LeadsReader limit taken reader)
    ⊎ ((refusal : ReadRefusal) × IsStopped refusal reader)

-- The reader has a complete value.
abbrev pub IsDone : Reader → Type 0
IsDone reader = IsReading reader × IsWhole reader.chunks.reading.totals

-- ---- a chunk is consumed

pub record Feeds (limit : ℕ) (taken chunk : List ℕ) (new : Reader) (fed : Fed) : Type 0 where
  -- A prefix of the chunk is consumed. The bytes taken before and this prefix lead to the new
  -- reader.
  pub within : fed.taken ≤ length chunk
  pub leads : LeadsReader limit (taken ++ take fed.taken chunk) new
  -- If the value is not complete, then the whole chunk is consumed, and all bytes taken are a
  -- prefix of a value.
  pub more : fed.done ≡ false → (fed.taken ≡ length chunk) × IsPrefix limit (taken ++ chunk)
  -- If the value is complete, then all bytes up to the last consumed byte encode a value.
  pub done : fed.done ≡ true
      → IsDone new × ((tree : Tree) × EncodedUnder limit (taken ++ take fed.taken chunk) tree)

-- The pending values are at most as many as the remaining data bytes. The words are at most as many
-- as the header states, and the header states at most the limit.
abbrev pub IsWithin : ℕ → Option ReadTotals → Bounded → Type 0
IsWithin limit None built = heap_words built.built.objects ≡ 0
IsWithin limit (Some totals) built =
    (totals.taken + totals.pending ≤ totals.head.length)
    × (heap_words built.built.objects ≤ totals.head.w64) × (totals.head.w64 ≤ limit)

-- ---- the value, and the end of the input

-- The value is the value of the tree that the bytes encode. The value has exactly as many words as
-- the header states. The header states at most `limit` words.
pub record Finishes (limit : ℕ) (taken : List ℕ) (value : Value) : Type 0 where
  pub tree : Tree
  pub encoded : EncodedUnder limit taken tree
  pub is_value : IsValueOf value tree
  pub words : heap_words value.heap ≡ (head_of taken).w64
  pub limited : heap_words value.heap ≤ limit

-- `Ok` means that no byte was read, or that a complete value was read. `Err` means that the bytes
-- are a nonempty prefix of a value, and states the number of bytes.
abbrev pub EndsInput : {U : Type 0} → ℕ → List ℕ → Result U Truncated → Type 0
EndsInput limit taken (Ok unit) = (taken ≡ []) ⊎ ((tree : Tree) × EncodedUnder limit taken tree)
EndsInput limit taken (Err truncated) =
    (truncated.taken ≡ length taken) × (0 < length taken) × IsPrefix limit taken
