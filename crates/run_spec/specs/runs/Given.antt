-- What the environment provided in a run.
use Rattle.std.specs.Prelude.{ℕ, ◌+◌, ◌^◌, ◌<◌, ◌≤◌, ◌≡◌, Bool, true, false, List, [], ◌∷◌, ◌++◌}
use Rattle.std.specs.Prelude.{length, Option, Some, None, IsSome, IsSomeAnd, IfSome}
use Rattle.base_data.specs.model.Bytes.{AreBytes}
use Rattle.cli_spec.specs.Outcome.{ReadingEnd, at_end, at_fault, at_length, unasked, Taken, Found}
use Rattle.cli_spec.specs.Outcome.{opened, missing, failed, unfetched}
use Rattle.base_io.specs.Files.{contents_of}
use Rattle.base_io.specs.History.{Event, moved, fetched, bytes_of, HasEnded}
use Rattle.base_io.specs.History.{failed as failed_call}
use Rattle.base_io.specs.StreamState.{SourceState, FilesState, Change}
use Rattle.base_io.specs.declared.files.OpenError.TheVariants.{Failed, Missing, Memory}

-- ---- bytes read

abbrev pub is_fault : ReadingEnd → Bool
is_fault at_end = false
is_fault at_fault = true
is_fault at_length = false
is_fault unasked = false

-- The greatest number of bytes that an operation on the input requests.
abbrev pub chunk_limit : ℕ
chunk_limit = 65536

-- After 2^48 bytes no more bytes are requested, and an operation returns at most one chunk.
abbrev pub IsMeasured : ReadingEnd → ℕ → Type 0
IsMeasured at_end n = n < 2 ^ 48
IsMeasured at_fault n = n < 2 ^ 48
IsMeasured at_length n = (2 ^ 48 ≤ n) × (n < 2 ^ 48 + chunk_limit)
IsMeasured unasked n = n < 2 ^ 48 + chunk_limit

-- The bytes read are a prefix of the source. If the end of the source was reached, no bytes remain.
pub record TakesFrom (bytes : List ℕ) (taken : Taken) (rest : List ℕ) : Type 0 where
  pub prefix : bytes ≡ taken.bytes ++ rest
  pub ends : taken.until ≡ at_end → rest ≡ []

-- Each call moved at least one byte.
abbrev pub AreChunks : List Event → Type 0
AreChunks [] = Unit {0}
AreChunks (moved room bytes ∷ more) = (0 < length bytes) × AreChunks more
AreChunks (failed_call ∷ more) = ⊥
AreChunks (fetched name error ∷ more) = ⊥

-- The calls after the calls that moved bytes. At the end, one call moved no byte into a buffer that
-- was not empty. At a fault, one call failed. In all other cases, no call follows.
abbrev pub EndsCalls : ReadingEnd → List Event → Type 0
EndsCalls at_end last = (room : ℕ) × (0 < room) × (last ≡ moved room [] ∷ [])
EndsCalls at_fault last = last ≡ failed_call ∷ []
EndsCalls at_length last = last ≡ []
EndsCalls unasked last = last ≡ []

-- The calls between two moments moved exactly the bytes `taken`, chunk by chunk. No call follows a
-- call that found the end, or that failed.
pub record CallsTook (before after : List Event) (taken : Taken) : Type 0 where
  pub chunks : List Event
  pub last : List Event
  pub are : after ≡ before ++ (chunks ++ last)
  pub each : AreChunks chunks
  pub bytes : bytes_of chunks ≡ taken.bytes
  pub ends : EndsCalls taken.until last

-- The bytes `taken` were read from a source: they are the bytes of its calls. A call failed if and
-- only if the bytes end because of a fault.
pub record Gathers (source : Change SourceState) (taken : Taken) : Type 0 where
  pub known : IfSome source.before.bytes
      (λ bytes. (rest : List ℕ) × TakesFrom bytes taken rest × (source.after.bytes ≡ Some rest))
  pub measured : IsMeasured taken.until (length taken.bytes)
  pub are_bytes : AreBytes taken.bytes
  pub called : CallsTook source.before.calls source.after.calls taken

-- The input begins with the bytes that the calls on the source moved. If a call found the end, then
-- the input is these bytes.
abbrev pub IsInputOf : Change SourceState → List ℕ → Type 0
IsInputOf source input = (new : List Event) → source.after.calls ≡ source.before.calls ++ new
    → (rest : List ℕ) × (input ≡ bytes_of new ++ rest) × (HasEnded new → rest ≡ [])

-- If the contents of a source are known, then each element of the contents is a byte.
abbrev pub ReportsBytes : Change SourceState → Type 0
ReportsBytes source = IfSome source.before.bytes AreBytes

-- ---- files

abbrev pub has_open_fault : Found → Bool
has_open_fault (opened taken) = false
has_open_fault missing = false
has_open_fault failed = true
has_open_fault unfetched = false

abbrev pub has_read_fault : Found → Bool
has_read_fault (opened taken) = is_fault taken.until
has_read_fault missing = false
has_read_fault failed = false
has_read_fault unfetched = false

-- The result of opening a file, compared with the bytes that the file map has for the name.
abbrev pub IsFoundOf : Option (List ℕ) → Found → Type 0
IsFoundOf contents (opened taken) =
    IsSomeAnd contents (λ bytes. (rest : List ℕ) × TakesFrom bytes taken rest)
IsFoundOf contents missing = contents ≡ None
IsFoundOf contents failed = Unit {0}
IsFoundOf contents unfetched = Unit {0}

abbrev pub IsMeasuredFile : Found → Type 0
IsMeasuredFile (opened taken) = IsMeasured taken.until (length taken.bytes)
IsMeasuredFile missing = Unit {0}
IsMeasuredFile failed = Unit {0}
IsMeasuredFile unfetched = Unit {0}

-- The calls between two moments are a fetch of the name with the result, and the calls that moved
-- the bytes of the file.
abbrev pub FetchedBy : List Event → List Event → List ℕ → Found → Type 0
FetchedBy before after name (opened taken) =
    CallsTook (before ++ fetched name None ∷ []) after taken
FetchedBy before after name failed = after ≡ before ++ fetched name (Some Failed) ∷ []
FetchedBy before after name missing = after ≡ before ++ fetched name (Some Missing) ∷ []
FetchedBy before after name unfetched = after ≡ before ++ fetched name (Some Memory) ∷ []

-- The result of fetching the name `name`, which is the result of the calls. Opening or reading
-- failed if and only if the result reports the failure.
pub record Fetched (files : Change FilesState) (name : List ℕ) (found : Found) : Type 0 where
  pub map : IfSome files.before.map (λ all. IsFoundOf (contents_of all name) found)
  pub known : found ≡ missing → IsSome files.before.map
  pub stays : files.after.map ≡ files.before.map
  pub measured : IsMeasuredFile found
  pub called : FetchedBy files.before.calls files.after.calls name found
