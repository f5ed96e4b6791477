-- The history of an input, of the files or of an output: the calls so far, in their order.
use Rattle.std.specs.Prelude.{ℕ, ◌<◌, ◌≡◌, ◌⊎◌, List, [], ◌∷◌, ◌++◌, length, take, Option, Some}
use Rattle.std.specs.Prelude.{None, Result, Ok, Err}
use Rattle.base_io.specs.declared.files.OpenError.{OpenError}
use Rattle.base_io.specs.declared.files.OpenError.TheVariants.{Failed, Missing, Memory}

-- One call.
pub data Event : Type 0 where
  -- The call moved these bytes. The number is the length of the buffer, or of the chunk that was
  -- offered.
  moved : ℕ → List ℕ → Event
  -- The call moved no bytes, since it failed.
  failed : Event
  -- The call fetched the file with this name. The error is `None` if the file was opened.
  fetched : List ℕ → Option OpenError → Event

-- The event of a call of `take`, by the result and the buffer after the call.
abbrev pub take_event : {E : Type 0} → Result ℕ E → List ℕ → Event
take_event (Ok n) buffer = moved (length buffer) (take n buffer)
take_event (Err e) buffer = failed

-- The error of a result, or `None` if the result is `Ok`.
abbrev pub error_of : {T : Type 0} → Result T OpenError → Option OpenError
error_of (Ok x) = None
error_of (Err e) = Some e

-- The bytes that the calls moved, in their order.
abbrev pub bytes_of : List Event → List ℕ
bytes_of [] = []
bytes_of (moved room bytes ∷ more) = bytes ++ bytes_of more
bytes_of (failed ∷ more) = bytes_of more
bytes_of (fetched name error ∷ more) = bytes_of more

-- The event that a list of numbers and some bytes stand for. No number stands for a failed call,
-- one number for a call that moved the bytes, and more numbers for a fetch.
abbrev pub event_of : List ℕ → List ℕ → Event
event_of [] bytes = failed
event_of (room ∷ []) bytes = moved room bytes
event_of (one ∷ two ∷ []) bytes = fetched bytes None
event_of (one ∷ two ∷ three ∷ []) bytes = fetched bytes (Some Failed)
event_of (one ∷ two ∷ three ∷ four ∷ []) bytes = fetched bytes (Some Missing)
event_of (one ∷ two ∷ three ∷ four ∷ five ∷ more) bytes = fetched bytes (Some Memory)

-- A call of `take` found the end: it moved no byte, though the buffer was not empty.
abbrev pub HasEnded : List Event → Type 0
HasEnded [] = ⊥
HasEnded (moved room [] ∷ more) = (0 < room) ⊎ HasEnded more
HasEnded (moved room (b ∷ bytes) ∷ more) = HasEnded more
HasEnded (failed ∷ more) = HasEnded more
HasEnded (fetched name error ∷ more) = HasEnded more

-- A call of `take` failed.
abbrev pub HasFailed : List Event → Type 0
HasFailed [] = ⊥
HasFailed (moved room bytes ∷ more) = HasFailed more
HasFailed (failed ∷ more) = Unit {0}
HasFailed (fetched name error ∷ more) = HasFailed more

-- A file could not be opened.
abbrev pub HasOpenFailed : List Event → Type 0
HasOpenFailed [] = ⊥
HasOpenFailed (moved room bytes ∷ more) = HasOpenFailed more
HasOpenFailed (failed ∷ more) = HasOpenFailed more
HasOpenFailed (fetched name None ∷ more) = HasOpenFailed more
HasOpenFailed (fetched name (Some Failed) ∷ more) = Unit {0}
HasOpenFailed (fetched name (Some Missing) ∷ more) = HasOpenFailed more
HasOpenFailed (fetched name (Some Memory) ∷ more) = HasOpenFailed more

-- The file with the name `name` could not be opened.
abbrev pub HasOpenFailedAt : List ℕ → List Event → Type 0
HasOpenFailedAt name [] = ⊥
HasOpenFailedAt name (moved room bytes ∷ more) = HasOpenFailedAt name more
HasOpenFailedAt name (failed ∷ more) = HasOpenFailedAt name more
HasOpenFailedAt name (fetched other None ∷ more) = HasOpenFailedAt name more
HasOpenFailedAt name (fetched other (Some Failed) ∷ more) =
    (other ≡ name) ⊎ HasOpenFailedAt name more
HasOpenFailedAt name (fetched other (Some Missing) ∷ more) = HasOpenFailedAt name more
HasOpenFailedAt name (fetched other (Some Memory) ∷ more) = HasOpenFailedAt name more
