-- How `write` and `write_all` change the bytes of a sink. If the bytes of the sink are not known,
-- then no statement is made about the bytes.
use Rattle.std.specs.Prelude.{◌≡◌, ℕ, ◌<◌, ◌≤◌, List, ◌++◌, length, take, Option, Some, is_some}
use Rattle.std.specs.Prelude.{is_err, Result, Ok, Err, IfOk, OnErr, IfSome, true, false}
use Rattle.base_io.specs.IoFaults.{HasCause}
use Rattle.base_io.specs.StreamState.{ByteState, Change}
use Rattle.base_io.specs.declared.sink.WriteError.{WriteError}
use Rattle.base_io.specs.declared.sink.WriteError.TheVariants.{Fault, Memory}

-- A successful call returns a number `n` that is at most the length of the chunk. If the chunk is
-- not empty, `n` is at least 1. If the bytes of the sink are known, the call appended the first `n`
-- bytes of the chunk. A failed call appends nothing. If the call failed, then the count of faults
-- increased or is at its maximum.
pub record AppendsPrefix {E : Type 0} (before after : ByteState) (result : Result ℕ E)
    (chunk : List ℕ) : Type 0 where
  pub within : IfOk result (λ n. n ≤ length chunk)
  pub some : 0 < length chunk → IfOk result (λ n. 0 < n)
  pub appended : IfOk result
      (λ n. IfSome before.bytes (λ bytes. after.bytes ≡ Some (bytes ++ take n chunk)))
  pub failed : OnErr result (after.bytes ≡ before.bytes)
  pub known : is_some after.bytes ≡ is_some before.bytes
  pub cause : HasCause before.faults after.faults (is_err result)

-- The bytes after the call are the old bytes followed by a proper prefix of the chunk.
abbrev pub AppendsPart : List ℕ → List ℕ → Option (List ℕ) → Type 0
AppendsPart bytes chunk after =
    (n : ℕ) × (n < length chunk) × (after ≡ Some (bytes ++ take n chunk))

-- The whole text was written to the sink.
pub record Writes (sink : Change ByteState) (text : List ℕ) : Type 0 where
  pub appended : IfSome sink.before.bytes (λ bytes. sink.after.bytes ≡ Some (bytes ++ text))
  pub known : is_some sink.after.bytes ≡ is_some sink.before.bytes
  pub cause : HasCause sink.before.faults sink.after.faults false

-- A call failed, and a proper prefix of the text was written to the sink.
pub record WritesPart (sink : Change ByteState) (text : List ℕ) : Type 0 where
  pub appended : IfSome sink.before.bytes (λ bytes. AppendsPart bytes text sink.after.bytes)
  pub known : is_some sink.after.bytes ≡ is_some sink.before.bytes
  pub cause : HasCause sink.before.faults sink.after.faults true

-- If `result` is `Ok`, the whole text was written. If `result` is `Fault`, a proper prefix of the
-- text was written. If `result` is `Memory`, nothing is specified.
abbrev pub WritesOrFails : {A : Type 0} → Change ByteState → List ℕ → Result A WriteError → Type 0
WritesOrFails sink text (Ok done) = Writes sink text
WritesOrFails sink text (Err Fault) = WritesPart sink text
WritesOrFails sink text (Err Memory) = Unit {0}
