-- The effect of `take` on the history, and on the remaining bytes if they are known.
use Rattle.std.specs.Prelude.{◌≡◌, ◌↔◌, ℕ, ◌<◌, ◌≤◌, List, [], ◌∷◌, ◌++◌, length, take, drop}
use Rattle.std.specs.Prelude.{Option, Some, is_some, Result, IfOk, OnErr, IfSome}
use Rattle.base_io.specs.History.{take_event}
use Rattle.base_io.specs.StreamState.{SourceState}

-- The next `n` bytes were moved to the start of the buffer. If the buffer is not empty, then `n` is
-- 0 if and only if no bytes remain.
pub record Moves (bytes : List ℕ) (n : ℕ) (buffer : List ℕ) (after : Option (List ℕ)) : Type 0 where
  pub enough : n ≤ length bytes
  pub prefix : take n buffer ≡ take n bytes
  pub rest : after ≡ Some (drop n bytes)
  pub ends : 0 < length buffer → (n ≡ 0 ↔ bytes ≡ [])

-- A successful call returns a number `n` that is at most the length of the buffer. If the bytes of
-- the source are known, the call moved the next `n` bytes. A failed call moves nothing. The history
-- ends with the call: with the bytes that the buffer has, or with the failure.
pub record TakesPrefix {E : Type 0} (before after : SourceState) (result : Result ℕ E)
    (buffer : List ℕ) : Type 0 where
  pub within : IfOk result (λ n. n ≤ length buffer)
  pub moved : IfOk result (λ n. IfSome before.bytes (λ bytes. Moves bytes n buffer after.bytes))
  pub failed : OnErr result (after.bytes ≡ before.bytes)
  pub known : is_some after.bytes ≡ is_some before.bytes
  pub called : after.calls ≡ before.calls ++ take_event result buffer ∷ []
