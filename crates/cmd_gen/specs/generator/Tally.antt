-- The model of the sink that counts bytes.
use Rattle.std.specs.Prelude.{ℕ, ◌+◌, ◌^◌, ◌≤◌, ◌⊎◌, List, length, sum, Some}
use Rattle.base_io.specs.StreamState.{ByteState}

-- The bytes received by the sink, and the number of failed calls.
pub record Known : Type 0 where
  pub written : List ℕ
  pub faults : ℕ

abbrev pub tally_state : Known → ByteState
tally_state known = record { bytes = Some known.written; faults = known.faults }

-- If the bytes `bytes` are added, the number or the sum of all bytes does not fit in 64 bits.
abbrev pub HasNoRoom : Known → List ℕ → Type 0
HasNoRoom known bytes =
    (2 ^ 64 ≤ length known.written + length bytes) ⊎ (2 ^ 64 ≤ sum known.written + sum bytes)
