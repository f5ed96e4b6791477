-- The data of a `Nativeint` (`ints.c`).
use Rattle.std.specs.Prelude.{ℕ, ◌+◌, ◌-◌, ◌<◌, ◌≤◌, ◌≡◌, ◌==◌, nat_lt, List, [], ◌∷◌, length, take}
use Rattle.std.specs.Prelude.{drop, slice_index, if◌then◌else◌}
use Rattle.marshal_codec.specs.declared.customs.native.NativeStep.{NativeStep}
use Rattle.marshal_codec.specs.declared.customs.native.NativeStep.TheVariants.{More, Value}
use Rattle.marshal_codec.specs.declared.customs.native.NativeStep.TheVariants.{BadNative}
use Rattle.base_data.specs.model.Bytes.{signed}
use Rattle.marshal_spec.specs.format.Code.{native_bytes}

-- The number in the first `n` bytes, or the number of bytes that are missing.
abbrev pub number_step : ℕ → List ℕ → NativeStep
number_step n bytes =
    if nat_lt (length bytes) n then More (n - length bytes) else Value (signed (take n bytes))

-- The step for the kind byte and the number whose length the kind byte states.
abbrev pub native_step : List ℕ → NativeStep
native_step [] = More 1
native_step (kind ∷ rest) =
    if native_bytes kind == 0 then BadNative kind else number_step (native_bytes kind) rest

-- The number of bytes that the kind byte states. The number is 0 if there is no kind byte, or if
-- the kind byte is neither 1 nor 2.
abbrev pub announced : List ℕ → ℕ
announced bytes = native_bytes (slice_index bytes 0)

abbrev pub IsStep : List ℕ → NativeStep → Type 0
IsStep bytes (More n) = (0 < n) × (length bytes + n ≡ 1 + announced bytes)
IsStep bytes (Value z) =
    (0 < announced bytes) × (1 + announced bytes ≤ length bytes)
    × (z ≡ signed (take (announced bytes) (drop 1 bytes)))
IsStep bytes (BadNative kind) =
    (0 < length bytes) × (kind ≡ slice_index bytes 0) × (announced bytes ≡ 0)
