-- Numbers that bytes encode (`intext.h`: `extern.c` writes them, `intern.c` reads them).
use Rattle.std.specs.Prelude.{ℕ, suc, ◌+◌, ◌-◌, ◌*◌, ◌^◌, ◌<◌, ◌≤◌, ◌≡◌, Bool, true, false, List}
use Rattle.std.specs.Prelude.{[], ◌∷◌, length, take, drop, All, nat_lt, if◌then◌else◌, ℤ, pos}
use Rattle.std.specs.Prelude.{negsuc}

-- Every number in the list is a byte.
abbrev pub AreBytes : List ℕ → Type 0
AreBytes bytes = All (λ b. b < 256) bytes

-- The number in big endian: each byte counts 256 to the power of the number of following bytes.
abbrev pub number : List ℕ → ℕ
number [] = 0
number (b ∷ bytes) = b * 256 ^ length bytes + number bytes

-- The number in little endian: the bytes after the first byte count 256 times as much.
abbrev pub little_number : List ℕ → ℕ
little_number [] = 0
little_number (b ∷ bytes) = b + 256 * little_number bytes

abbrev pub number_in : Bool → List ℕ → ℕ
number_in true bytes = little_number bytes
number_in false bytes = number bytes

-- The integer that `n` encodes in two's complement with `m` codes. The upper half of the codes is
-- negative.
abbrev pub twos_complement : ℕ → ℕ → ℤ
twos_complement m n = if nat_lt (2 * n) m then pos n else negsuc (m - suc n)

-- The integer that the bytes encode in big endian and two's complement.
abbrev pub signed : List ℕ → ℤ
signed bytes = twos_complement (256 ^ length bytes) (number bytes)

-- The bytes encode the list of doubles, with eight bytes for each double.
abbrev pub EncodesDoubles : Bool → List ℕ → List ℕ → Type 0
EncodesDoubles little [] bytes = bytes ≡ []
EncodesDoubles little (d ∷ ds) bytes =
    (8 ≤ length bytes) × (d ≡ number_in little (take 8 bytes))
    × EncodesDoubles little ds (drop 8 bytes)
