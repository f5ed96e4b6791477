-- Bytes at which no magic number begins.
use Rattle.std.specs.Prelude.{ℕ, ◌<◌, ◌≡◌, List, [], ◌∷◌, take, drop}

-- The first three bytes of each magic number.
abbrev pub magic_prefix : List ℕ
magic_prefix = 0x84 ∷ 0x95 ∷ 0xA6 ∷ []

-- No magic number begins at any of the first `n` bytes.
abbrev pub AreClear : List ℕ → ℕ → Type 0
AreClear bytes n = (k : ℕ) → k < n → take 3 (drop k bytes) ≡ magic_prefix → ⊥
