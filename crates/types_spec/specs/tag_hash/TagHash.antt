-- The integer that represents a polymorphic variant's tag (`caml_hash_variant` in `hash.c` of
-- OCaml's runtime).
use Rattle.std.specs.Prelude.{ℕ, ℤ, pos, ◌-ℤ◌, ◌+◌, ◌*◌, ◌^◌, ◌%◌, List, [], ◌∷◌, length, nat_lt}
use Rattle.std.specs.Prelude.{if◌then◌else◌}

-- The number whose digits in base 223 are the bytes. The last byte has weight 1. The number is
-- unbounded.
abbrev pub number_of_tag : List ℕ → ℕ
number_of_tag [] = 0
number_of_tag (byte ∷ bytes) = byte * 223 ^ length bytes + number_of_tag bytes

-- 31 bits as a signed number: bit patterns above 0x3FFFFFFF are negative.
abbrev pub signed_31 : ℕ → ℤ
signed_31 bits = if nat_lt 0x3FFFFFFF bits then pos bits -ℤ pos (2 ^ 31) else pos bits

-- The low 31 bits of the tag's number, as a signed number.
abbrev pub tag_hash : List ℕ → ℤ
tag_hash tag = signed_31 (number_of_tag tag % 2 ^ 31)
