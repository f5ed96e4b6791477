-- Decoding the header at the beginning of a value (`intern.c`).
use Rattle.std.specs.Prelude.{ℕ, ◌+◌, ◌-◌, ◌<◌, ◌≤◌, ◌≡◌, ◌≢◌, ◌⊎◌, ◌==◌, ◌||◌, nat_lt, List}
use Rattle.std.specs.Prelude.{length, Result, Ok, Err, if◌then◌else◌}
use Rattle.marshal_codec.specs.declared.headers.parsing.HeaderStep.{HeaderStep}
use Rattle.marshal_codec.specs.declared.headers.parsing.HeaderStep.TheVariants as steps
use Rattle.marshal_codec.specs.declared.headers.parsing.HeadFault.{HeadFault}
use Rattle.marshal_codec.specs.declared.headers.parsing.HeadFault.TheVariants as faults
use Rattle.marshal_spec.specs.format.Header.{magic, small_magic, big_magic, compressed_magic}
use Rattle.marshal_spec.specs.format.Header.{header_length}
use Rattle.marshal_spec.specs.format.Header.{head_of}

-- The header, or the number of bytes that are missing up to the end of the header.
abbrev pub rest_step : List ℕ → HeaderStep
rest_step bytes =
    if nat_lt (length bytes) (header_length bytes)
    then steps.More (header_length bytes - length bytes)
    else steps.Head (head_of bytes)

-- The result of decoding a header. The magic number is checked as soon as its four bytes are
-- complete.
abbrev pub header_step : List ℕ → Result HeaderStep HeadFault
header_step bytes =
    if nat_lt (length bytes) 4 then Ok (steps.More (4 - length bytes))
    else if magic bytes == compressed_magic then Err faults.Compressed
    else if (magic bytes == small_magic) || (magic bytes == big_magic) then Ok (rest_step bytes)
    else Err (faults.BadMagic (magic bytes))

-- ---- what each result means

abbrev pub HasMagic : List ℕ → Type 0
HasMagic bytes = (magic bytes ≡ small_magic) ⊎ (magic bytes ≡ big_magic)

-- The number of bytes needed. If the magic number is incomplete, four bytes are needed; if not, all
-- bytes of the header that begins with the magic number.
abbrev pub wanted : List ℕ → ℕ
wanted bytes = if nat_lt (length bytes) 4 then 4 else header_length bytes

abbrev pub IsStep : List ℕ → HeaderStep → Type 0
IsStep bytes (steps.More n) =
    (4 ≤ length bytes → HasMagic bytes) × (0 < n) × (length bytes + n ≡ wanted bytes)
IsStep bytes (steps.Head head) =
    HasMagic bytes × (header_length bytes ≤ length bytes) × (head ≡ head_of bytes)

abbrev pub IsFault : List ℕ → HeadFault → Type 0
IsFault bytes (faults.BadMagic m) =
    (4 ≤ length bytes) × (m ≡ magic bytes) × (m ≢ small_magic) × (m ≢ big_magic)
    × (m ≢ compressed_magic)
IsFault bytes faults.Compressed = (4 ≤ length bytes) × (magic bytes ≡ compressed_magic)
