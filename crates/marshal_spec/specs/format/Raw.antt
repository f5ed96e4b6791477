-- Raw tokens. A raw token has the fields of a token with their lengths, but any contents
-- (`intern.c`).
use Rattle.std.specs.Prelude.{ℕ, zero, suc, ◌+◌, ◌*◌, ◌/◌, ◌<◌, ◌≡◌, ◌==◌, List, [], ◌∷◌, take}
use Rattle.std.specs.Prelude.{length, Option, Some, None, Result, Ok, Err, slice_index}
use Rattle.std.specs.Prelude.{if◌then◌else◌}
use Rattle.base_data.specs.declared.model.code.CodeKind.{CodeKind}
use Rattle.base_data.specs.declared.model.code.CodeKind.TheVariants as kinds
use Rattle.base_data.specs.declared.model.code.CodeFault.{CodeFault}
use Rattle.base_data.specs.declared.model.code.CustomKind.{CustomKind}
use Rattle.base_data.specs.declared.model.code.CustomKind.TheVariants as customs
use Rattle.base_data.specs.declared.model.code.Measure.{Measure}
use Rattle.base_data.specs.declared.model.code.Measure.TheVariants as measures
use Rattle.base_data.specs.model.Bytes.{number}
use Rattle.marshal_spec.specs.format.Code.{kind_of, custom_of, native_bytes}

-- The number of bytes after the code that every token of the kind has.
abbrev pub fixed_bytes : CodeKind → ℕ
fixed_bytes (kinds.SmallBlock tag size) = 0
fixed_bytes (kinds.SmallInt n) = 0
fixed_bytes (kinds.SmallString n) = 0
fixed_bytes (kinds.Int width) = width
fixed_bytes (kinds.Shared width) = width
fixed_bytes (kinds.Block width) = width
fixed_bytes (kinds.Str width) = width
fixed_bytes (kinds.Double little) = 8
fixed_bytes (kinds.Doubles width little) = width
fixed_bytes (kinds.Custom old) = 3

-- The number of fixed bytes that hold more than content: a header word, an offset, a length, an
-- identifier, or an integer of eight bytes.
abbrev pub field_bytes : CodeKind → ℕ
field_bytes (kinds.SmallBlock tag size) = 0
field_bytes (kinds.SmallInt n) = 0
field_bytes (kinds.SmallString n) = 0
field_bytes (kinds.Int width) = if width == 8 then 8 else 0
field_bytes (kinds.Shared width) = width
field_bytes (kinds.Block width) = width
field_bytes (kinds.Str width) = width
field_bytes (kinds.Double little) = 0
field_bytes (kinds.Doubles width little) = width
field_bytes (kinds.Custom old) = 3

-- The number of bytes of a custom block's data. The data of a `Nativeint` include the kind byte,
-- which is a field too.
abbrev pub custom_bytes : Option CustomKind → ℕ → ℕ
custom_bytes None kind = 0
custom_bytes (Some customs.Int32) kind = 4
custom_bytes (Some customs.Int64) kind = 8
custom_bytes (Some customs.Native) kind = 1 + native_bytes kind

abbrev pub kind_bytes : Option CustomKind → ℕ
kind_bytes None = 0
kind_bytes (Some customs.Int32) = 0
kind_bytes (Some customs.Int64) = 0
kind_bytes (Some customs.Native) = 1

abbrev pub custom_measure : Option CustomKind → Option Measure
custom_measure None = None
custom_measure (Some customs.Int32) = Some (measures.Custom 4 4)
custom_measure (Some customs.Int64) = Some (measures.Custom 8 8)
custom_measure (Some customs.Native) = Some (measures.Custom 4 8)

-- The number of bytes after the fixed bytes of a string, an array or a custom block. The bytes
-- after the code are `rest`.
abbrev pub variable_bytes : CodeKind → List ℕ → ℕ
variable_bytes (kinds.SmallBlock tag size) rest = 0
variable_bytes (kinds.SmallInt n) rest = 0
variable_bytes (kinds.SmallString n) rest = n
variable_bytes (kinds.Int width) rest = 0
variable_bytes (kinds.Shared width) rest = 0
variable_bytes (kinds.Block width) rest = 0
variable_bytes (kinds.Str width) rest = number (take width rest)
variable_bytes (kinds.Double little) rest = 0
variable_bytes (kinds.Doubles width little) rest = 8 * number (take width rest)
variable_bytes (kinds.Custom old) rest = custom_bytes (custom_of (take 3 rest)) (slice_index rest 3)

-- The measure of the object that a block of this size makes.
abbrev pub block_measure : ℕ → Option Measure
block_measure zero = None
block_measure (suc n) = Some (measures.Block (suc n))

abbrev pub measure_after : CodeKind → List ℕ → Option Measure
measure_after (kinds.SmallBlock tag size) rest = block_measure size
measure_after (kinds.SmallInt n) rest = None
measure_after (kinds.SmallString n) rest = Some (measures.Bytes n)
measure_after (kinds.Int width) rest = None
measure_after (kinds.Shared width) rest = None
measure_after (kinds.Block width) rest = block_measure (number (take width rest) / 1024)
measure_after (kinds.Str width) rest = Some (measures.Bytes (number (take width rest)))
measure_after (kinds.Double little) rest = Some measures.Double
measure_after (kinds.Doubles width little) rest = Some (measures.Doubles (number (take width rest)))
measure_after (kinds.Custom old) rest = custom_measure (custom_of (take 3 rest))

-- The number of bytes after the code that determine the length of the whole token.
abbrev pub sizing_bytes : CodeKind → List ℕ → ℕ
sizing_bytes (kinds.Custom old) rest = 3 + kind_bytes (custom_of (take 3 rest))
sizing_bytes kind rest = field_bytes kind

abbrev pub length_after : Result CodeKind CodeFault → List ℕ → ℕ
length_after (Ok kind) rest = fixed_bytes kind + variable_bytes kind rest
length_after (Err fault) rest = 0

-- The length of a raw token that begins with these bytes.
abbrev pub raw_length : List ℕ → ℕ
raw_length [] = 1
raw_length (code ∷ rest) = 1 + length_after (kind_of code) rest

abbrev pub measure_from : Result CodeKind CodeFault → List ℕ → Option Measure
measure_from (Ok kind) rest = measure_after kind rest
measure_from (Err fault) rest = None

-- The measure of the object that a raw token makes.
abbrev pub raw_measure : List ℕ → Option Measure
raw_measure [] = None
raw_measure (code ∷ rest) = measure_from (kind_of code) rest

abbrev pub IsRaw : List ℕ → Type 0
IsRaw token = length token ≡ raw_length token

-- The bytes are a proper prefix of a raw token, possibly the empty prefix.
abbrev pub IsPart : List ℕ → Type 0
IsPart token = length token < raw_length token
