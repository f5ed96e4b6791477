-- The bytes that the runtime writes (`extern.c`): one encoding for each token, and a header with
-- the full number of objects.
use Rattle.std.specs.Prelude.{ℕ, suc, ◌+◌, ◌-◌, ◌*◌, ◌^◌, Bool, ◌&&◌, ◌||◌, nat_lt, nat_le, List}
use Rattle.std.specs.Prelude.{[], ◌∷◌, ◌++◌, length, map, flat_map, if◌then◌else◌, ℤ, pos, negsuc}
use Rattle.std.specs.Int.{bytes_high_first, bytes_low_first}
use Rattle.base_data.specs.declared.model.value.Obj.{Obj}
use Rattle.base_data.specs.declared.model.value.Obj.TheVariants as objects
use Rattle.base_data.specs.declared.model.code.Custom.{Custom}
use Rattle.base_data.specs.declared.model.code.Custom.TheVariants as customs
use Rattle.base_data.specs.declared.model.header.Head.{Head}
use Rattle.marshal_spec.specs.format.Header.{small_magic, big_magic}
use Rattle.marshal_spec.specs.format.Words.{objects as object_count, all_words32, all_words64}
use Rattle.marshal_spec.specs.format.Token.{Token, integer, atom, shared, block, leaf, measure_of}
use Rattle.marshal_spec.specs.format.Tree.{Tree, tokens}

-- The integer lies between -2 ^ `k` and 2 ^ `k` - 1.
abbrev pub is_signed : ℕ → ℤ → Bool
is_signed k (pos n) = nat_lt n (2 ^ k)
is_signed k (negsuc n) = nat_lt n (2 ^ k)

-- The bytes of the integer in two's complement, `width` bytes with the most significant byte first.
abbrev pub signed_bytes : ℕ → ℤ → List ℕ
signed_bytes width (pos n) = bytes_high_first width n
signed_bytes width (negsuc n) = bytes_high_first width (256 ^ width - suc n)

-- The eight bytes of a double, with the least significant byte first.
abbrev pub double_bytes : ℕ → List ℕ
double_bytes bits = bytes_low_first 0 8 bits

-- ---- a token

-- The encoding of an integer that its code does not contain: a code, and then the bytes of the
-- integer.
abbrev pub wide_integer : ℤ → List ℕ
wide_integer z =
    if is_signed 7 z then 0x00 ∷ signed_bytes 1 z
    else if is_signed 15 z then 0x01 ∷ signed_bytes 2 z
    else if is_signed 30 z then 0x02 ∷ signed_bytes 4 z
    else 0x03 ∷ signed_bytes 8 z

-- The encoding of an integer. If the integer is from 0 to 63, then the code contains the integer.
unfoldable pub integer_encoding : ℤ → List ℕ
integer_encoding (pos n) = if nat_lt n 64 then (0x40 + n) ∷ [] else wide_integer (pos n)
integer_encoding (negsuc n) = wide_integer (negsuc n)

-- The header word of a block, with bits 8 and 9 set to 0.
abbrev pub block_word : ℕ → ℕ → ℕ
block_word tag size = tag + 1024 * size

-- The encoding of a block's tag and size. A block of size 0 is an atom.
unfoldable pub block_encoding : ℕ → ℕ → List ℕ
block_encoding tag size =
    if nat_lt tag 16 && nat_lt size 8 then (0x80 + 16 * size + tag) ∷ []
    else if nat_lt (block_word tag size) (2 ^ 32)
    then 0x08 ∷ bytes_high_first 4 (block_word tag size)
    else 0x13 ∷ bytes_high_first 8 (block_word tag size)

-- The bytes that precede the content of a string of length `n`.
unfoldable pub string_prefix : ℕ → List ℕ
string_prefix n =
    if nat_lt n 32 then (0x20 + n) ∷ []
    else if nat_lt n (2 ^ 8) then 0x09 ∷ bytes_high_first 1 n
    else if nat_lt n (2 ^ 32) then 0x0a ∷ bytes_high_first 4 n
    else 0x15 ∷ bytes_high_first 8 n

-- The encoding of a reference with this offset.
unfoldable pub shared_encoding : ℕ → List ℕ
shared_encoding offset =
    if nat_lt offset (2 ^ 8) then 0x04 ∷ bytes_high_first 1 offset
    else if nat_lt offset (2 ^ 16) then 0x05 ∷ bytes_high_first 2 offset
    else if nat_lt offset (2 ^ 32) then 0x06 ∷ bytes_high_first 4 offset
    else 0x14 ∷ bytes_high_first 8 offset

-- The bytes that precede the elements of a double array of length `n`.
unfoldable pub doubles_prefix : ℕ → List ℕ
doubles_prefix n =
    if nat_lt n (2 ^ 8) then 0x0e ∷ bytes_high_first 1 n
    else if nat_lt n (2 ^ 32) then 0x07 ∷ bytes_high_first 4 n
    else 0x17 ∷ bytes_high_first 8 n

-- The bytes of a `Nativeint` after the identifier `_n`: the kind byte and the number.
abbrev pub native_encoding : ℤ → List ℕ
native_encoding z = if is_signed 31 z then 1 ∷ signed_bytes 4 z else 2 ∷ signed_bytes 8 z

-- The encoding of a custom block: its code, identifier and data.
unfoldable pub custom_encoding : Custom → List ℕ
custom_encoding (customs.I32 z) = 0x19 ∷ 95 ∷ 105 ∷ 0 ∷ signed_bytes 4 z
custom_encoding (customs.I64 z) = 0x19 ∷ 95 ∷ 106 ∷ 0 ∷ signed_bytes 8 z
custom_encoding (customs.Native z) = 0x19 ∷ 95 ∷ 110 ∷ 0 ∷ native_encoding z

-- The encoding of an object without fields.
abbrev pub leaf_encoding : Obj → List ℕ
leaf_encoding (objects.Block tag values) = []
leaf_encoding (objects.Bytes bytes) = string_prefix (length bytes) ++ bytes
leaf_encoding (objects.Double bits) = 0x0c ∷ double_bytes bits
leaf_encoding (objects.Doubles all) = doubles_prefix (length all) ++ flat_map double_bytes all
leaf_encoding (objects.I32 z) = custom_encoding (customs.I32 z)
leaf_encoding (objects.I64 z) = custom_encoding (customs.I64 z)
leaf_encoding (objects.Native z) = custom_encoding (customs.Native z)

abbrev pub encoding : Token → List ℕ
encoding (integer z) = integer_encoding z
encoding (atom tag) = block_encoding tag 0
encoding (shared offset) = shared_encoding offset
encoding (block tag size) = block_encoding tag size
encoding (leaf object) = leaf_encoding object

-- ---- a value

-- A small header has five numbers of four bytes. A big header has the magic number, four reserved
-- bytes, and three numbers of eight bytes.
unfoldable pub header_encoding : Head → List ℕ
header_encoding head =
    if head.big
    then flat_map (bytes_high_first 4) (big_magic ∷ 0 ∷ [])
    ++ flat_map (bytes_high_first 8) (head.length ∷ head.objects ∷ head.w64 ∷ [])
    else flat_map (bytes_high_first 4)
    (small_magic ∷ head.length ∷ head.objects ∷ head.w32 ∷ head.w64 ∷ [])

abbrev pub data_encoding : List Token → List ℕ
data_encoding all = flat_map encoding all

-- At least one of the numbers `n`, `w32` and `w64` does not fit four bytes, so the header must be
-- big.
abbrev pub is_big : ℕ → ℕ → ℕ → Bool
is_big n w32 w64 = nat_le (2 ^ 32) n || (nat_le (2 ^ 32) w32 || nat_le (2 ^ 32) w64)

-- The canonical header of a value with these tokens: the length of the data, the number of all
-- objects, and the objects' sizes in words.
abbrev pub canonical_head : List Token → Head
canonical_head all =
    let n = length (data_encoding all) in
    let w32 = all_words32 (map measure_of all) in
    let w64 = all_words64 (map measure_of all) in
    record {
      big = is_big n w32 w64;
      length = n;
      objects = object_count (map measure_of all);
      w32 = w32;
      w64 = w64;
    }

-- The canonical bytes of the value that the tree encodes.
unfoldable pub canon : Tree → List ℕ
canon tree = header_encoding (canonical_head (tokens tree)) ++ data_encoding (tokens tree)
