-- The words of an object: a header with tag and size, and then the body (`mlvalues.h`).
use Rattle.std.specs.Prelude.{ℕ, ◌+◌, ◌-◌, ◌*◌, ◌/◌, ◌%◌, ◌^◌, List, [], ◌∷◌, ◌++◌, length, map}
use Rattle.std.specs.Prelude.{take, drop, replicate, slice_index, ℤ, pos, negsuc}
use Rattle.std.specs.List.{range_with_len}
use Rattle.std.specs.Int.{w64, to_le_bytes, from_le_bytes}
use Rattle.base_data.specs.declared.model.value.Obj.{Obj}
use Rattle.base_data.specs.declared.model.value.Obj.TheVariants as objects
use Rattle.base_data.specs.declared.model.code.Custom.{Custom}
use Rattle.base_data.specs.declared.model.code.Custom.TheVariants as customs
use Rattle.marshal_heap.specs.heap.Heap.{position, word_with, object_words}

-- The word of an integer of 64 bits in two's complement.
abbrev pub signed_word : ℤ → ℕ
signed_word (pos n) = n
signed_word (negsuc n) = 2 ^ 64 - 1 - n

-- The bytes of a string, padded to whole words. The last byte is the number of zero bytes before
-- the last byte.
abbrev pub padded : List ℕ → List ℕ
padded bytes = bytes ++ (replicate (7 - length bytes % 8) 0 ++ (7 - length bytes % 8) ∷ [])

-- The word of eight bytes, least significant byte first.
unfoldable pub word_of_bytes : List ℕ → ℕ
word_of_bytes bytes = from_le_bytes w64 bytes

unfoldable pub bytes_of_word : ℕ → List ℕ
bytes_of_word word = to_le_bytes w64 word

abbrev pub word_at : List ℕ → ℕ → ℕ
word_at bytes j = word_of_bytes (take 8 (drop (8 * j) bytes))

unfoldable pub string_words : List ℕ → List ℕ
string_words bytes = map (word_at (padded bytes)) (range_with_len 0 (length bytes / 8 + 1))

-- The words of a custom block after the header: a number for the block's kind, and the block's
-- data.
abbrev pub custom_words : Custom → List ℕ
custom_words (customs.I32 z) = 1 ∷ signed_word z ∷ []
custom_words (customs.I64 z) = 2 ∷ signed_word z ∷ []
custom_words (customs.Native z) = 3 ∷ signed_word z ∷ []

-- The tag in the header of an object.
abbrev pub tag_of : Obj → ℕ
tag_of (objects.Block tag values) = tag
tag_of (objects.Bytes bytes) = 252
tag_of (objects.Double bits) = 253
tag_of (objects.Doubles all) = 254
tag_of object = 255

abbrev pub body_with : (ℕ → ℕ) → Obj → List ℕ
body_with positions (objects.Block tag values) = map (word_with positions) values
body_with positions (objects.Bytes bytes) = string_words bytes
body_with positions (objects.Double bits) = bits ∷ []
body_with positions (objects.Doubles all) = all
body_with positions (objects.I32 z) = custom_words (customs.I32 z)
body_with positions (objects.I64 z) = custom_words (customs.I64 z)
body_with positions (objects.Native z) = custom_words (customs.Native z)

abbrev pub body_of : List Obj → Obj → List ℕ
body_of graph object = body_with (position graph) object

abbrev pub header : ℕ → ℕ → ℕ
header tag size = size * 1024 + tag

abbrev pub code_with : (ℕ → ℕ) → Obj → List ℕ
code_with positions object =
    header (tag_of object) (length (body_with positions object)) ∷ body_with positions object

-- The header word of an object: its tag, and the number of words after the header.
abbrev pub header_of : Obj → ℕ
header_of object = header (tag_of object) (object_words object - 1)

-- Byte `i` of the string that the words store.
abbrev pub byte_in : List ℕ → ℕ → ℕ
byte_in words i = slice_index (bytes_of_word (slice_index words (i / 8))) (i % 8)
