-- The header of a value (`intext.h`, `intern.c`). All numbers in a header are big endian.
use Rattle.std.specs.Prelude.{ℕ, ◌==◌, true, false, List, take, slice_range, if◌then◌else◌}
use Rattle.base_data.specs.declared.model.header.Head.{Head}
use Rattle.base_data.specs.model.Bytes.{number}

abbrev pub small_magic : ℕ
small_magic = 0x8495A6BE

abbrev pub big_magic : ℕ
big_magic = 0x8495A6BF

abbrev pub compressed_magic : ℕ
compressed_magic = 0x8495A6BD

abbrev pub magic : List ℕ → ℕ
magic bytes = number (take 4 bytes)

-- The length of a header that begins with these bytes.
abbrev pub header_length : List ℕ → ℕ
header_length bytes = if magic bytes == big_magic then 32 else 20

-- The contents of a header. A small header has four numbers of four bytes: data length, objects,
-- words on 32 bits and words on 64 bits. A big header has four reserved bytes, and then three
-- numbers of eight bytes, without the words on 32 bits.
abbrev pub small_head : List ℕ → Head
small_head bytes = record {
  big = false;
  length = number (slice_range bytes 4 8);
  objects = number (slice_range bytes 8 12);
  w32 = number (slice_range bytes 12 16);
  w64 = number (slice_range bytes 16 20);
}

abbrev pub big_head : List ℕ → Head
big_head bytes = record {
  big = true;
  length = number (slice_range bytes 8 16);
  objects = number (slice_range bytes 16 24);
  w32 = 0;
  w64 = number (slice_range bytes 24 32);
}

unfoldable pub head_of : List ℕ → Head
head_of bytes = if magic bytes == big_magic then big_head bytes else small_head bytes
