-- Examples: the bytes that OCaml writes for some values are the canonical bytes by definition.
use Rattle.std.proofs.Common.{true, ◌^◌, ◌-◌, ◌≡◌, [], ◌∷◌, refl, pos, negsuc}
use Rattle.base_data.specs.declared.model.value.Obj.TheVariants as objects
use Rattle.marshal_spec.specs.format.Canonical.{integer_encoding, block_encoding, string_prefix, shared_encoding, doubles_prefix, custom_encoding, header_encoding, canon}
use Rattle.base_data.specs.declared.model.code.Custom.TheVariants as customs
use Rattle.marshal_spec.specs.format.Token.{integer, shared, block, leaf}
use Rattle.marshal_spec.specs.format.Tree.{Tree, Forest, node, none, more}

-- Examples: the encodings of integers at the bounds between two codes.
integers_0 : integer_encoding (pos 0) ≡ 0x40 ∷ []
unfolding integer_encoding
integers_0 = refl

integers_63 : integer_encoding (pos 63) ≡ 0x7f ∷ []
unfolding integer_encoding
integers_63 = refl

integers_64 : integer_encoding (pos 64) ≡ 0 ∷ 0x40 ∷ []
unfolding integer_encoding
integers_64 = refl

integers_m1 : integer_encoding (negsuc 0) ≡ 0 ∷ 0xff ∷ []
unfolding integer_encoding
integers_m1 = refl

integers_128 : integer_encoding (pos 128) ≡ 1 ∷ 0 ∷ 0x80 ∷ []
unfolding integer_encoding
integers_128 = refl

integers_m128 : integer_encoding (negsuc 127) ≡ 0 ∷ 0x80 ∷ []
unfolding integer_encoding
integers_m128 = refl

integers_m129 : integer_encoding (negsuc 128) ≡ 1 ∷ 0xff ∷ 0x7f ∷ []
unfolding integer_encoding
integers_m129 = refl

integers_32768 : integer_encoding (pos 32768) ≡ 2 ∷ 0 ∷ 0 ∷ 0x80 ∷ 0 ∷ []
unfolding integer_encoding
integers_32768 = refl

integers_below_30 : integer_encoding (pos (2 ^ 30 - 1)) ≡ 2 ∷ 0x3f ∷ 0xff ∷ 0xff ∷ 0xff ∷ []
unfolding integer_encoding
integers_below_30 = refl

integers_at_30 : integer_encoding (pos (2 ^ 30)) ≡ 3 ∷ 0 ∷ 0 ∷ 0 ∷ 0 ∷ 0x40 ∷ 0 ∷ 0 ∷ 0 ∷ []
unfolding integer_encoding
integers_at_30 = refl

integers_m30 : integer_encoding (negsuc (2 ^ 30 - 1)) ≡ 2 ∷ 0xc0 ∷ 0 ∷ 0 ∷ 0 ∷ []
unfolding integer_encoding
integers_m30 = refl

integers_greatest : integer_encoding (pos (2 ^ 62 - 1)) ≡ 3 ∷ 0x3f ∷ 0xff ∷ 0xff ∷ 0xff ∷ 0xff ∷ 0xff ∷ 0xff ∷ 0xff ∷ []
unfolding integer_encoding
integers_greatest = refl

integers_least : integer_encoding (negsuc (2 ^ 62 - 1)) ≡ 3 ∷ 0xc0 ∷ 0 ∷ 0 ∷ 0 ∷ 0 ∷ 0 ∷ 0 ∷ 0 ∷ []
unfolding integer_encoding
integers_least = refl

-- Examples: the encodings of blocks at the bounds between two codes.
block_7 : block_encoding 15 7 ≡ 0xff ∷ []
unfolding block_encoding
block_7 = refl

block_8 : block_encoding 0 8 ≡ 0x08 ∷ 0 ∷ 0 ∷ 0x20 ∷ 0 ∷ []
unfolding block_encoding
block_8 = refl

block_tag_16 : block_encoding 16 0 ≡ 0x08 ∷ 0 ∷ 0 ∷ 0 ∷ 0x10 ∷ []
unfolding block_encoding
block_tag_16 = refl

block_greatest_4 : block_encoding 0 (2 ^ 22 - 1) ≡ 0x08 ∷ 0xff ∷ 0xff ∷ 0xfc ∷ 0 ∷ []
unfolding block_encoding
block_greatest_4 = refl

block_least_8 : block_encoding 1 (2 ^ 22) ≡ 0x13 ∷ 0 ∷ 0 ∷ 0 ∷ 1 ∷ 0 ∷ 0 ∷ 0 ∷ 1 ∷ []
unfolding block_encoding
block_least_8 = refl

-- Examples: the prefixes of strings and of arrays of doubles at the bounds between two codes.
string_31 : string_prefix 31 ≡ 0x3f ∷ []
unfolding string_prefix
string_31 = refl

string_256 : string_prefix 256 ≡ 0x0a ∷ 0 ∷ 0 ∷ 1 ∷ 0 ∷ []
unfolding string_prefix
string_256 = refl

doubles_256 : doubles_prefix 256 ≡ 0x07 ∷ 0 ∷ 0 ∷ 1 ∷ 0 ∷ []
unfolding doubles_prefix
doubles_256 = refl

-- Examples: the encodings of custom blocks of each kind with the number 5.
custom_i64 : custom_encoding (customs.I64 (pos 5)) ≡ 0x19 ∷ 0x5f ∷ 0x6a ∷ 0 ∷ 0 ∷ 0 ∷ 0 ∷ 0 ∷ 0 ∷ 0 ∷ 0 ∷ 5 ∷ []
unfolding custom_encoding
custom_i64 = refl

custom_native : custom_encoding (customs.Native (pos 5)) ≡ 0x19 ∷ 0x5f ∷ 0x6e ∷ 0 ∷ 1 ∷ 0 ∷ 0 ∷ 0 ∷ 5 ∷ []
unfolding custom_encoding
custom_native = refl

custom_wide : custom_encoding (customs.Native (pos (2 ^ 31))) ≡ 0x19 ∷ 0x5f ∷ 0x6e ∷ 0 ∷ 2 ∷ 0 ∷ 0 ∷ 0 ∷ 0 ∷ 0x80 ∷ 0 ∷ 0 ∷ 0 ∷ []
unfolding custom_encoding
custom_wide = refl

-- ---- whole values

-- A forest of one tree.
abbrev alone : Tree → Forest
alone tree = more tree none

-- Example: the canonical bytes of the integer 1.
one : canon (node (integer (pos 1)) none) ≡ 0x84 ∷ 0x95 ∷ 0xa6 ∷ 0xbe ∷ 0 ∷ 0 ∷ 0 ∷ 1 ∷ 0 ∷ 0 ∷ 0 ∷ 0 ∷ 0 ∷ 0 ∷ 0 ∷ 0 ∷ 0 ∷ 0 ∷ 0 ∷ 0 ∷ 0x41 ∷ []
unfolding canon header_encoding integer_encoding
one = refl

-- Example: the canonical bytes of the list of 1 and 2.
list_of_two : canon (node (block 0 2) (more (node (integer (pos 1)) none) (alone (node (block 0 2) (more (node (integer (pos 2)) none) (alone (node (integer (pos 0)) none))))))) ≡ 0x84 ∷ 0x95 ∷ 0xa6 ∷ 0xbe ∷ 0 ∷ 0 ∷ 0 ∷ 5 ∷ 0 ∷ 0 ∷ 0 ∷ 2 ∷ 0 ∷ 0 ∷ 0 ∷ 6 ∷ 0 ∷ 0 ∷ 0 ∷ 6 ∷ 0xa0 ∷ 0x41 ∷ 0xa0 ∷ 0x42 ∷ 0x40 ∷ []
unfolding canon header_encoding integer_encoding block_encoding
list_of_two = refl

-- Example: the canonical bytes of a pair whose two fields refer to one object.
shared_pair : canon (node (block 0 2) (more (node (block 0 1) (alone (node (integer (pos 0)) none))) (alone (node (shared 1) none)))) ≡ 0x84 ∷ 0x95 ∷ 0xa6 ∷ 0xbe ∷ 0 ∷ 0 ∷ 0 ∷ 5 ∷ 0 ∷ 0 ∷ 0 ∷ 2 ∷ 0 ∷ 0 ∷ 0 ∷ 5 ∷ 0 ∷ 0 ∷ 0 ∷ 5 ∷ 0xa0 ∷ 0x90 ∷ 0x40 ∷ 0x04 ∷ 0x01 ∷ []
unfolding canon header_encoding integer_encoding block_encoding shared_encoding
shared_pair = refl

-- Example: the canonical bytes of the double 1.0.
double_one : canon (node (leaf (objects.Double 0x3ff0000000000000)) none) ≡ 0x84 ∷ 0x95 ∷ 0xa6 ∷ 0xbe ∷ 0 ∷ 0 ∷ 0 ∷ 9 ∷ 0 ∷ 0 ∷ 0 ∷ 1 ∷ 0 ∷ 0 ∷ 0 ∷ 3 ∷ 0 ∷ 0 ∷ 0 ∷ 2 ∷ 0x0c ∷ 0 ∷ 0 ∷ 0 ∷ 0 ∷ 0 ∷ 0 ∷ 0xf0 ∷ 0x3f ∷ []
unfolding canon header_encoding
double_one = refl

-- Example: the encoding of a header whose length does not fit four bytes.
big_header : header_encoding (record { big = true; length = 2 ^ 32; objects = 1; w32 = 7; w64 = 3 }) ≡ 0x84 ∷ 0x95 ∷ 0xa6 ∷ 0xbf ∷ 0 ∷ 0 ∷ 0 ∷ 0 ∷ 0 ∷ 0 ∷ 0 ∷ 1 ∷ 0 ∷ 0 ∷ 0 ∷ 0 ∷ 0 ∷ 0 ∷ 0 ∷ 0 ∷ 0 ∷ 0 ∷ 0 ∷ 1 ∷ 0 ∷ 0 ∷ 0 ∷ 0 ∷ 0 ∷ 0 ∷ 0 ∷ 3 ∷ []
unfolding header_encoding
big_header = refl
