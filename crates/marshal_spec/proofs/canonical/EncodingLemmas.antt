-- The canonical encoding of a token is an encoding of that token.
use Rattle.std.proofs.Common.{false, ℕ, zero, suc, ◌≡◌, ◌+◌, ◌-◌, ◌*◌, ◌/◌, ◌%◌, ◌^◌, ◌<◌, ◌≤◌, ◌∙◌, ◌&&◌, true, cond, ltb, ltb-true, List, [], ◌∷◌, ◌++◌, length, take, drop, Ok, inl, inr, refl, sym, ap, subst, arith, pos, negsuc, ℤ, length-append}
use Rattle.std.specs.Prelude.{flat_map}
use Rattle.std.specs.Int.{bytes_high_first}
use Rattle.std.proofs.lemmas.Bool.{cond_both, and_parts}
use Rattle.std.proofs.lemmas.Bool.Decides.{nat_tests}
use Rattle.std.proofs.lemmas.List.{take_at, drop_at}
use Rattle.base_data.specs.declared.model.value.Obj.{Obj}
use Rattle.base_data.specs.declared.model.value.Obj.TheVariants as objects
use Rattle.base_data.specs.declared.model.code.CodeKind.{CodeKind}
use Rattle.base_data.specs.declared.model.code.CodeKind.TheVariants as kinds
use Rattle.base_data.specs.declared.model.code.Custom.TheVariants as customs
use Rattle.base_data.specs.model.Bytes.{number}
use Rattle.base_data.specs.model.Graph.{IsSigned, IsInteger}
use Rattle.marshal_spec.specs.format.Code.{kind_of}
use Rattle.marshal_spec.specs.format.Token.{Token, integer, atom, shared, block, leaf, IsToken, IsLeaf, block_or_atom, word_token, EncodesAfter, EncodesFrom, Encodes}
use Rattle.marshal_spec.specs.format.Canonical.{is_signed, signed_bytes, double_bytes, wide_integer, integer_encoding, block_word, block_encoding, string_prefix, shared_encoding, doubles_prefix, custom_encoding, leaf_encoding, encoding}
use Rattle.marshal_spec.proofs.format.EncodeNumbers.{IsSigned-wider}
use Rattle.marshal_spec.specs.canonical.Laws.{LeafHasEncoding, HasEncoding}
use Rattle.marshal_spec.proofs.canonical.ByteLemmas.{length-bytes, number-bytes, length-signed_bytes, signed-signed_bytes, little-double_bytes, EncodesDoubles-double_bytes}

-- If a code has the kind `kind` and bytes encode a token after `kind`, then the code and the bytes
-- encode the token.
by_kind : (t : Token) (code : ℕ) (kind : CodeKind) (rest : List ℕ) → kind_of code ≡ Ok kind → IsToken t → EncodesAfter kind rest t → Encodes t (code ∷ rest)
by_kind t code kind rest is h encodes = (h, subst (λ k. EncodesFrom k rest t) (sym is) encodes)

-- ---- codes that contain a number

kind_small_int : (n : ℕ) → n < 64 → kind_of (0x40 + n) ≡ Ok (kinds.SmallInt n)
unfolding kind_of
kind_small_int n h =
    let low : (0x40 + n) % 64 ≡ n = omega arith in
    grind (arith, nat_tests)

kind_small_string : (n : ℕ) → n < 32 → kind_of (0x20 + n) ≡ Ok (kinds.SmallString n)
unfolding kind_of
kind_small_string n h =
    let low : (0x20 + n) % 32 ≡ n = omega arith in
    grind (arith, nat_tests)

kind_small_block : (tag size : ℕ) → tag < 16 → size < 8 → kind_of (0x80 + 16 * size + tag) ≡ Ok (kinds.SmallBlock tag size)
unfolding kind_of
kind_small_block tag size h k =
    let low : (0x80 + 16 * size + tag) % 16 ≡ tag = omega arith in
    let high : (0x80 + 16 * size + tag) / 16 % 8 ≡ size = omega arith in
    grind (arith, nat_tests)

-- ---- integers

is_signed-true : (k : ℕ) (z : ℤ) → is_signed k z ≡ true → IsSigned k z
is_signed-true k (pos n) e = ltb-true n (2 ^ k) e
is_signed-true k (negsuc n) e = ltb-true n (2 ^ k) e

-- If a code has the kind `Int (suc k)`, then the code and the integer's `k` + 1 bytes encode the
-- integer.
int_of : (z : ℤ) (code k : ℕ) → kind_of code ≡ Ok (kinds.Int (suc k)) → IsInteger z → IsSigned (8 * suc k - 1) z → Encodes (integer z) (code ∷ signed_bytes (suc k) z)
int_of z code k is h fits =
    by_kind (integer z) code (kinds.Int (suc k)) (signed_bytes (suc k) z) is h
    (length-signed_bytes (suc k) z, ap integer (sym (signed-signed_bytes k z fits)))

wide_encodes : (z : ℤ) → IsInteger z → Encodes (integer z) (wide_integer z)
unfolding kind_of
wide_encodes z h =
    let P : List ℕ → Type 0 = λ bytes. Encodes (integer z) bytes in
    let four = cond (is_signed 30 z) (0x02 ∷ signed_bytes 4 z) (0x03 ∷ signed_bytes 8 z) in
    let two = cond (is_signed 15 z) (0x01 ∷ signed_bytes 2 z) four in
    cond_both (is_signed 7 z) (0x00 ∷ signed_bytes 1 z) two P
    (λ e. int_of z 0 0 refl h (is_signed-true 7 z e))
    (λ _. cond_both (is_signed 15 z) (0x01 ∷ signed_bytes 2 z) four P
    (λ e. int_of z 1 1 refl h (is_signed-true 15 z e))
    (λ _. cond_both (is_signed 30 z) (0x02 ∷ signed_bytes 4 z) (0x03 ∷ signed_bytes 8 z) P
    (λ e. int_of z 2 3 refl h (IsSigned-wider 30 31 (omega arith) z (is_signed-true 30 z e)))
    (λ _. int_of z 3 7 refl h (IsSigned-wider 62 63 (omega arith) z h))))

integer_encodes : (z : ℤ) → IsInteger z → Encodes (integer z) (integer_encoding z)
unfolding integer_encoding
integer_encodes (pos n) h =
    cond_both (ltb n 64) ((0x40 + n) ∷ []) (wide_integer (pos n)) (λ bytes. Encodes (integer (pos n)) bytes)
    (λ e. by_kind (integer (pos n)) (0x40 + n) (kinds.SmallInt n) [] (kind_small_int n (ltb-true n 64 e)) h (refl, refl))
    (λ _. wide_encodes (pos n) h)
integer_encodes (negsuc n) h = wide_encodes (negsuc n) h

-- ---- blocks and atoms

word_token-word : (tag size : ℕ) → tag ≤ 243 → word_token (block_word tag size) ≡ block_or_atom tag size
word_token-word tag size h =
    let low : block_word tag size % 256 ≡ tag = omega arith in
    let high : block_word tag size / 1024 ≡ size = omega arith in
    rw (low, high) refl

block_of : (t : Token) (tag size code width : ℕ) → kind_of code ≡ Ok (kinds.Block width) → t ≡ block_or_atom tag size → IsToken t → tag ≤ 243 → block_word tag size < 256 ^ width → Encodes t (code ∷ bytes_high_first width (block_word tag size))
block_of t tag size code width is e h low fits =
    let word : number (bytes_high_first width (block_word tag size)) ≡ block_word tag size = number-bytes width (block_word tag size) fits in
    by_kind t code (kinds.Block width) (bytes_high_first width (block_word tag size)) is h
    (length-bytes width (block_word tag size), rw word (e ∙ sym (word_token-word tag size low)))

block_encodes : (t : Token) (tag size : ℕ) → t ≡ block_or_atom tag size → IsToken t → tag ≤ 243 → size < 2 ^ 54 → Encodes t (block_encoding tag size)
unfolding block_encoding kind_of
block_encodes t tag size e h low few =
    let P : List ℕ → Type 0 = λ bytes. Encodes t bytes in
    let word = block_word tag size in
    let wide = cond (ltb word (2 ^ 32)) (0x08 ∷ bytes_high_first 4 word) (0x13 ∷ bytes_high_first 8 word) in
    cond_both (ltb tag 16 && ltb size 8) ((0x80 + 16 * size + tag) ∷ []) wide P
    (λ both.
    let parts = and_parts (ltb tag 16) (ltb size 8) both in
    by_kind t (0x80 + 16 * size + tag) (kinds.SmallBlock tag size) []
    (kind_small_block tag size (ltb-true tag 16 parts.0) (ltb-true size 8 parts.1)) h (refl, e))
    (λ _. cond_both (ltb word (2 ^ 32)) (0x08 ∷ bytes_high_first 4 word) (0x13 ∷ bytes_high_first 8 word) P
    (λ b. block_of t tag size 0x08 4 refl e h low (ltb-true word (2 ^ 32) b))
    (λ _. block_of t tag size 0x13 8 refl e h low (omega arith)))

block_is : (tag size : ℕ) → 0 < size → block tag size ≡ block_or_atom tag size
block_is tag zero some = absurd (omega arith)
block_is tag (suc n) some = refl

-- ---- strings

string_of : (bytes : List ℕ) (code width : ℕ) → kind_of code ≡ Ok (kinds.Str width) → IsToken (leaf (objects.Bytes bytes)) → length bytes < 256 ^ width → Encodes (leaf (objects.Bytes bytes)) (code ∷ bytes_high_first width (length bytes) ++ bytes)
string_of bytes code width is h fits =
    let prefix = bytes_high_first width (length bytes) in
    let few : length prefix ≡ width = length-bytes width (length bytes) in
    let rest : drop width (prefix ++ bytes) ≡ bytes = drop_at prefix bytes width few in
    let first : take width (prefix ++ bytes) ≡ prefix = take_at prefix bytes width few in
    by_kind (leaf (objects.Bytes bytes)) code (kinds.Str width) (prefix ++ bytes) is h
    (omega (arith, length-append prefix bytes), rw (rest, first) (sym (number-bytes width (length bytes) fits)), rw rest refl)

string_encodes : (bytes : List ℕ) → IsToken (leaf (objects.Bytes bytes)) → length bytes < 2 ^ 64 → Encodes (leaf (objects.Bytes bytes)) (string_prefix (length bytes) ++ bytes)
unfolding string_prefix kind_of
string_encodes bytes h few =
    let n = length bytes in
    let P : List ℕ → Type 0 = λ prefix. Encodes (leaf (objects.Bytes bytes)) (prefix ++ bytes) in
    let four = cond (ltb n (2 ^ 32)) (0x0a ∷ bytes_high_first 4 n) (0x15 ∷ bytes_high_first 8 n) in
    let one = cond (ltb n (2 ^ 8)) (0x09 ∷ bytes_high_first 1 n) four in
    cond_both (ltb n 32) ((0x20 + n) ∷ []) one P
    (λ e. by_kind (leaf (objects.Bytes bytes)) (0x20 + n) (kinds.SmallString n) bytes (kind_small_string n (ltb-true n 32 e)) h (refl, refl))
    (λ _. cond_both (ltb n (2 ^ 8)) (0x09 ∷ bytes_high_first 1 n) four P
    (λ e. string_of bytes 0x09 1 refl h (ltb-true n (2 ^ 8) e))
    (λ _. cond_both (ltb n (2 ^ 32)) (0x0a ∷ bytes_high_first 4 n) (0x15 ∷ bytes_high_first 8 n) P
    (λ e. string_of bytes 0x0a 4 refl h (ltb-true n (2 ^ 32) e))
    (λ _. string_of bytes 0x15 8 refl h few)))

-- ---- references

shared_of : (offset code width : ℕ) → kind_of code ≡ Ok (kinds.Shared width) → offset < 256 ^ width → Encodes (shared offset) (code ∷ bytes_high_first width offset)
shared_of offset code width is fits =
    by_kind (shared offset) code (kinds.Shared width) (bytes_high_first width offset) is tt
    (length-bytes width offset, ap shared (sym (number-bytes width offset fits)))

shared_encodes : (offset : ℕ) → offset < 2 ^ 64 → Encodes (shared offset) (shared_encoding offset)
unfolding shared_encoding kind_of
shared_encodes offset few =
    let P : List ℕ → Type 0 = λ bytes. Encodes (shared offset) bytes in
    let four = cond (ltb offset (2 ^ 32)) (0x06 ∷ bytes_high_first 4 offset) (0x14 ∷ bytes_high_first 8 offset) in
    let two = cond (ltb offset (2 ^ 16)) (0x05 ∷ bytes_high_first 2 offset) four in
    cond_both (ltb offset (2 ^ 8)) (0x04 ∷ bytes_high_first 1 offset) two P
    (λ e. shared_of offset 0x04 1 refl (ltb-true offset (2 ^ 8) e))
    (λ _. cond_both (ltb offset (2 ^ 16)) (0x05 ∷ bytes_high_first 2 offset) four P
    (λ e. shared_of offset 0x05 2 refl (ltb-true offset (2 ^ 16) e))
    (λ _. cond_both (ltb offset (2 ^ 32)) (0x06 ∷ bytes_high_first 4 offset) (0x14 ∷ bytes_high_first 8 offset) P
    (λ e. shared_of offset 0x06 4 refl (ltb-true offset (2 ^ 32) e))
    (λ _. shared_of offset 0x14 8 refl few)))

-- ---- doubles

double_encodes : (bits : ℕ) → bits < 2 ^ 64 → Encodes (leaf (objects.Double bits)) (0x0c ∷ double_bytes bits)
unfolding kind_of
double_encodes bits h =
    by_kind (leaf (objects.Double bits)) 0x0c (kinds.Double true) (double_bytes bits) refl h
    (refl, ap (λ n. leaf (objects.Double n)) (sym (little-double_bytes bits h)))

doubles_of : (all : List ℕ) (code width : ℕ) → kind_of code ≡ Ok (kinds.Doubles width true) → IsToken (leaf (objects.Doubles all)) → length all < 256 ^ width → Encodes (leaf (objects.Doubles all)) (code ∷ bytes_high_first width (length all) ++ flat_map double_bytes all)
doubles_of all code width is h fits =
    let prefix = bytes_high_first width (length all) in
    let content = flat_map double_bytes all in
    let few : length prefix ≡ width = length-bytes width (length all) in
    let rest : drop width (prefix ++ content) ≡ content = drop_at prefix content width few in
    let first : take width (prefix ++ content) ≡ prefix = take_at prefix content width few in
    by_kind (leaf (objects.Doubles all)) code (kinds.Doubles width true) (prefix ++ content) is h
    (all, omega (arith, length-append prefix content), rw first (sym (number-bytes width (length all) fits)), rw rest (EncodesDoubles-double_bytes all h.1), refl)

doubles_encodes : (all : List ℕ) → IsToken (leaf (objects.Doubles all)) → length all < 2 ^ 64 → Encodes (leaf (objects.Doubles all)) (doubles_prefix (length all) ++ flat_map double_bytes all)
unfolding doubles_prefix kind_of
doubles_encodes all h few =
    let n = length all in
    let P : List ℕ → Type 0 = λ prefix. Encodes (leaf (objects.Doubles all)) (prefix ++ flat_map double_bytes all) in
    let four = cond (ltb n (2 ^ 32)) (0x07 ∷ bytes_high_first 4 n) (0x17 ∷ bytes_high_first 8 n) in
    cond_both (ltb n (2 ^ 8)) (0x0e ∷ bytes_high_first 1 n) four P
    (λ e. doubles_of all 0x0e 1 refl h (ltb-true n (2 ^ 8) e))
    (λ _. cond_both (ltb n (2 ^ 32)) (0x07 ∷ bytes_high_first 4 n) (0x17 ∷ bytes_high_first 8 n) P
    (λ e. doubles_of all 0x07 4 refl h (ltb-true n (2 ^ 32) e))
    (λ _. doubles_of all 0x17 8 refl h few))

-- ---- customs

int32_encodes : (z : ℤ) → IsSigned 31 z → Encodes (leaf (objects.I32 z)) (custom_encoding (customs.I32 z))
unfolding custom_encoding kind_of
int32_encodes z h =
    by_kind (leaf (objects.I32 z)) 0x19 (kinds.Custom false) (95 ∷ 105 ∷ 0 ∷ signed_bytes 4 z) refl h
    (inl (signed_bytes 4 z, refl, length-signed_bytes 4 z, ap (λ n. leaf (objects.I32 n)) (sym (signed-signed_bytes 3 z h))))

int64_encodes : (z : ℤ) → IsSigned 63 z → Encodes (leaf (objects.I64 z)) (custom_encoding (customs.I64 z))
unfolding custom_encoding kind_of
int64_encodes z h =
    by_kind (leaf (objects.I64 z)) 0x19 (kinds.Custom false) (95 ∷ 106 ∷ 0 ∷ signed_bytes 8 z) refl h
    (inr (inl (signed_bytes 8 z, refl, length-signed_bytes 8 z, ap (λ n. leaf (objects.I64 n)) (sym (signed-signed_bytes 7 z h)))))

native_encodes : (z : ℤ) → IsSigned 63 z → Encodes (leaf (objects.Native z)) (custom_encoding (customs.Native z))
unfolding custom_encoding kind_of
native_encodes z h =
    let P : List ℕ → Type 0 = λ number. Encodes (leaf (objects.Native z)) (0x19 ∷ 95 ∷ 110 ∷ 0 ∷ number) in
    cond_both (is_signed 31 z) (1 ∷ signed_bytes 4 z) (2 ∷ signed_bytes 8 z) P
    (λ e. by_kind (leaf (objects.Native z)) 0x19 (kinds.Custom false) (95 ∷ 110 ∷ 0 ∷ 1 ∷ signed_bytes 4 z) refl h
    (inr (inr (inl (signed_bytes 4 z, refl, length-signed_bytes 4 z, ap (λ n. leaf (objects.Native n)) (sym (signed-signed_bytes 3 z (is_signed-true 31 z e))))))))
    (λ _. by_kind (leaf (objects.Native z)) 0x19 (kinds.Custom false) (95 ∷ 110 ∷ 0 ∷ 2 ∷ signed_bytes 8 z) refl h
    (inr (inr (inr (signed_bytes 8 z, refl, length-signed_bytes 8 z, ap (λ n. leaf (objects.Native n)) (sym (signed-signed_bytes 7 z h)))))))

-- ---- all tokens

leaf_encodes : (o : Obj) → IsLeaf o → LeafHasEncoding o → Encodes (leaf o) (leaf_encoding o)
leaf_encodes (objects.Block tag values) h few = absurd h
leaf_encodes (objects.Bytes bytes) h few = string_encodes bytes h few
leaf_encodes (objects.Double bits) h few = double_encodes bits h
leaf_encodes (objects.Doubles all) h few = doubles_encodes all h few
leaf_encodes (objects.I32 z) h few = int32_encodes z h
leaf_encodes (objects.I64 z) h few = int64_encodes z h
leaf_encodes (objects.Native z) h few = native_encodes z h

pub encoding_encodes_lem : (t : Token) → IsToken t → HasEncoding t → Encodes t (encoding t)
encoding_encodes_lem (integer z) h few = integer_encodes z h
encoding_encodes_lem (atom tag) h few = block_encodes (atom tag) tag 0 refl h h (omega arith)
encoding_encodes_lem (shared offset) h few = shared_encodes offset few
encoding_encodes_lem (block tag size) h few = block_encodes (block tag size) tag size (block_is tag size h.1) h h.0 few
encoding_encodes_lem (leaf o) h few = leaf_encodes o h few
