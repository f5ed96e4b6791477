-- The sizes of the tokens of a tree in bytes and in words.
use Rattle.std.proofs.Common.{ℕ, ◌≡◌, ◌+◌, ◌*◌, ◌≤◌, ◌^◌, ◌∙◌, ◌&&◌, Bool, true, false, cond, ltb, List, [], ◌∷◌, ◌++◌, length, map, refl, sym, ap, ap₂, arith, length-append, ℤ, pos, negsuc, FitsSigned, w64, to_z, of_z}
use Rattle.std.specs.Prelude.{flat_map}
use Rattle.std.specs.Int.{bytes_high_first}
use Rattle.std.proofs.lemmas.List.{map-append}
use Rattle.std.proofs.lemmas.Int.{ints, to_z-of_z}
use Rattle.std.proofs.lemmas.List.Concat.{flat_map-append}
use Rattle.std.proofs.lemmas.List.Sums.{sum_by-append, sum_by-cons}
use Rattle.base_data.specs.declared.model.value.Val.{Val}
use Rattle.base_data.specs.declared.model.value.Obj.TheVariants as objects
use Rattle.base_data.specs.model.Graph.{IsInteger}
use Rattle.marshal_spec.specs.format.Words.{of_object, fields, words32, words64, all_words32, all_words64}
use Rattle.marshal_spec.specs.format.Token.{Token, integer, atom, shared, block, leaf, IsToken, measure_of}
use Rattle.marshal_spec.specs.format.Tree.{Tree, Forest, node, none, more, trees_in, IsTree, AreTrees, tokens, forest_tokens, made, made_by, object_of, roots, objects_of, all_objects}
use Rattle.marshal_spec.specs.format.Canonical.{is_signed, signed_bytes, double_bytes, wide_integer, integer_encoding, block_word, block_encoding, string_prefix, shared_encoding, doubles_prefix, native_encoding, custom_encoding, encoding, data_encoding}
use Rattle.marshal_spec.proofs.format.Counts.{length-roots}
use Rattle.marshal_spec.proofs.canonical.ByteLemmas.{length-bytes, length-signed_bytes}
use Rattle.marshal_spec.proofs.canonical.CanonLemmas.{length-doubles}
use Rattle.marshal_heap.specs.heap.Heap.{object_words, heap_words}

-- ---- the words of the objects are the words of the tokens

token_words : (t : Token) (values : List Val) → length values ≡ of_object fields (measure_of t) → IsToken t → heap_words (object_of t values) ≡ of_object words64 (measure_of t)
token_words (integer z) values many h = refl
token_words (atom tag) values many h = refl
token_words (shared offset) values many h = refl
token_words (block tag size) values many h = omega (arith, sum_by-cons object_words (objects.Block tag values) [], many)
token_words (leaf (objects.Block tag vs)) values many h = absurd h
token_words (leaf (objects.Bytes bytes)) values many h = omega (arith, sum_by-cons object_words (objects.Bytes bytes) [])
token_words (leaf (objects.Double bits)) values many h = refl
token_words (leaf (objects.Doubles all)) values many h = omega (arith, sum_by-cons object_words (objects.Doubles all) [])
token_words (leaf (objects.I32 z)) values many h = refl
token_words (leaf (objects.I64 z)) values many h = refl
token_words (leaf (objects.Native z)) values many h = refl

mutual
  pub tree_words : (tree : Tree) (c : ℕ) → IsTree tree → heap_words (objects_of tree c) ≡ all_words64 (map measure_of (tokens tree))
  tree_words (node t f) c h =
      let d = c + made_by t in
      sum_by-append object_words (object_of t (roots f d)) (all_objects f d)
      ∙ ap₂ ◌+◌ (token_words t (roots f d) (length-roots f d ∙ h.1) h.0) (forest_words f d h.2)
      ∙ sym (sum_by-cons (of_object words64) (measure_of t) (map measure_of (forest_tokens f)))

  forest_words : (f : Forest) (c : ℕ) → AreTrees f → heap_words (all_objects f c) ≡ all_words64 (map measure_of (forest_tokens f))
  forest_words none c h = refl
  forest_words (more tree f) c h =
      sum_by-append object_words (objects_of tree c) (all_objects f (c + made tree))
      ∙ ap₂ ◌+◌ (tree_words tree c h.0) (forest_words f (c + made tree) h.1)
      ∙ sym (ap all_words64 (map-append measure_of (tokens tree) (forest_tokens f)) ∙ sum_by-append (of_object words64) (map measure_of (tokens tree)) (map measure_of (forest_tokens f)))

-- ---- at most nine bytes for each field, plus the contents of leaves

cond_few : (n : ℕ) (b : Bool) (xs ys : List ℕ) → length xs ≤ n → length ys ≤ n → length (cond b xs ys) ≤ n
cond_few n true xs ys h k = h
cond_few n false xs ys h k = k

signed_few : (k code : ℕ) (z : ℤ) → k ≤ 8 → length (code ∷ signed_bytes k z) ≤ 9
signed_few k code z few = omega (arith, length-signed_bytes k z)

bytes_few : (k code n : ℕ) → k ≤ 8 → length (code ∷ bytes_high_first k n) ≤ 9
bytes_few k code n few = omega (arith, length-bytes k n)

wide_few : (z : ℤ) → length (wide_integer z) ≤ 9
wide_few z =
    let four = cond (is_signed 30 z) (0x02 ∷ signed_bytes 4 z) (0x03 ∷ signed_bytes 8 z) in
    let two = cond (is_signed 15 z) (0x01 ∷ signed_bytes 2 z) four in
    let few_four : length four ≤ 9 = cond_few 9 (is_signed 30 z) (0x02 ∷ signed_bytes 4 z) (0x03 ∷ signed_bytes 8 z) (signed_few 4 2 z (omega arith)) (signed_few 8 3 z (omega arith)) in
    let few_two : length two ≤ 9 = cond_few 9 (is_signed 15 z) (0x01 ∷ signed_bytes 2 z) four (signed_few 2 1 z (omega arith)) few_four in
    cond_few 9 (is_signed 7 z) (0x00 ∷ signed_bytes 1 z) two (signed_few 1 0 z (omega arith)) few_two

integer_few : (z : ℤ) → length (integer_encoding z) ≤ 9
unfolding integer_encoding
integer_few (pos n) = cond_few 9 (ltb n 64) ((0x40 + n) ∷ []) (wide_integer (pos n)) (omega arith) (wide_few (pos n))
integer_few (negsuc n) = wide_few (negsuc n)

-- A code with a number of `k` bytes and a code with a number of eight bytes have at most nine
-- bytes.
prefix_few : (n code k last : ℕ) → k ≤ 8 → length (cond (ltb n (2 ^ 32)) (code ∷ bytes_high_first k n) (last ∷ bytes_high_first 8 n)) ≤ 9
prefix_few n code k last few = cond_few 9 (ltb n (2 ^ 32)) (code ∷ bytes_high_first k n) (last ∷ bytes_high_first 8 n) (bytes_few k code n few) (bytes_few 8 last n (omega arith))

block_few : (tag size : ℕ) → length (block_encoding tag size) ≤ 9
unfolding block_encoding
block_few tag size =
    let word = block_word tag size in
    cond_few 9 (ltb tag 16 && ltb size 8) ((0x80 + 16 * size + tag) ∷ []) (cond (ltb word (2 ^ 32)) (0x08 ∷ bytes_high_first 4 word) (0x13 ∷ bytes_high_first 8 word))
    (omega arith) (prefix_few word 0x08 4 0x13 (omega arith))

string_few : (n : ℕ) → length (string_prefix n) ≤ 9
unfolding string_prefix
string_few n =
    let four = cond (ltb n (2 ^ 32)) (0x0a ∷ bytes_high_first 4 n) (0x15 ∷ bytes_high_first 8 n) in
    let one = cond (ltb n (2 ^ 8)) (0x09 ∷ bytes_high_first 1 n) four in
    let few : length one ≤ 9 = cond_few 9 (ltb n (2 ^ 8)) (0x09 ∷ bytes_high_first 1 n) four (bytes_few 1 9 n (omega arith)) (prefix_few n 0x0a 4 0x15 (omega arith)) in
    cond_few 9 (ltb n 32) ((0x20 + n) ∷ []) one (omega arith) few

shared_few : (n : ℕ) → length (shared_encoding n) ≤ 9
unfolding shared_encoding
shared_few n =
    let four = cond (ltb n (2 ^ 32)) (0x06 ∷ bytes_high_first 4 n) (0x14 ∷ bytes_high_first 8 n) in
    let two = cond (ltb n (2 ^ 16)) (0x05 ∷ bytes_high_first 2 n) four in
    let few : length two ≤ 9 = cond_few 9 (ltb n (2 ^ 16)) (0x05 ∷ bytes_high_first 2 n) four (bytes_few 2 5 n (omega arith)) (prefix_few n 0x06 4 0x14 (omega arith)) in
    cond_few 9 (ltb n (2 ^ 8)) (0x04 ∷ bytes_high_first 1 n) two (bytes_few 1 4 n (omega arith)) few

doubles_few : (n : ℕ) → length (doubles_prefix n) ≤ 9
unfolding doubles_prefix
doubles_few n =
    cond_few 9 (ltb n (2 ^ 8)) (0x0e ∷ bytes_high_first 1 n) (cond (ltb n (2 ^ 32)) (0x07 ∷ bytes_high_first 4 n) (0x17 ∷ bytes_high_first 8 n))
    (bytes_few 1 14 n (omega arith)) (prefix_few n 0x07 4 0x17 (omega arith))

native_few : (z : ℤ) → length (native_encoding z) ≤ 9
native_few z = cond_few 9 (is_signed 31 z) (1 ∷ signed_bytes 4 z) (2 ∷ signed_bytes 8 z) (signed_few 4 1 z (omega arith)) (signed_few 8 2 z (omega arith))

token_few : (t : Token) → length (encoding t) + 9 * of_object fields (measure_of t) ≤ 9 + 9 * of_object words64 (measure_of t)
unfolding custom_encoding
token_few (integer z) = omega (arith, integer_few z)
token_few (atom tag) = omega (arith, block_few tag 0)
token_few (shared offset) = omega (arith, shared_few offset)
token_few (block tag size) = omega (arith, block_few tag size)
token_few (leaf (objects.Block tag vs)) = omega arith
token_few (leaf (objects.Bytes bytes)) = omega (arith, length-append (string_prefix (length bytes)) bytes, string_few (length bytes))
token_few (leaf (objects.Double bits)) = omega arith
token_few (leaf (objects.Doubles all)) = omega (arith, length-append (doubles_prefix (length all)) (flat_map double_bytes all), doubles_few (length all), length-doubles all)
token_few (leaf (objects.I32 z)) = omega (arith, length-signed_bytes 4 z)
token_few (leaf (objects.I64 z)) = omega (arith, length-signed_bytes 8 z)
token_few (leaf (objects.Native z)) = omega (arith, native_few z)

pub length-data : (xs ys : List Token) → length (data_encoding (xs ++ ys)) ≡ length (data_encoding xs) + length (data_encoding ys)
length-data xs ys = ap length (flat_map-append encoding xs ys) ∙ length-append (data_encoding xs) (data_encoding ys)

mutual
  pub few_bytes : (tree : Tree) → IsTree tree → length (data_encoding (tokens tree)) ≤ 9 + 9 * all_words64 (map measure_of (tokens tree))
  few_bytes (node t f) h =
      omega (arith, length-append (encoding t) (data_encoding (forest_tokens f)), sum_by-cons (of_object words64) (measure_of t) (map measure_of (forest_tokens f)), token_few t, few_forest_bytes f h.2, h.1)

  few_forest_bytes : (f : Forest) → AreTrees f → length (data_encoding (forest_tokens f)) ≤ 9 * trees_in f + 9 * all_words64 (map measure_of (forest_tokens f))
  few_forest_bytes none h = omega arith
  few_forest_bytes (more tree f) h =
      let words : all_words64 (map measure_of (tokens tree ++ forest_tokens f)) ≡ all_words64 (map measure_of (tokens tree)) + all_words64 (map measure_of (forest_tokens f)) =
      ap all_words64 (map-append measure_of (tokens tree) (forest_tokens f)) ∙ sum_by-append (of_object words64) (map measure_of (tokens tree)) (map measure_of (forest_tokens f)) in
      omega (arith, length-data (tokens tree) (forest_tokens f), words, few_bytes tree h.0, few_forest_bytes f h.1)

-- ---- 32-bit words

token_words32 : (t : Token) → of_object words32 (measure_of t) ≤ 2 * of_object words64 (measure_of t)
token_words32 (integer z) = omega arith
token_words32 (atom tag) = omega arith
token_words32 (shared offset) = omega arith
token_words32 (block tag size) = omega arith
token_words32 (leaf (objects.Block tag vs)) = omega arith
token_words32 (leaf (objects.Bytes bytes)) = omega arith
token_words32 (leaf (objects.Double bits)) = omega arith
token_words32 (leaf (objects.Doubles all)) = omega arith
token_words32 (leaf (objects.I32 z)) = omega arith
token_words32 (leaf (objects.I64 z)) = omega arith
token_words32 (leaf (objects.Native z)) = omega arith

pub few_words32 : (ts : List Token) → all_words32 (map measure_of ts) ≤ 2 * all_words64 (map measure_of ts)
few_words32 [] = omega arith
few_words32 (t ∷ ts) =
    omega (arith, sum_by-cons (of_object words32) (measure_of t) (map measure_of ts), sum_by-cons (of_object words64) (measure_of t) (map measure_of ts), token_words32 t, few_words32 ts)

-- ---- an integer has 64 bits

integer_fits : (z : ℤ) → IsInteger z → FitsSigned w64 z
integer_fits (pos n) h = omega (arith, ints)
integer_fits (negsuc n) h = omega (arith, ints)

pub integer_kept : (z : ℤ) → IsInteger z → to_z w64 (of_z w64 z) ≡ z
integer_kept z h = to_z-of_z w64 z (integer_fits z h)
