-- The canonical bytes of a tree encode that tree.
use Rattle.std.proofs.Common.{ℕ, ◌≡◌, ◌+◌, ◌*◌, ◌^◌, ◌<◌, ◌≤◌, ◌∙◌, ◌&&◌, ◌||◌, Bool, true, false, cond, ltb, leb, leb-false, List, [], ◌∷◌, ◌++◌, length, map, inl, refl, sym, ap, arith, pos, negsuc, ℤ, length-append}
use Rattle.std.specs.Prelude.{flat_map}
use Rattle.std.specs.List.{concat, AllZip}
use Rattle.std.specs.Int.{bytes_high_first}
use Rattle.std.proofs.lemmas.Bool.{cond_both, or_parts}
use Rattle.std.proofs.lemmas.List.{map-append}
use Rattle.std.proofs.lemmas.List.Concat.{flat_map-append}
use Rattle.base_data.specs.declared.model.value.Obj.{Obj}
use Rattle.base_data.specs.declared.model.value.Obj.TheVariants as objects
use Rattle.marshal_spec.specs.format.Header.{head_of}
use Rattle.marshal_spec.specs.format.Words.{of_object, fields, all_words32, all_words64, objects as object_count}
use Rattle.marshal_spec.specs.format.Token.{Token, integer, atom, shared, block, leaf, IsToken, IsLeaf, measure_of, Encodes}
use Rattle.marshal_spec.specs.format.Tree.{Tree, Forest, node, none, more, trees_in, IsTree, AreTrees, tokens, forest_tokens, made, made_by, all_made, RefersBack, ReferBack, AllReferBack}
use Rattle.marshal_spec.specs.format.Encoded.{StatesWords32, EncodedUnder}
use Rattle.marshal_spec.specs.format.Canonical.{is_signed, signed_bytes, double_bytes, wide_integer, integer_encoding, block_word, block_encoding, string_prefix, shared_encoding, doubles_prefix, custom_encoding, leaf_encoding, encoding, header_encoding, data_encoding, is_big, canon}
use Rattle.marshal_spec.proofs.format.Counts.{length-object_of, objects-tokens, trees_in-le}
use Rattle.marshal_spec.specs.canonical.Laws.{LeafHasEncoding, HasEncoding}
use Rattle.marshal_spec.proofs.canonical.CanonicalListLemmas.{AllZip-append}
use Rattle.marshal_spec.proofs.canonical.EncodingLemmas.{encoding_encodes_lem}
use Rattle.marshal_spec.proofs.canonical.CanonicalHeaderLemmas.{EncodesHead, small_bytes, big_bytes, small_head_encoded, small_w32_encoded, big_head_encoded}

-- ---- an encoding has at least one byte

cond_some : (b : Bool) (x : ℕ) (xs ys : List ℕ) → 1 ≤ length ys → 1 ≤ length (cond b (x ∷ xs) ys)
cond_some true x xs ys h = omega arith
cond_some false x xs ys h = h

wide_some : (z : ℤ) → 1 ≤ length (wide_integer z)
wide_some z =
    let four = cond (is_signed 30 z) (0x02 ∷ signed_bytes 4 z) (0x03 ∷ signed_bytes 8 z) in
    let two = cond (is_signed 15 z) (0x01 ∷ signed_bytes 2 z) four in
    let some_four : 1 ≤ length four = cond_some (is_signed 30 z) 0x02 (signed_bytes 4 z) (0x03 ∷ signed_bytes 8 z) (omega arith) in
    cond_some (is_signed 7 z) 0x00 (signed_bytes 1 z) two (cond_some (is_signed 15 z) 0x01 (signed_bytes 2 z) four some_four)

integer_some : (z : ℤ) → 1 ≤ length (integer_encoding z)
unfolding integer_encoding
integer_some (pos n) = cond_some (ltb n 64) (0x40 + n) [] (wide_integer (pos n)) (wide_some (pos n))
integer_some (negsuc n) = wide_some (negsuc n)

block_some : (tag size : ℕ) → 1 ≤ length (block_encoding tag size)
unfolding block_encoding
block_some tag size =
    let word = block_word tag size in
    let wide = cond (ltb word (2 ^ 32)) (0x08 ∷ bytes_high_first 4 word) (0x13 ∷ bytes_high_first 8 word) in
    cond_some (ltb tag 16 && ltb size 8) (0x80 + 16 * size + tag) [] wide
    (cond_some (ltb word (2 ^ 32)) 0x08 (bytes_high_first 4 word) (0x13 ∷ bytes_high_first 8 word) (omega arith))

-- The prefix with a code and number of either width has at least one byte.
wide_prefix : (n code width last : ℕ) → 1 ≤ length (cond (ltb n (2 ^ 32)) (code ∷ bytes_high_first width n) (last ∷ bytes_high_first 8 n))
wide_prefix n code width last = cond_some (ltb n (2 ^ 32)) code (bytes_high_first width n) (last ∷ bytes_high_first 8 n) (omega arith)

string_some : (n : ℕ) → 1 ≤ length (string_prefix n)
unfolding string_prefix
string_some n =
    let four = cond (ltb n (2 ^ 32)) (0x0a ∷ bytes_high_first 4 n) (0x15 ∷ bytes_high_first 8 n) in
    let one = cond (ltb n (2 ^ 8)) (0x09 ∷ bytes_high_first 1 n) four in
    cond_some (ltb n 32) (0x20 + n) [] one (cond_some (ltb n (2 ^ 8)) 0x09 (bytes_high_first 1 n) four (wide_prefix n 0x0a 4 0x15))

shared_some : (offset : ℕ) → 1 ≤ length (shared_encoding offset)
unfolding shared_encoding
shared_some offset =
    let four = cond (ltb offset (2 ^ 32)) (0x06 ∷ bytes_high_first 4 offset) (0x14 ∷ bytes_high_first 8 offset) in
    let two = cond (ltb offset (2 ^ 16)) (0x05 ∷ bytes_high_first 2 offset) four in
    cond_some (ltb offset (2 ^ 8)) 0x04 (bytes_high_first 1 offset) two (cond_some (ltb offset (2 ^ 16)) 0x05 (bytes_high_first 2 offset) four (wide_prefix offset 0x06 4 0x14))

doubles_some : (n : ℕ) → 1 ≤ length (doubles_prefix n)
unfolding doubles_prefix
doubles_some n =
    let four = cond (ltb n (2 ^ 32)) (0x07 ∷ bytes_high_first 4 n) (0x17 ∷ bytes_high_first 8 n) in
    cond_some (ltb n (2 ^ 8)) 0x0e (bytes_high_first 1 n) four (wide_prefix n 0x07 4 0x17)

leaf_some : (o : Obj) → IsLeaf o → 1 ≤ length (leaf_encoding o)
unfolding custom_encoding
leaf_some (objects.Block tag values) h = absurd h
leaf_some (objects.Bytes bytes) h = omega (arith, length-append (string_prefix (length bytes)) bytes, string_some (length bytes))
leaf_some (objects.Double bits) h = omega arith
leaf_some (objects.Doubles all) h = omega (arith, length-append (doubles_prefix (length all)) (flat_map double_bytes all), doubles_some (length all))
leaf_some (objects.I32 z) h = omega arith
leaf_some (objects.I64 z) h = omega arith
leaf_some (objects.Native z) h = omega arith

encoding_some : (t : Token) → IsToken t → 1 ≤ length (encoding t)
encoding_some (integer z) h = integer_some z
encoding_some (atom tag) h = block_some tag 0
encoding_some (shared offset) h = shared_some offset
encoding_some (block tag size) h = block_some tag size
encoding_some (leaf o) h = leaf_some o h

-- ---- the number of tokens

mutual
  pub tokens-le : (tree : Tree) → IsTree tree → length (tokens tree) ≤ length (data_encoding (tokens tree))
  tokens-le (node t f) h =
      omega (arith, encoding_some t h.0, forest_tokens-le f h.2, length-append (encoding t) (data_encoding (forest_tokens f)))

  forest_tokens-le : (f : Forest) → AreTrees f → length (forest_tokens f) ≤ length (data_encoding (forest_tokens f))
  forest_tokens-le none h = omega arith
  forest_tokens-le (more tree f) h =
      let e = flat_map-append encoding (tokens tree) (forest_tokens f) in
      rw e (omega (arith, tokens-le tree h.0, forest_tokens-le f h.1, length-append (tokens tree) (forest_tokens f), length-append (data_encoding (tokens tree)) (data_encoding (forest_tokens f))))

made_by-le : (t : Token) → IsToken t → made_by t ≤ 1
made_by-le (integer z) h = omega arith
made_by-le (atom tag) h = omega arith
made_by-le (shared offset) h = omega arith
made_by-le (block tag size) h = omega arith
made_by-le (leaf o) h = omega (arith, length-object_of (leaf o) [] h)

mutual
  pub made-le : (tree : Tree) → IsTree tree → made tree ≤ length (tokens tree)
  made-le (node t f) h = omega (arith, made_by-le t h.0, all_made-le f h.2)

  all_made-le : (f : Forest) → AreTrees f → all_made f ≤ length (forest_tokens f)
  all_made-le none h = omega arith
  all_made-le (more tree f) h = omega (arith, made-le tree h.0, all_made-le f h.1, length-append (tokens tree) (forest_tokens f))

-- ---- each token can be encoded

pub length-doubles : (all : List ℕ) → length (flat_map double_bytes all) ≡ 8 * length all
length-doubles [] = refl
length-doubles (d ∷ ds) = omega (arith, length-doubles ds)

leaf_has_encoding : (o : Obj) → IsLeaf o → length (leaf_encoding o) < 2 ^ 48 → LeafHasEncoding o
leaf_has_encoding (objects.Block tag values) h few = absurd h
leaf_has_encoding (objects.Bytes bytes) h few = omega (arith, length-append (string_prefix (length bytes)) bytes)
leaf_has_encoding (objects.Double bits) h few = tt
leaf_has_encoding (objects.Doubles all) h few = omega (arith, length-append (doubles_prefix (length all)) (flat_map double_bytes all), length-doubles all)
leaf_has_encoding (objects.I32 z) h few = tt
leaf_has_encoding (objects.I64 z) h few = tt
leaf_has_encoding (objects.Native z) h few = tt

has_encoding : (t : Token) (f : Forest) (c : ℕ) → IsToken t → trees_in f ≡ of_object fields (measure_of t) → RefersBack t c → c < 2 ^ 48 → length (forest_tokens f) < 2 ^ 48 → length (encoding t) < 2 ^ 48 → HasEncoding t
has_encoding (integer z) f c h count back below few short = tt
has_encoding (atom tag) f c h count back below few short = tt
has_encoding (shared offset) f c h count back below few short = omega (arith, back.1)
has_encoding (block tag size) f c h count back below few short = omega (arith, count, trees_in-le f)
has_encoding (leaf o) f c h count back below few short = leaf_has_encoding o h short

-- If `c` objects and a tree's tokens are at most `n` together, then the canonical encodings of the
-- tree's tokens encode the tokens.
mutual
  encoded_tree : (tree : Tree) (c n : ℕ) → IsTree tree → ReferBack tree c → c + length (tokens tree) ≤ n → n < 2 ^ 48 → length (data_encoding (tokens tree)) < 2 ^ 48 → AllZip Encodes (tokens tree) (map encoding (tokens tree))
  encoded_tree (node t f) c n h back few small short =
      let split = length-append (encoding t) (data_encoding (forest_tokens f)) in (
        encoding_encodes_lem t h.0 (has_encoding t f c h.0 h.1 back.0 (omega arith) (omega arith) (omega arith)),
        encoded_forest f (c + made_by t) n h.2 back.1 (omega (arith, made_by-le t h.0)) small (omega arith),
      )

  encoded_forest : (f : Forest) (c n : ℕ) → AreTrees f → AllReferBack f c → c + length (forest_tokens f) ≤ n → n < 2 ^ 48 → length (data_encoding (forest_tokens f)) < 2 ^ 48 → AllZip Encodes (forest_tokens f) (map encoding (forest_tokens f))
  encoded_forest none c n h back few small short = tt
  encoded_forest (more tree f) c n h back few small short =
      let split = flat_map-append encoding (tokens tree) (forest_tokens f) in
      let joined = length-append (data_encoding (tokens tree)) (data_encoding (forest_tokens f)) in
      let total : length (data_encoding (tokens tree)) + length (data_encoding (forest_tokens f)) < 2 ^ 48 = rw (split, joined) at short in
      let many = length-append (tokens tree) (forest_tokens f) in
      rw (map-append encoding (tokens tree) (forest_tokens f))
      (AllZip-append Encodes (tokens tree) (forest_tokens f) (map encoding (tokens tree)) (map encoding (forest_tokens f))
      (encoded_tree tree c n h.0 back.0 (omega arith) small (omega arith))
      (encoded_forest f (c + made tree) n h.1 back.1 (omega (arith, made-le tree h.0)) small (omega arith)))

-- ---- header and data

pub concat-encodings : (all : List Token) → concat (map encoding all) ≡ data_encoding all
concat-encodings [] = refl
concat-encodings (t ∷ all) = ap (λ rest. encoding t ++ rest) (concat-encodings all)

with_header : (limit : ℕ) (tree : Tree) (big : Bool) (header : List ℕ) → IsTree tree → ReferBack tree 0 → all_words64 (map measure_of (tokens tree)) ≤ limit → length (data_encoding (tokens tree)) < 2 ^ 48 → EncodesHead big (length (data_encoding (tokens tree))) (object_count (map measure_of (tokens tree))) (all_words64 (map measure_of (tokens tree))) header → StatesWords32 (head_of header).big (head_of header).w32 (all_words32 (map measure_of (tokens tree))) → EncodedUnder limit (header ++ data_encoding (tokens tree)) tree
with_header limit tree big header is_tree back words few head w32 =
    let all = tokens tree in
    let data_is = concat-encodings all in record {
      header = header;
      chunks = map encoding all;
      bytes_are = ap (λ d. header ++ d) (sym data_is);
      encodes = record {
        is_tree = is_tree;
        refers_back = back;
        is_header = head.is_header;
        encodes = encoded_tree tree 0 (length all) is_tree back (omega arith) (omega (arith, tokens-le tree is_tree)) few;
        length = head.length_is ∙ ap length (sym data_is);
        states = record { w32 = w32; w64 = head.w64_is; objects = inl head.objects_is };
      };
      words = rw (head.w64_is) words;
      small = rw (head.length_is) few;
    }

pub canon_encodes_lem : (limit : ℕ) (tree : Tree) → limit < 2 ^ 64 → IsTree tree → ReferBack tree 0 → all_words64 (map measure_of (tokens tree)) ≤ limit → length (data_encoding (tokens tree)) < 2 ^ 48 → EncodedUnder limit (canon tree) tree
unfolding canon header_encoding head_of
canon_encodes_lem limit tree small is_tree back words few =
    let all = tokens tree in
    let n = length (data_encoding all) in
    let count = object_count (map measure_of all) in
    let w32 = all_words32 (map measure_of all) in
    let w64 = all_words64 (map measure_of all) in
    let counted : count ≤ n = omega (arith, objects-tokens tree, made-le tree is_tree, tokens-le tree is_tree) in
    cond_both (is_big n w32 w64) (big_bytes n count w64) (small_bytes n count w32 w64) (λ header. EncodedUnder limit (header ++ data_encoding all) tree)
    (λ big. with_header limit tree true (big_bytes n count w64) is_tree back words few (big_head_encoded n count w64 (omega arith) (omega arith) (omega arith)) tt)
    (λ not_big.
    let parts = or_parts (leb (2 ^ 32) n) (leb (2 ^ 32) w32 || leb (2 ^ 32) w64) not_big in
    let words_parts = or_parts (leb (2 ^ 32) w32) (leb (2 ^ 32) w64) parts.1 in
    let few_bytes = leb-false (2 ^ 32) n parts.0 in
    with_header limit tree false (small_bytes n count w32 w64) is_tree back words few
    (small_head_encoded n count w32 w64 few_bytes (omega arith) (leb-false (2 ^ 32) w64 words_parts.1))
    (small_w32_encoded n count w32 w64 (leb-false (2 ^ 32) w32 words_parts.0)))
