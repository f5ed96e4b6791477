-- If a header and tokens are encoded as the runtime encodes them, then the bytes are the canonical
-- bytes of the encoded value.
use Rattle.std.proofs.Common.{ℕ, ℤ, pos, ◌-◌, ◌*◌, ◌/◌, ◌%◌, get_or, zero, suc, ◌≡◌, ◌+◌, ◌<◌, ◌≤◌, ◌^◌, ◌∙◌, ◌⊎◌, inl, inr, Bool, false, cond, List, [], ◌∷◌, ◌++◌, length, map, take, drop, refl, sym, ap, ap₂, subst, arith, length-append, append-nil}
use Rattle.std.specs.Prelude.{All, ◌==◌}
use Rattle.std.specs.List.{concat, AllZip}
use Rattle.std.proofs.Math.Seq.{take-append-add}
use Rattle.std.proofs.lemmas.Bool.{lt-leb, lt-ltb}
use Rattle.std.proofs.lemmas.List.{append_cancel_left, take-append-drop, take-append-le, length-take-le, length-drop, take_rest, take_all}
use Rattle.std.proofs.lemmas.List.Concat.{flat_map-append}
use Rattle.std.proofs.lemmas.List.Elements.{All-nil, All-push, All-head, All-tail, All-take, All-drop}
use Rattle.base_data.specs.declared.model.header.Head.{Head}
use Rattle.base_data.specs.model.Bytes.{AreBytes, number}
use Rattle.base_data.specs.declared.model.value.Obj.TheVariants as objects
use Rattle.marshal_spec.specs.format.Header.{magic, small_magic, big_magic, header_length, head_of}
use Rattle.marshal_spec.specs.format.Words.{all_words32, all_words64, objects as object_count}
use Rattle.marshal_spec.specs.format.Token.{Token, integer, leaf, block_or_atom, measure_of, Encodes}
use Rattle.marshal_spec.specs.format.Tree.{tokens}
use Rattle.marshal_spec.specs.format.Encoded.{StatesWords32, States}
use Rattle.marshal_spec.specs.format.Canonical.{encoding, integer_encoding, block_encoding, string_prefix, data_encoding, header_encoding, canonical_head, is_big, canon}
use Rattle.marshal_spec.proofs.format.RawLemmas.{IsRaw-same, same_prefix}
use Rattle.marshal_spec.proofs.format.EncodeLemmas.{IsRaw-encoded, Encodes-same}
use Rattle.marshal_spec.proofs.format.EncodeValues.{some_bytes}
use Rattle.marshal_spec.proofs.format.TokenStepLemmas.{header_length-from}
use Rattle.marshal_spec.proofs.canonical.EncodingLemmas.{encoding_encodes_lem}
use Rattle.marshal_spec.proofs.canonical.CanonLemmas.{concat-encodings}
use Rattle.marshal_codec.specs.headers.Encoding.{HasSmallNumbers}
use Rattle.marshal_write.specs.canonical_check.Canonicity.{CanBeEncoded, StandsFirst, BeginsCanonical, AreEncoded, AreCanonical, AreBare, IsOwnHeader, IsCanonicalBytes}

-- ---- bytes encode at most one list of tokens

pub same_tokens : (ts us : List Token) (ps qs : List (List ℕ)) → AllZip Encodes ts ps → AllZip Encodes us qs → concat ps ≡ concat qs → ts ≡ us
same_tokens [] [] ps qs s v e = refl
same_tokens [] (u ∷ us) (p ∷ ps) qs s v e = absurd s
same_tokens [] (u ∷ us) [] [] s v e = absurd v
same_tokens [] (u ∷ us) [] (q ∷ qs) s v e =
    let long = length-append q (concat qs) in
    let some = some_bytes u q v.0 in
    let same = ap length e in
    absurd (omega (arith, long, some, same))
same_tokens (t ∷ ts) us [] qs s v e = absurd s
same_tokens (t ∷ ts) [] (p ∷ ps) (q ∷ qs) s v e = absurd v
same_tokens (t ∷ ts) [] (p ∷ ps) [] s v e =
    let long = length-append p (concat ps) in
    let some = some_bytes t p s.0 in
    let same = ap length e in
    absurd (omega (arith, long, some, same))
same_tokens (t ∷ ts) (u ∷ us) (p ∷ ps) [] s v e = absurd v
same_tokens (t ∷ ts) (u ∷ us) (p ∷ ps) (q ∷ qs) s v e =
    let same : p ≡ q = IsRaw-same p q (concat ps) (concat qs) (IsRaw-encoded t p s.0) (IsRaw-encoded u q v.0) e in
    let rest : concat ps ≡ concat qs = append_cancel_left p (concat ps) (concat qs) (e ∙ ap (λ x. x ++ concat qs) (sym same)) in
    ap₂ (λ x xs. x ∷ xs) (Encodes-same t u p s.0 (subst (λ x. Encodes u x) (sym same) v.0)) (same_tokens ts us ps qs s.1 v.1 rest)

-- The canonical encodings of encodable tokens encode the tokens one by one.
encoded_each : (ts : List Token) → All CanBeEncoded ts → AllZip Encodes ts (map encoding ts)
encoded_each [] each = tt
encoded_each (t ∷ ts) each =
    let first : CanBeEncoded t = All-head CanBeEncoded t ts each in
    (encoding_encodes_lem t first.0 first.1, encoded_each ts (All-tail CanBeEncoded t ts each))

-- ---- one more token

pub none_encoded : (data' : List ℕ) → AreEncoded [] (take 0 data')
none_encoded data' = record { encodable = All-nil CanBeEncoded; encoded = refl }

-- The first `at` + `n` elements of a list are the first `at` elements and the next `n` elements.
pub take_two : (at n : ℕ) (xs : List ℕ) → at ≤ length xs → take (at + n) xs ≡ take at xs ++ take n (drop at xs)
take_two at n xs within =
    let long : length (take at xs) ≡ at = length-take-le at xs within in
    let split : take (length (take at xs) + n) (take at xs ++ drop at xs) ≡ take at xs ++ take n (drop at xs) = take-append-add (take at xs) (drop at xs) n in
    rw (long, take-append-drop at xs) at split

one_more_encoded : (ts : List Token) (t : Token) (at n : ℕ) (bytes : List ℕ) → at ≤ length bytes → AreEncoded ts (take at bytes) → StandsFirst t n (drop at bytes) → AreEncoded (ts ++ t ∷ []) (take (at + n) bytes)
one_more_encoded ts t at n bytes within s first =
    let last : data_encoding (t ∷ []) ≡ take n (drop at bytes) = append-nil (encoding t) ∙ sym first.encoded in
    record {
      encodable = All-push CanBeEncoded ts t s.encodable first.encodable;
      encoded = flat_map-append encoding ts (t ∷ []) ∙ ap₂ ◌++◌ s.encoded last ∙ sym (take_two at n bytes within);
    }

-- The first `at` bytes are the canonical encodings of tokens.
abbrev pub CanonicalUpTo : ℕ → List ℕ → Type 0
CanonicalUpTo at bytes = (at ≤ length bytes) × AreCanonical (take at bytes)

pub none_canonical : (bytes : List ℕ) → CanonicalUpTo 0 bytes
none_canonical bytes = (omega arith, ([], none_encoded bytes))

pub more_canonical : (at n : ℕ) (bytes : List ℕ) → CanonicalUpTo at bytes → BeginsCanonical n (take (length bytes - at) (drop at bytes)) → CanonicalUpTo (at + n) bytes
more_canonical at n bytes before next =
    let whole = take_rest bytes at in
    let first : StandsFirst next.0 n (drop at bytes) = subst (λ xs. StandsFirst next.0 n xs) whole next.1 in
    let few = first.within in
    let long = length-drop at bytes in
    let within = before.0 in (
      omega (arith, few, long, within),
      (before.1.0 ++ next.0 ∷ [], one_more_encoded before.1.0 next.0 at n bytes before.0 before.1.1 first),
    )

pub all_canonical : (at : ℕ) (bytes : List ℕ) → CanonicalUpTo at bytes → at ≡ length bytes → AreCanonical bytes
all_canonical at bytes s whole = subst AreCanonical (take_all at bytes (omega (arith, whole))) s.1

-- If the bytes are exactly the encoding of an integer, then the bytes encode tokens that make no
-- object.
pub bare_whole : (z : ℤ) (n : ℕ) (bytes : List ℕ) → StandsFirst (integer z) n bytes → n ≡ length bytes → AreBare bytes
bare_whole z n bytes first whole =
    let is : encoding (integer z) ++ [] ≡ bytes = append-nil (encoding (integer z)) ∙ sym first.encoded ∙ take_all n bytes (omega (arith, whole)) in
    (integer z ∷ [], record { encodable = All-push CanBeEncoded [] (integer z) (All-nil CanBeEncoded) first.encodable; encoded = is }, refl)

-- ---- a block

pub block_is : (tag size : ℕ) → encoding (block_or_atom tag size) ≡ block_encoding tag size
block_is tag zero = refl
block_is tag (suc n) = refl

pub can_be_block : (tag size : ℕ) → tag ≤ 243 → size < 2 ^ 54 → CanBeEncoded (block_or_atom tag size)
can_be_block tag zero h few = (h, tt)
can_be_block tag (suc n) h few = ((h, omega arith), few)

-- ---- a string

pub string_first : (n len : ℕ) (bytes : List ℕ) → AreBytes bytes → n + len ≤ length bytes → len < 2 ^ 64 → take n bytes ≡ string_prefix len → BeginsCanonical (n + len) bytes
string_first n len bytes are within few prefix =
    let content = take len (drop n bytes) in
    let rest = length-drop n bytes in
    let long : length content ≡ len = length-take-le len (drop n bytes) (omega (arith, rest, within)) in (
      leaf (objects.Bytes content),
      record {
        within = within;
        encodable = (All-take (λ b. b < 256) len (drop n bytes) (All-drop (λ b. b < 256) n bytes are), subst (λ k. k < 2 ^ 64) (sym long) few);
        encoded = take_two n len bytes (omega (arith, within)) ∙ ap (λ f. f ++ content) (prefix ∙ ap string_prefix (sym long));
      },
    )

-- ---- codes that contain a number

first_byte : (code : ℕ) (bytes : List ℕ) → 0 < length bytes → get_or bytes 0 0 ≡ code → take 1 bytes ≡ code ∷ []
first_byte code [] some is = absurd (omega arith)
first_byte code (b ∷ bytes) some is = ap (λ x. x ∷ []) is

pub small_string_first : (code : ℕ) (bytes : List ℕ) → AreBytes bytes → 0 < length bytes → get_or bytes 0 0 ≡ code → 32 ≤ code → code < 64 → 1 + (code - 32) ≤ length bytes → BeginsCanonical (1 + (code - 32)) bytes
unfolding string_prefix
small_string_first code bytes are some is low high within =
    let back : 32 + (code - 32) ≡ code = omega arith in
    string_first 1 (code - 32) bytes are within (omega arith)
    (first_byte code bytes some is ∙ rw (lt-ltb (code - 32) 32 (omega arith), back) refl)

pub small_int_first : (code : ℕ) (bytes : List ℕ) → 0 < length bytes → get_or bytes 0 0 ≡ code → 64 ≤ code → code < 128 → BeginsCanonical 1 bytes
unfolding integer_encoding
small_int_first code bytes some is low high =
    let back : 64 + (code - 64) ≡ code = omega arith in (
      integer (pos (code - 64)),
      record {
        within = some;
        encodable = (omega arith, tt);
        encoded = first_byte code bytes some is ∙ rw (lt-ltb (code - 64) 64 (omega arith), back) refl;
      },
    )

pub small_block_first : (code : ℕ) (bytes : List ℕ) → 0 < length bytes → get_or bytes 0 0 ≡ code → 128 ≤ code → code < 256 → BeginsCanonical 1 bytes
unfolding block_encoding
small_block_first code bytes some is low high =
    let tag = code % 16 in
    let size = code / 16 % 8 in
    let few : tag < 16 = omega arith in
    let small : size < 8 = omega arith in
    let back : 128 + 16 * size + tag ≡ code = omega arith in
    let encoded : block_encoding tag size ≡ code ∷ [] = rw (lt-ltb tag 16 few, lt-ltb size 8 small) (ap (λ c. c ∷ []) back) in (
      block_or_atom tag size,
      record {
        within = some;
        encodable = can_be_block tag size (omega (arith, few)) (omega (arith, small));
        encoded = first_byte code bytes some is ∙ sym (block_is tag size ∙ encoded);
      },
    )

-- ---- the header

not_big : (n w32 w64 : ℕ) → n < 2 ^ 32 → w32 < 2 ^ 32 → w64 < 2 ^ 32 → is_big n w32 w64 ≡ false
not_big n w32 w64 a b c = rw (lt-leb (2 ^ 32) n a, lt-leb (2 ^ 32) w32 b, lt-leb (2 ^ 32) w64 c) refl

head_is : (head : Head) (big : Bool) (n o w v : ℕ) → big ≡ head.big → n ≡ head.length → o ≡ head.objects → w ≡ head.w32 → v ≡ head.w64 → record { big = big; length = n; objects = o; w32 = w; w64 = v } ≡ head
head_is head big n o w v a b c d e = rw (a, b, c, d, e) refl

canonical_head_is : (head : Head) (all : List Token) → head.big ≡ false → HasSmallNumbers head → head.length ≡ length (data_encoding all) → States head all → head.objects ≡ object_count (map measure_of all) → canonical_head all ≡ head
canonical_head_is head all big small long states count =
    let w32 : head.w32 ≡ all_words32 (map measure_of all) = subst (λ b. StatesWords32 b head.w32 (all_words32 (map measure_of all))) big states.w32 in
    let n = length (data_encoding all) in
    let few = small.length in
    let few32 = small.w32 in
    let few64 = small.w64 in
    let w64 = states.w64 in
    head_is head (is_big n (all_words32 (map measure_of all)) (all_words64 (map measure_of all))) n (object_count (map measure_of all)) (all_words32 (map measure_of all)) (all_words64 (map measure_of all))
    (not_big n (all_words32 (map measure_of all)) (all_words64 (map measure_of all)) (subst (λ k. k < 2 ^ 32) long few) (subst (λ k. k < 2 ^ 32) w32 few32) (subst (λ k. k < 2 ^ 32) w64 few64) ∙ sym big)
    (sym long) (sym count) (sym w32) (sym w64)

-- ---- a whole value

-- If the header states a positive number of objects or the tokens make no object, then the stated
-- number is the tokens' number.
counted : (head : Head) (all : List Token) (stated : ℕ) → head.objects ≡ stated → States head all → (0 < stated) ⊎ (object_count (map measure_of all) ≡ 0) → head.objects ≡ object_count (map measure_of all)
counted head all stated is states (inr none) =
    elim states.objects [
      | inl e ↦ e
      | inr e ↦ e.0 ∙ sym none
    ]
counted head all stated is states (inl some) =
    elim states.objects [
      | inl e ↦ e
      | inr e ↦ let zero' = e.0 in absurd (omega (arith, some, is, zero'))
    ]

pub as_canonical : (bytes header data' : List ℕ) (stated : ℕ) (ts : List Token) → bytes ≡ header ++ data' → length header ≡ 20 → IsOwnHeader header stated → AreEncoded ts data' → (0 < stated) ⊎ (object_count (map measure_of ts) ≡ 0) → IsCanonicalBytes bytes
unfolding canon
as_canonical bytes header data' stated ts are long own encoded count limit tree s =
    let all = tokens tree in
    let both : header ++ data' ≡ s.header ++ concat s.chunks = sym are ∙ s.bytes_are in
    let from = header_length-from s.header in
    let whole = s.encodes.is_header.whole in
    let four : 4 ≤ length s.header = omega (arith, from, whole) in
    let prefixes : take 4 s.header ≡ take 4 header =
    sym (take-append-le 4 s.header (concat s.chunks) four) ∙ sym (ap (take 4) both) ∙ take-append-le 4 header data' (omega (arith, long)) in
    let same_magic : magic s.header ≡ small_magic = ap number prefixes ∙ own.small in
    let twenty : header_length s.header ≡ 20 = ap (λ m. cond (m == big_magic) 32 20) same_magic in
    let same : header ≡ s.header = same_prefix header s.header data' (concat s.chunks) (omega (arith, long, twenty, whole)) both in
    let rest : data' ≡ concat s.chunks = append_cancel_left header data' (concat s.chunks) (both ∙ ap (λ h. h ++ concat s.chunks) (sym same)) in
    let tokens_are : ts ≡ all = same_tokens ts all (map encoding ts) s.chunks (encoded_each ts encoded.encodable) s.encodes.encodes (concat-encodings ts ∙ encoded.encoded ∙ rest) in
    let data_is : data_encoding all ≡ data' = ap data_encoding (sym tokens_are) ∙ encoded.encoded in
    let heads : head_of s.header ≡ head_of header = ap head_of (sym same) in
    let states : States (head_of header) all = subst (λ h. States h all) heads s.encodes.states in
    let stated_long : (head_of header).length ≡ length (data_encoding all) = ap (λ (h : Head). h.length) (sym heads) ∙ s.encodes.length ∙ ap length (sym (data_is ∙ rest)) in
    let head_same : canonical_head all ≡ head_of header =
    canonical_head_is (head_of header) all own.big_is own.numbers stated_long states
    (counted (head_of header) all stated own.objects_are states (subst (λ us. (0 < stated) ⊎ (object_count (map measure_of us) ≡ 0)) tokens_are count)) in
    are ∙ ap₂ ◌++◌ (own.encoded ∙ ap header_encoding (sym head_same)) (sym data_is)

pub bare_value : (bytes : List ℕ) → 20 ≤ length bytes → (stated : ℕ) → IsOwnHeader (take 20 bytes) stated → AreBare (take (length bytes - 20) (drop 20 bytes)) → IsCanonicalBytes bytes
bare_value bytes long stated own bare =
    let rest = subst AreBare (take_rest bytes 20) bare in
    as_canonical bytes (take 20 bytes) (drop 20 bytes) stated rest.0 (sym (take-append-drop 20 bytes)) (length-take-le 20 bytes long) own rest.1 (inr rest.2)

pub canonical_value : (bytes : List ℕ) → 20 ≤ length bytes → (stated : ℕ) → IsOwnHeader (take 20 bytes) stated → 0 < stated → AreCanonical (take (length bytes - 20) (drop 20 bytes)) → IsCanonicalBytes bytes
canonical_value bytes long stated own some canonical =
    let rest = subst AreCanonical (take_rest bytes 20) canonical in
    as_canonical bytes (take 20 bytes) (drop 20 bytes) stated rest.0 (sym (take-append-drop 20 bytes)) (length-take-le 20 bytes long) own rest.1 (inl some)
