-- A small header is the encoding of the numbers that the header states.
use Rattle.std.proofs.Common.{ℕ, ◌≡◌, ◌+◌, ◌-◌, ◌<◌, ◌≤◌, ◌∙◌, inl, inr, false, true, cond, List, [], ◌∷◌, ◌++◌, length, take, drop, sym, ap, ap₂, subst, arith}
use Rattle.std.specs.Prelude.{slice_range, ◌==◌}
use Rattle.std.specs.Int.{byte_at, bytes_high_first}
use Rattle.std.proofs.lemmas.List.{length-take-le, length-drop, drop_all}
use Rattle.std.proofs.lemmas.List.Folds.{drop_split}
use Rattle.std.proofs.lemmas.List.Elements.{All-head, All-tail, All-take, All-drop}
use Rattle.base_data.specs.declared.model.header.Head.{Head}
use Rattle.base_data.specs.model.Bytes.{AreBytes, number}
use Rattle.marshal_spec.specs.format.Header.{magic, small_magic, big_magic, small_head, big_head, head_of}
use Rattle.marshal_spec.specs.format.Canonical.{header_encoding}
use Rattle.marshal_codec.specs.headers.Parsing.{HasMagic}
use Rattle.marshal_codec.specs.headers.Encoding.{HasSmallNumbers}
use Rattle.marshal_write.specs.canonical_check.Canonicity.{IsOwnHeader}

-- ---- a number of four bytes

four : (a b c d : ℕ) → a < 256 → b < 256 → c < 256 → d < 256 → bytes_high_first 4 (number (a ∷ b ∷ c ∷ d ∷ [])) ≡ a ∷ b ∷ c ∷ d ∷ []
four a b c d ha hb hc hd =
    let n = number (a ∷ b ∷ c ∷ d ∷ []) in
    let first : byte_at 3 n ≡ a = omega arith in
    let second : byte_at 2 n ≡ b = omega arith in
    let third : byte_at 1 n ≡ c = omega arith in
    let fourth : byte_at 0 n ≡ d = omega arith in
    cc

four_of : (xs : List ℕ) → AreBytes xs → length xs ≡ 4 → bytes_high_first 4 (number xs) ≡ xs
four_of [] are long = absurd (omega arith)
four_of (a ∷ []) are long = absurd (omega arith)
four_of (a ∷ b ∷ []) are long = absurd (omega arith)
four_of (a ∷ b ∷ c ∷ []) are long = absurd (omega arith)
four_of (a ∷ b ∷ c ∷ d ∷ e ∷ xs) are long = absurd (omega arith)
four_of (a ∷ b ∷ c ∷ d ∷ []) are long =
    let P : ℕ → Type 0 = λ x. x < 256 in
    let rest = All-tail P a (b ∷ c ∷ d ∷ []) are in
    let more = All-tail P b (c ∷ d ∷ []) rest in
    let last = All-tail P c (d ∷ []) more in
    four a b c d (All-head P a (b ∷ c ∷ d ∷ []) are) (All-head P b (c ∷ d ∷ []) rest) (All-head P c (d ∷ []) more) (All-head P d [] last)

-- The number of four bytes at an offset, encoded again and followed by the next bytes, gives the
-- bytes from the offset on.
part : (at : ℕ) (xs rest : List ℕ) → AreBytes xs → at + 4 ≤ length xs → rest ≡ drop (at + 4) xs → bytes_high_first 4 (number (slice_range xs at (at + 4))) ++ rest ≡ drop at xs
part at xs rest are within is =
    let few : at ≤ at + 4 = omega arith in
    let split = drop_split xs at (at + 4) few in
    let many = length-drop at xs in
    let width : at + 4 - at ≡ 4 = omega arith in
    let long : length (slice_range xs at (at + 4)) ≡ 4 = subst (λ k. length (take k (drop at xs)) ≡ 4) (sym width) (length-take-le 4 (drop at xs) (omega (arith, many, within))) in
    let bytes : AreBytes (slice_range xs at (at + 4)) = All-take (λ b. b < 256) (at + 4 - at) (drop at xs) (All-drop (λ b. b < 256) at xs are) in
    ap₂ ◌++◌ (four_of (slice_range xs at (at + 4)) bytes long) is ∙ sym split

-- ---- the header

small_encoded : (header : List ℕ) → AreBytes header → length header ≡ 20 → magic header ≡ small_magic → header ≡ header_encoding (small_head header)
unfolding header_encoding
small_encoded header are long is =
    let v = bytes_high_first 4 (number (slice_range header 16 20)) ++ [] in
    let w = bytes_high_first 4 (number (slice_range header 12 16)) ++ v in
    let o = bytes_high_first 4 (number (slice_range header 8 12)) ++ w in
    let n = bytes_high_first 4 (number (slice_range header 4 8)) ++ o in
    let last : v ≡ drop 16 header = part 16 header [] are (omega (arith, long)) (sym (drop_all 20 header (omega (arith, long)))) in
    let fourth : w ≡ drop 12 header = part 12 header v are (omega (arith, long)) last in
    let third : o ≡ drop 8 header = part 8 header w are (omega (arith, long)) fourth in
    let second : n ≡ drop 4 header = part 4 header o are (omega (arith, long)) third in
    let first : bytes_high_first 4 (magic header) ++ n ≡ header = part 0 header n are (omega (arith, long)) second in
    sym (ap (λ m. bytes_high_first 4 m ++ n) (sym is) ∙ first)

head_small : (header : List ℕ) → magic header ≡ small_magic → head_of header ≡ small_head header
unfolding head_of
head_small header is = ap (λ m. cond (m == big_magic) (big_head header) (small_head header)) is

big_of : (header : List ℕ) → magic header ≡ big_magic → (head_of header).big ≡ true
unfolding head_of
big_of header is = ap (λ m. (cond (m == big_magic) (big_head header) (small_head header)).big) is

pub own_header : (header : List ℕ) (head : Head) → AreBytes header → length header ≡ 20 → HasMagic header → head ≡ head_of header → head.big ≡ false → HasSmallNumbers head → IsOwnHeader header head.objects
own_header header head are long (inr is) same small numbers = absurd (let big = big_of header is in let fields = ap (λ (h : Head). h.big) same in cc)
own_header header head are long (inl is) same small numbers = record {
  small = is;
  big_is = ap (λ (h : Head). h.big) (sym same) ∙ small;
  numbers = subst HasSmallNumbers same numbers;
  objects_are = ap (λ (h : Head). h.objects) (sym same);
  encoded = small_encoded header are long is ∙ ap header_encoding (sym (head_small header is));
}
