-- Lemmas on strings that are stored as words.
use Rattle.std.proofs.Common.{◌≡◌, ℕ, ◌+◌, ◌-◌, ◌*◌, ◌/◌, ◌%◌, ◌<◌, List, [], ◌∷◌, ◌++◌, length, get_or, set, take, drop, map, replicate, refl, sym, ap, ap₂, ◌∙◌, inl, inr, arith, length-set, length-drop, length-append, length-take-le, get_or-take, get_or-drop, append_assoc, take_all}
use Rattle.std.specs.List.{range_with_len}
use Rattle.std.proofs.Math.Seq.{take-set-lt}
use Rattle.std.proofs.lemmas.Bool.{cases_lt, cases_eq}
use Rattle.std.proofs.lemmas.Nat.{le_bytes_8}
use Rattle.std.proofs.lemmas.List.{length-replicate, get_or-replicate, get_or_past, get_or_append_left, get_or_push, set-append_left, take-set-le, drop-set-lt, drop-set-add, drop-append-le, take-append-le, drop-replicate, take-replicate, ext_get_or, get_or-set_same, get_or-set_other}
use Rattle.std.proofs.lemmas.List.Elements.{All-append, All-replicate, All-cons, All-nil, All-take, All-drop}
use Rattle.std.proofs.lemmas.List.FromFn.{length-map-range_with_len, get_or-map-range_with_len, map-range_with_len_more, fill_by_all}
use Rattle.base_data.specs.model.Bytes.{AreBytes}
use Rattle.marshal_heap.specs.heap.Stored.{string_length, bytes_from}
use Rattle.marshal_heap.specs.heap.ObjectWords.{padded, word_of_bytes, bytes_of_word, word_at, string_words, byte_in}

-- If a word is made of eight bytes, then the bytes of the word are these eight bytes.
pub word_back : (bytes : List ℕ) → length bytes ≡ 8 → AreBytes bytes → bytes_of_word (word_of_bytes bytes) ≡ bytes
unfolding word_of_bytes bytes_of_word
word_back bytes eight valid =
    le_bytes_8 bytes _ eight (λ i. elim (cases_lt i (length bytes)) [
      | inl inside ↦ valid i 0 inside
      | inr past ↦ omega (arith, get_or_past bytes i 0 past)
    ]) refl

pub padded_bytes : (bytes : List ℕ) → AreBytes bytes → AreBytes (padded bytes)
padded_bytes bytes valid =
    All-append (λ b. b < 256) bytes _ valid (All-append (λ b. b < 256) (replicate (7 - length bytes % 8) 0) _ (All-replicate (λ b. b < 256) (7 - length bytes % 8) 0 (omega arith)) (All-cons (λ b. b < 256) (7 - length bytes % 8) [] (omega arith) (All-nil (λ b. b < 256))))

pub length-padded : (bytes : List ℕ) → length (padded bytes) ≡ 8 * (length bytes / 8 + 1)
length-padded bytes =
    omega (arith, length-append bytes (replicate (7 - length bytes % 8) 0 ++ (7 - length bytes % 8) ∷ []), length-append (replicate (7 - length bytes % 8) 0) ((7 - length bytes % 8) ∷ []), length-replicate {A = ℕ} (7 - length bytes % 8) 0)

pub length-string_words : (bytes : List ℕ) → length (string_words bytes) ≡ length bytes / 8 + 1
unfolding string_words
length-string_words bytes = length-map-range_with_len (word_at (padded bytes)) 0 (length bytes / 8 + 1)

pub get_or-string_words : (bytes : List ℕ) (j : ℕ) → j < length bytes / 8 + 1 → get_or (string_words bytes) j 0 ≡ word_at (padded bytes) j
unfolding string_words
get_or-string_words bytes j inside = get_or-map-range_with_len (word_at (padded bytes)) 0 (length bytes / 8 + 1) j j 0 inside (omega arith)

-- The bytes of word `j` are the eight bytes from 8 * `j` on of the padded string.
pub word_bytes : (bytes : List ℕ) (j : ℕ) → AreBytes bytes → j < length bytes / 8 + 1 → bytes_of_word (get_or (string_words bytes) j 0) ≡ take 8 (drop (8 * j) (padded bytes))
word_bytes bytes j valid inside =
    ap bytes_of_word (get_or-string_words bytes j inside)
    ∙ word_back (take 8 (drop (8 * j) (padded bytes))) (length-take-le 8 (drop (8 * j) (padded bytes)) (omega (arith, length-drop (8 * j) (padded bytes), length-padded bytes)))
    (All-take (λ b. b < 256) 8 _ (All-drop (λ b. b < 256) (8 * j) (padded bytes) (padded_bytes bytes valid)))

-- Byte `i` of a string's words is byte `i` of the padded string.
pub byte_in_words : (bytes : List ℕ) (i : ℕ) → AreBytes bytes → i < 8 * (length bytes / 8 + 1) → byte_in (string_words bytes) i ≡ get_or (padded bytes) i 0
byte_in_words bytes i valid inside =
    let at : 8 * (i / 8) + i % 8 ≡ i = omega arith in
    ap (λ (xs : List ℕ). get_or xs (i % 8) 0) (word_bytes bytes (i / 8) valid (omega arith))
    ∙ get_or-take 8 (drop (8 * (i / 8)) (padded bytes)) (i % 8) 0 (omega arith)
    ∙ get_or-drop (8 * (i / 8)) (padded bytes) (i % 8) 0
    ∙ ap (λ (k : ℕ). get_or (padded bytes) k 0) at

pub byte_in_string : (bytes : List ℕ) (i : ℕ) → AreBytes bytes → i < length bytes → byte_in (string_words bytes) i ≡ get_or bytes i 0
byte_in_string bytes i valid inside =
    byte_in_words bytes i valid (omega arith) ∙ get_or_append_left bytes _ 0 i inside

-- The last byte of a string's words is the number of padding bytes before it.
pub last_byte : (bytes : List ℕ) → AreBytes bytes → byte_in (string_words bytes) (8 * (length bytes / 8 + 1) - 1) ≡ 7 - length bytes % 8
last_byte bytes valid =
    let prefix : List ℕ = bytes ++ replicate (7 - length bytes % 8) 0 in
    let whole : padded bytes ≡ prefix ++ (7 - length bytes % 8) ∷ [] = sym (append_assoc bytes (replicate (7 - length bytes % 8) 0) ((7 - length bytes % 8) ∷ [])) in
    let before : length prefix ≡ 8 * (length bytes / 8 + 1) - 1 = omega (arith, length-append bytes (replicate (7 - length bytes % 8) 0), length-replicate {A = ℕ} (7 - length bytes % 8) 0) in
    byte_in_words bytes (8 * (length bytes / 8 + 1) - 1) valid (omega arith)
    ∙ ap (λ (xs : List ℕ). get_or xs (8 * (length bytes / 8 + 1) - 1) 0) whole
    ∙ get_or_push prefix (7 - length bytes % 8) 0 (8 * (length bytes / 8 + 1) - 1) before

pub string_length_is : (bytes : List ℕ) → AreBytes bytes → string_length (string_words bytes) ≡ length bytes
string_length_is bytes valid =
    ap (λ (n : ℕ). 8 * n - 1 - byte_in (string_words bytes) (8 * n - 1)) (length-string_words bytes)
    ∙ omega (arith, last_byte bytes valid)

pub bytes_back : (bytes : List ℕ) → AreBytes bytes → bytes_from (string_words bytes) ≡ bytes
unfolding bytes_from
bytes_back bytes valid =
    ap (λ (n : ℕ). map (byte_in (string_words bytes)) (range_with_len 0 n)) (string_length_is bytes valid)
    ∙ sym (fill_by_all (byte_in (string_words bytes)) bytes (length bytes) 0 refl (λ k inside. sym (byte_in_string bytes k valid inside)))

-- Each word before the last word consists of eight bytes of the string.
pub eight_bytes : (bytes : List ℕ) (j : ℕ) → j < length bytes / 8 → take 8 (drop (8 * j) (padded bytes)) ≡ take 8 (drop (8 * j) bytes)
eight_bytes bytes j inside =
    ap (take 8) (drop-append-le (8 * j) bytes _ (omega arith))
    ∙ take-append-le 8 (drop (8 * j) bytes) _ (omega (arith, length-drop (8 * j) bytes))

-- The last word contains the remaining bytes of the string and the padding.
pub last_bytes : (bytes : List ℕ) → take 8 (drop (8 * (length bytes / 8)) (padded bytes)) ≡ drop (8 * (length bytes / 8)) bytes ++ (replicate (7 - length bytes % 8) 0 ++ (7 - length bytes % 8) ∷ [])
last_bytes bytes =
    let m = 8 * (length bytes / 8) in
    let ending : List ℕ = replicate (7 - length bytes % 8) 0 ++ (7 - length bytes % 8) ∷ [] in
    ap (take 8) (drop-append-le m bytes ending (omega arith))
    ∙ take_all 8 (drop m bytes ++ ending) (omega (arith, length-append (drop m bytes) ending, length-drop m bytes, length-append (replicate (7 - length bytes % 8) 0) ((7 - length bytes % 8) ∷ []), length-replicate {A = ℕ} (7 - length bytes % 8) 0))

-- The words of a string are the words filled with the string's bytes, and the last word.
pub string_words_are : (bytes : List ℕ) → string_words bytes ≡ map (word_at (padded bytes)) (range_with_len 0 (length bytes / 8)) ++ word_of_bytes (drop (8 * (length bytes / 8)) bytes ++ (replicate (7 - length bytes % 8) 0 ++ (7 - length bytes % 8) ∷ [])) ∷ []
unfolding string_words
string_words_are bytes =
    map-range_with_len_more (word_at (padded bytes)) 0 (length bytes / 8) (length bytes / 8) (omega arith)
    ∙ ap (λ (w : ℕ). map (word_at (padded bytes)) (range_with_len 0 (length bytes / 8)) ++ w ∷ []) (ap word_of_bytes (last_bytes bytes))

-- If byte `i` of a string is replaced, then byte `i` of the padded string and of its words is
-- replaced.
module _ (bytes : List ℕ) (i b : ℕ) (inside : i < length bytes) where
  padded-set : padded (set bytes i b) ≡ set (padded bytes) i b
  padded-set =
      ap (λ (n : ℕ). set bytes i b ++ (replicate (7 - n % 8) 0 ++ (7 - n % 8) ∷ [])) (length-set bytes i b)
      ∙ sym (set-append_left bytes (replicate (7 - length bytes % 8) 0 ++ (7 - length bytes % 8) ∷ []) i b inside)

  same_word : take 8 (drop (8 * (i / 8)) (set (padded bytes) i b)) ≡ set (take 8 (drop (8 * (i / 8)) (padded bytes))) (i % 8) b
  same_word =
      let at : i ≡ 8 * (i / 8) + i % 8 = omega arith in
      ap (λ (k : ℕ). take 8 (drop (8 * (i / 8)) (set (padded bytes) k b))) at
      ∙ ap (take 8) (drop-set-add (8 * (i / 8)) (padded bytes) (i % 8) b)
      ∙ take-set-lt 8 (drop (8 * (i / 8)) (padded bytes)) (i % 8) b (omega arith)

  other_word : (j : ℕ) → (j ≡ i / 8 → ⊥) → take 8 (drop (8 * j) (set (padded bytes) i b)) ≡ take 8 (drop (8 * j) (padded bytes))
  other_word j other = elim (cases_lt i (8 * j)) [
    | inl before ↦ ap (take 8) (drop-set-lt (8 * j) (padded bytes) i b before)
    | inr after ↦
        let at : i ≡ 8 * j + (i - 8 * j) = omega arith in
        ap (λ (k : ℕ). take 8 (drop (8 * j) (set (padded bytes) k b))) at
        ∙ ap (take 8) (drop-set-add (8 * j) (padded bytes) (i - 8 * j) b)
        ∙ take-set-le 8 (drop (8 * j) (padded bytes)) (i - 8 * j) b (omega arith)
  ]

  pub string_words-set : AreBytes bytes → string_words (set bytes i b) ≡ set (string_words bytes) (i / 8) (word_of_bytes (set (bytes_of_word (get_or (string_words bytes) (i / 8) 0)) (i % 8) b))
  string_words-set valid =
      let word : ℕ = word_of_bytes (set (bytes_of_word (get_or (string_words bytes) (i / 8) 0)) (i % 8) b) in
      let many : length (string_words (set bytes i b)) ≡ length bytes / 8 + 1 = length-string_words (set bytes i b) ∙ ap (λ (n : ℕ). n / 8 + 1) (length-set bytes i b) in
      ext_get_or 0 (string_words (set bytes i b)) (set (string_words bytes) (i / 8) word)
      (omega (arith, many, length-set (string_words bytes) (i / 8) word, length-string_words bytes))
      (λ j here.
      let few : j < length bytes / 8 + 1 = omega (arith, many) in
      let new : get_or (string_words (set bytes i b)) j 0 ≡ word_of_bytes (take 8 (drop (8 * j) (set (padded bytes) i b))) =
      get_or-string_words (set bytes i b) j (omega (arith, length-set bytes i b)) ∙ ap (λ (xs : List ℕ). word_at xs j) padded-set in
      elim (cases_eq j (i / 8)) [
        | inl e ↦
            new
            ∙ ap (λ (k : ℕ). word_of_bytes (take 8 (drop (8 * k) (set (padded bytes) i b)))) e
            ∙ ap word_of_bytes (same_word ∙ ap (λ (xs : List ℕ). set xs (i % 8) b) (sym (word_bytes bytes (i / 8) valid (omega arith))))
            ∙ sym (ap (λ (k : ℕ). get_or (set (string_words bytes) (i / 8) word) k 0) e ∙ get_or-set_same (string_words bytes) (i / 8) word 0 (omega (arith, length-string_words bytes)))
        | inr other ↦
            new
            ∙ ap word_of_bytes (other_word j other)
            ∙ sym (get_or-set_other (string_words bytes) (i / 8) j word 0 other ∙ get_or-string_words bytes j few)
      ])

zero_word : word_of_bytes (replicate 8 0) ≡ 0
unfolding word_of_bytes
zero_word = refl

-- The words of a string of zero bytes are zero words and the last word.
pub zero_words : (len : ℕ) → string_words (replicate len 0) ≡ replicate (len / 8) 0 ++ word_of_bytes (replicate (len % 8) 0 ++ (replicate (7 - len % 8) 0 ++ (7 - len % 8) ∷ [])) ∷ []
zero_words len =
    let zeros : List ℕ = replicate len 0 in
    let long : length zeros ≡ len = length-replicate len 0 in
    let rest : drop (8 * (len / 8)) zeros ≡ replicate (len % 8) 0 = drop-replicate (8 * (len / 8)) len 0 ∙ (let e : len - 8 * (len / 8) ≡ len % 8 = omega arith in ap (λ (k : ℕ). replicate k 0) e) in
    let none : (k : ℕ) → k < len / 8 → word_at (padded zeros) k ≡ 0 =
    λ k inside.
    let part : take 8 (drop (8 * k) zeros) ≡ replicate 8 0 = ap (take 8) (drop-replicate (8 * k) len 0) ∙ take-replicate 8 (len - 8 * k) 0 (omega arith) in
    ap word_of_bytes (eight_bytes zeros k (omega arith) ∙ part) ∙ zero_word in
    let whole : map (word_at (padded zeros)) (range_with_len 0 (len / 8)) ≡ replicate (len / 8) 0 =
    sym (fill_by_all (word_at (padded zeros)) (replicate (len / 8) 0) (len / 8) 0 (length-replicate (len / 8) 0) (λ k inside. get_or-replicate (len / 8) k 0 0 inside ∙ sym (none k inside))) in
    string_words_are zeros
    ∙ ap (λ (n : ℕ). map (word_at (padded zeros)) (range_with_len 0 (n / 8)) ++ word_of_bytes (drop (8 * (n / 8)) zeros ++ (replicate (7 - n % 8) 0 ++ (7 - n % 8) ∷ [])) ∷ []) long
    ∙ ap₂ (λ xs ys. xs ++ word_of_bytes (ys ++ (replicate (7 - len % 8) 0 ++ (7 - len % 8) ∷ [])) ∷ []) whole rest
