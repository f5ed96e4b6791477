-- The bytes of a string, from its words.
use Rattle.std.proofs.Common.{ℕ, zero, suc, ◌+◌, ◌-◌, ◌*◌, ◌/◌, ◌%◌, ◌<◌, ◌≤◌, ◌≡◌, ◌∙◌, inl, inr, List, [], ◌∷◌, ◌++◌, length, map, take, drop, get_or, replicate, refl, sym, ap, subst, append_assoc, arith}
use Rattle.std.proofs.Common.{length-drop, length-take-le, take_all}
use Rattle.std.specs.Int.{w64, to_le_bytes}
use Rattle.std.specs.List.{flat_map, range_with_len}
use Rattle.std.proofs.Math.Seq.{take-add, take-append-add}
use Rattle.std.proofs.lemmas.Bool.{cases_lt}
use Rattle.std.proofs.lemmas.Grind.{flat_map-append}
use Rattle.std.proofs.lemmas.Nat.{le_bytes_8}
use Rattle.std.proofs.lemmas.List.{append-nil, take-append-le, get_or_past}
use Rattle.std.proofs.lemmas.List.Elements.{All-take, All-drop}
use Rattle.std.proofs.lemmas.List.FromFn.{map-range_with_len_more}
use Rattle.base_data.specs.declared.model.value.Obj.{Obj}
use Rattle.base_data.specs.declared.model.value.Obj.TheVariants as objects
use Rattle.base_data.specs.model.Bytes.{AreBytes}
use Rattle.base_data.specs.model.Graph.{IsObject}
use Rattle.marshal_heap.specs.heap.ObjectWords.{body_of, padded, word_of_bytes, word_at, string_words}
use Rattle.marshal_heap.proofs.heap.HeapStringLemmas.{length-padded, padded_bytes, length-string_words}

abbrev bytes_in : ℕ → List ℕ
bytes_in word = to_le_bytes w64 word

-- ---- the first bytes of words

eight : (word : ℕ) → length (bytes_in word) ≡ 8
eight word = refl

take_words : (words : List ℕ) (len : ℕ) → len / 8 < length words
    → take len (flat_map bytes_in words) ≡ flat_map bytes_in (take (len / 8) words) ++ take (len % 8) (bytes_in (get_or words (len / 8) 0))
take_words words len less = by_parts words (len / 8) (len % 8) len less (omega arith) (omega arith) where
  by_parts : (words : List ℕ) (j k n : ℕ) → j < length words → k ≤ 8 → n ≡ 8 * j + k
      → take n (flat_map bytes_in words) ≡ flat_map bytes_in (take j words) ++ take k (bytes_in (get_or words j 0))
  by_parts [] j k n less few is = absurd (omega arith)
  by_parts (w ∷ ws) zero k n less few is =
      let same : n ≡ k = omega (arith, is) in
      ap (λ m. take m (bytes_in w ++ flat_map bytes_in ws)) same ∙ take-append-le k (bytes_in w) (flat_map bytes_in ws) (omega (arith, few))
  by_parts (w ∷ ws) (suc j) k n less few is =
      let longer : n ≡ 8 + (8 * j + k) = omega (arith, is) in
      ap (λ m. take m (bytes_in w ++ flat_map bytes_in ws)) longer
      ∙ take-append-add (bytes_in w) (flat_map bytes_in ws) (8 * j + k)
      ∙ ap (λ t. bytes_in w ++ t) (by_parts ws j k (8 * j + k) (omega arith) few refl)
      ∙ sym (append_assoc (bytes_in w) (flat_map bytes_in (take j ws)) (take k (bytes_in (get_or ws j 0))))

-- ---- from bytes to words

word_back : (bytes : List ℕ) → length bytes ≡ 8 → AreBytes bytes → bytes_in (word_of_bytes bytes) ≡ bytes
unfolding word_of_bytes
word_back bytes long valid =
    le_bytes_8 bytes _ long (λ i. elim (cases_lt i (length bytes)) [
      | inl inside ↦ valid i 0 inside
      | inr past ↦ omega (arith, get_or_past bytes i 0 past)
    ]) refl

words_back : (bytes : List ℕ) (m : ℕ) → AreBytes bytes → 8 * m ≤ length bytes → flat_map bytes_in (map (word_at bytes) (range_with_len 0 m)) ≡ take (8 * m) bytes
words_back bytes zero valid few = refl
words_back bytes (suc m) valid few =
    let longer : suc m ≡ m + 1 = omega arith in
    let all : 8 * m + 8 ≡ 8 * suc m = omega arith in
    let part = take 8 (drop (8 * m) bytes) in
    ap (λ k. flat_map bytes_in (map (word_at bytes) (range_with_len 0 k))) longer
    ∙ ap (flat_map bytes_in) (map-range_with_len_more (word_at bytes) 0 m m (omega arith))
    ∙ flat_map-append bytes_in (map (word_at bytes) (range_with_len 0 m)) (word_at bytes m ∷ [])
    ∙ ap (λ t. t ++ (bytes_in (word_at bytes m) ++ [])) (words_back bytes m valid (omega arith))
    ∙ ap (λ t. take (8 * m) bytes ++ t) (append-nil (bytes_in (word_at bytes m))
    ∙ word_back part (length-take-le 8 (drop (8 * m) bytes) (omega (arith, length-drop (8 * m) bytes))) (All-take (λ b. b < 256) 8 _ (All-drop (λ b. b < 256) (8 * m) bytes valid)))
    ∙ sym (take-add (8 * m) 8 bytes)
    ∙ ap (λ k. take k bytes) all

string_back : (bytes : List ℕ) → AreBytes bytes → take (length bytes) (flat_map bytes_in (string_words bytes)) ≡ bytes
unfolding string_words
string_back bytes valid =
    let ending : List ℕ = replicate (7 - length bytes % 8) 0 ++ (7 - length bytes % 8) ∷ [] in
    let long = length-padded bytes in
    ap (take (length bytes)) (words_back (padded bytes) (length bytes / 8 + 1) (padded_bytes bytes valid) (omega (arith, long))
    ∙ take_all (8 * (length bytes / 8 + 1)) (padded bytes) (omega (arith, long)))
    ∙ take-append-le (length bytes) bytes ending (omega arith)
    ∙ take_all (length bytes) bytes (omega arith)

-- ---- the words as the code reads them

pub words_written : (f : ℕ → List ℕ) (words : List ℕ) (len j : ℕ) (old start last all : List ℕ) → len / 8 < length words → j ≡ len / 8
    → last ≡ take (len % 8) (bytes_in (get_or words (len / 8) 0)) → start ≡ old ++ flat_map f (flat_map bytes_in (take j words)) → all ≡ start ++ flat_map f last
    → all ≡ old ++ flat_map f (take len (flat_map bytes_in words))
words_written f words len j old start last all less whole is_last is_start is_all =
    let prefix = flat_map bytes_in (take (len / 8) words) in
    let end = take (len % 8) (bytes_in (get_or words (len / 8) 0)) in
    is_all ∙ ap (λ t. start ++ flat_map f t) is_last
    ∙ ap (λ t. t ++ flat_map f end) (is_start ∙ ap (λ k. old ++ flat_map f (flat_map bytes_in (take k words))) whole)
    ∙ append_assoc old (flat_map f prefix) (flat_map f end)
    ∙ ap (λ t. old ++ t) (sym (flat_map-append f prefix end) ∙ ap (flat_map f) (sym (take_words words len less)))

-- The first `len` bytes of `words` are `bytes`, and `words` has a word at the index `len / 8`.
pub record AreWords (bytes words : List ℕ) (len : ℕ) : Type 0 where
  pub reach : len / 8 < length words
  pub are : take len (flat_map bytes_in words) ≡ bytes

pub string_body : (graph : List Obj) (object : Obj) (bytes words : List ℕ) (len : ℕ) → IsObject (length graph) object → object ≡ objects.Bytes bytes → words ≡ body_of graph object → len ≡ length bytes
    → AreWords bytes words len
string_body graph object bytes words len valid is are all =
    let each : AreBytes bytes = subst (IsObject (length graph)) is valid in
    let body : words ≡ string_words bytes = are ∙ ap (body_of graph) is in
    let many : length words ≡ length bytes / 8 + 1 = ap length body ∙ length-string_words bytes in record {
      reach = omega (arith, many, all);
      are = ap (λ n. take n (flat_map bytes_in words)) all ∙ ap (λ ws. take (length bytes) (flat_map bytes_in ws)) body ∙ string_back bytes each;
    }
