-- Lemmas on the bytes of a string, one 64-bit word at a time.
use Rattle.std.specs.Int.{to_le_bytes, w64}
use Rattle.std.proofs.Common.{ℕ, zero, suc, ◌≡◌, ◌+◌, ◌-◌, ◌*◌, ◌/◌, ◌%◌, ◌<◌, ◌∙◌, List, [], ◌∷◌, ◌++◌, length, get_or, take, drop, refl, sym, ap, subst, arith, length-drop, take_all, Result}
use Rattle.std.proofs.lemmas.List.{take-append-le, take-append-drop}
use Rattle.base_data.specs.declared.model.value.Obj.{Obj}
use Rattle.base_data.specs.declared.model.value.Obj.TheVariants as objects
use Rattle.base_data.specs.model.Bytes.{AreBytes}
use Rattle.base_data.specs.model.Graph.{IsObject}
use Rattle.marshal_heap.specs.heap.Heap.{object_at, bytes_of, IsHeap}
use Rattle.marshal_heap.specs.heap.ObjectWords.{body_of, bytes_of_word, string_words}
use Rattle.marshal_heap.proofs.heap.HeapStringLemmas.{last_bytes, eight_bytes, word_bytes, length-string_words}
use Rattle.base_io.specs.StreamState.{ByteState}
use Rattle.marshal_write.specs.write.WriteBuffer.{AddsAll, AddsPart, Adds}
use Rattle.marshal_write.proofs.write.WriterTextLemmas.{adds_both, adds_then, adds_then_part, adds_part_of}

-- ---- the bytes of words

take_none : (n : ℕ) → let none : List ℕ = [] in take n none ≡ none
take_none zero = refl
take_none (suc n) = refl

take_plus : (m n : ℕ) (xs : List ℕ) → take (m + n) xs ≡ take m xs ++ take n (drop m xs)
take_plus zero n xs = ap (λ k. take k xs) (omega arith)
take_plus (suc m) n [] = take_none (suc m + n) ∙ sym (take_none n)
take_plus (suc m) n (x ∷ xs) = let position : suc m + n ≡ suc (m + n) = omega arith in rw position (ap (λ ys. x ∷ ys) (take_plus m n xs))

-- Word `j` of a string holds the eight bytes after the string's first 8 * `j` bytes.
pub whole_word : (bytes : List ℕ) (j : ℕ) → AreBytes bytes → j < length bytes / 8
    → take (8 * (j + 1)) bytes ≡ take (8 * j) bytes ++ bytes_of_word (get_or (string_words bytes) j 0)
whole_word bytes j valid inside =
    let position : 8 * (j + 1) ≡ 8 * j + 8 = omega arith in
    rw position (take_plus (8 * j) 8 bytes)
    ∙ ap (λ t. take (8 * j) bytes ++ t) (sym (word_bytes bytes j valid (omega arith) ∙ eight_bytes bytes j inside))

-- The last word of a string holds the remaining bytes of the string.
pub last_word : (bytes : List ℕ) → AreBytes bytes
    → take (8 * (length bytes / 8)) bytes ++ take (length bytes % 8) (bytes_of_word (get_or (string_words bytes) (length bytes / 8) 0)) ≡ bytes
last_word bytes valid =
    let m = 8 * (length bytes / 8) in
    let rest : length bytes % 8 ≡ length (drop m bytes) = omega (arith, length-drop m bytes) in
    ap (λ t. take m bytes ++ t)
    (ap (take (length bytes % 8)) (word_bytes bytes (length bytes / 8) valid (omega arith) ∙ last_bytes bytes)
    ∙ take-append-le (length bytes % 8) (drop m bytes) _ (omega (arith, rest))
    ∙ take_all (length bytes % 8) (drop m bytes) (omega (arith, rest)))
    ∙ take-append-drop m bytes

pub record HasWords (bytes words : List ℕ) : Type 0 where
  pub valid : AreBytes bytes
  pub are : words ≡ string_words bytes
  pub many : length words ≡ length bytes / 8 + 1

pub string_body : (g : List Obj) (k : ℕ) (words : List ℕ) → IsHeap g → k < length g → object_at g k ≡ objects.Bytes (bytes_of (object_at g k))
    → words ≡ body_of g (object_at g k) → HasWords (bytes_of (object_at g k)) words
string_body g k words heap inside is are =
    let bytes = bytes_of (object_at g k) in
    let h : IsObject (length g) (objects.Bytes bytes) = subst (IsObject (length g)) is (heap.is_graph k _ inside) in
    let same : words ≡ string_words bytes = are ∙ ap (body_of g) is in
    record { valid = h; are = same; many = ap length same ∙ length-string_words bytes }

-- ---- as text

module _ (bytes words chunk : List ℕ) (has : HasWords bytes words) where
  joined : (j : ℕ) → j < length bytes / 8 → chunk ≡ to_le_bytes w64 (get_or words j 0) → take (8 * j) bytes ++ chunk ≡ take (8 * (j + 1)) bytes
  unfolding bytes_of_word
  joined j inside is =
      ap (λ t. take (8 * j) bytes ++ t) (is ∙ ap (λ ws. to_le_bytes w64 (get_or ws j 0)) has.are) ∙ sym (whole_word bytes j has.valid inside)

  pub word_adds : (a b c : ByteState) (x y z : List ℕ) (j : ℕ) → j < length bytes / 8 → chunk ≡ to_le_bytes w64 (get_or words j 0)
      → AddsAll a b x y (take (8 * j) bytes) → AddsAll b c y z chunk → AddsAll a c x z (take (8 * (j + 1)) bytes)
  word_adds a b c x y z j inside is first second =
      subst (AddsAll a c x z) (joined j inside is) (adds_both a b c x y z (take (8 * j) bytes) chunk first second)

  pub word_fails : (a b c : ByteState) (x y : List ℕ) (j : ℕ) → j < length bytes / 8 → chunk ≡ to_le_bytes w64 (get_or words j 0)
      → AddsAll a b x y (take (8 * j) bytes) → AddsPart b c y chunk → AddsPart a c x bytes
  word_fails a b c x y j inside is first second =
      subst (AddsPart a c x) (take-append-drop (8 * (j + 1)) bytes)
      (adds_part_of a c x (take (8 * (j + 1)) bytes) (drop (8 * (j + 1)) bytes)
      (subst (AddsPart a c x) (joined j inside is) (adds_then_part a b c x y (take (8 * j) bytes) chunk first second)))

  pub last_adds : {A E : Type 0} (a b c : ByteState) (x y z : List ℕ) (m n : ℕ) (result : Result A E) → m ≡ n / 8 → n ≡ length bytes → chunk ≡ to_le_bytes w64 (get_or words (n / 8) 0)
      → AddsAll a b x y (take (8 * m) bytes) → Adds b c y z (take (n % 8) chunk) result → Adds a c x z bytes result
  unfolding bytes_of_word
  last_adds a b c x y z m n result position many is first second =
      let whole : take (8 * (n / 8)) bytes ++ take (n % 8) chunk ≡ bytes =
      ap (λ p. take (8 * (n / 8)) bytes ++ take (n % 8) p) (is ∙ ap (λ ws. to_le_bytes w64 (get_or ws (n / 8) 0)) has.are)
      ∙ ap (λ m. take (8 * (m / 8)) bytes ++ take (m % 8) (to_le_bytes w64 (get_or (string_words bytes) (m / 8) 0))) many
      ∙ last_word bytes has.valid in
      subst (λ t. Adds a c x z t result) whole (adds_then a b c x y z (take (8 * (n / 8)) bytes) (take (n % 8) chunk) result (subst (λ k. AddsAll a b x y (take (8 * k) bytes)) position first) second)
