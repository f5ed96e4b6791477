-- Pair lines whose objects differ only in the last digit.
use Rattle.std.proofs.Common.{zero, suc, add-zero, ℕ, ◌≡◌, ◌∙◌, ◌<◌, ◌≤◌, ◌+◌, ◌-◌, ◌*◌, ◌/◌, ◌%◌, ◌^◌, List, [], ◌∷◌, ◌++◌, length, take, drop, get_or, refl, sym, ap, inl, inr, arith, length-append, append_assoc}
use Rattle.std.specs.Prelude.{codes, decimal}
use Rattle.std.proofs.lemmas.Bool.{cases_lt}
use Rattle.std.proofs.lemmas.Fmt.{decimal_digit, decimal_step}
use Rattle.std.proofs.lemmas.List.{length-take-le, get_or-take, get_or_default, take-append-drop, take_rest, take_at, drop_more, same_lists}
use Rattle.std.proofs.lemmas.Nat.{le_bytes_8}
use Rattle.cert_format.specs.CertificateNumbers.{IsNumber}
use Rattle.cert_format.specs.PairRuns.{eight_from, word_of, IsPairEnd, IsFirstPair, IsStem}

-- ---- 64-bit words

abbrev pub AreBytes : List ℕ → Type 0
AreBytes bytes = (k : ℕ) → get_or bytes k 0 < 256

eight_bytes : (bytes : List ℕ) (position : ℕ) → AreBytes bytes → AreBytes (eight_from bytes position)
eight_bytes bytes position valid zero = valid position
eight_bytes bytes position valid (suc zero) = valid (position + 1)
eight_bytes bytes position valid (suc (suc zero)) = valid (position + 2)
eight_bytes bytes position valid (suc (suc (suc zero))) = valid (position + 3)
eight_bytes bytes position valid (suc (suc (suc (suc zero)))) = valid (position + 4)
eight_bytes bytes position valid (suc (suc (suc (suc (suc zero))))) = valid (position + 5)
eight_bytes bytes position valid (suc (suc (suc (suc (suc (suc zero)))))) = valid (position + 6)
eight_bytes bytes position valid (suc (suc (suc (suc (suc (suc (suc zero))))))) = valid (position + 7)
eight_bytes bytes position valid (suc (suc (suc (suc (suc (suc (suc (suc k)))))))) = omega arith

at_eight : (bytes : List ℕ) (position j : ℕ) → j < 8 → get_or (eight_from bytes position) j 0 ≡ get_or bytes (position + j) 0
at_eight bytes position zero less = ap (λ (n : ℕ). get_or bytes n 0) (sym (add-zero position))
at_eight bytes position (suc zero) less = refl
at_eight bytes position (suc (suc zero)) less = refl
at_eight bytes position (suc (suc (suc zero))) less = refl
at_eight bytes position (suc (suc (suc (suc zero)))) less = refl
at_eight bytes position (suc (suc (suc (suc (suc zero))))) less = refl
at_eight bytes position (suc (suc (suc (suc (suc (suc zero)))))) less = refl
at_eight bytes position (suc (suc (suc (suc (suc (suc (suc zero))))))) less = refl
at_eight bytes position (suc (suc (suc (suc (suc (suc (suc (suc k)))))))) less = absurd (omega (arith, less))

-- If two lists of eight bytes form the same word, then they are equal.
words_report :
    (one other : List ℕ) (position : ℕ) → AreBytes one → AreBytes other → word_of one position ≡ word_of other position
    → eight_from one position ≡ eight_from other position
unfolding word_of
words_report one other position valid sound same =
    sym (le_bytes_8 (eight_from one position) (word_of one position) refl (eight_bytes one position valid) refl)
    ∙ le_bytes_8 (eight_from other position) (word_of one position) refl (eight_bytes other position sound) same

-- If eight bytes of two lists form the same word, then the two bytes at each of the eight positions
-- are equal.
byte_known :
    (one other : List ℕ) (position k : ℕ) → AreBytes one → AreBytes other → word_of one position ≡ word_of other position → position ≤ k → k < position + 8
    → get_or one k 0 ≡ get_or other k 0
byte_known one other position k valid sound same low high =
    let at : position + (k - position) ≡ k = omega (arith, low) in
    let less : k - position < 8 = omega (arith, low, high) in
    sym (is_at one at less)
    ∙ (ap (λ (z : List ℕ). get_or z (k - position) 0) (words_report one other position valid sound same) ∙ is_at other at less) where
      is_at : (bytes : List ℕ) → position + (k - position) ≡ k → k - position < 8 → get_or (eight_from bytes position) (k - position) 0 ≡ get_or bytes k 0
      is_at bytes at less = at_eight bytes position (k - position) less ∙ ap (λ (n : ℕ). get_or bytes n 0) at

-- If two overlapping words are equal, then the text begins with the bytes that they cover.
pub prefix_known :
    (text prefix : List ℕ) → 8 ≤ length prefix → length prefix ≤ 16 → length prefix ≤ length text → AreBytes text → AreBytes prefix
    → word_of text 0 ≡ word_of prefix 0 → word_of text (length prefix - 8) ≡ word_of prefix (length prefix - 8)
    → take (length prefix) text ≡ prefix
prefix_known text prefix many few within valid sound first last =
    same_lists (take (length prefix) text) prefix long
    (λ k d inside. get_or-take (length prefix) text k d (omega (arith, long, inside)) ∙ at_all k d (omega (arith, long, inside))) where
      long : length (take (length prefix) text) ≡ length prefix
      long = length-take-le (length prefix) text within

      by_half : (k : ℕ) → k < length prefix → get_or text k 0 ≡ get_or prefix k 0
      by_half k inside = elim (cases_lt k 8) [
        | inl near ↦ byte_known text prefix 0 k valid sound first (omega arith) (omega (arith, near))
        | inr far ↦
            byte_known text prefix (length prefix - 8) k valid sound last (omega (arith, few, far)) (omega (arith, inside, many))
      ]

      at_all : (k d : ℕ) → k < length prefix → get_or text k d ≡ get_or prefix k d
      at_all k d inside =
          get_or_default text k d 0 (omega (arith, inside, within)) ∙ (by_half k inside ∙ get_or_default prefix k 0 d inside)

-- ---- lines with a stem

-- If the text begins with a digit and a line feed, then a type of one digit ends the line.
pub short_end :
    (text : List ℕ) (n : ℕ) → 1 < length text → n ≡ get_or text 0 0 - 48 → 48 ≤ get_or text 0 0 → get_or text 0 0 ≤ 57
    → get_or text 1 0 ≡ 10 → IsPairEnd text n (take (length text - 2) (drop 2 text))
short_end text n some is low high feed = record {
  number = omega (arith, is, high);
  encoded = drop_more text 0 0 (omega (arith, some))
      ∙ (ap (λ (z : List ℕ). get_or text 0 0 ∷ z) (drop_more text 1 0 some)
      ∙ (ap (λ (b : ℕ). get_or text 0 0 ∷ (b ∷ drop 2 text)) feed
      ∙ (ap (λ (z : List ℕ). z ++ 10 ∷ drop 2 text) digit
      ∙ ap (λ (z : List ℕ). decimal n ++ 10 ∷ z) (sym (take_rest text 2)))));
} where
  digit : get_or text 0 0 ∷ [] ≡ decimal n
  digit =
      let same : get_or text 0 0 ≡ 48 + n = omega (arith, is, low) in
      ap (λ (b : ℕ). b ∷ []) same ∙ sym (decimal_digit n (omega (arith, is, high)))

-- The decimal text of an object is the digits of the stem, followed by the last digit.
object_of :
    (number d : ℕ) → 0 < number → number < 10 ^ 17 → 48 ≤ d → d ≤ 57 → decimal (10 * number + (d - 48)) ≡ decimal number ++ d ∷ []
object_of number d some small low high =
    decimal_step (10 * number + (d - 48)) (omega (arith, some)) (omega (arith, small, high))
    ∙ (ap (λ (n : ℕ). decimal n ++ (48 + (10 * number + (d - 48)) % 10) ∷ []) tens
    ∙ ap (λ (b : ℕ). decimal number ++ b ∷ []) ones) where
      tens : (10 * number + (d - 48)) / 10 ≡ number
      tens = omega (arith, low, high)

      ones : 48 + (10 * number + (d - 48)) % 10 ≡ d
      ones = omega (arith, low, high)

regroup :
    (p n t rest : List ℕ) (d : ℕ)
    → (p ++ n) ++ (d ∷ (32 ∷ (t ++ 10 ∷ rest))) ≡ (p ++ ((n ++ d ∷ []) ++ (32 ∷ t))) ++ 10 ∷ rest
regroup p n t rest d = simp append_assoc

pub pair_agree :
    (text stem : List ℕ) (tens object ty : ℕ) (rest : List ℕ) → IsStem stem tens → length stem + 4 ≤ length text
    → take (length stem) text ≡ stem → 48 ≤ get_or text (length stem) 0 → get_or text (length stem) 0 ≤ 57
    → get_or text (length stem + 1) 0 ≡ 32 → IsPairEnd (take (length text - (length stem + 2)) (drop (length stem + 2) text)) ty rest
    → object ≡ tens + (get_or text (length stem) 0 - 48) → IsFirstPair text (object, ty) rest
pair_agree text stem tens object ty rest is long begins low high space end same = record {
  numbers = (small, end.number);
  encoded = sym (take-append-drop (length stem) text)
      ∙ (ap (λ (z : List ℕ). z ++ drop (length stem) text) (begins ∙ is.encoded)
      ∙ (ap (λ (z : List ℕ). (codes "pair " ++ decimal is.number) ++ z) behind
      ∙ (regroup (codes "pair ") (decimal is.number) (decimal ty) rest (get_or text (length stem) 0)
      ∙ ap (λ (z : List ℕ). (codes "pair " ++ (z ++ (32 ∷ decimal ty))) ++ 10 ∷ rest) (sym digits))));
} where
  small : IsNumber object
  small = let few = is.small in let times = is.times in omega (arith, few, times, same, high)

  digits : decimal object ≡ decimal is.number ++ get_or text (length stem) 0 ∷ []
  digits =
      let times = is.times in
      let number : object ≡ 10 * is.number + (get_or text (length stem) 0 - 48) = omega (arith, same, times) in
      ap decimal number ∙ object_of is.number (get_or text (length stem) 0) is.some is.small low high

  two : length stem + 1 + 1 ≡ length stem + 2
  two = omega arith

  behind : drop (length stem) text ≡ get_or text (length stem) 0 ∷ (32 ∷ (decimal ty ++ 10 ∷ rest))
  behind =
      drop_more text (length stem) 0 (omega (arith, long))
      ∙ ap (λ (z : List ℕ). get_or text (length stem) 0 ∷ z) (drop_more text (length stem + 1) 0 (omega (arith, long))
      ∙ (ap (λ (b : ℕ). b ∷ drop (length stem + 1 + 1) text) space
      ∙ ap (λ (z : List ℕ). 32 ∷ z) (ap (λ (n : ℕ). drop n text) two ∙ (sym (take_rest text (length stem + 2)) ∙ end.encoded))))

-- ---- stems

pub thousand : IsStem (codes "pair 1000") 10000
thousand = record {
  many = omega arith;
  few = omega arith;
  number = 1000;
  some = omega arith;
  small = omega arith;
  times = refl;
  encoded = ap (λ (z : List ℕ). codes "pair " ++ z) (sym digits);
} where
  digits : decimal 1000 ≡ codes "1000"
  digits =
      decimal_step 1000 (omega arith) (omega arith)
      ∙ ap (λ (z : List ℕ). z ++ 48 ∷ []) (decimal_step 100 (omega arith) (omega arith)
      ∙ ap (λ (z : List ℕ). z ++ 48 ∷ []) (decimal_step 10 (omega arith) (omega arith)
      ∙ ap (λ (z : List ℕ). z ++ 48 ∷ []) (decimal_digit 1 (omega arith))))

parted : (p n s : List ℕ) (d : ℕ) → p ++ ((n ++ d ∷ []) ++ s) ≡ (p ++ n) ++ (d ∷ s)
parted p n s d = simp append_assoc

pub next_stem :
    (text behind : List ℕ) (object end : ℕ) → text ≡ codes "pair " ++ (decimal object ++ behind) → 10 ≤ object
    → object < 10 ^ 17 → end ≡ length text - length behind → 9 ≤ end → end ≤ 17 → IsStem (take (end - 1) text) (object - object % 10)
next_stem text behind object end line some small is many few = record {
  many = omega (arith, long, many);
  few = omega (arith, long, few);
  number = object / 10;
  some = omega (arith, some);
  small = omega (arith, small);
  times = omega arith;
  encoded = cut;
} where
  digits : decimal object ≡ decimal (object / 10) ++ (48 + object % 10) ∷ []
  digits = decimal_step object some (omega (arith, small))

  split : text ≡ (codes "pair " ++ decimal (object / 10)) ++ ((48 + object % 10) ∷ behind)
  split =
      line
      ∙ (ap (λ (z : List ℕ). codes "pair " ++ (z ++ behind)) digits
      ∙ parted (codes "pair ") (decimal (object / 10)) behind (48 + object % 10))

  position : length (codes "pair " ++ decimal (object / 10)) ≡ end - 1
  position =
      let all = ap length split in
      let sum = length-append (codes "pair " ++ decimal (object / 10)) ((48 + object % 10) ∷ behind) in
      omega (arith, all, sum, is)

  cut : take (end - 1) text ≡ codes "pair " ++ decimal (object / 10)
  cut =
      ap (λ (z : List ℕ). take (end - 1) z) split
      ∙ take_at (codes "pair " ++ decimal (object / 10)) ((48 + object % 10) ∷ behind) (end - 1) position

  long : length (take (end - 1) text) ≡ end - 1
  long = ap length cut ∙ position
