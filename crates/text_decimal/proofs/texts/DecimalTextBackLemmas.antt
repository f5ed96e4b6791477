-- The plain text of a text with its doubles as decimals is the text.
use Rattle.std.proofs.Common.{◌≡◌, ◌⊎◌, ◌∙◌, ℕ, zero, suc, ◌^◌, ◌<◌, ◌≤◌, Bool, true, false, eqb, List, [], ◌∷◌, ◌++◌, length, Some, None, refl, sym, ap, subst, arith, inl, inr, append-nil, length-append, eqb-true}
use Rattle.std.specs.List.{flat_map}
use Rattle.std.specs.Char.{is_ascii_digit}
use Rattle.std.proofs.lemmas.Bool.{cases_Bool, or_cases, eqb-false}
use Rattle.types_lex.specs.declared.lexeme.Lexeme.{Lexeme}
use Rattle.types_lex.specs.Lexeme.{is_name_byte, number_in, Double, IsForm}
use Rattle.types_lex.specs.LexText.{TextPart, part_bytes, IsPart, AreParts, Lexes}
use Rattle.types_lex.specs.Lexer.{step_at}
use Rattle.types_lex.proofs.NumberLaws.{number_in-below}
use Rattle.text_print.specs.leaves.LeafTexts.{float_text}
use Rattle.text_decimal.specs.decimal.DecimalReading.{Stops, IsRead, decimal_at}
use Rattle.text_decimal.proofs.decimal.ReadBackLemmas.{double_is_read_back}
use Rattle.text_decimal.proofs.decimal.DecimalScanLemmas.{decimal_long, other_no_decimal}
use Rattle.text_decimal.specs.declared.texts.decimal_prefix.DecimalPrefix.TheVariants as prefixes
use Rattle.text_decimal.specs.texts.Texts.{replaced, decimal_text}
use Rattle.text_decimal.specs.texts.PlainTexts.{prefix_of, prefix_at, plain_text}
use Rattle.text_decimal.specs.texts.Laws.{AreApart}
use Rattle.text_decimal.proofs.texts.DecimalTextLexedLemmas.{decimal_text_lexed}
use Rattle.text_decimal.proofs.texts.DecimalTextPlainLemmas.{plain_from, plain_text_is, plain_none, plain_kept, plain_double}
use Rattle.text_decimal.proofs.texts.DecimalTextEncodedLemmas.{first_of, ends_open, IsStart, Agree, agree_closed, IsKept, kept_part, kept_agree, closed_double, part_some}
use Rattle.text_decimal.proofs.texts.NoneLemmas.{next_may, prefix_kept, stops_apart}
use Rattle.text_decimal.proofs.texts.DecimalTextPartsLemmas.{follows, IsDecimalWritten, IsWrittenPart, AreWritten, AreKept, are_written, are_kept}

-- ---- the text written for a double

double_few : (ds : List ℕ) → IsForm (Double ds) → number_in 16 ds < 2 ^ 64
double_few ds is = let below = number_in-below ds is.1 in omega (arith, (rw is.0 at below))

read_whole : (write : List ℕ) (bits : ℕ) → IsRead write bits → decimal_at write ≡ Some (bits, length write)
read_whole write bits read = rw append-nil at (read [] tt)

starts : (b : ℕ) (bs : List ℕ) (bits len : ℕ) → decimal_at (b ∷ bs) ≡ Some (bits, len) → IsStart b
starts b bs bits len e = elim (cases_Bool (is_ascii_digit b)) [
  | inl digit ↦ inl digit
  | inr fails ↦ elim (cases_Bool (eqb b 45)) [
    | inl minus ↦ inr (eqb-true b 45 minus)
    | inr other ↦ absurd (let h : None ≡ Some (bits, len) = sym (other_no_decimal b bs fails (eqb-false b 45 other)) ∙ e in cc)
  ]
]

-- A decimal begins with a digit or a minus.
start_of : (write rest : List ℕ) (bits : ℕ) → IsRead write bits → IsStart (first_of (write ++ rest))
start_of [] rest bits read = absurd (omega (arith, decimal_long [] bits 0 (read_whole [] bits read)))
start_of (b ∷ bs) rest bits read = starts b bs bits (length (b ∷ bs)) (read_whole (b ∷ bs) bits read)

same_first : (p : TextPart) (after x y : List ℕ) → IsPart p after → first_of (part_bytes p ++ x) ≡ first_of (part_bytes p ++ y)
same_first p after x y is = let some = part_some p after is in rw some.2 refl

-- Lemmas on a double that is written by its bits or as a decimal.
module _ (opened may : Bool) (p : TextPart) (r write after : List ℕ) (is : IsPart p after) (d : IsDecimalWritten opened may p r write) where
  double_form : IsForm (Double d.digits)
  double_form = (subst (λ q. IsPart q after) d.is is).0.written

  either : (write ≡ part_bytes p) ⊎ IsRead write (number_in 16 d.digits)
  either = elim (double_is_read_back (number_in 16 d.digits) (double_few d.digits double_form) write d.text) [
    | inl bits ↦ inl (bits ∙ sym d.written ∙ ap part_bytes (sym d.is))
    | inr read ↦ inr read
  ]

  shut : ends_open (part_bytes p) ≡ false
  shut = ap (λ q. ends_open (part_bytes q)) d.is ∙ closed_double d.digits double_form

like_double : (opened may : Bool) (p : TextPart) (r write rest after x : List ℕ) → IsPart p after → IsDecimalWritten opened may p r write → Agree opened (part_bytes p ++ x) (write ++ rest)
like_double opened may p r write rest after x is d = elim (either opened may p r write after is d) [
  | inl same ↦ inl (ap (λ t. first_of (t ++ rest)) same ∙ same_first p after rest x is)
  | inr read ↦ inr (d.before, start_of write rest (number_in 16 d.digits) read)
]

-- The written text begins with the first byte of the parts, or with a number after an opening byte.
agree : (ps : List TextPart) (opened may : Bool) (new : List ℕ) → AreParts ps [] → AreWritten opened may ps new → Agree opened (flat_map part_bytes ps) new
agree [] opened may new parts is = inl (ap first_of is)
agree (p ∷ ps) opened may new parts (write, rest, inl same, more, is) =
    inl (ap first_of (is ∙ ap (λ t. t ++ rest) same) ∙ same_first p (flat_map part_bytes ps ++ []) rest (flat_map part_bytes ps) parts.0)
agree (p ∷ ps) opened may new parts (write, rest, inr d, more, is) =
    subst (Agree opened (flat_map part_bytes (p ∷ ps))) (sym is) (like_double opened may p (flat_map part_bytes ps) write rest (flat_map part_bytes ps ++ []) (flat_map part_bytes ps) parts.0 d)

-- ---- the bytes after a decimal end it

follow_stops : (s : List ℕ) → follows (first_of s) ≡ true → Stops s
follow_stops s h = elim (or_cases _ (eqb (first_of s) 125) h) [
  | inr e ↦ by_byte 125 (eqb-true _ 125 e) refl refl
  | inl h ↦ elim (or_cases _ (eqb (first_of s) 124) h) [
    | inr e ↦ by_byte 124 (eqb-true _ 124 e) refl refl
    | inl h ↦ elim (or_cases _ (eqb (first_of s) 59) h) [
      | inr e ↦ by_byte 59 (eqb-true _ 59 e) refl refl
      | inl h ↦ elim (or_cases _ (eqb (first_of s) 44) h) [
        | inr e ↦ by_byte 44 (eqb-true _ 44 e) refl refl
        | inl h ↦ elim (or_cases (eqb (first_of s) 32) (eqb (first_of s) 41) h) [
          | inr e ↦ by_byte 41 (eqb-true _ 41 e) refl refl
          | inl e ↦ by_byte 32 (eqb-true _ 32 e) refl refl
        ]
      ]
    ]
  ]
]
  where
    by_byte : (n : ℕ) → first_of s ≡ n → eqb n 46 ≡ false → is_name_byte n ≡ false → Stops s
    by_byte n is point name = stops_apart s (λ e. eqb-false n 46 point (sym is ∙ e)) (ap is_name_byte is ∙ name)

-- ---- all parts

write_long : (opened may : Bool) (p : TextPart) (r write after : List ℕ) → IsPart p after → IsWrittenPart opened may p r write → 0 < length write
write_long opened may p r write after is (inl same) = let some = part_some p after is in rw (same, some.2) (omega arith)
write_long opened may p r write after is (inr d) = elim (either opened may p r write after is d) [
  | inl same ↦ let some = part_some p after is in rw (same, some.2) (omega arith)
  | inr read ↦ decimal_long write (number_in 16 d.digits) (length write) (read_whole write (number_in 16 d.digits) read)
]

module _ (p : TextPart) (ps : List TextPart) (opened may : Bool) (rest : List ℕ) (parts : AreParts (p ∷ ps) []) (kept : AreKept (p ∷ ps)) (more : AreWritten (ends_open (part_bytes p)) (next_may may p) ps rest) where
  here : IsPart p (flat_map part_bytes ps)
  here = subst (IsPart p) (append-nil (flat_map part_bytes ps)) parts.0

  like : Agree (ends_open (part_bytes p)) (flat_map part_bytes ps) rest
  like = agree ps (ends_open (part_bytes p)) (next_may may p) rest parts.1 more

  there : IsPart p rest
  there = kept_part p (flat_map part_bytes ps) rest here kept.0 like

  kept_there : IsKept p rest
  kept_there = kept_agree p (flat_map part_bytes ps) rest here kept.0 like

  prefix_is : prefix_at may (part_bytes p ++ rest) ≡ prefixes.Kept (length (part_bytes p)) (next_may may p)
  prefix_is = prefix_kept may p rest there kept_there

  double_is : (write : List ℕ) (d : IsDecimalWritten opened may p (flat_map part_bytes ps) write) → IsRead write (number_in 16 d.digits) → prefix_at true (write ++ rest) ≡ prefixes.Double (number_in 16 d.digits) (length write)
  double_is write d read =
      let next = agree_closed (ends_open (part_bytes p)) (flat_map part_bytes ps) rest (shut opened may p (flat_map part_bytes ps) write (flat_map part_bytes ps) here d) like in
      ap (λ o. prefix_of true o (step_at (write ++ rest))) (read rest (follow_stops rest (ap follows next ∙ d.behind)))

-- If the lemma holds for the later parts, then the lemma holds for one part followed by the later
-- parts.
plain_part : (p : TextPart) (ps : List TextPart) (n : ℕ) (opened may : Bool) (write rest : List ℕ) → AreParts (p ∷ ps) [] → AreKept (p ∷ ps) → IsWrittenPart opened may p (flat_map part_bytes ps) write → AreWritten (ends_open (part_bytes p)) (next_may may p) ps rest
    → plain_from n (next_may may p) rest ≡ flat_map part_bytes ps
    → plain_from (suc n) may (write ++ rest) ≡ part_bytes p ++ flat_map part_bytes ps
plain_part p ps n opened may write rest parts kept how more others = by_written how
  where
    same : write ≡ part_bytes p → plain_from (suc n) may (write ++ rest) ≡ part_bytes p ++ flat_map part_bytes ps
    same e =
        ap (λ t. plain_from (suc n) may (t ++ rest)) e
        ∙ plain_kept n may (next_may may p) (part_bytes p) rest (prefix_is p ps opened may rest parts kept more)
        ∙ ap (λ t. part_bytes p ++ t) others

    by_written : IsWrittenPart opened may p (flat_map part_bytes ps) write → plain_from (suc n) may (write ++ rest) ≡ part_bytes p ++ flat_map part_bytes ps
    by_written (inl e) = same e
    by_written (inr d) = elim (either opened may p (flat_map part_bytes ps) write (flat_map part_bytes ps ++ []) parts.0 d) [
      | inl e ↦ same e
      | inr read ↦
          let bits = number_in 16 d.digits in
          let prefix : prefix_at may (write ++ rest) ≡ prefixes.Double bits (length write) = ap (λ b. prefix_at b (write ++ rest)) d.allowed ∙ double_is p ps opened may rest parts kept more write d read in
          let text : float_text bits ≡ part_bytes p = sym d.written ∙ ap part_bytes (sym d.is) in
          let next : next_may may p ≡ true = ap (next_may may) d.is in
          plain_double n may bits write rest prefix ∙ (λ i. text i ++ (ap (λ b. plain_from n b rest) (sym next) ∙ others) i)
    ]

plain_parts : (ps : List TextPart) (n : ℕ) (opened may : Bool) (new : List ℕ) → length new ≤ n → AreParts ps [] → AreKept ps → AreWritten opened may ps new → plain_from n may new ≡ flat_map part_bytes ps
plain_parts [] n opened may new short parts kept is = ap (plain_from n may) is ∙ plain_none n may
plain_parts (p ∷ ps) zero opened may new short parts kept (write, rest, how, more, is) =
    absurd (omega (arith, ap length is, length-append write rest, write_long opened may p (flat_map part_bytes ps) write (flat_map part_bytes ps ++ []) parts.0 how))
plain_parts (p ∷ ps) (suc n) opened may new short parts kept (write, rest, how, more, is) =
    let less : length rest ≤ n = omega (arith, ap length is, length-append write rest, write_long opened may p (flat_map part_bytes ps) write (flat_map part_bytes ps ++ []) parts.0 how) in
    ap (plain_from (suc n) may) is
    ∙ plain_part p ps n opened may write rest parts kept how more (plain_parts ps n (ends_open (part_bytes p)) (next_may may p) rest less parts.1 kept.1 more)

-- The text of parts that are written unchanged satisfies `AreWritten`.
same_written : (ps : List TextPart) (opened may : Bool) → AreWritten opened may ps (flat_map part_bytes ps)
same_written [] opened may = refl
same_written (p ∷ ps) opened may = (part_bytes p, flat_map part_bytes ps, inl refl, same_written ps (ends_open (part_bytes p)) (next_may may p), refl)

plain_of_written : (text : List ℕ) (ps : List TextPart) (new : List ℕ) → AreParts ps [] → text ≡ flat_map part_bytes ps → AreKept ps → AreWritten true true ps new → plain_text new ≡ text
plain_of_written text ps new parts is kept are = plain_text_is new ∙ plain_parts ps (length new) true true new (omega arith) parts kept are ∙ sym is

pub text_is_read_back : (text : List ℕ) (lexemes : List Lexeme) → Lexes text lexemes → AreApart text lexemes → (plain_text (decimal_text text) ≡ text) × (plain_text text ≡ text)
text_is_read_back text lexemes lexes apart = by_parts lexes
  where
    by_parts : Lexes text lexemes → (plain_text (decimal_text text) ≡ text) × (plain_text text ≡ text)
    by_parts (ps, parts, is, found) =
        let new = decimal_text text in
        let kept = are_kept ps text [] 0 is refl (subst (AreApart text) found apart) in
        let write = are_written ps text [] [] 0 0 true new parts is refl refl (subst (λ l. new ≡ replaced text 0 true l) found (decimal_text_lexed text lexemes lexes)) in (
          plain_of_written text ps new parts is kept (subst (λ t. AreWritten true true ps t) (sym write.1) write.2),
          plain_of_written text ps text parts is kept (subst (AreWritten true true ps) (sym is) (same_written ps true true)),
        )
