-- A text with its doubles as decimals, part by part.
use Rattle.std.proofs.Common.{◌≡◌, ◌⊎◌, ◌∙◌, ℕ, ◌+◌, ◌-◌, ◌&&◌, ◌||◌, ◌==◌, Bool, true, false, cond, List, [], ◌∷◌, ◌++◌, length, get_or, slice_range, slice_index_or, refl, sym, ap, subst, arith, inl, inr, append-nil, append_assoc, length-append, take_at, drop_at, add-zero, get_or-append-add}
use Rattle.std.specs.List.{flat_map, AllByRecursion}
use Rattle.std.specs.Str.{bytes_eq}
use Rattle.std.proofs.lemmas.Bool.{and_parts}
use Rattle.std.proofs.lemmas.Slice.Eq.{bytes_eq-Decides}
use Rattle.types_lex.specs.declared.lexeme.Lexeme.{Lexeme}
use Rattle.types_lex.specs.Lexeme.{number_in, LexemeForm, Reserved, Lower, Upper, Tag, Variable, Character, Number, Quoted, Double, Mark, form_bytes, form_kind}
use Rattle.types_lex.specs.LexText.{TextPart, Separator, Comment, Word, part_bytes, AreParts, lexemes_of}
use Rattle.text_print.specs.leaves.LeafTexts.{float_text}
use Rattle.text_decimal.specs.decimal.Layout.{IsDoubleText}
use Rattle.text_decimal.specs.decimal.Shortest.{double_text}
use Rattle.text_decimal.proofs.decimal.DecimalTextLemmas.{double_text_is}
use Rattle.text_decimal.specs.texts.PlainTexts.{may_after}
use Rattle.text_decimal.specs.texts.Texts.{may_precede, may_follow, stands_alone, write_for, replaced}
use Rattle.text_decimal.specs.texts.Laws.{IsApart}
use Rattle.text_decimal.proofs.texts.DecimalTextEncodedLemmas.{first_of, opens, ends_open, ends_append, IsKept, part_some}
use Rattle.text_decimal.proofs.texts.NoneLemmas.{next_may}

-- The byte `b` may follow a decimal.
abbrev pub follows : ℕ → Bool
follows b = b == 32 || b == 41 || b == 44 || b == 59 || b == 124 || b == 125

-- The part is a double that is written as the decimal `write`.
pub record IsDecimalWritten (opened may : Bool) (p : TextPart) (r write : List ℕ) : Type 0 where
  pub digits : List ℕ
  pub is : p ≡ Word (Double digits)
  pub written : form_bytes (Double digits) ≡ float_text (number_in 16 digits)
  pub text : IsDoubleText (number_in 16 digits) write
  pub before : opened ≡ true
  pub allowed : may ≡ true
  pub behind : follows (first_of r) ≡ true

abbrev pub IsWrittenPart : Bool → Bool → TextPart → List ℕ → List ℕ → Type 0
IsWrittenPart opened may p r write = (write ≡ part_bytes p) ⊎ IsDecimalWritten opened may p r write

-- `new` is the text written for the parts. If `opened` is true, the parts come after an opening
-- byte. If `may` is true, the parts may begin with a decimal.
abbrev pub AreWritten : Bool → Bool → List TextPart → List ℕ → Type 0
AreWritten opened may [] new = new ≡ []
AreWritten opened may (p ∷ ps) new =
    (write : List ℕ) × (rest : List ℕ) × IsWrittenPart opened may p (flat_map part_bytes ps) write
    × AreWritten (ends_open (part_bytes p)) (next_may may p) ps rest × (new ≡ write ++ rest)

abbrev pub AreKept : List TextPart → Type 0
AreKept [] = Unit {0}
AreKept (p ∷ ps) = IsKept p (flat_map part_bytes ps) × AreKept ps

-- ---- the byte at an offset

at_end : (x y : List ℕ) → slice_index_or (x ++ y) (length x) 32 ≡ first_of y
at_end x y = rw add-zero at (get_or-append-add x y 0 32) ∙ first y
  where
    first : (y : List ℕ) → get_or y 0 32 ≡ first_of y
    first [] = refl
    first (b ∷ bs) = refl

last_is : (x : ℕ) (xs rest : List ℕ) → opens (get_or (x ∷ (xs ++ rest)) (length xs) 32) ≡ ends_open (x ∷ xs)
last_is x [] rest = refl
last_is x (y ∷ xs) rest = last_is y xs rest

precede_is : (x rest : List ℕ) → may_precede (x ++ rest) (length x) ≡ ends_open x
precede_is [] rest = refl
precede_is (x ∷ xs) rest = last_is x xs rest

module _ (text before : List ℕ) (position : ℕ) (at : length before ≡ position) (form : LexemeForm) (r : List ℕ) (is : text ≡ before ++ (form_bytes form ++ r)) where
  here : slice_range text position (position + length (form_bytes form)) ≡ form_bytes form
  here =
      let long : position + length (form_bytes form) - position ≡ length (form_bytes form) = omega arith in
      rw (is, drop_at before (form_bytes form ++ r) position at, long) (take_at (form_bytes form) r (length (form_bytes form)) refl)

  precede_here : may_precede text position ≡ ends_open before
  precede_here = rw (is, ← at) (precede_is before (form_bytes form ++ r))

  pub next_here : slice_index_or text (position + length (form_bytes form)) 32 ≡ first_of r
  next_here =
      let cut : text ≡ (before ++ form_bytes form) ++ r = is ∙ sym (append_assoc before (form_bytes form) r) in
      let long : position + length (form_bytes form) ≡ length (before ++ form_bytes form) = omega (arith, length-append before (form_bytes form)) in
      rw (cut, long) (at_end (before ++ form_bytes form) r)

  same_written : (may : Bool) (write : List ℕ) → write ≡ slice_range text position (position + length (form_bytes form)) → IsWrittenPart (ends_open before) may (Word form) r write
  same_written may write e = inl (e ∙ here)

double_written : (text before : List ℕ) (position : ℕ) → length before ≡ position → (ds r : List ℕ) → text ≡ before ++ (form_bytes (Double ds) ++ r) → (may : Bool) (write : List ℕ)
    → (alone : Bool) → (may && stands_alone text position (position + length (form_bytes (Double ds))) (float_text (number_in 16 ds))) ≡ alone
    → write ≡ cond alone (double_text (number_in 16 ds)) (slice_range text position (position + length (form_bytes (Double ds)))) → IsWrittenPart (ends_open before) may (Word (Double ds)) r write
double_written text before position at ds r is may write false test write_is = same_written text before position at (Double ds) r is may write write_is
double_written text before position at ds r is may write true test write_is =
    let last = position + length (form_bytes (Double ds)) in
    let both = and_parts may (stands_alone text position last (float_text (number_in 16 ds))) test in
    let first = and_parts (may_precede text position && may_follow text last) (bytes_eq (slice_range text position last) (float_text (number_in 16 ds))) both.1 in
    let second = and_parts (may_precede text position) (may_follow text last) first.0 in
    inr (record {
      digits = ds;
      is = refl;
      written = sym (here text before position at (Double ds) r is) ∙ (bytes_eq-Decides (slice_range text position last) (float_text (number_in 16 ds))).0 first.1;
      text = subst (IsDoubleText (number_in 16 ds)) (sym write_is) (double_text_is (number_in 16 ds));
      before = sym (precede_here text before position at (Double ds) r is) ∙ second.0;
      allowed = both.0;
      behind = ap follows (sym (next_here text before position at (Double ds) r is)) ∙ second.1;
    })

form_written : (text before : List ℕ) (position : ℕ) → length before ≡ position → (form : LexemeForm) (r : List ℕ) → text ≡ before ++ (form_bytes form ++ r) → (may : Bool) (write : List ℕ)
    → write ≡ write_for text may (form_kind form) position (position + length (form_bytes form)) → IsWrittenPart (ends_open before) may (Word form) r write
form_written text before position at (Double ds) r is may write for = double_written text before position at ds r is may write (may && stands_alone text position (position + length (form_bytes (Double ds))) (float_text (number_in 16 ds))) refl for
form_written text before position at (Reserved k) r is may write for = same_written text before position at (Reserved k) r is may write for
form_written text before position at (Lower name) r is may write for = same_written text before position at (Lower name) r is may write for
form_written text before position at (Upper name) r is may write for = same_written text before position at (Upper name) r is may write for
form_written text before position at (Tag name) r is may write for = same_written text before position at (Tag name) r is may write for
form_written text before position at (Variable name) r is may write for = same_written text before position at (Variable name) r is may write for
form_written text before position at (Character c) r is may write for = same_written text before position at (Character c) r is may write for
form_written text before position at (Number minus digits suffix) r is may write for = same_written text before position at (Number minus digits suffix) r is may write for
form_written text before position at (Quoted cs) r is may write for = same_written text before position at (Quoted cs) r is may write for
form_written text before position at (Mark m) r is may write for = same_written text before position at (Mark m) r is may write for

-- ---- all parts: the gap before a lexeme is written unchanged

ends_last : (x y : List ℕ) (c : ℕ) (cs : List ℕ) → y ≡ c ∷ cs → ends_open (x ++ y) ≡ ends_open y
ends_last x y c cs is = rw is (ends_append x c cs)

module _ (p : TextPart) (ps : List TextPart) (text before gap : List ℕ) (position : ℕ) (is : text ≡ before ++ (gap ++ flat_map part_bytes (p ∷ ps))) (to : length (before ++ gap) ≡ position) where
  longer_is : text ≡ before ++ ((gap ++ part_bytes p) ++ flat_map part_bytes ps)
  longer_is = is ∙ ap (λ t. before ++ t) (sym (append_assoc gap (part_bytes p) (flat_map part_bytes ps)))

  longer_to : length (before ++ (gap ++ part_bytes p)) ≡ position + length (part_bytes p)
  longer_to = ap length (sym (append_assoc before gap (part_bytes p))) ∙ length-append (before ++ gap) (part_bytes p) ∙ ap (λ (n : ℕ). n + length (part_bytes p)) to

  gap_written : (may : Bool) (new : List ℕ) (c : ℕ) (cs : List ℕ) → part_bytes p ≡ c ∷ cs
      → (write : List ℕ) × (new ≡ (gap ++ part_bytes p) ++ write) × AreWritten (ends_open (before ++ (gap ++ part_bytes p))) (next_may may p) ps write
      → (write : List ℕ) × (new ≡ gap ++ write) × AreWritten (ends_open (before ++ gap)) may (p ∷ ps) write
  gap_written may new c cs bytes (write, eq, are) =
      let opened : ends_open (before ++ (gap ++ part_bytes p)) ≡ ends_open (part_bytes p) = ap ends_open (sym (append_assoc before gap (part_bytes p))) ∙ ends_last (before ++ gap) (part_bytes p) c cs bytes in (
        part_bytes p ++ write,
        eq ∙ append_assoc gap (part_bytes p) write,
        (part_bytes p, write, inl refl, subst (λ o. AreWritten o (next_may may p) ps write) opened are, refl),
      )

pub are_written : (ps : List TextPart) (text before gap : List ℕ) (from position : ℕ) (may : Bool) (new : List ℕ) → AreParts ps [] → text ≡ before ++ (gap ++ flat_map part_bytes ps) → length before ≡ from → length (before ++ gap) ≡ position
    → new ≡ replaced text from may (lexemes_of position ps) → (write : List ℕ) × (new ≡ gap ++ write) × AreWritten (ends_open (before ++ gap)) may ps write
are_written [] text before gap from position may new parts is at to replaced =
    ([], replaced ∙ rw (is, drop_at before (gap ++ []) from at), refl)
are_written (Separator b ∷ ps) text before gap from position may new parts is at to replaced =
    let e = longer_is (Separator b) ps text before gap position is to in
    let l = longer_to (Separator b) ps text before gap position is to in
    gap_written (Separator b) ps text before gap position is to may new b [] refl (are_written ps text before (gap ++ b ∷ []) from (position + length (b ∷ [])) may new parts.1 e at l replaced)
are_written (Comment inside ∷ ps) text before gap from position may new parts is at to replaced =
    let p = Comment inside in
    let e = longer_is p ps text before gap position is to in
    let l = longer_to p ps text before gap position is to in
    gap_written p ps text before gap position is to may new _ _ refl (are_written ps text before (gap ++ part_bytes p) from (position + length (part_bytes p)) may new parts.1 e at l replaced)
are_written (Word form ∷ ps) text before gap from position may new parts is at to eq =
    let x = form_bytes form in
    let next = may_after (form_kind form) in
    let write = write_for text may (form_kind form) position (position + length x) in
    let rest = replaced text (position + length x) next (lexemes_of (position + length x) ps) in
    let r = flat_map part_bytes ps in
    let pre = before ++ gap in
    let some = part_some (Word form) (r ++ []) parts.0 in
    let here_is : text ≡ pre ++ (x ++ r) = is ∙ sym (append_assoc before gap (x ++ r)) in
    let next_is : text ≡ (pre ++ x) ++ r = here_is ∙ sym (append_assoc pre x r) in
    let far : length (pre ++ x) ≡ position + length x = length-append pre x ∙ ap (λ (n : ℕ). n + length x) to in
    let others = are_written ps text (pre ++ x) [] (position + length x) (position + length x) next rest parts.1 next_is far (ap length (append-nil (pre ++ x)) ∙ far) refl in
    let wide : position - from ≡ length gap = omega (arith, at, to, length-append before gap) in
    let gap_is : slice_range text from position ≡ gap = rw (is, drop_at before (gap ++ (x ++ r)) from at, wide) (take_at gap (x ++ r) (length gap) refl) in
    let opened : ends_open ((pre ++ x) ++ []) ≡ ends_open x = ap ends_open (append-nil (pre ++ x)) ∙ ends_last pre x some.0 some.1 some.2 in
    let are : AreWritten (ends_open x) next ps rest = subst (λ t. AreWritten (ends_open x) next ps t) (sym others.1) (subst (λ o. AreWritten o next ps others.0) opened others.2) in (
      write ++ rest,
      eq ∙ ap (λ t. t ++ (write ++ rest)) gap_is,
      (write, rest, form_written text pre position to form r here_is may write refl, are, refl),
    )

-- ---- integers stand apart

pub are_kept : (ps : List TextPart) (text before : List ℕ) (position : ℕ) → text ≡ before ++ flat_map part_bytes ps → length before ≡ position
    → AllByRecursion (λ (l : Lexeme). IsApart l.kind (slice_index_or text (l.span.first + l.span.len) 32)) (lexemes_of position ps) → AreKept ps
are_kept [] text before position is at all = tt
are_kept (Separator b ∷ ps) text before position is at all =
    (tt, are_kept ps text (before ++ b ∷ []) (position + length (b ∷ [])) (is ∙ sym (append_assoc before (b ∷ []) (flat_map part_bytes ps))) (length-append before (b ∷ []) ∙ ap (λ (n : ℕ). n + length (b ∷ [])) at) all)
are_kept (Comment inside ∷ ps) text before position is at all =
    let x = part_bytes (Comment inside) in
    (tt, are_kept ps text (before ++ x) (position + length x) (is ∙ sym (append_assoc before x (flat_map part_bytes ps))) (length-append before x ∙ ap (λ (n : ℕ). n + length x) at) all)
are_kept (Word form ∷ ps) text before position is at all =
    let x = form_bytes form in (
      subst (IsApart (form_kind form)) (next_here text before position at form (flat_map part_bytes ps) is) all.0,
      are_kept ps text (before ++ x) (position + length x) (is ∙ sym (append_assoc before x (flat_map part_bytes ps))) (length-append before x ∙ ap (λ (n : ℕ). n + length x) at) all.1,
    )
