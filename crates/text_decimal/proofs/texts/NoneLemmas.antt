-- No decimal begins at a part of a text without decimals, and therefore the part is the first token
-- at its offset.
use Rattle.std.proofs.Common.{◌≡◌, ◌≢◌, ◌∙◌, ℕ, ◌<◌, Bool, true, false, true≢false, ◌&&◌, leb, List, [], ◌∷◌, ◌++◌, length, None, Option, Ok, refl, sym, ap, arith, inl, inr, append_assoc, if◌then◌else◌}
use Rattle.std.specs.List.{list_all}
use Rattle.std.specs.Char.{is_ascii_digit}
use Rattle.std.specs.Fmt.{sign_text}
use Rattle.std.proofs.lemmas.Bool.{false≢true, and_parts, or_left, or_right, cases_Bool, leb-true, agree_below_at}
use Rattle.types_lex.specs.declared.lexeme.Keyword.TheVariants as keywords
use Rattle.types_lex.specs.declared.lexeme.Suffix.{Suffix}
use Rattle.types_lex.specs.declared.lexeme.Suffix.TheVariants as suffixes
use Rattle.types_lex.specs.declared.lexeme.Symbol.{Symbol}
use Rattle.types_lex.specs.declared.lexeme.Symbol.TheVariants as symbols
use Rattle.types_lex.specs.Lexeme.{is_separator, starts_name, is_name_byte, minus_text, suffix_text, symbol_text, LexemeForm, Reserved, Lower, Upper, Tag, Variable, Character, Number, Quoted, Double, Mark, form_bytes, form_kind}
use Rattle.types_lex.specs.LexText.{TextPart, Separator, Comment, Word, part_bytes, IsPart}
use Rattle.types_lex.proofs.StepLaws.{part_step, step-part}
use Rattle.text_roundtrip.proofs.lexed.LexedTakenLemmas.{no_digit}
use Rattle.text_decimal.specs.decimal.DecimalReading.{Stops, decimal_at}
use Rattle.text_decimal.proofs.decimal.DecimalScanLemmas.{integer_no_decimal, other_no_decimal}
use Rattle.text_decimal.specs.declared.texts.decimal_prefix.DecimalPrefix.TheVariants as prefixes
use Rattle.text_decimal.specs.texts.PlainTexts.{may_after, prefix_of, prefix_at}
use Rattle.text_decimal.proofs.texts.DecimalTextEncodedLemmas.{first_of, IsKept}

-- ---- first bytes

-- If a byte passes a test that no digit passes, then the byte is not a digit.
not_digit : (p : ℕ → Bool) (b : ℕ) → ((c : ℕ) → c < 58 → (is_ascii_digit c && p c) ≡ false) → p b ≡ true → is_ascii_digit b ≡ false
not_digit p b none passes = elim (cases_Bool (is_ascii_digit b)) [
  | inr fails ↦ fails
  | inl digit ↦ absurd (
      let below = leb-true b 57 (and_parts (leb 48 b) (leb b 57) digit).1 in
      let both = none b (omega arith) in
      let here : p b ≡ false = rw digit at both in
      true≢false (sym passes ∙ here)
      )
]

other_byte : (p : ℕ → Bool) (n b : ℕ) → p n ≡ false → p b ≡ true → b ≢ n
other_byte p n b fails passes e = false≢true (sym fails ∙ ap p (sym e) ∙ passes)

name_none : (b : ℕ) (bs : List ℕ) → starts_name b ≡ true → decimal_at (b ∷ bs) ≡ None
name_none b bs first =
    other_no_decimal b bs (not_digit starts_name b (λ c h. agree_below_at (λ c. is_ascii_digit c && starts_name c) (λ c. false) 58 c refl h) first) (other_byte starts_name 45 b refl first)

separator_none : (b : ℕ) (bs : List ℕ) → is_separator b ≡ true → decimal_at (b ∷ bs) ≡ None
separator_none b bs is =
    other_no_decimal b bs (not_digit is_separator b (λ c h. agree_below_at (λ c. is_ascii_digit c && is_separator c) (λ c. false) 58 c refl h) is) (other_byte is_separator 45 b refl is)

byte_none : (b : ℕ) (bs : List ℕ) → is_ascii_digit b ≡ false → 45 ≢ b → decimal_at (b ∷ bs) ≡ None
byte_none b bs digit minus = other_no_decimal b bs digit (λ e. minus (sym e))

mark_none : (m : Symbol) (s : List ℕ) → decimal_at (symbol_text m ++ s) ≡ None
mark_none symbols.OpenArray s = byte_none 91 _ refl (λ e. omega arith)
mark_none symbols.CloseArray s = byte_none 124 _ refl (λ e. omega arith)
mark_none symbols.DoubleSemicolon s = byte_none 59 _ refl (λ e. omega arith)
mark_none symbols.DoubleColon s = byte_none 58 _ refl (λ e. omega arith)
mark_none symbols.OpenParen s = byte_none 40 _ refl (λ e. omega arith)
mark_none symbols.CloseParen s = byte_none 41 _ refl (λ e. omega arith)
mark_none symbols.OpenBrace s = byte_none 123 _ refl (λ e. omega arith)
mark_none symbols.CloseBrace s = byte_none 125 _ refl (λ e. omega arith)
mark_none symbols.OpenBracket s = byte_none 91 _ refl (λ e. omega arith)
mark_none symbols.CloseBracket s = byte_none 93 _ refl (λ e. omega arith)
mark_none symbols.Bar s = byte_none 124 _ refl (λ e. omega arith)
mark_none symbols.Comma s = byte_none 44 _ refl (λ e. omega arith)
mark_none symbols.Semicolon s = byte_none 59 _ refl (λ e. omega arith)
mark_none symbols.Colon s = byte_none 58 _ refl (λ e. omega arith)
mark_none symbols.Equals s = byte_none 61 _ refl (λ e. omega arith)
mark_none symbols.Star s = byte_none 42 _ refl (λ e. omega arith)
mark_none symbols.Dot s = byte_none 46 _ refl (λ e. omega arith)
mark_none symbols.Hash s = byte_none 35 _ refl (λ e. omega arith)

-- ---- integers

-- A byte that is neither a point nor a byte of a name ends a number.
pub stops_apart : (s : List ℕ) → first_of s ≢ 46 → is_name_byte (first_of s) ≡ false → Stops s
stops_apart [] point name = tt
stops_apart (b ∷ bs) point name = (
  no_digit b name,
  point,
  λ e. true≢false (sym (ap is_name_byte e) ∙ name),
  λ e. true≢false (sym (ap is_name_byte e) ∙ name),
)

suffix_stops : (suffix : Suffix) (s : List ℕ) → Stops s → Stops (suffix_text suffix ++ s)
suffix_stops suffixes.Absent s stop = stop
suffix_stops suffixes.Int32 s stop = (refl, (λ e. absurd (omega arith)), (λ e. absurd (omega arith)), (λ e. absurd (omega arith)))
suffix_stops suffixes.Int64 s stop = (refl, (λ e. absurd (omega arith)), (λ e. absurd (omega arith)), (λ e. absurd (omega arith)))
suffix_stops suffixes.Native s stop = (refl, (λ e. absurd (omega arith)), (λ e. absurd (omega arith)), (λ e. absurd (omega arith)))

sign_is : (minus : Bool) → minus_text minus ≡ sign_text minus
sign_is true = refl
sign_is false = refl

number_none : (minus : Bool) (d : ℕ) (ds : List ℕ) (suffix : Suffix) (s : List ℕ) → list_all is_ascii_digit (d ∷ ds) ≡ true → Stops s → decimal_at (form_bytes (Number minus (d ∷ ds) suffix) ++ s) ≡ None
number_none minus d ds suffix s digits stop =
    let regrouped : form_bytes (Number minus (d ∷ ds) suffix) ++ s ≡ sign_text minus ++ (d ∷ ds ++ (suffix_text suffix ++ s)) =
    ap (λ t. (t ++ (d ∷ ds ++ suffix_text suffix)) ++ s) (sign_is minus) ∙ append_assoc (sign_text minus) (d ∷ ds ++ suffix_text suffix) s ∙ ap (λ t. sign_text minus ++ t) (append_assoc (d ∷ ds) (suffix_text suffix) s) in
    ap decimal_at regrouped ∙ integer_no_decimal minus (d ∷ ds) (suffix_text suffix ++ s) digits (omega arith) (suffix_stops suffix s stop)

-- ---- all parts

form_none : (form : LexemeForm) (s : List ℕ) → IsPart (Word form) s → IsKept (Word form) s → decimal_at (form_bytes form ++ s) ≡ None
form_none (Reserved keywords.Type) s is kept = byte_none 116 _ refl (λ e. omega arith)
form_none (Reserved keywords.And) s is kept = byte_none 97 _ refl (λ e. omega arith)
form_none (Reserved keywords.Of) s is kept = byte_none 111 _ refl (λ e. omega arith)
form_none (Reserved keywords.Mutable) s is kept = byte_none 109 _ refl (λ e. omega arith)
form_none (Lower []) s is kept = absurd is.0.written.0
form_none (Lower (b ∷ bs)) s is kept = name_none b _ (or_left _ _ is.0.written.0.0)
form_none (Upper []) s is kept = absurd is.0.written
form_none (Upper (b ∷ bs)) s is kept = name_none b _ (or_right _ _ is.0.written.0)
form_none (Tag name) s is kept = byte_none 96 _ refl (λ e. omega arith)
form_none (Variable name) s is kept = byte_none 39 _ refl (λ e. omega arith)
form_none (Character c) s is kept = byte_none 39 _ refl (λ e. omega arith)
form_none (Number minus [] suffix) s is kept = absurd (is.0.written.0 refl)
form_none (Number minus (d ∷ ds) suffix) s is kept = number_none minus d ds suffix s is.0.written.1 (stops_apart s kept.0 kept.1)
form_none (Quoted cs) s is kept = byte_none 34 _ refl (λ e. omega arith)
form_none (Double ds) s is kept = byte_none 36 _ refl (λ e. omega arith)
form_none (Mark m) s is kept = mark_none m s

part_none : (p : TextPart) (s : List ℕ) → IsPart p s → IsKept p s → decimal_at (part_bytes p ++ s) ≡ None
part_none (Separator b) s is kept = separator_none b s is
part_none (Comment inside) s is kept = byte_none 40 _ refl (λ e. omega arith)
part_none (Word form) s is kept = form_none form s is kept

-- ---- the first token

-- True if a decimal may begin after the part, given whether a decimal may begin before the part.
abbrev pub next_may : Bool → TextPart → Bool
next_may may (Separator b) = may
next_may may (Comment inside) = may
next_may may (Word form) = may_after (form_kind form)

kept_step : (may : Bool) (p : TextPart) → prefix_of may None (Ok (part_step p)) ≡ prefixes.Kept (length (part_bytes p)) (next_may may p)
kept_step may (Separator b) = refl
kept_step may (Comment inside) = refl
kept_step may (Word form) = refl

none_if : (may : Bool) (o : Option (ℕ × ℕ)) → o ≡ None → (if may then o else None) ≡ None
none_if true o e = e
none_if false o e = refl

pub prefix_kept : (may : Bool) (p : TextPart) (s : List ℕ) → IsPart p s → IsKept p s → prefix_at may (part_bytes p ++ s) ≡ prefixes.Kept (length (part_bytes p)) (next_may may p)
prefix_kept may p s is kept =
    (λ i. prefix_of may (none_if may (decimal_at (part_bytes p ++ s)) (part_none p s is kept) i) (step-part p s is i))
    ∙ kept_step may p
