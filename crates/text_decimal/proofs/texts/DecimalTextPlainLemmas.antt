-- The plain text, step by step.
use Rattle.std.proofs.Common.{◌≡◌, ◌∙◌, ℕ, zero, suc, ◌+◌, ◌-◌, ◌≤◌, Bool, true, false, List, [], ◌++◌, length, take, drop, slice_range, refl, sym, ap, arith, append_assoc, take-append-drop, drop-drop, take-add, take_at, drop_at}
use Rattle.std.specs.Float.Numeral.{scan_numeral}
use Rattle.types_lex.specs.Lexer.{step_at}
use Rattle.text_print.specs.leaves.LeafTexts.{float_text}
use Rattle.text_decimal.specs.declared.texts.decimal_prefix.DecimalPrefix.{DecimalPrefix}
use Rattle.text_decimal.specs.declared.texts.decimal_prefix.DecimalPrefix.TheVariants as prefixes
use Rattle.text_decimal.specs.texts.PlainTexts.{prefix_at, decimals_by, decimals_from, plain_with, plain_text}

-- The first token in plain form, followed by the plain text after the first token.
abbrev pub plain_by : List ℕ → (ℕ → Bool → List ℕ) → DecimalPrefix → List ℕ
plain_by text behind (prefixes.Double bits len) = float_text bits ++ behind len true
plain_by text behind (prefixes.Kept len may) = take len text ++ behind len may
plain_by text behind prefixes.Fault = text

unfoldable pub plain_from : ℕ → Bool → List ℕ → List ℕ
plain_from zero may text = text
plain_from (suc n) may text = plain_by text (λ len next. plain_from n next (drop len text)) (prefix_at may text)

-- ---- the text between two offsets

slice_none : (text : List ℕ) (at : ℕ) → slice_range text at at ≡ []
slice_none text at = let z : at - at ≡ 0 = omega arith in rw z

module _ (text : List ℕ) (from at : ℕ) (le : from ≤ at) where
  here : drop (at - from) (drop from text) ≡ drop at text
  here = drop-drop (at - from) from text ∙ ap (λ n. drop n text) (omega arith)

  slice_more : (len : ℕ) → slice_range text from (at + len) ≡ slice_range text from at ++ take len (drop at text)
  slice_more len = let sum : at + len - from ≡ (at - from) + len = omega arith in rw (sum, take-add, here)

  slice_all : slice_range text from at ++ drop at text ≡ drop from text
  slice_all = ap (λ t. slice_range text from at ++ t) (sym here) ∙ take-append-drop (at - from) (drop from text)

-- ---- the steps give the plain text

-- The steps from an offset on give the plain text, for a text of at most `n` bytes after the
-- offset.
abbrev IsPlainAt : ℕ → List ℕ → Type 0
IsPlainAt n text =
    (from at : ℕ) (may : Bool) → from ≤ at
    → plain_with text from (decimals_from n at may (drop at text)) ≡ slice_range text from at ++ plain_from n may (drop at text)

by_prefix : (n : ℕ) (text : List ℕ) → IsPlainAt n text → (from at : ℕ) → from ≤ at → (f : DecimalPrefix)
    → plain_with text from (decimals_by at (λ len next. decimals_from n (at + len) next (drop len (drop at text))) f) ≡ slice_range text from at ++ plain_by (drop at text) (λ len next. plain_from n next (drop len (drop at text))) f
by_prefix n text others from at le (prefixes.Double bits len) =
    let plain : plain_with text (at + len) (decimals_from n (at + len) true (drop (at + len) text)) ≡ plain_from n true (drop (at + len) text) = rw (slice_none text (at + len)) at (others (at + len) (at + len) true (omega arith)) in
    rw (drop-drop len at text) (ap (λ t. slice_range text from at ++ (float_text bits ++ t)) plain)
by_prefix n text others from at le (prefixes.Kept len next) =
    rw (drop-drop len at text)
    (others from (at + len) next (omega arith)
    ∙ ap (λ t. t ++ plain_from n next (drop (at + len) text)) (slice_more text from at le len)
    ∙ append_assoc (slice_range text from at) (take len (drop at text)) (plain_from n next (drop (at + len) text)))
by_prefix n text others from at le prefixes.Fault = sym (slice_all text from at le)

plain_is : (n : ℕ) (text : List ℕ) → IsPlainAt n text
unfolding decimals_from plain_from
plain_is zero text from at may le = sym (slice_all text from at le)
plain_is (suc n) text from at may le = by_prefix n text (plain_is n text) from at le (prefix_at may (drop at text))

pub plain_text_is : (text : List ℕ) → plain_text text ≡ plain_from (length text) true text
plain_text_is text = plain_is (length text) text 0 0 true (omega arith)

-- ---- one step

pub nothing_there : (may : Bool) → prefix_at may [] ≡ prefixes.Fault
unfolding step_at scan_numeral
nothing_there true = refl
nothing_there false = refl

pub plain_none : (n : ℕ) (may : Bool) → plain_from n may [] ≡ []
unfolding plain_from
plain_none zero may = refl
plain_none (suc n) may = rw (nothing_there may)

pub plain_kept : (n : ℕ) (may next : Bool) (x rest : List ℕ) → prefix_at may (x ++ rest) ≡ prefixes.Kept (length x) next → plain_from (suc n) may (x ++ rest) ≡ x ++ plain_from n next rest
unfolding plain_from
plain_kept n may next x rest is =
    ap (plain_by (x ++ rest) (λ len after. plain_from n after (drop len (x ++ rest)))) is
    ∙ (λ i. take_at x rest (length x) refl i ++ plain_from n next (drop_at x rest (length x) refl i))

pub plain_double : (n : ℕ) (may : Bool) (bits : ℕ) (x rest : List ℕ) → prefix_at may (x ++ rest) ≡ prefixes.Double bits (length x) → plain_from (suc n) may (x ++ rest) ≡ float_text bits ++ plain_from n true rest
unfolding plain_from
plain_double n may bits x rest is =
    ap (plain_by (x ++ rest) (λ len after. plain_from n after (drop len (x ++ rest)))) is
    ∙ (λ i. float_text bits ++ plain_from n true (drop_at x rest (length x) refl i))
