-- A text in which decimals may denote doubles, and the text's plain text.
use Rattle.std.specs.Prelude.{ℕ, zero, suc, ◌+◌, ◌-◌, ◌<◌, ◌≤◌, Bool, true, false, nat_lt}
use Rattle.std.specs.Prelude.{if◌then◌else◌, List, [], ◌∷◌, ◌++◌, length, drop, slice_range, Option}
use Rattle.std.specs.Prelude.{Some, None, Result, Ok, Err}
use Rattle.types_lex.specs.declared.lexeme.LexemeKind.{LexemeKind}
use Rattle.types_lex.specs.declared.lexeme.LexemeKind.TheVariants as kinds
use Rattle.types_lex.specs.declared.lexeme.Symbol.TheVariants as symbols
use Rattle.types_lex.specs.declared.lexeme.LexFault.{LexFault}
use Rattle.types_lex.specs.declared.found_lexeme.LexStep.{LexStep}
use Rattle.types_lex.specs.declared.found_lexeme.LexStep.TheVariants.{Gap, Word}
use Rattle.types_lex.specs.Lexer.{step_at}
use Rattle.text_print.specs.leaves.LeafTexts.{float_text}
use Rattle.text_decimal.specs.decimal.DecimalReading.{decimal_at}
use Rattle.text_decimal.specs.declared.texts.decimals.Decimal.{Decimal}
use Rattle.text_decimal.specs.declared.texts.decimal_prefix.DecimalPrefix.{DecimalPrefix}
use Rattle.text_decimal.specs.declared.texts.decimal_prefix.DecimalPrefix.TheVariants as prefixes

-- ---- the decimals of a text

-- A decimal may be the next lexeme after the lexeme: the lexeme is not a point.
abbrev pub may_after : LexemeKind → Bool
may_after (kinds.Symbol symbols.Dot) = false
may_after kind = true

-- The first token of a text, given the decimal at the beginning of the text and the first token of
-- a text without decimals. If `may` is true, a decimal may follow the lexeme before the text. A
-- blank or comment changes nothing, so a decimal after a point and a gap is not read.
abbrev pub prefix_of : Bool → Option (ℕ × ℕ) → Result LexStep LexFault → DecimalPrefix
prefix_of may (Some decimal) step = prefixes.Double decimal.0 decimal.1
prefix_of may None (Ok (Gap len)) = prefixes.Kept len may
prefix_of may None (Ok (Word word)) = prefixes.Kept word.len (may_after word.kind)
prefix_of may None (Err fault) = prefixes.Fault

-- The first token of a text. If `may` is true, the token may be a decimal.
abbrev pub prefix_at : Bool → List ℕ → DecimalPrefix
prefix_at may text = prefix_of may (if may then decimal_at text else None) (step_at text)

-- The decimals from an offset on, given the first token and the decimals after the first token.
abbrev pub decimals_by : ℕ → (ℕ → Bool → List Decimal) → DecimalPrefix → List Decimal
decimals_by position behind (prefixes.Double bits len) =
    record { first = position; len = len; bits = bits } ∷ behind len true
decimals_by position behind (prefixes.Kept len may) = behind len may
decimals_by position behind prefixes.Fault = []

-- The decimals of a text of at most `n` bytes that begins at an offset, up to the first lexical
-- error.
unfoldable pub decimals_from : ℕ → ℕ → Bool → List ℕ → List Decimal
decimals_from zero position may text = []
decimals_from (suc n) position may text =
    decimals_by position (λ len next. decimals_from n (position + len) next (drop len text))
    (prefix_at may text)

abbrev pub decimals_in : List ℕ → List Decimal
decimals_in text = decimals_from (length text) 0 true text

-- The decimals are not empty, do not overlap, are in order, and lie between two offsets.
abbrev pub AreWithin : ℕ → List Decimal → ℕ → Type 0
AreWithin from [] end = from ≤ end
AreWithin from (d ∷ ds) end = (from ≤ d.first) × (0 < d.len) × AreWithin (d.first + d.len) ds end

-- ---- the plain text

-- The text from the offset `at` on, in which each given decimal is replaced by the bits of its
-- double.
abbrev pub plain_with : List ℕ → ℕ → List Decimal → List ℕ
plain_with text at [] = drop at text
plain_with text at (d ∷ ds) =
    slice_range text at d.first ++ (float_text d.bits ++ plain_with text (d.first + d.len) ds)

-- The plain text of a text: each decimal is replaced by the bits of its double.
abbrev pub plain_text : List ℕ → List ℕ
plain_text text = plain_with text 0 (decimals_in text)

-- ---- offsets

-- The offset in the text of a byte of the plain text, from two corresponding offsets on. A double
-- has 17 bytes in the plain text. All 17 bytes are mapped to the beginning of the double's decimal.
abbrev pub given_from : ℕ → ℕ → List Decimal → ℕ → ℕ
given_from at plain [] byte = at + (byte - plain)
given_from at plain (d ∷ ds) byte =
    let begins = plain + (d.first - at) in
    if nat_lt byte begins then at + (byte - plain)
    else
    (if nat_lt byte (begins + 17) then d.first
    else given_from (d.first + d.len) (begins + 17) ds byte)

-- The offset in a text, given the text's decimals and an offset in the plain text.
abbrev pub given_position : List Decimal → ℕ → ℕ
given_position decimals byte = given_from 0 0 decimals byte

-- ---- the result of a call

-- The first token is not empty, and lies within the text.
abbrev pub IsPrefixWithin : ℕ → DecimalPrefix → Type 0
IsPrefixWithin n (prefixes.Double bits len) = (0 < len) × (len ≤ n)
IsPrefixWithin n (prefixes.Kept len may) = (0 < len) × (len ≤ n)
IsPrefixWithin n prefixes.Fault = Unit {0}
