-- The text in which the doubles of a given text are written as decimals instead of their bits.
use Rattle.std.specs.Prelude.{ℕ, zero, suc, ◌+◌, Bool, true, ◌&&◌, ◌||◌, ◌==◌, if◌then◌else◌, List}
use Rattle.std.specs.Prelude.{[], ◌∷◌, ◌++◌, length, drop, slice_range, slice_index_or, Option}
use Rattle.std.specs.Prelude.{Some, None, option_map, Result, Ok, Err}
use Rattle.std.specs.Str.{bytes_eq}
use Rattle.types_lex.specs.declared.lexeme.Lexeme.{Lexeme}
use Rattle.types_lex.specs.declared.lexeme.LexemeKind.{LexemeKind}
use Rattle.types_lex.specs.declared.lexeme.LexemeKind.TheVariants as kinds
use Rattle.types_lex.specs.declared.lexeme.LexFault.{LexFault}
use Rattle.types_lex.specs.declared.found_lexeme.LexStep.{LexStep}
use Rattle.types_lex.specs.declared.found_lexeme.LexStep.TheVariants.{Gap, Word}
use Rattle.types_lex.specs.Lexer.{step_at}
use Rattle.text_print.specs.leaves.LeafTexts.{float_text}
use Rattle.text_decimal.specs.decimal.Shortest.{double_text}
use Rattle.text_decimal.specs.texts.PlainTexts.{may_after}

-- ---- where a double may be a decimal

-- The text before the offset is empty, or ends with a blank (32), `(`, `=` or `|`.
abbrev pub may_precede : List ℕ → ℕ → Bool
may_precede text zero = true
may_precede text (suc at) =
    let b = slice_index_or text at 32 in b == 32 || b == 40 || b == 61 || b == 124

-- The text after the offset is empty, or begins with a blank, `)`, `,`, `;`, `|` or `}`.
abbrev pub may_follow : List ℕ → ℕ → Bool
may_follow text end =
    let b = slice_index_or text end 32 in
    b == 32 || b == 41 || b == 44 || b == 59 || b == 124 || b == 125

-- The bytes between two offsets are a double that stands alone, with digits in lower case.
abbrev pub stands_alone : List ℕ → ℕ → ℕ → List ℕ → Bool
stands_alone text first end written =
    may_precede text first && may_follow text end && bytes_eq (slice_range text first end) written

-- ---- the text with doubles as decimals

-- The text written for a lexeme between two offsets. For a double that stands alone, the text is
-- the decimal, if the lexeme before the double allows a decimal (`may`). For every other lexeme,
-- the text is the lexeme.
abbrev pub write_for : List ℕ → Bool → LexemeKind → ℕ → ℕ → List ℕ
write_for text may (kinds.Double bits) first end =
    if may && stands_alone text first end (float_text bits) then double_text bits
    else slice_range text first end
write_for text may kind first end = slice_range text first end

-- The text from the offset `at` on with its doubles as decimals, given the lexemes from `at` on. If
-- `may` is true, a decimal may be the first of these lexemes.
abbrev pub replaced : List ℕ → ℕ → Bool → List Lexeme → List ℕ
replaced text at may [] = drop at text
replaced text at may (lexeme ∷ lexemes) =
    let end = lexeme.span.first + lexeme.span.len in
    slice_range text at lexeme.span.first
    ++ (write_for text may lexeme.kind lexeme.span.first end
    ++ replaced text end (may_after lexeme.kind) lexemes)

-- The lexemes from an offset on, given the first token and the lexemes after the first token.
abbrev pub lexed_by : ℕ → (ℕ → Option (List Lexeme)) → Result LexStep LexFault
    → Option (List Lexeme)
lexed_by position behind (Ok (Gap len)) = behind len
lexed_by position behind (Ok (Word word)) =
    option_map
    (λ lexemes.
    record { kind = word.kind; span = record { first = position; len = word.len } } ∷ lexemes)
    (behind word.len)
lexed_by position behind (Err fault) = None

-- The lexemes of a text of at most `n` bytes that begins at an offset, or `None` if the text has a
-- lexical error.
unfoldable pub lexed_from : ℕ → ℕ → List ℕ → Option (List Lexeme)
lexed_from zero position text = Some []
lexed_from (suc n) position text =
    if length text == 0 then Some []
    else lexed_by position (λ len. lexed_from n (position + len) (drop len text)) (step_at text)

abbrev pub replaced_or : List ℕ → Option (List Lexeme) → List ℕ
replaced_or text None = text
replaced_or text (Some lexemes) = replaced text 0 true lexemes

-- The text with its doubles as decimals. A text with a lexical error is unchanged.
unfoldable pub decimal_text : List ℕ → List ℕ
decimal_text text = replaced_or text (lexed_from (length text) 0 text)
