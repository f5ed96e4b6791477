-- Brief lexemes, which may omit the contents of names and strings. Brief lexemes suffice to
-- recognize the form of a literal.
use Rattle.std.specs.Prelude.{◌≡◌, ◌⊎◌, ℕ, ◌+◌, ◌<◌, ◌≤◌, Bool, ◌||◌, ◌==◌, if◌then◌else◌, List, []}
use Rattle.std.specs.Prelude.{length, codes, Option, Some, None, Result, Ok, Err}
use Rattle.std.specs.Str.{bytes_eq}
use Rattle.types_lex.specs.declared.lexeme.Lexeme.{Lexeme}
use Rattle.types_lex.specs.declared.lexeme.LexemeKind.{LexemeKind}
use Rattle.types_lex.specs.declared.lexeme.LexemeKind.TheVariants as kinds
use Rattle.types_lex.specs.declared.lexeme.Symbol.{Symbol}
use Rattle.types_lex.specs.declared.lexeme.Symbol.TheVariants as symbols
use Rattle.types_lex.specs.declared.lexeme.LexFault.{LexFault}
use Rattle.types_lex.specs.declared.found_lexeme.FoundLexeme.{FoundLexeme}
use Rattle.types_lex.specs.declared.found_lexeme.LexStep.{LexStep}
use Rattle.types_lex.specs.declared.found_lexeme.LexStep.TheVariants.{Gap, Word}
use Rattle.types_lex.specs.Lexemes.{lexeme_from}
use Rattle.types_lex.specs.LexText.{UnlessMemory}

-- The symbol of a byte that begins no longer symbol and no comment. Some rare symbols are left out.
abbrev pub lone_symbol : ℕ → Option Symbol
lone_symbol b =
    if b == 44 then Some symbols.Comma
    else (if b == 41 then Some symbols.CloseParen
    else (if b == 61 then Some symbols.Equals
    else (if b == 123 then Some symbols.OpenBrace
    else (if b == 125 then Some symbols.CloseBrace else None))))

-- Returns true if a literal may begin with this lowercase name.
abbrev pub begins_literal : List ℕ → Bool
begins_literal x =
    bytes_eq x (codes "true") || bytes_eq x (codes "false") || bytes_eq x (codes "ref")

abbrev pub brief_name : List ℕ → List ℕ
brief_name x = if begins_literal x then x else []

abbrev pub brief_kind : LexemeKind → LexemeKind
brief_kind (kinds.Lower x) = kinds.Lower (brief_name x)
brief_kind (kinds.Upper x) = kinds.Upper []
brief_kind (kinds.Text x) = kinds.Text []
brief_kind kind = kind

-- `brief` is the kind `kind` with its contents, or the kind without its contents.
abbrev pub IsBrief : LexemeKind → LexemeKind → Type 0
IsBrief kind brief = (brief ≡ kind) ⊎ (brief ≡ brief_kind kind)

-- ---- the results of the brief functions

-- The result is the expected lexeme, with or without its contents, or the expected fault, unless
-- memory ran out.
abbrev pub FindsBrief : Result FoundLexeme LexFault → Result FoundLexeme LexFault → Type 0
FindsBrief (Ok w) (Ok full) = (w.len ≡ full.len) × IsBrief full.kind w.kind
FindsBrief (Ok w) (Err fault) = ⊥
FindsBrief (Err fault) expected = UnlessMemory (λ f. expected ≡ Err f) fault

abbrev pub StepsBrief : Result LexStep LexFault → Result LexStep LexFault → Type 0
StepsBrief (Ok (Gap n)) expected = expected ≡ Ok (Gap n)
StepsBrief (Ok (Word w)) (Ok (Word full)) = (w.len ≡ full.len) × IsBrief full.kind w.kind
StepsBrief (Ok (Word w)) expected = ⊥
StepsBrief (Err fault) expected = UnlessMemory (λ f. expected ≡ Err f) fault

-- The result in which the brief lexeme is replaced by the lexeme with its contents.
abbrev pub in_full : List ℕ → Result (Option Lexeme) LexFault → Result (Option Lexeme) LexFault
in_full text (Ok (Some lexeme)) = Ok (Some (lexeme_from text lexeme.span.first))
in_full text (Ok None) = Ok None
in_full text (Err fault) = Err fault

-- The lexeme begins at `from` or later, and is the lexeme at its position, with or without its
-- contents.
pub record IsBriefNext (text : List ℕ) (from : ℕ) (lexeme : Lexeme) : Type 0 where
  pub onward : from < lexeme.span.first + lexeme.span.len
  pub within : lexeme.span.first + lexeme.span.len ≤ length text
  pub behind : from ≤ lexeme.span.first
  pub span : (lexeme_from text lexeme.span.first).span ≡ lexeme.span
  pub kind : IsBrief (lexeme_from text lexeme.span.first).kind lexeme.kind
