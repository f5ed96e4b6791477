-- The kinds of lexemes, and which of them are plain numbers.
use Rattle.std.specs.Prelude.{ℕ, ℤ, pos, Bool, false, Option, Some, None, List, map}
use Rattle.types_lex.specs.declared.lexeme.Lexeme.{Lexeme}
use Rattle.types_lex.specs.declared.lexeme.LexemeKind.{LexemeKind}
use Rattle.types_lex.specs.declared.lexeme.LexemeKind.TheVariants as kinds
use Rattle.types_lex.specs.declared.lexeme.Suffix.{Suffix}
use Rattle.types_lex.specs.declared.lexeme.Suffix.TheVariants as suffixes
use Rattle.types_parse.specs.grammar.Grammar.{Kinds}

abbrev pub kinds_of : List Lexeme → Kinds
kinds_of lexemes = map (λ (l : Lexeme). l.kind) lexemes

-- The lexeme of a number without sign and suffix.
abbrev pub number : ℕ → LexemeKind
number n = kinds.Integer (record { minus = false; value = pos n; suffix = suffixes.Absent })

abbrev pub plain_number : Bool → ℤ → Suffix → Option ℕ
plain_number false (pos n) suffixes.Absent = Some n
plain_number minus value suffix = None

abbrev pub number_of : LexemeKind → Option ℕ
number_of (kinds.Integer i) = plain_number i.minus i.value i.suffix
number_of kind = None
