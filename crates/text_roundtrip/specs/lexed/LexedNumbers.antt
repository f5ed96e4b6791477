-- Integers as lexemes.
use Rattle.std.specs.Prelude.{ℤ, pos, negsuc, ◌^◌, ◌<◌, Bool, true, false, [], ◌∷◌}
use Rattle.types_lex.specs.declared.lexeme.LexemeKind.TheVariants as kinds
use Rattle.types_lex.specs.declared.lexeme.Suffix.{Suffix}
use Rattle.types_parse.specs.grammar.Grammar.{Kinds}

abbrev pub is_minus : ℤ → Bool
is_minus (pos n) = false
is_minus (negsuc n) = true

abbrev pub InRange : ℤ → Type 0
InRange (pos n) = n < 2 ^ 63
InRange (negsuc n) = n < 2 ^ 63

abbrev pub integer_kinds : ℤ → Suffix → Kinds
integer_kinds z suffix =
    kinds.Integer (record { minus = is_minus z; value = z; suffix = suffix }) ∷ []
