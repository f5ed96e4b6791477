-- The texts of values without parts are one lexeme each.
use Rattle.std.specs.Prelude.{ℕ, ℤ, ◌<◌, ◌^◌, List, [], ◌∷◌, ◌++◌}
use Rattle.std.specs.Fmt.{signed_decimal}
use Rattle.base_data.specs.model.Bytes.{AreBytes}
use Rattle.types_lex.specs.declared.lexeme.LexemeKind.TheVariants as kinds
use Rattle.types_lex.specs.declared.lexeme.Suffix.{Suffix}
use Rattle.types_lex.specs.Lexeme.{suffix_text}
use Rattle.text_print.specs.leaves.LeafTexts.{char_text, float_text, string_text}
use Rattle.text_roundtrip.specs.lexed.Lexed.{Anything, Ends, IsLexed}
use Rattle.text_roundtrip.specs.lexed.LexedNumbers.{InRange, integer_kinds}

abbrev pub StringsAreLexemes : Type 0
StringsAreLexemes =
    (bytes : List ℕ) → AreBytes bytes → IsLexed Anything (string_text bytes) (kinds.Text bytes ∷ [])

abbrev pub CharactersAreLexemes : Type 0
CharactersAreLexemes =
    (b : ℕ) → b < 256 → IsLexed Anything (char_text b) (kinds.Character b ∷ [])

abbrev pub DoublesAreLexemes : Type 0
DoublesAreLexemes =
    (bits : ℕ) → bits < 2 ^ 64 → IsLexed Anything (float_text bits) (kinds.Double bits ∷ [])

-- If no byte of a name follows, the text of an integer is one lexeme.
abbrev pub IntegersAreLexemes : Type 0
IntegersAreLexemes =
    (z : ℤ) (suffix : Suffix) → InRange z
    → IsLexed Ends (signed_decimal z ++ suffix_text suffix) (integer_kinds z suffix)
