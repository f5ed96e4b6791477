-- Texts that consist of given lexemes, under a condition on the bytes that follow the text.
use Rattle.std.specs.Prelude.{ℕ, ◌≡◌, ◌≢◌, false, List, [], ◌∷◌}
use Rattle.std.specs.List.{flat_map, AllByRecursion}
use Rattle.types_parse.specs.grammar.Grammar.{Kinds}
use Rattle.types_lex.specs.Lexeme.{is_name_byte, form_kind, IsForm}
use Rattle.types_lex.specs.LexText.{TextPart, Separator, Comment, Word, part_bytes, AreParts}

abbrev pub Anything : List ℕ → Type 0
Anything bytes = Unit {0}

-- The bytes are empty, or begin with a byte that continues no name and no number.
abbrev pub Ends : List ℕ → Type 0
Ends [] = Unit {0}
Ends (b ∷ bs) = is_name_byte b ≡ false

-- The bytes do not begin with a star, which would begin a comment after an opening parenthesis.
abbrev pub NoStar : List ℕ → Type 0
NoStar [] = Unit {0}
NoStar (b ∷ bs) = b ≢ 42

abbrev pub kinds_in : List TextPart → Kinds
kinds_in [] = []
kinds_in (Separator b ∷ parts) = kinds_in parts
kinds_in (Comment inside ∷ parts) = kinds_in parts
kinds_in (Word form ∷ parts) = form_kind form ∷ kinds_in parts

-- The text is not empty, and its first byte is not a star.
pub record BeginsWithoutStar (text : List ℕ) : Type 0 where
  pub first : ℕ
  pub others : List ℕ
  pub is : text ≡ first ∷ others
  pub no_star : first ≢ 42

-- The part is a lexeme or a space.
abbrev pub IsOnLine : TextPart → Type 0
IsOnLine (Separator b) = b ≡ 32
IsOnLine (Comment inside) = ⊥
IsOnLine (Word form) = IsForm form

-- The text consists of parts with the lexemes `kinds`, for all following bytes that satisfy `May`.
pub record IsLexed (May : List ℕ → Type 0) (text : List ℕ) (kinds : Kinds) : Type 0 where
  pub parts : List TextPart
  pub written : text ≡ flat_map part_bytes parts
  pub stands : kinds ≡ kinds_in parts
  pub are : (after : List ℕ) → May after → AreParts parts after
  pub one_line : AllByRecursion IsOnLine parts
