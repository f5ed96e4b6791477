-- Definitions for the contracts of the code that parses scripts with decimals.
use Rattle.std.specs.Prelude.{ℕ, ◌^◌, ◌≡◌, List, [], ◌∷◌, ◌++◌}
use Rattle.std.specs.List.{All}
use Rattle.text_decimal.specs.declared.texts.decimals.Decimal.{Decimal}
use Rattle.text_decimal.specs.texts.PlainTexts.{AreWithin, decimals_in, plain_text}
use Rattle.text_decimal.specs.declared.scripts.plain_scripts.PlainScript.{PlainScript}
use Rattle.text_decimal.specs.scripts.Scripts.{plain_script, decimals_of}

-- The decimals are in order within a text of less than 2^63 bytes.
abbrev pub Fit : List Decimal → Type 0
Fit decimals = AreWithin 0 decimals (2 ^ 63)

-- The plain text of a line is appended to the text, and the line's decimals are appended to the
-- list.
pub record IsLineWritten (line : List ℕ) (old new : PlainScript) : Type 0 where
  pub text : new.text.items ≡ old.text.items ++ plain_text line
  pub decimals : new.decimals.items ≡ old.decimals.items ++ decimals_in line ∷ []
  pub fit : Fit (decimals_in line)

-- `plain` is the plain script of the text, with the decimals of each line.
pub record IsPlainScript (text : List ℕ) (plain : PlainScript) : Type 0 where
  pub text_is : plain.text.items ≡ plain_script text
  pub decimals_are : plain.decimals.items ≡ decimals_of text
  pub fit : All Fit plain.decimals.items
