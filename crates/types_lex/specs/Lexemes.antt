-- The positions of the lexemes of a text, and the prefix of a text up to a position.
use Rattle.std.specs.Prelude.{◌≡◌, ℕ, ◌+◌, ◌<◌, ◌≤◌, List, [], ◌∷◌, ◌++◌, length, drop, Option}
use Rattle.std.specs.Prelude.{Some, None, Result, Ok, Err, ⊤}
use Rattle.std.specs.List.{flat_map}
use Rattle.types_lex.specs.declared.lexeme.Keyword.TheVariants as keywords
use Rattle.types_lex.specs.declared.lexeme.Lexeme.{Lexeme}
use Rattle.types_lex.specs.declared.lexeme.LexemeKind.{LexemeKind}
use Rattle.types_lex.specs.declared.lexeme.LexemeKind.TheVariants as kinds
use Rattle.types_lex.specs.declared.lexeme.LexFault.{LexFault}
use Rattle.types_lex.specs.declared.found_lexeme.LexStep.{LexStep}
use Rattle.types_lex.specs.declared.found_lexeme.LexStep.TheVariants.{Word}
use Rattle.types_lex.specs.LexText.{TextPart, part_bytes, AreParts, lexemes_of, Lexes, Faults}
use Rattle.types_lex.specs.LexText.{UnlessMemory}
use Rattle.types_lex.specs.Lexer.{step_at}

-- The lexeme of a step at a position. If the step has no lexeme, then the result is a keyword of
-- length 0.
abbrev pub lexeme_in : ℕ → Result LexStep LexFault → Lexeme
lexeme_in position (Ok (Word word)) =
    record { kind = word.kind; span = record { first = position; len = word.len } }
lexeme_in position step =
    record { kind = kinds.Keyword keywords.Type; span = record { first = position; len = 0 } }

-- The lexeme at position `position` of the text.
abbrev pub lexeme_from : List ℕ → ℕ → Lexeme
lexeme_from text position = lexeme_in position (step_at (drop position text))

-- The name of a lowercase name. For any other kind, the name is empty.
abbrev pub lower_name : Option LexemeKind → List ℕ
lower_name (Some (kinds.Lower x)) = x
lower_name kind = []

-- The text up to position `at` consists of parts, and `lexemes` are the lexemes among the parts.
pub record Reached (text : List ℕ) (at : ℕ) (lexemes : List Lexeme) : Type 0 where
  pub parts : List TextPart
  pub are : AreParts parts (drop at text)
  pub is : text ≡ flat_map part_bytes parts ++ drop at text
  pub long : at ≡ length (flat_map part_bytes parts)
  pub inside : at ≤ length text
  pub found : lexemes ≡ lexemes_of 0 parts

-- If the result is a lexeme, then the lexeme follows the lexemes `prefix`. If the result is `None`,
-- then no lexeme follows `prefix`. If the result is a fault, then the text has the fault.
abbrev pub GoesOn : List ℕ → List Lexeme → Result (Option Lexeme) LexFault → Type 0
GoesOn text prefix (Ok None) = Reached text (length text) prefix
GoesOn text prefix (Ok (Some lexeme)) =
    Reached text (lexeme.span.first + lexeme.span.len) (prefix ++ lexeme ∷ [])
GoesOn text prefix (Err fault) = UnlessMemory (Faults text) fault

-- If the result is a position, then another part ends at the position, after the parts with the
-- lexemes `prefix`. If the result is a fault, then the text has the fault.
abbrev pub StepsOn : List ℕ → List Lexeme → Result ℕ LexFault → Type 0
StepsOn text prefix (Ok end) = (more : List Lexeme) × Reached text end (prefix ++ more)
StepsOn text prefix (Err fault) = UnlessMemory (Faults text) fault

-- The lexeme begins at `from` or later, and is the lexeme at its position.
pub record IsNext (text : List ℕ) (from : ℕ) (lexeme : Lexeme) : Type 0 where
  pub onward : from < lexeme.span.first + lexeme.span.len
  pub within : lexeme.span.first + lexeme.span.len ≤ length text
  pub behind : from ≤ lexeme.span.first
  pub is : lexeme_from text lexeme.span.first ≡ lexeme

-- If the result is `Ok`, then the lexemes of the text begin with `prefix`. If the result is a
-- fault, then the text has the fault.
abbrev pub Ends : List ℕ → List Lexeme → Result ⊤ LexFault → Type 0
Ends text prefix (Ok done) = (more : List Lexeme) × Lexes text (prefix ++ more)
Ends text prefix (Err fault) = UnlessMemory (Faults text) fault
