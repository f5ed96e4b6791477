-- The answer of a text that should be a path: a path or an error. Lexical errors come before syntax
-- errors.
use Rattle.std.specs.Prelude.{ℕ, ◌≡◌, List, length, Result, Ok, Err, ⊤}
use Rattle.types_lex.specs.declared.lexeme.Lexeme.{Lexeme}
use Rattle.types_lex.specs.declared.lexeme.LexFault.{LexFault}
use Rattle.types_lex.specs.declared.lexeme.LexFault.TheVariants as lexer
use Rattle.types_lex.specs.LexText.{Outcome}
use Rattle.types_parse.specs.grammar.Refusals.{IsSyntax}
use Rattle.types_parse.specs.grammar.LexemeKinds.{kinds_of}
use Rattle.types_parse.specs.parse.Parsed.{byte_of}
use Rattle.text_path.specs.PathGrammar.{path_kinds}
use Rattle.text_path.specs.declared.path_fault.PathFault.{PathFault}
use Rattle.text_path.specs.declared.path_fault.PathFault.TheVariants as faults

-- The lexemes are the lexemes of a path, or have a syntax error at the byte offset of the first
-- lexeme at which no path continues. The text has `end` bytes.
abbrev pub IsEncoded : List Lexeme → ℕ → Result (List ℕ) PathFault → Type 0
IsEncoded lexemes end (Ok path) = path_kinds path ≡ kinds_of lexemes
IsEncoded lexemes end (Err (faults.Syntax position)) =
    (k : ℕ) × IsSyntax path_kinds (kinds_of lexemes) k × (byte_of lexemes end k ≡ position)
IsEncoded lexemes end (Err faults.Lex) = ⊥
IsEncoded lexemes end (Err faults.Memory) = ⊥

-- The answer for a text as a path, given the result of the lexer.
abbrev pub IsLexed : ℕ → Result (List Lexeme) LexFault → Result (List ℕ) PathFault → Type 0
IsLexed end (Ok lexemes) answer = IsEncoded lexemes end answer
IsLexed end (Err fault) answer = Err faults.Lex ≡ answer

-- The answer for a text as a path: a path or an error.
abbrev pub IsAnswer : List ℕ → Result (List ℕ) PathFault → Type 0
IsAnswer text answer =
    (outcome : Result (List Lexeme) LexFault) × Outcome text outcome
    × IsLexed (length text) outcome answer

-- A text has exactly one answer as a path.
abbrev pub HasOneAnswer : List ℕ → Type 0
HasOneAnswer text =
    (answer : Result (List ℕ) PathFault) × IsAnswer text answer
    × ((other : Result (List ℕ) PathFault) → IsAnswer text other → other ≡ answer)

-- ---- the result of a call

abbrev pub fault_of_lexer : LexFault → PathFault
fault_of_lexer lexer.Memory = faults.Memory
fault_of_lexer fault = faults.Lex

abbrev pub UnlessMemory : (PathFault → Type 0) → PathFault → Type 0
UnlessMemory P faults.Memory = ⊤
UnlessMemory P fault = P fault

-- If memory does not run out, the result is the answer `answer`.
abbrev pub Reports : Result (List ℕ) PathFault → Result (List ℕ) PathFault → Type 0
Reports (Ok path) answer = answer ≡ Ok path
Reports (Err fault) answer = UnlessMemory (λ f. answer ≡ Err f) fault
