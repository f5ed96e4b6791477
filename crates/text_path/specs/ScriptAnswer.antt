-- The answer for a text that should be a script: the script's edits, or the error of the first line
-- with an error.
use Rattle.std.specs.Prelude.{ℕ, suc, ◌≡◌, ◌<◌, ◌≤◌, ◌==◌, Option, Some, None, List, [], ◌∷◌, ◌++◌}
use Rattle.std.specs.Prelude.{length, Result, Ok, Err, ⊤}
use Rattle.std.specs.List.{slice_split}
use Rattle.types_lex.specs.declared.lexeme.Lexeme.{Lexeme}
use Rattle.types_lex.specs.declared.lexeme.LexFault.{LexFault}
use Rattle.types_lex.specs.declared.lexeme.LexFault.TheVariants as lexer
use Rattle.types_lex.specs.LexText.{Outcome}
use Rattle.types_parse.specs.grammar.Refusals.{IsSyntax}
use Rattle.types_parse.specs.grammar.LexemeKinds.{kinds_of}
use Rattle.types_parse.specs.parse.Parsed.{byte_of}
use Rattle.text_path.specs.LineGrammar.{LineTree, set_line, link_line, unshare_line, graft_line}
use Rattle.text_path.specs.LineGrammar.{line_kinds}
use Rattle.text_path.specs.declared.edits.Action.{Action}
use Rattle.text_path.specs.declared.edits.Action.TheVariants as actions
use Rattle.text_path.specs.declared.edits.Edit.TheVariants as edits
use Rattle.text_path.specs.declared.edits.ScriptLine.{ScriptLine}
use Rattle.text_path.specs.declared.edits.Script.{Script}
use Rattle.text_path.specs.declared.edits.ScriptFault.{ScriptFault}
use Rattle.text_path.specs.declared.edits.ScriptFault.TheVariants as faults

-- ---- a line

-- The list `lexemes` ends with the list `last`.
abbrev pub EndWith : List Lexeme → List Lexeme → Type 0
EndWith lexemes last = (before : List Lexeme) × (lexemes ≡ before ++ last)

-- The tree of a line that requests an action at value `value`.
abbrev pub tree_of : ℕ → Action → LineTree
tree_of value (actions.Edit (edits.Set path literal len)) =
    set_line value path (kinds_of literal)
tree_of value (actions.Edit (edits.Link path source)) = link_line value path source
tree_of value (actions.Edit (edits.Unshare path)) = unshare_line value path
tree_of value (actions.Graft path other source) = graft_line value path other source

-- If the action has a literal, then the literal's lexemes are the last lexemes of the line, and the
-- line has `end` bytes.
abbrev pub HasLiteralOf : List Lexeme → ℕ → Action → Type 0
HasLiteralOf lexemes end (actions.Edit (edits.Set path literal len)) =
    EndWith lexemes literal × (len ≡ end)
HasLiteralOf lexemes end (actions.Edit (edits.Link path source)) = ⊤
HasLiteralOf lexemes end (actions.Edit (edits.Unshare path)) = ⊤
HasLiteralOf lexemes end (actions.Graft path other source) = ⊤

-- The lexemes of a line of `end` bytes request the action `action` at the value with number
-- `value`.
abbrev pub IsAction : List Lexeme → ℕ → ℕ → Action → Type 0
IsAction lexemes end value action =
    (line_kinds (tree_of value action) ≡ kinds_of lexemes) × HasLiteralOf lexemes end action

-- If the action copies from a value, then the source value comes before the edited value.
abbrev pub IsInTime : ℕ → Action → Type 0
IsInTime value (actions.Edit edit) = ⊤
IsInTime value (actions.Graft path other source) = other < value

-- Every line satisfies `IsInTime`.
abbrev pub AreInTime : List ScriptLine → Type 0
AreInTime [] = ⊤
AreInTime (line ∷ lines) = IsInTime line.value line.action × AreInTime lines

-- The lexemes request a copy from a value that does not come before the edited value.
abbrev pub IsLater : List Lexeme → Type 0
IsLater lexemes =
    (value other : ℕ) × (path source : List ℕ)
    × (line_kinds (graft_line value path other source) ≡ kinds_of lexemes) × (value ≤ other)

-- The result for one line: nothing for a blank line, an edit, or an error.
abbrev pub LineAnswer : Type 0
LineAnswer = Result (Option ScriptLine) ScriptFault

-- The result for the lexemes of line `number`, which has `end` bytes.
abbrev pub IsRead : ℕ → List Lexeme → ℕ → LineAnswer → Type 0
IsRead number lexemes end (Ok None) = lexemes ≡ []
IsRead number lexemes end (Ok (Some line)) =
    (line.number ≡ number) × IsAction lexemes end line.value line.action
    × IsInTime line.value line.action
IsRead number lexemes end (Err (faults.Syntax line position)) =
    (line ≡ number) × (0 < length lexemes) × (k : ℕ) × IsSyntax line_kinds (kinds_of lexemes) k
    × (byte_of lexemes end k ≡ position)
IsRead number lexemes end (Err (faults.Later line)) = (line ≡ number) × IsLater lexemes
IsRead number lexemes end (Err (faults.Lex line fault)) = ⊥
IsRead number lexemes end (Err faults.Memory) = ⊥

-- The result for a line, given the result of the lexer.
abbrev pub IsLineLexed : ℕ → ℕ → Result (List Lexeme) LexFault → LineAnswer → Type 0
IsLineLexed number end (Ok lexemes) answer = IsRead number lexemes end answer
IsLineLexed number end (Err fault) answer = Err (faults.Lex number fault) ≡ answer

-- The result for the line with number `number`.
abbrev pub IsLineAnswer : ℕ → List ℕ → LineAnswer → Type 0
IsLineAnswer number line answer =
    (outcome : Result (List Lexeme) LexFault) × Outcome line outcome
    × IsLineLexed number (length line) outcome answer

-- ---- the lines of a text

-- The lines of a text: the parts between line feeds (byte 10). No line contains a line feed, and
-- the lines joined by line feeds give the text.
abbrev pub lines_of : List ℕ → List (List ℕ)
lines_of text = slice_split (λ b. b == 10) text

-- Each line has its result in the list of results. The first line has the number `number`.
abbrev pub AreAnswers : ℕ → List (List ℕ) → List LineAnswer → Type 0
AreAnswers number [] [] = ⊤
AreAnswers number (line ∷ lines) (answer ∷ answers) =
    IsLineAnswer number line answer × AreAnswers (suc number) lines answers
AreAnswers number [] (answer ∷ answers) = ⊥
AreAnswers number (line ∷ lines) [] = ⊥

abbrev pub ScriptEdits : Type 0
ScriptEdits = Result (List ScriptLine) ScriptFault

abbrev pub in_prefix : Option ScriptLine → ScriptEdits → ScriptEdits
in_prefix None rest = rest
in_prefix (Some line) (Ok lines) = Ok (line ∷ lines)
in_prefix (Some line) (Err fault) = Err fault

-- The edits of all lines, or the error of the first line with an error.
abbrev pub edits_of : List LineAnswer → ScriptEdits
edits_of [] = Ok []
edits_of (Ok line ∷ answers) = in_prefix line (edits_of answers)
edits_of (Err fault ∷ answers) = Err fault

-- The edits, or the error, of a text whose first line has the number `number`.
abbrev pub AreEdits : ℕ → List ℕ → ScriptEdits → Type 0
AreEdits number text all =
    (answers : List LineAnswer) × AreAnswers number (lines_of text) answers
    × (edits_of answers ≡ all)

abbrev pub edits_in : Result Script ScriptFault → ScriptEdits
edits_in (Ok script) = Ok script.lines
edits_in (Err fault) = Err fault

-- The answer for a text as a script: a script or an error.
abbrev pub IsScriptAnswer : List ℕ → Result Script ScriptFault → Type 0
IsScriptAnswer text answer = AreEdits 1 text (edits_in answer)

-- A text has exactly one answer as a script.
abbrev pub HasOneScriptAnswer : List ℕ → Type 0
HasOneScriptAnswer text =
    (answer : Result Script ScriptFault) × IsScriptAnswer text answer
    × ((other : Result Script ScriptFault) → IsScriptAnswer text other → other ≡ answer)

-- ---- the result of a call

abbrev pub line_fault : ℕ → LexFault → ScriptFault
line_fault number lexer.Memory = faults.Memory
line_fault number fault = faults.Lex number fault

abbrev pub UnlessMemory : (ScriptFault → Type 0) → ScriptFault → Type 0
UnlessMemory P faults.Memory = ⊤
UnlessMemory P fault = P fault

-- If memory does not run out, the result is the answer `answer`.
abbrev pub ReportsScript : Result Script ScriptFault → Result Script ScriptFault → Type 0
ReportsScript (Ok script) answer = answer ≡ Ok script
ReportsScript (Err fault) answer = UnlessMemory (λ f. answer ≡ Err f) fault
