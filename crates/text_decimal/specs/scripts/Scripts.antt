-- A script in which decimals may denote doubles. Each line is parsed as its plain text, and each
-- offset in the result refers to the original line.
use Rattle.std.specs.Prelude.{ℕ, ◌-◌, ◌^◌, ◌≡◌, nat_lt, if◌then◌else◌, List, [], map}
use Rattle.std.specs.Prelude.{slice_index_or, Ok, Err, Result}
use Rattle.std.specs.List.{join_with_byte}
use Rattle.types_lex.specs.declared.lexeme.Lexeme.{Lexeme}
use Rattle.types_lex.specs.declared.lexeme.LexFault.{LexFault}
use Rattle.types_lex.specs.declared.lexeme.LexFault.TheVariants as lexer
use Rattle.text_path.specs.declared.edits.Action.{Action}
use Rattle.text_path.specs.declared.edits.Action.TheVariants as actions
use Rattle.text_path.specs.declared.edits.Edit.{Edit}
use Rattle.text_path.specs.declared.edits.Edit.TheVariants as edits
use Rattle.text_path.specs.declared.edits.Script.{Script}
use Rattle.text_path.specs.declared.edits.ScriptLine.{ScriptLine}
use Rattle.text_path.specs.declared.edits.ScriptFault.{ScriptFault}
use Rattle.text_path.specs.declared.edits.ScriptFault.TheVariants as faults
use Rattle.text_path.specs.ScriptAnswer.{lines_of, ScriptEdits, AreEdits, edits_in}
use Rattle.text_decimal.specs.declared.texts.decimals.Decimal.{Decimal}
use Rattle.text_decimal.specs.texts.PlainTexts.{decimals_in, plain_text, given_position}

-- The plain text of a script: the plain texts of the lines, joined by line feeds.
abbrev pub plain_script : List ℕ → List ℕ
plain_script text = join_with_byte 10 (map plain_text (lines_of text))

-- The decimals of each line of a script.
abbrev pub decimals_of : List ℕ → List (List Decimal)
decimals_of text = map decimals_in (lines_of text)

-- The decimals of line `number`, where lines are counted from 1.
abbrev pub decimals_on : List (List Decimal) → ℕ → List Decimal
decimals_on all number = slice_index_or all (number - 1) []

-- ---- offsets

-- The offset in a line for an offset in the line's plain text. Offsets from 2^63 on are unchanged,
-- because no line has 2^63 bytes.
abbrev pub line_position : List Decimal → ℕ → ℕ
line_position decimals position =
    if nat_lt position (2 ^ 63) then given_position decimals position else position

-- A lexeme with its offset in the original line. The lexeme's length is the length in the plain
-- text.
abbrev pub given_lexeme : List Decimal → Lexeme → Lexeme
given_lexeme decimals lexeme = record {
  kind = lexeme.kind;
  span = record { first = line_position decimals lexeme.span.first; len = lexeme.span.len };
}

abbrev pub given_edit : List Decimal → Edit → Edit
given_edit decimals (edits.Set path literal end) =
    edits.Set path (map (given_lexeme decimals) literal) (line_position decimals end)
given_edit decimals (edits.Link path source) = edits.Link path source
given_edit decimals (edits.Unshare path) = edits.Unshare path

abbrev pub given_action : List Decimal → Action → Action
given_action decimals (actions.Edit edit) = actions.Edit (given_edit decimals edit)
given_action decimals (actions.Graft path other source) = actions.Graft path other source

abbrev pub given_lex : List Decimal → LexFault → LexFault
given_lex decimals (lexer.BadByte position) = lexer.BadByte (line_position decimals position)
given_lex decimals (lexer.OpenString position) = lexer.OpenString (line_position decimals position)
given_lex decimals (lexer.OpenComment position) =
    lexer.OpenComment (line_position decimals position)
given_lex decimals (lexer.TooBig position) = lexer.TooBig (line_position decimals position)
given_lex decimals lexer.Memory = lexer.Memory

-- ---- answers

-- A line of the plain script, with offsets in the original line.
abbrev pub given_line : List (List Decimal) → ScriptLine → ScriptLine
given_line all line = record {
  number = line.number;
  value = line.value;
  action = given_action (decimals_on all line.number) line.action;
}

-- The error of a script, with its offset in the original line.
abbrev pub given_fault : List (List Decimal) → ScriptFault → ScriptFault
given_fault all (faults.Lex number fault) =
    faults.Lex number (given_lex (decimals_on all number) fault)
given_fault all (faults.Syntax number position) =
    faults.Syntax number (line_position (decimals_on all number) position)
given_fault all (faults.Later number) = faults.Later number
given_fault all faults.Memory = faults.Memory

abbrev pub given_edits : List (List Decimal) → ScriptEdits → ScriptEdits
given_edits all (Ok lines) = Ok (map (given_line all) lines)
given_edits all (Err fault) = Err (given_fault all fault)

-- The edits, or the error, of a script with decimals.
abbrev pub AreGivenEdits : List ℕ → ScriptEdits → Type 0
AreGivenEdits text all =
    (plain : ScriptEdits) × AreEdits 1 (plain_script text) plain
    × (all ≡ given_edits (decimals_of text) plain)

-- The result of parsing a script with decimals.
abbrev pub IsGivenAnswer : List ℕ → Result Script ScriptFault → Type 0
IsGivenAnswer text answer = AreGivenEdits text (edits_in answer)
