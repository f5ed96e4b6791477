-- The lexical context of a byte in a text, and the byte's role for brackets. Brackets are `( )`, `{
-- }` and `[| |]`, outside of strings and characters. `[]` is a word. A quote after a name belongs
-- to the name.
use Rattle.std.specs.Prelude.{ℕ, ◌||◌, ◌==◌, if◌then◌else◌}
use Rattle.std.specs.Char.{is_ascii_alphanumeric}
use Rattle.text_pretty.specs.declared.break_point.BreakPoint.{BreakPoint}
use Rattle.text_pretty.specs.declared.break_point.BreakPoint.TheVariants as break_points
use Rattle.text_pretty.specs.declared.break_point.ByteRole.{ByteRole}
use Rattle.text_pretty.specs.declared.break_point.ByteRole.TheVariants as marks

-- ---- the roles of bytes: 40 and 41 are `(` and `)`, 123 and 125 `{` and `}`, 124 `|`, 44 and 59
-- `,` and `;`

-- The role of a byte outside of quotes, given the roles of `(` and of `|`.
abbrev pub bare_mark : ByteRole → ByteRole → ℕ → ByteRole
bare_mark paren bar b =
    if b == 40 then paren
    else (if b == 124 then bar
    else (if b == 123 then marks.Opens
    else (if b == 41 then marks.Closes
    else (if b == 125 then marks.Closes
    else (if b == 44 then marks.Parts
    else (if b == 59 then marks.Parts else marks.Other))))))

-- A bar opens a bracket after `[`, and otherwise closes one. After `::`, a parenthesis is that of a
-- list.
abbrev pub mark_of : BreakPoint → ℕ → ByteRole
mark_of break_points.Outside b = bare_mark marks.Opens marks.Closes b
mark_of break_points.Name b = bare_mark marks.Opens marks.Closes b
mark_of break_points.Square b = bare_mark marks.Opens marks.Opens b
mark_of break_points.Colon b = bare_mark marks.OpensList marks.Closes b
mark_of break_point b = marks.Other

-- ---- the next context: 34 is a double quote, 39 a quote, 91 `[`, 58 `:`, 95 `_`, 92 a backslash

-- The context after a byte outside of quotes, given the context after a quote.
abbrev pub bare_break_point : BreakPoint → ℕ → BreakPoint
bare_break_point behind_quote b =
    if b == 34 then break_points.Text
    else (if b == 39 then behind_quote
    else (if b == 91 then break_points.Square
    else (if b == 58 then break_points.Colon
    else (if is_ascii_alphanumeric b || b == 95 then break_points.Name else break_points.Outside))))

-- The context after a byte between quotes of this kind.
abbrev pub quoted_break_point : ℕ → BreakPoint → BreakPoint → ℕ → BreakPoint
quoted_break_point quote inside escape b =
    if b == quote then break_points.Outside else (if b == 92 then escape else inside)

abbrev pub next_break_point : BreakPoint → ℕ → BreakPoint
next_break_point break_points.Text b =
    quoted_break_point 34 break_points.Text break_points.TextEscape b
next_break_point break_points.TextEscape b = break_points.Text
next_break_point break_points.Letter b =
    quoted_break_point 39 break_points.Letter break_points.LetterEscape b
next_break_point break_points.LetterEscape b = break_points.Letter
next_break_point break_points.Name b = bare_break_point break_points.Name b
next_break_point break_point b = bare_break_point break_points.Letter b
