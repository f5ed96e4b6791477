-- Pretty-printing: the text of a value over lines of 80 columns, if possible. If a bracket fits the
-- remaining columns of the line, the bracket is printed unchanged. If the bracket does not fit, the
-- bracket is broken:
--
-- - Each part of the bracket begins a line, two columns to the right of the line of the opening
--   bracket.
-- - The separator of two parts comes before the second part, in these two columns.
-- - The closing bracket begins a line.
--
-- A label or a field name comes before its part, on the line of the part.
--
-- The text of a list is `::(A, ::(B, []))`. If a list is broken, then the list of its remaining
-- items is broken, too. The first item follows the opening bracket. The remaining items begin a
-- line with the indentation of the list. The closing brackets follow one another.
--
-- The indentation is at most 40, so a text of n bytes has a pretty text of at most 42 n bytes.
use Rattle.std.specs.Prelude.{ℕ, ◌+◌, ◌-◌, Bool, true, false, not, ◌&&◌, ◌==◌, nat_lt}
use Rattle.std.specs.Prelude.{if◌then◌else◌, List, [], ◌∷◌, ◌++◌, replicate, Option, Some, None}
use Rattle.text_pretty.specs.declared.break_point.ByteRole.{ByteRole}
use Rattle.text_pretty.specs.declared.break_point.ByteRole.TheVariants as marks
use Rattle.text_pretty.specs.declared.break_point.BreakPoint.TheVariants as break_points
use Rattle.text_pretty.specs.declared.broken_bracket.BrokenBracket.{BrokenBracket}
use Rattle.text_pretty.specs.declared.broken_bracket.BrokenBracket.TheVariants as brackets
use Rattle.text_pretty.specs.declared.layout.Layout.{Layout}
use Rattle.text_pretty.specs.Fit.{closing_length, to_close, within}
use Rattle.text_pretty.specs.BreakPoints.{mark_of, next_break_point}
use Rattle.text_pretty.specs.Stack.{first, others}

-- ---- indentations

-- The indentation of the contents of a bracket with this indentation.
abbrev pub inner : ℕ → ℕ
inner indent = if nat_lt indent 38 then indent + 2 else 40

-- The indentation of a bracket.
abbrev pub base : Option BrokenBracket → ℕ
base None = 0
base (Some (brackets.Block indent)) = indent
base (Some (brackets.Chain indent)) = indent

-- The indentation of a bracket that opens in this bracket. `parted` is true after a separator.
abbrev pub child_indent : Bool → Option BrokenBracket → ℕ
child_indent parted None = 0
child_indent parted (Some (brackets.Block indent)) = inner indent
child_indent parted (Some (brackets.Chain indent)) = if parted then indent else inner indent

-- ---- the beginnings of lines

-- The indentation of a line that begins with this closing bracket. `left` bytes fit the line before
-- it. The closing bracket of a list begins a line only if the closing bracket does not fit the line
-- before it.
abbrev pub closing_line : ℕ → ℕ → Option BrokenBracket → Option ℕ
closing_line left b None = Some 0
closing_line left b (Some (brackets.Block indent)) = Some indent
closing_line left b (Some (brackets.Chain indent)) =
    if nat_lt left (closing_length b) then Some indent else None

-- The indentation of a line that begins with a byte with this role. The byte 32 is a blank.
abbrev pub line_at : Layout → ByteRole → ℕ → Option ℕ
line_at at marks.Parts b = Some (base (first at.brackets))
line_at at marks.Closes b = closing_line at.left b (first at.brackets)
line_at at mark b =
    if at.fresh && not (b == 32) then Some (inner (base (first at.brackets))) else None

-- The indentation of the line that begins with a byte, if the byte begins a line.
abbrev pub line_before : Layout → ℕ → Option ℕ
line_before at b = if nat_lt 0 at.flat then None else line_at at (mark_of at.break_point b) b

abbrev pub line_text : Option ℕ → List ℕ
line_text None = []
line_text (Some indent) = 10 ∷ replicate indent 32

-- ---- the state after a byte

abbrev pub left_behind : Option ℕ → ℕ → ℕ
left_behind None left = left - 1
left_behind (Some indent) left = 80 - indent - 1

-- The state after a byte, without regard to the byte's role.
abbrev pub passed : Option ℕ → ℕ → Layout → Layout
passed line b at = record {
  break_point = next_break_point at.break_point b;
  left = left_behind line at.left;
  flat = at.flat - 1;
  fresh = false;
  parted = at.parted;
  brackets = at.brackets;
}

-- The state after a bracket is opened. If the bracket fits its line, `room` is the bracket's number
-- of bytes, and otherwise 0.
abbrev pub opened : ℕ → Bool → BrokenBracket → Layout → Layout
opened room fresh bracket at =
    if nat_lt 0 room then record at { flat = room; parted = false }
    else record at { fresh = fresh; parted = false; brackets = bracket ∷ at.brackets }

abbrev pub list_room : Layout → Option BrokenBracket → List ℕ → ℕ
list_room at (Some (brackets.Chain indent)) bytes =
    if at.parted then 0 else within at.left (to_close at.break_point 0 bytes)
list_room at top bytes = within at.left (to_close at.break_point 0 bytes)

-- The state after a byte with this role. `bytes` are the bytes after the byte.
abbrev pub marked : ByteRole → List ℕ → Layout → Layout
marked marks.Opens bytes at =
    opened (within at.left (to_close at.break_point 0 bytes)) true
    (brackets.Block (child_indent at.parted (first at.brackets))) at
marked marks.OpensList bytes at =
    opened (list_room at (first at.brackets) bytes) false
    (brackets.Chain (child_indent at.parted (first at.brackets))) at
marked marks.Parts bytes at = record at { parted = true }
marked marks.Closes bytes at = record at { parted = false; brackets = others at.brackets }
marked marks.Other bytes at = at

-- The state after a byte. `bytes` are the bytes after the byte.
abbrev pub behind : Option ℕ → ℕ → List ℕ → Layout → Layout
behind line b bytes at =
    if nat_lt 0 at.flat then passed line b at
    else marked (mark_of at.break_point b) bytes (passed line b at)

-- ---- a text

abbrev pub start : Layout
start = record {
  break_point = break_points.Outside;
  left = 80;
  flat = 0;
  fresh = false;
  parted = false;
  brackets = [];
}

-- The pretty text of the bytes from a state on.
abbrev pub laid : Layout → List ℕ → List ℕ
laid at [] = []
laid at (b ∷ bytes) =
    line_text (line_before at b) ++ b ∷ laid (behind (line_before at b) b bytes at) bytes

abbrev pub pretty : List ℕ → List ℕ
pretty plain = laid start plain
