-- The line and the column of a byte of a text, both counted from 1.
use Rattle.std.specs.Prelude.{ℕ, ◌+◌, Bool, true, false, not, ◌==◌, List, ◌++◌, take, codes}
use Rattle.std.specs.Prelude.{decimal}
use Rattle.std.specs.List.{count_by, suffix_len}

-- The byte is a line feed.
abbrev pub is_feed : ℕ → Bool
is_feed b = b == 10

-- The byte is not a line feed.
abbrev pub goes_on : ℕ → Bool
goes_on b = not (is_feed b)

-- The line and the column of the position directly after the bytes `before`. Each line feed begins
-- a line, and each other byte takes one column.
abbrev pub line_after : List ℕ → ℕ
line_after before = 1 + count_by is_feed before

abbrev pub column_after : List ℕ → ℕ
column_after before = 1 + suffix_len goes_on before

-- The line and the column of a position, which is the index of a byte in the text.
abbrev pub line_of : List ℕ → ℕ → ℕ
line_of text position = line_after (take position text)

abbrev pub column_of : List ℕ → ℕ → ℕ
column_of text position = column_after (take position text)

-- The printed form of a line and a column: `LINE:COLUMN`.
abbrev pub spot_text : (line column : ℕ) → List ℕ
spot_text line column = decimal line ++ codes ":" ++ decimal column

-- The printed form of a position in a text. If `lines` is false, the form is the index of the byte,
-- from 0. If `lines` is true, the form is the line and column.
abbrev pub position_in : (lines : Bool) → (text : List ℕ) → ℕ → List ℕ
position_in false text = λ position. decimal position
position_in true text = λ position. spot_text (line_of text position) (column_of text position)

-- The printed form of a position in a text that is the single line `number`.
abbrev pub position_on : (lines : Bool) → (number : ℕ) → ℕ → List ℕ
position_on false number = λ position. decimal position
position_on true number = λ position. spot_text number (1 + position)
