-- Laws on lines and columns.
use Rattle.std.specs.Prelude.{ℕ, ◌+◌, ◌≤◌, ◌≡◌, List, length, take}
use Rattle.std.specs.List.{count_by}
use Rattle.base_data.specs.lines.Lines.{is_feed, line_of, column_of}

-- If two positions of a text have equal lines and equal columns, then the positions are equal.
abbrev pub LinesReportPositions : Type 0
LinesReportPositions =
    (text : List ℕ) (position other : ℕ) → position ≤ length text → other ≤ length text
    → line_of text position ≡ line_of text other → column_of text position ≡ column_of text other
    → position ≡ other

-- If no line feed precedes a position, then the position's line is 1 and its column is the position
-- plus 1.
abbrev pub FirstLinesCount : Type 0
FirstLinesCount =
    (text : List ℕ) (position : ℕ) → position ≤ length text
    → count_by is_feed (take position text) ≡ 0
    → (line_of text position ≡ 1) × (column_of text position ≡ 1 + position)
