-- Lines are narrow. If a line has more than 80 bytes, then it contains no position at which it
-- could be broken. The law is for texts in which brackets occur as in the texts of values.
use Rattle.std.specs.Prelude.{◌≡◌, ◌≢◌, ◌+◌, ◌≤◌, ◌⊎◌, ℕ, Bool, true, false, not, ◌&&◌, ◌||◌, ◌==◌}
use Rattle.std.specs.Prelude.{if◌then◌else◌, List, [], ◌∷◌}
use Rattle.std.specs.List.{AllByRecursion}
use Rattle.std.specs.Bool.{MatchBool}
use Rattle.text_pretty.specs.declared.break_point.BreakPoint.{BreakPoint}
use Rattle.text_pretty.specs.declared.break_point.BreakPoint.TheVariants as break_points
use Rattle.text_pretty.specs.declared.break_point.ByteRole.{ByteRole}
use Rattle.text_pretty.specs.declared.break_point.ByteRole.TheVariants as marks
use Rattle.text_pretty.specs.BreakPoints.{mark_of, next_break_point}
use Rattle.text_pretty.specs.PrettyLines.{pretty}

-- ---- lines

-- A line may be broken before a separator or a closing bracket.
abbrev pub is_behind_position : ByteRole → Bool
is_behind_position marks.Parts = true
is_behind_position marks.Closes = true
is_behind_position mark = false

-- A line may be broken after an opening bracket other than that of a list.
abbrev pub is_before_position : ByteRole → Bool
is_before_position marks.Opens = true
is_before_position mark = false

-- The facts of a line up to a byte:
--
-- - `begun`: the line has a byte besides blanks,
-- - `break_point`: the context of the next byte,
-- - `opened`: the line may be broken after the last byte,
-- - `placed`: the line may be broken at a position after a byte besides blanks.
pub record Seen : Type 0 where
  pub begun : Bool
  pub break_point : BreakPoint
  pub opened : Bool
  pub placed : Bool

abbrev pub nothing : Seen
nothing =
    record { begun = false; break_point = break_points.Outside; opened = false; placed = false }

abbrev pub seen_more : Seen → ℕ → Seen
seen_more seen b = record {
  begun = seen.begun || not (b == 32);
  break_point = next_break_point seen.break_point b;
  opened = is_before_position (mark_of seen.break_point b);
  placed =
      seen.begun
      && (seen.placed || (seen.opened || is_behind_position (mark_of seen.break_point b)));
}

-- A line with `columns` bytes and with these facts is narrow: it has at most 80 bytes, or cannot be
-- broken.
abbrev pub IsNarrow : ℕ → Seen → Type 0
IsNarrow columns seen = (columns ≤ 80) ⊎ (seen.placed ≡ false)

-- Each line of a text is narrow. The first line begins with `columns` bytes that have the facts
-- `seen`.
abbrev pub AreNarrow : ℕ → Seen → List ℕ → Type 0
AreNarrow columns seen [] = IsNarrow columns seen
AreNarrow columns seen (b ∷ text) =
    MatchBool (b == 10) (IsNarrow columns seen × AreNarrow 0 nothing text)
    (AreNarrow (columns + 1) (seen_more seen b) text)

-- ---- texts in which brackets occur as in the texts of values

-- A closing bracket is followed by the end, a separator or a closing bracket.
abbrev pub goes_on : BreakPoint → List ℕ → Bool
goes_on break_point [] = true
goes_on break_point (b ∷ bytes) = is_behind_position (mark_of break_point b)

-- A closing bar is followed by 93, which is `]`.
abbrev pub bar_goes_on : BreakPoint → List ℕ → Bool
bar_goes_on break_point [] = false
bar_goes_on break_point (b ∷ bytes) = b == 93 && goes_on (next_break_point break_point b) bytes

-- An opening bracket is not followed by a blank.
abbrev pub has_no_blank : List ℕ → Bool
has_no_blank [] = true
has_no_blank (b ∷ bytes) = not (b == 32)

-- These bytes may follow a byte with this role.
abbrev pub follows : ByteRole → ℕ → BreakPoint → List ℕ → Bool
follows marks.Closes b break_point bytes =
    if b == 124 then bar_goes_on break_point bytes else goes_on break_point bytes
follows marks.Opens b break_point bytes = has_no_blank bytes
follows mark b break_point bytes = true

abbrev pub is_regular : BreakPoint → List ℕ → Bool
is_regular break_point [] = true
is_regular break_point (b ∷ bytes) =
    follows (mark_of break_point b) b (next_break_point break_point b) bytes
    && is_regular (next_break_point break_point b) bytes

abbrev pub PrettyIsNarrow : Type 0
PrettyIsNarrow =
    (plain : List ℕ) → AllByRecursion (λ b. b ≢ 10) plain
    → is_regular break_points.Outside plain ≡ true
    → AreNarrow 0 nothing (pretty plain)
