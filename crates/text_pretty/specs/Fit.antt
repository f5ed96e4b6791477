-- The number of bytes to the end of a bracket, and whether they fit the line.
use Rattle.std.specs.Prelude.{ℕ, suc, ◌+◌, ◌-◌, ◌==◌, nat_le, if◌then◌else◌, List, [], ◌∷◌, Option}
use Rattle.std.specs.Prelude.{Some, None, option_map}
use Rattle.text_pretty.specs.declared.break_point.BreakPoint.{BreakPoint}
use Rattle.text_pretty.specs.declared.break_point.ByteRole.{ByteRole}
use Rattle.text_pretty.specs.declared.break_point.ByteRole.TheVariants as marks
use Rattle.text_pretty.specs.BreakPoints.{mark_of, next_break_point}

-- The closing bracket `|]` has two bytes.
abbrev pub closing_length : ℕ → ℕ
closing_length b = if b == 124 then 2 else 1

-- The number of open inner brackets after a byte, given the number before it, or `None` if the byte
-- closes the outer bracket.
abbrev pub depth_after : ByteRole → ℕ → Option ℕ
depth_after marks.Opens depth = Some (depth + 1)
depth_after marks.OpensList depth = Some (depth + 1)
depth_after marks.Closes depth = if depth == 0 then None else Some (depth - 1)
depth_after mark depth = Some depth

-- The number of bytes up to the end of the bracket: `n` if the byte closes the bracket, and
-- otherwise one more than the number after the byte.
abbrev pub counted : ℕ → Option ℕ → (ℕ → Option ℕ) → Option ℕ
counted n None more = Some n
counted n (Some depth) more = option_map suc (more depth)

-- The number of bytes to the end of the innermost bracket, with its closing bracket, if the bytes
-- close the bracket. `depth` inner brackets are open.
abbrev pub to_close : BreakPoint → ℕ → List ℕ → Option ℕ
to_close break_point depth [] = None
to_close break_point depth (b ∷ bytes) =
    counted (closing_length b) (depth_after (mark_of break_point b) depth)
    (λ deeper. to_close (next_break_point break_point b) deeper bytes)

abbrev pub at_most : ℕ → ℕ → ℕ
at_most left n = if nat_le n left then n else 0

-- The number of bytes, if that number is at most `left`, and otherwise 0.
abbrev pub within : ℕ → Option ℕ → ℕ
within left None = 0
within left (Some n) = at_most left n
