-- Laws on pretty-printed texts.
use Rattle.std.specs.Prelude.{ℕ, ◌*◌, ◌≤◌, ◌≡◌, ◌≢◌, Bool, true, false, ◌&&◌, ◌==◌, if◌then◌else◌}
use Rattle.std.specs.Prelude.{List, [], ◌∷◌, length}
use Rattle.std.specs.List.{AllByRecursion}
use Rattle.text_pretty.specs.PrettyLines.{pretty}

-- The text without line feeds and without the blanks after each line feed. `begun` is true if only
-- blanks follow the last line feed.
abbrev pub joined_from : Bool → List ℕ → List ℕ
joined_from begun [] = []
joined_from begun (b ∷ bytes) =
    if b == 10 then joined_from true bytes
    else (if begun && b == 32 then joined_from true bytes else b ∷ joined_from false bytes)

abbrev pub joined : List ℕ → List ℕ
joined text = joined_from false text

-- If the plain text has one line, then joining the lines of the pretty text gives the plain text.
abbrev pub PrettyIsPlain : Type 0
PrettyIsPlain =
    (plain : List ℕ) → AllByRecursion (λ b. b ≢ 10) plain → joined (pretty plain) ≡ plain

-- The pretty text is at most 42 times as long as the plain text.
abbrev pub PrettyIsShort : Type 0
PrettyIsShort = (plain : List ℕ) → length (pretty plain) ≤ 42 * length plain
