-- The lines of a script, indexed by the numbers of the edited values.
use Rattle.std.specs.Prelude.{ℕ, suc, ◌≡◌, ◌==◌, ◌<◌, List, [], ◌∷◌, length, filter, slice_get, All}
use Rattle.std.specs.List.{filter_map}
use Rattle.std.specs.List.Sorted.{IsNonDecreasingBy}
use Rattle.text_path.specs.declared.edits.ScriptLine.{ScriptLine}

-- The edits of a script's text, in the order of the lines.
pub record ScriptLines : Type 0 where
  pub lines : List ScriptLine

-- The lines that edit value `k`.
abbrev pub lines_of : ℕ → List ScriptLine → List ScriptLine
lines_of k lines = filter (λ line. line.value == k) lines

-- For each line, the number of the edited value and the line's index, where the first line has the
-- index `n`.
abbrev pub positions_from : ℕ → List ScriptLine → List (ℕ × ℕ)
positions_from n [] = []
positions_from n (line ∷ lines) = (line.value, n) ∷ positions_from (suc n) lines

-- The entries of the lines that edit value `k`.
abbrev pub positions_of : ℕ → List (ℕ × ℕ) → List (ℕ × ℕ)
positions_of k positions = filter (λ position. position.0 == k) positions

-- The numbers of the values in the entries do not decrease.
abbrev pub IsByValue : List (ℕ × ℕ) → Type 0
IsByValue order = IsNonDecreasingBy (λ position. position.0) order

-- The entries of the lines, sorted by value. Entries of one value are in the order of the lines.
pub record IsOrder (lines : List ScriptLine) (order : List (ℕ × ℕ)) : Type 0 where
  pub by_value : IsByValue order
  pub stable : (k : ℕ) → positions_of k order ≡ positions_of k (positions_from 0 lines)

-- Each index in the entries is the index of a line.
abbrev pub AreWithin : List ScriptLine → List (ℕ × ℕ) → Type 0
AreWithin lines positions = All (λ position. position.1 < length lines) positions

-- The lines at the indices of the entries.
abbrev pub lines_at : List ScriptLine → List (ℕ × ℕ) → List ScriptLine
lines_at lines positions = filter_map (λ position. slice_get lines position.1) positions
