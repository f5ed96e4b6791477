-- The values from which the lines of a script copy, and the values into which the lines copy.
use Rattle.std.specs.Prelude.{ℕ, ◌≡◌, ◌≤◌, Option, Some, None, List, All, Any}
use Rattle.std.specs.List.{filter_map}
use Rattle.text_path.specs.LineOrder.{IsByValue, positions_of}
use Rattle.text_path.specs.declared.edits.Action.{Action}
use Rattle.text_path.specs.declared.edits.Action.TheVariants as actions
use Rattle.text_path.specs.declared.edits.ScriptLine.{ScriptLine}

-- The action copies a part of value `j`.
abbrev pub CopiesFrom : ℕ → Action → Type 0
CopiesFrom j (actions.Edit edit) = ⊥
CopiesFrom j (actions.Graft path other source) = other ≡ j

-- No line copies from value `j`.
abbrev pub IsUnused : List ScriptLine → ℕ → Type 0
IsUnused lines j = All (λ line. CopiesFrom j line.action → ⊥) lines

-- `k` is the greatest number of a value into which a line copies from value `j`.
abbrev pub IsLastUse : List ScriptLine → ℕ → ℕ → Type 0
IsLastUse lines j k =
    Any (λ line. CopiesFrom j line.action × (line.value ≡ k)) lines
    × All (λ line. CopiesFrom j line.action → line.value ≤ k) lines

-- The number of the source value and the number of the edited value, or `None` if the action does
-- not copy.
abbrev pub use_by : ℕ → Action → Option (ℕ × ℕ)
use_by value (actions.Edit edit) = None
use_by value (actions.Graft path other source) = Some (other, value)

abbrev pub use_of : ScriptLine → Option (ℕ × ℕ)
use_of line = use_by line.value line.action

-- The pairs of source value and edited value of all lines that copy.
abbrev pub uses_in : List ScriptLine → List (ℕ × ℕ)
uses_in lines = filter_map use_of lines

-- The pairs of source value and edited value of all lines that copy, sorted by the source value.
pub record AreUses (lines : List ScriptLine) (uses : List (ℕ × ℕ)) : Type 0 where
  pub by_other : IsByValue uses
  pub stable : (j : ℕ) → positions_of j uses ≡ positions_of j (uses_in lines)
