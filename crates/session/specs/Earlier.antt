-- Earlier values that are kept for script lines that copy parts of them.
use Rattle.std.specs.Prelude.{ℕ, ◌≡◌, ◌≤◌, ◌<◌, ◌∷◌, ◌++◌, List, [], None, Some, length, map, All}
use Rattle.std.specs.Prelude.{Any, IfSome, IsSome, nat_eq, nat_lt, if◌then◌else◌, slice_get}
use Rattle.std.specs.List.{AllPairs}
use Rattle.base_data.specs.model.Graph.{IsValue}
use Rattle.edit_values.specs.Grafts.{Other}
use Rattle.text_path.specs.Uses.{CopiesFrom, IsLastUse}
use Rattle.text_path.specs.declared.edits.Action.{Action}
use Rattle.text_path.specs.declared.edits.Action.TheVariants as actions
use Rattle.text_path.specs.declared.edits.ScriptLine.{ScriptLine}
use Rattle.marshal_read.specs.declared.returned_value.Value.{Value}
use Rattle.session.specs.declared.earlier.Earlier.{Earlier}

-- The kept value is the value with number `number`, edited by its lines.
pub record IsMade (others : List Other) (number : ℕ) (value : Value) : Type 0 where
  pub valid : IsValue (length value.heap) value.root
  pub same : slice_get others number ≡ Some (value.heap, value.root)

-- Each kept value is an input value that was edited by its lines.
abbrev pub AreMade : List Other → List Earlier → Type 0
AreMade others kept = All (λ e. IfSome e.value (λ value. IsMade others e.number value)) kept

-- The entries are in the order of their numbers, and the numbers are distinct.
abbrev pub AreInOrder : List Earlier → Type 0
AreInOrder kept = AllPairs (λ e later. e.number < later.number) kept

-- The value with number `number` is kept.
abbrev pub IsThere : List Earlier → ℕ → Type 0
IsThere kept number = Any (λ e. (e.number ≡ number) × IsSome e.value) kept

-- If the action copies from a value, then the source value is kept.
pub record IsServed (kept : List Earlier) (action : Action) : Type 0 where
  pub in_order : AreInOrder kept
  pub there : (number : ℕ) → CopiesFrom number action → IsThere kept number

-- Every line satisfies `IsServed`.
abbrev pub AreServed : List Earlier → List ScriptLine → Type 0
AreServed kept lines = All (λ line. IsServed kept line.action) lines

-- The entry of one of the first `n` values. The entry states the last value into which a line
-- copies from its value. After the last copy, the entry no longer keeps its value.
pub record IsEntry (lines : List ScriptLine) (n : ℕ) (e : Earlier) : Type 0 where
  pub before : e.number < n
  pub last : IsLastUse lines e.number e.last
  pub used : IsSome e.value → n ≤ e.last

-- Among the first `n` values, exactly the values from which a line of a later value copies are
-- kept.
pub record AreEarlier (lines : List ScriptLine) (n : ℕ) (kept : List Earlier) : Type 0 where
  pub in_order : AreInOrder kept
  pub entries : All (IsEntry lines n) kept
  pub needed : All
      (λ line. (number : ℕ) → CopiesFrom number line.action → number < n → n ≤ line.value
      → IsThere kept number)
      lines

-- No line copies from the value with this number into a value after `last`.
abbrev pub IsUsedUpTo : List ScriptLine → ℕ → ℕ → Type 0
IsUsedUpTo lines number last = All (λ line. CopiesFrom number line.action → line.value ≤ last) lines

-- If a kept value is not copied into a value after `number`, then one of the lines `lines` copies
-- from the kept value.
abbrev pub AreNamed : ℕ → List ScriptLine → List Earlier → Type 0
AreNamed number lines kept =
    All
    (λ e. IsSome e.value → e.last ≤ number → Any (λ line. CopiesFrom e.number line.action) lines)
    kept

-- ---- the entries after a value

abbrev pub without : Earlier → Earlier
without e = record { number = e.number; last = e.last; value = None }

-- If an entry's value is not copied into a value after `number`, the entry is freed.
abbrev pub after_value : ℕ → Earlier → Earlier
after_value number e = if nat_lt number e.last then e else without e

-- If an entry has the number `from` and its value is not copied into a value after `number`, the
-- entry is freed.
abbrev pub after_copy : ℕ → ℕ → Earlier → Earlier
after_copy from number e = if nat_eq e.number from then after_value number e else e

abbrev pub after_action : Action → ℕ → Earlier → Earlier
after_action (actions.Edit edit) number e = e
after_action (actions.Graft path from source) number e = after_copy from number e

abbrev pub all_after : ℕ → List Earlier → List Earlier
all_after number kept = map (after_value number) kept

-- The kept entries, extended by `made` if a part of the value of `made` is copied into a later
-- value.
abbrev pub with_made : List Earlier → Earlier → List Earlier
with_made kept made = if nat_lt made.number made.last then kept ++ made ∷ [] else kept
