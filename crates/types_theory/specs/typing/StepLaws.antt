-- The number of steps of a check that visits each object at most once per class.
use Rattle.std.specs.Prelude.{ℕ, ◌+◌, ◌<◌, ◌≤◌, ◌≡◌, List, length, map, Some, Option, slice_get}
use Rattle.std.specs.Prelude.{sum_by, Contains}
use Rattle.base_data.specs.declared.model.value.Val.TheVariants as vals
use Rattle.base_data.specs.declared.model.value.Obj.{Obj}
use Rattle.types_spec.specs.types.StepBounds.{most_steps}
use Rattle.types_spec.specs.types.Table.{Table, table_shapes}

-- No element of the list occurs at two positions.
abbrev pub AreApart : {X : Type 0} → List X → Type 0
AreApart {X} xs = (j k : ℕ) (x : X) → slice_get xs j ≡ Some x → slice_get xs k ≡ Some x → j ≡ k

-- The object of an entry, with the class of the entry's type.
abbrev pub key_of : Table → ℕ × ℕ → ℕ × Option ℕ
key_of table entry = (entry.0, slice_get table.classes entry.1)

-- Entries are pairs of the number of an object and the number of a type. All objects and types of
-- the entries exist, and no object occurs twice at the same class.
pub record AreEntries (table : Table) (graph : List Obj) (entries : List (ℕ × ℕ)) : Type 0 where
  pub objects : (o i : ℕ) → Contains entries (o, i) → o < length graph
  pub types : (o i : ℕ) → Contains entries (o, i) → i < length table.classes
  pub apart : AreApart (map (key_of table) entries)

-- The number of steps: one for the root, one for each entry, and one for each required field of
-- each entry.
abbrev pub steps_of : Table → List Obj → List (ℕ × ℕ) → ℕ
steps_of table graph entries =
    1
    + sum_by
    (λ (entry : ℕ × ℕ). 1
    + length ((table_shapes table).needs graph (vals.Ref entry.0) entry.1))
    entries

-- The number of steps is at most one, plus one for each object and each field per class.
abbrev pub StepsAreFew : Type 0
StepsAreFew =
    (table : Table) (graph : List Obj) (entries : List (ℕ × ℕ)) → AreEntries table graph entries
    → steps_of table graph entries ≤ most_steps table graph
