-- The types at which objects of a value are reachable.
use Rattle.std.specs.Prelude.{ℕ, ◌≡◌, ◌<◌, List, length, Some, slice_get, Contains, false, IsTrue}
use Rattle.base_data.specs.declared.model.value.Val.{Val}
use Rattle.base_data.specs.declared.model.value.Val.TheVariants as vals
use Rattle.base_data.specs.declared.model.value.Obj.{Obj}
use Rattle.types_spec.specs.types.Fault.{value_at}
use Rattle.types_spec.specs.types.Table.{Table, table_shapes, is_asked_in}
use Rattle.check_heap.specs.declared.scan.straight.Scanned.{Scanned}
use Rattle.check_heap.specs.declared.scan.straight.Scanned.TheVariants as answers
use Rattle.check_heap.specs.scan.Seconds.{noted_in}

-- Some path from the value at type 0 leads to the object at the type.
abbrev pub HasPath : Table → List Obj → Val → ℕ → ℕ → Type 0
HasPath table graph root o t =
    (path : List ℕ)
    × (value_at (table_shapes table) graph root 0 path ≡ Some (vals.Ref o, t))

-- The type is in the table and does not constrain its values.
abbrev pub IsWildcard : Table → ℕ → Type 0
IsWildcard table t = (t < length table.nodes) × (is_asked_in table t ≡ false)

-- If the type constrains its values, then some path from the first object leads to the object at
-- the type.
abbrev pub IsLed : Table → List Obj → ℕ → ℕ → Type 0
IsLed table graph o t = IsTrue (is_asked_in table t) → HasPath table graph (vals.Ref 0) o t

-- If an object has a type that constrains its values in the result, then some path from the first
-- object leads to the object at the type. For each noted pair, some path leads to the pair's object
-- at the pair's type.
abbrev pub HavePaths : Table → List Obj → Scanned → Type 0
HavePaths table graph (answers.Known types) =
    (o t : ℕ) → slice_get types o ≡ Some t → IsLed table graph o t
HavePaths table graph (answers.Noted noted) =
    ((o t : ℕ) → slice_get noted.taken.types o ≡ Some t → IsLed table graph o t)
    × ((o t : ℕ) → Contains (noted_in noted.seconds) (o, t)
    → HasPath table graph (vals.Ref 0) o t)
HavePaths table graph (answers.Stopped taken) = Unit {0}
