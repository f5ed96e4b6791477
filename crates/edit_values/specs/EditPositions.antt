-- The location to which a path leads in a value: the root, or a field of an object.
use Rattle.std.specs.Prelude.{ℕ, suc, ◌<◌, ◌≡◌, Option, Some, None, option_map, Result, Ok, Err}
use Rattle.std.specs.Prelude.{List, [], ◌∷◌, length, ⊤}
use Rattle.base_data.specs.declared.model.value.Val.{Val}
use Rattle.base_data.specs.declared.model.value.Val.TheVariants as vals
use Rattle.base_data.specs.declared.model.value.Obj.{Obj}
use Rattle.types_spec.specs.types.Shapes.{Shapes}
use Rattle.types_spec.specs.types.Fault.{step}
use Rattle.types_spec.specs.types.Typing.{field_at}
use Rattle.marshal_heap.specs.heap.Heap.{object_at, fields_of}
use Rattle.edit_values.specs.declared.edit_refusal.EditSide.{EditSide}
use Rattle.edit_values.specs.declared.edit_refusal.EditRefusal.{EditRefusal}
use Rattle.edit_values.specs.declared.edit_refusal.EditRefusal.TheVariants as refusals
use Rattle.edit_values.specs.declared.spots.Location.{Location}
use Rattle.edit_values.specs.declared.spots.Location.TheVariants as spots
use Rattle.edit_values.specs.declared.spots.TypedLocation.{TypedLocation}

-- The location to which step `i` leads from a value. Only objects have fields.
abbrev pub spot_after : Val → ℕ → Location
spot_after (vals.Ref o) i = spots.Field o i
spot_after v i = spots.Root

-- The location after a step, if the type requires the field of the step.
abbrev pub next_position : {T : Type 0} → Shapes T → List Obj → TypedLocation T → ℕ
    → Option (TypedLocation T)
next_position shapes graph p i =
    option_map (λ next. record { spot = spot_after p.value i; value = next.0; ty = next.1 })
    (step shapes graph p.value p.ty i)

abbrev pub or_step : {A B : Type 0} → ℕ → (A → Result B ℕ) → Option A → Result B ℕ
or_step n go None = Err n
or_step n go (Some next) = go next

-- The location at the end of a path, or the index of the first step whose field is not required,
-- counted from `n`.
abbrev pub position_from : {T : Type 0} → Shapes T → List Obj → ℕ → TypedLocation T → List ℕ
    → Result (TypedLocation T) ℕ
position_from shapes graph n p [] = Ok p
position_from shapes graph n p (i ∷ path) =
    or_step n (λ next. position_from shapes graph (suc n) next path)
    (next_position shapes graph p i)

-- The location at the end of a path from the root.
abbrev pub position_at : {T : Type 0} → Shapes T → List Obj → Val → T → List ℕ
    → Result (TypedLocation T) ℕ
position_at shapes graph v t path =
    position_from shapes graph 0 (record { spot = spots.Root; value = v; ty = t }) path

-- ---- the results of the code for a location

-- A path result as a refusal: if a step's field is not required, the step is reported with the side
-- of its path.
abbrev pub on_side : {T : Type 0} → EditSide → Result (TypedLocation T) ℕ
    → Result (TypedLocation T) EditRefusal
on_side side (Ok p) = Ok p
on_side side (Err step) = Err (refusals.NoField side step)

-- The location is the root, or its field exists.
abbrev pub IsThere : List Obj → Location → Type 0
IsThere graph spots.Root = ⊤
IsThere graph (spots.Field o i) = i < length (fields_of (object_at graph o))

-- The value is at the location.
abbrev pub StandsAt : List Obj → Val → Location → Val → Type 0
StandsAt graph root spots.Root v = v ≡ root
StandsAt graph root (spots.Field o i) v = field_at graph o i ≡ Some v
