-- Lists of all values of a graph, and of all pairs of a value and a type.
use Rattle.std.proofs.Common.{ℕ, ◌≡◌, List, ◌∷◌, Some}
use Rattle.std.specs.Prelude.{slice_get, map, flat_map, Contains}
use Rattle.std.proofs.lemmas.Option.{option_and_then_some}
use Rattle.base_data.proofs.model.Options.{Contains-later, slice_get-Contains, Contains-map, Contains-flat_map}
use Rattle.base_data.specs.declared.model.value.Val.{Val}
use Rattle.base_data.specs.declared.model.value.Obj.{Obj}
use Rattle.types_spec.specs.types.Typing.{values_of, field_at}

-- All values of a graph: the root and all fields of blocks.
abbrev pub all_values : List Obj → Val → List Val
all_values graph root = root ∷ flat_map values_of graph

pub field_is_value : (graph : List Obj) (root : Val) (o i : ℕ) (w : Val) → field_at graph o i ≡ Some w → Contains (all_values graph root) w
field_is_value graph root o i w field =
    option_and_then_some (λ object. slice_get (values_of object) i) (slice_get graph o) w field (λ object at_o at_i.
    Contains-later root (flat_map values_of graph) w
    (Contains-flat_map values_of graph object w (slice_get-Contains graph o object at_o) (slice_get-Contains (values_of object) i w at_i)))

-- All pairs of one of the values and one of the types.
abbrev pub slots_of : {T : Type 0} → List Val → List T → List (Val × T)
slots_of values types = flat_map (λ v. map (λ t. (v, t)) types) values

pub slot_is_there : {T : Type 0} (values : List Val) (types : List T) (v : Val) (t : T) → Contains values v → Contains types t → Contains (slots_of values types) (v, t)
slot_is_there {T} values types v t value type =
    let pair = λ (w : Val) (u : T). let p : Val × T = (w, u) in p in
    Contains-flat_map (λ w. map (pair w) types) values v (v, t) value (Contains-map (pair v) types t type)
