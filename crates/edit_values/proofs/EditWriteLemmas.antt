-- Writing a value at a location, and writing the earlier value back.
use Rattle.std.proofs.Common.{ℕ, ◌<◌, ◌≡◌, ◌∙◌, List, ◌++◌, length, set, take, drop, take-append-drop, Some, refl, ap, sym, subst, length-set}
use Rattle.std.specs.Prelude.{slice_get, option_and_then, pos}
use Rattle.std.proofs.lemmas.List.{get_or-set_same, set-set, set-get_or}
use Rattle.std.proofs.lemmas.Option.{option_and_then_some, slice_get_within, get_or_from_slice_get}
use Rattle.base_data.specs.declared.model.value.Val.{Val}
use Rattle.base_data.specs.declared.model.value.Obj.{Obj}
use Rattle.base_data.specs.declared.model.value.Obj.TheVariants as objects
use Rattle.base_data.specs.model.Graph.{IsValue}
use Rattle.base_data.proofs.model.Lists.{slice_get-append_left}
use Rattle.types_spec.specs.types.Typing.{values_of, field_at}
use Rattle.marshal_heap.specs.heap.Heap.{object_at, fields_of, with_field, set_field}
use Rattle.edit_values.specs.declared.spots.Location.{Location}
use Rattle.edit_values.specs.declared.spots.Location.TheVariants as spots
use Rattle.edit_values.specs.EditPositions.{StandsAt, IsThere}
use Rattle.edit_values.specs.EditedValues.{write_at}

abbrev none_there : Obj
none_there = objects.I32 (pos 0)

parts_same : (object : Obj) → values_of object ≡ fields_of object
parts_same (objects.Block tag values) = refl
parts_same object = refl

with_back : (object : Obj) (i : ℕ) (v w : Val) → slice_get (values_of object) i ≡ Some w
    → with_field (with_field object i v) i w ≡ object
with_back (objects.Block tag values) i v w at =
    ap (objects.Block tag)
    (set-set values i v w ∙ ap (set values i) (sym (get_or_from_slice_get values i w w at)) ∙ set-get_or values i w)
with_back object i v w at = refl

-- If an object has a field, then the object is in the graph and the field is one of the object's
-- values.
held_in : (graph : List Obj) (o i : ℕ) (w : Val) → field_at graph o i ≡ Some w
    → (object : Obj) × (slice_get graph o ≡ Some object) × (slice_get (values_of object) i ≡ Some w)
held_in graph o i w at =
    option_and_then_some (λ object. slice_get (values_of object) i) (slice_get graph o) w at
    (λ object is field. (object, is, field))

is_object : (graph : List Obj) (o : ℕ) (object : Obj) → slice_get graph o ≡ Some object → object_at graph o ≡ object
is_object graph o object is = get_or_from_slice_get graph o object none_there is

pub set_back : (graph : List Obj) (o i : ℕ) (v w : Val) → field_at graph o i ≡ Some w
    → set_field (set_field graph o i v) o i w ≡ graph
set_back graph o i v w at =
    let held = held_in graph o i w at in
    let new : Obj = with_field (object_at graph o) i v in
    let inside = slice_get_within graph o held.0 held.1 in
    let field : slice_get (values_of (object_at graph o)) i ≡ Some w =
    ap (λ object. slice_get (values_of object) i) (is_object graph o held.0 held.1) ∙ held.2 in
    ap (λ object. set (set graph o new) o (with_field object i w)) (get_or-set_same graph o new none_there inside)
    ∙ set-set graph o new (with_field new i w)
    ∙ ap (set graph o) (with_back (object_at graph o) i v w field)
    ∙ set-get_or graph o none_there

pub field_there : (graph : List Obj) (o i : ℕ) (w : Val) → field_at graph o i ≡ Some w → i < length (fields_of (object_at graph o))
field_there graph o i w at =
    let held = held_in graph o i w at in
    let all = ap fields_of (is_object graph o held.0 held.1) in
    let inside = slice_get_within (values_of held.0) i w held.2 in
    subst (λ all. i < length all) (parts_same held.0 ∙ sym all) inside

fields_as_many : (object : Obj) (i : ℕ) (v : Val) → length (fields_of (with_field object i v)) ≡ length (fields_of object)
fields_as_many (objects.Block tag values) i v = length-set values i v
fields_as_many object i v = refl

-- The location exists after a value was written at it.
pub there_after : (spot : Location) (v w : Val) (graph : List Obj) (root : Val) (one : List Obj) (one_root : Val)
    → StandsAt graph root spot w → ◌≡◌ {A = List Obj × Val} (one, one_root) (write_at spot v graph root) → IsThere one spot
there_after spots.Root v w graph root one one_root at is = tt
there_after (spots.Field o i) v w graph root one one_root at is =
    let held = held_in graph o i w at in
    let new : Obj = with_field (object_at graph o) i v in
    let inside = slice_get_within graph o held.0 held.1 in
    subst (λ (m : List Obj × Val). i < length (fields_of (object_at m.0 o))) (sym is)
    (subst (λ object. i < length (fields_of object)) (sym (get_or-set_same graph o new none_there inside))
    (subst (λ n. i < n) (sym (fields_as_many (object_at graph o) i v)) (field_there graph o i w at)))

-- Writing the earlier value restores the graph.
pub write_back : (spot : Location) (v w : Val) (graph : List Obj) (root : Val) → StandsAt graph root spot w
    → write_at spot w (write_at spot v graph root).0 (write_at spot v graph root).1 ≡ (graph, root)
write_back spots.Root v w graph root at = ap (λ r. (graph, r)) at
write_back (spots.Field o i) v w graph root at = ap (λ g. (g, root)) (set_back graph o i v w at)

-- If a value is written at a location, and then the earlier value is written there, then the graph
-- and the root are as before.
pub restored : (spot : Location) (v w : Val) (graph : List Obj) (root : Val) (one : List Obj) (one_root : Val) (two : List Obj) (two_root : Val)
    → StandsAt graph root spot w → ◌≡◌ {A = List Obj × Val} (one, one_root) (write_at spot v graph root)
    → ◌≡◌ {A = List Obj × Val} (two, two_root) (write_at spot w one one_root) → ◌≡◌ {A = List Obj × Val} (two, two_root) (graph, root)
restored spot v w graph root one one_root two two_root stands first second =
    second ∙ ap (λ (m : List Obj × Val). write_at spot w m.0 m.1) first ∙ write_back spot v w graph root stands

pub as_many : (spot : Location) (v : Val) (graph : List Obj) (root : Val) → length (write_at spot v graph root).0 ≡ length graph
as_many spots.Root v graph root = refl
as_many (spots.Field o i) v graph root = length-set graph o (with_field (object_at graph o) i v)

-- After a valid value is written, the root is a valid value.
pub root_valid : (spot : Location) (v : Val) (graph : List Obj) (root : Val) → IsValue (length graph) v → IsValue (length graph) root
    → IsValue (length (write_at spot v graph root).0) (write_at spot v graph root).1
root_valid spots.Root v graph root new old = new
root_valid (spots.Field o i) v graph root new old = subst (λ n. IsValue n root) (sym (as_many (spots.Field o i) v graph root)) old

-- ---- graphs with further objects

pub stands_behind : (graph more : List Obj) (root : Val) (spot : Location) (w : Val) → StandsAt graph root spot w → StandsAt (graph ++ more) root spot w
stands_behind graph more root spots.Root w at = at
stands_behind graph more root (spots.Field o i) w at =
    let held = held_in graph o i w at in
    ap (option_and_then (λ object. slice_get (values_of object) i)) (slice_get-append_left graph more o held.0 held.1) ∙ held.2

pub stands_whole : (n : ℕ) (graph : List Obj) (root : Val) (spot : Location) (w : Val) → StandsAt (take n graph) root spot w → StandsAt graph root spot w
stands_whole n graph root spot w at =
    subst (λ g. StandsAt g root spot w) (take-append-drop n graph) (stands_behind (take n graph) (drop n graph) root spot w at)
