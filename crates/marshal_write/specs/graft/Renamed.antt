-- The objects of a value with the new numbers that the objects have in the value's copy.
use Rattle.std.specs.Prelude.{ℕ, ◌+◌, ◌-◌, ◌<◌, ◌≤◌, List, length, map, replicate, All, pos}
use Rattle.std.specs.Prelude.{slice_index, ⊤}
use Rattle.base_data.specs.declared.model.value.Val.{Val}
use Rattle.base_data.specs.declared.model.value.Val.TheVariants as vals
use Rattle.base_data.specs.declared.model.value.Obj.{Obj}
use Rattle.base_data.specs.declared.model.value.Obj.TheVariants as objects
use Rattle.marshal_heap.specs.heap.Heap.{object_at, fields_of}

-- The value, referring to the new number of its object. The object's mark, which is the object's
-- position counted from 1, determines the new number.
abbrev pub renamed_value : ℕ → List ℕ → Val → Val
renamed_value base marks (vals.Int z) = vals.Int z
renamed_value base marks (vals.Atom tag) = vals.Atom tag
renamed_value base marks (vals.Ref k) = vals.Ref (base + (slice_index marks k - 1))

-- The object with renumbered references in its fields.
abbrev pub renamed_object : ℕ → List ℕ → Obj → Obj
renamed_object base marks (objects.Block tag values) =
    objects.Block tag (map (renamed_value base marks) values)
renamed_object base marks object = object

-- The renumbered objects whose numbers in the graph are `ks`.
abbrev pub renamed : ℕ → List ℕ → List Obj → List ℕ → List Obj
renamed base marks graph ks = map (λ k. renamed_object base marks (object_at graph k)) ks

-- The object before its fields are filled: each field is the integer 0.
abbrev pub blank : Obj → Obj
blank (objects.Block tag values) =
    objects.Block tag (replicate (length values) (vals.Int (pos 0)))
blank object = object

abbrev pub blanks : List Obj → List ℕ → List Obj
blanks graph ks = map (λ k. blank (object_at graph k)) ks

-- If the value refers to an object, then the object has a mark, and the object's new number is
-- below `end`.
abbrev pub IsMet : List ℕ → ℕ → ℕ → Val → Type 0
IsMet marks base end (vals.Int z) = ⊤
IsMet marks base end (vals.Atom tag) = ⊤
IsMet marks base end (vals.Ref k) =
    (k < length marks) × (0 < slice_index marks k) × (base + slice_index marks k ≤ end)

-- Each object to which a field of object `k` refers has a mark and a new number below `end`.
abbrev pub IsMetObject : List Obj → List ℕ → ℕ → ℕ → ℕ → Type 0
IsMetObject graph marks base end k =
    (k < length graph) × All (IsMet marks base end) (fields_of (object_at graph k))
