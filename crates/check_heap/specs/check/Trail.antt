-- The visits of a trail.
use Rattle.std.specs.Prelude.{◌<◌, ◌^◌, List, ◌++◌, map}
use Rattle.check_heap.specs.declared.check.visits.Visit.{Visit}
use Rattle.check_heap.specs.declared.check.trail.Tiny.{Tiny}

abbrev pub enlarged : Tiny → Visit
enlarged t = record { object = t.object; ty = t.ty; parent = t.parent; step = t.step }

abbrev pub trail_of : List Tiny → List Visit → List Visit
trail_of tinies rest = map enlarged tinies ++ rest

abbrev pub IsTiny : Visit → Type 0
IsTiny v = (v.object < 2 ^ 32) × ((v.ty < 2 ^ 16) × ((v.parent < 2 ^ 32) × (v.step < 2 ^ 16)))
