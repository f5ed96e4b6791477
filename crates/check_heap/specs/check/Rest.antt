-- The visits of the rest of a trail.
use Rattle.std.specs.Prelude.{◌<◌, ◌^◌, List, ◌++◌, map}
use Rattle.check_heap.specs.declared.check.visits.Visit.{Visit}
use Rattle.check_heap.specs.declared.check.rest.Short.{Short}

abbrev pub widened : Short → Visit
widened s = record { object = s.object; ty = s.ty; parent = s.parent; step = s.step }

abbrev pub visits_in : List Short → List Visit → List Visit
visits_in shorts longs = map widened shorts ++ longs

abbrev pub IsShort : Visit → Type 0
IsShort v = (v.object < 2 ^ 32) × ((v.ty < 2 ^ 32) × ((v.parent < 2 ^ 32) × (v.step < 2 ^ 32)))
