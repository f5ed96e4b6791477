-- The marks of the objects that a walk has visited.
use Rattle.std.specs.Prelude.{ℕ, suc, List, map, if◌then◌else◌, nat_lt}
use Rattle.std.specs.List.{range_with_len}
use Rattle.marshal_write.specs.declared.write.marks.Marks.{Marks}

-- The mark of object `k`, if the first `met` objects are visited in order.
abbrev pub mark_in_order : ℕ → ℕ → ℕ
mark_in_order met k = if nat_lt k met then suc k else 0

-- The marks of `objects` objects, if the first `met` objects are visited in order.
abbrev pub in_order : ℕ → ℕ → List ℕ
in_order met objects = map (mark_in_order met) (range_with_len 0 objects)

abbrev pub marks_of : Marks → List ℕ
marks_of marks = if marks.ordered then in_order marks.met marks.objects else marks.table.items
