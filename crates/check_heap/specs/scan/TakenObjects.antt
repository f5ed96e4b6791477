-- The objects that a scan checked before the scan ended, and the fields that the scan tested.
use Rattle.std.specs.Prelude.{ℕ, suc, ◌-◌, ◌==◌, nat_lt, if◌then◌else◌, ◌&&◌, Bool, false, List}
use Rattle.std.specs.Prelude.{length, take}
use Rattle.base_data.specs.declared.model.value.Obj.{Obj}
use Rattle.marshal_heap.specs.heap.Heap.{object_at, fields_of}
use Rattle.check_heap.specs.declared.scan.taken_objects.TakenObjects.{TakenObjects}
use Rattle.check_heap.specs.declared.scan.taken_objects.ScanMismatch.{ScanMismatch}
use Rattle.check_heap.specs.declared.scan.taken_objects.ScanMismatch.TheVariants as unfits

abbrev pub types_in : TakenObjects → List ℕ
types_in taken = take taken.objects taken.types

-- A number above every field index.
abbrev pub all_fields : ℕ
all_fields = 18446744073709551615

-- The field index below which the required fields of a checked object were tested.
abbrev pub seen_of : TakenObjects → ℕ → ℕ
seen_of taken o = if nat_lt (suc o) taken.objects then all_fields else taken.seen

abbrev pub is_unfit_field : ScanMismatch → ℕ → ℕ → Bool
is_unfit_field (unfits.Field o i) object field = (o == object) && (i == field)
is_unfit_field unfit object field = false

abbrev pub is_unfit_object : ScanMismatch → ℕ → Bool
is_unfit_object (unfits.Object o) object = o == object
is_unfit_object unfit object = false

-- The number of fields of an object.
abbrev pub size_of : List Obj → ℕ → ℕ
size_of graph o = length (fields_of (object_at graph o))

-- The number of untested fields among `size` fields.
abbrev pub rest_of : ℕ → ℕ → ℕ
rest_of size seen = if seen == all_fields then 0 else size - seen
