-- The kind of an object determines the description of the object.
use Rattle.std.proofs.Common.{ℕ, ◌<◌, ◌≡◌, ◌∙◌, List, length, Some, refl, ap}
use Rattle.std.specs.Prelude.{slice_get, pos}
use Rattle.std.proofs.lemmas.Option.{slice_get-get_or}
use Rattle.base_data.specs.declared.model.value.Obj.{Obj}
use Rattle.base_data.specs.declared.model.value.Obj.TheVariants as objects
use Rattle.types_spec.specs.types.VerdictText as texts
use Rattle.marshal_heap.specs.heap.Heap.{object_at, kind_of}
use Rattle.check_fault.specs.FaultText.{text_of_kind}

kind_reports : (object : Obj) → texts.object_text (Some object) ≡ text_of_kind (kind_of object)
kind_reports (objects.Block tag values) = refl
kind_reports (objects.Bytes bytes) = refl
kind_reports (objects.Double bits) = refl
kind_reports (objects.Doubles all) = refl
kind_reports (objects.I32 z) = refl
kind_reports (objects.I64 z) = refl
kind_reports (objects.Native z) = refl

pub object_text_by_kind : (graph : List Obj) (o : ℕ) → o < length graph → texts.object_text (slice_get graph o) ≡ text_of_kind (kind_of (object_at graph o))
object_text_by_kind graph o within =
    ap texts.object_text (slice_get-get_or graph o (objects.I32 (pos 0)) within) ∙ kind_reports (object_at graph o)
