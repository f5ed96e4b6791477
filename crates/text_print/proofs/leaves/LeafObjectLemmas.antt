-- The text of an object, by its kind and its words.
use Rattle.std.proofs.Common.{◌≡◌, refl}
use Rattle.base_data.specs.declared.model.value.Obj.{Obj}
use Rattle.base_data.specs.declared.model.value.Obj.TheVariants as objects
use Rattle.marshal_heap.specs.declared.heap.kind.Kind.{Kind}
use Rattle.marshal_heap.specs.heap.Heap.{kind_of, IsOfKind}

pub of_kind : (kind : Kind) (object : Obj) → kind ≡ kind_of object → IsOfKind kind object
of_kind kind (objects.Block tag values) is = rw is (refl, refl)
of_kind kind (objects.Bytes bytes) is = rw is (refl, refl)
of_kind kind (objects.Double bits) is = rw is refl
of_kind kind (objects.Doubles all) is = rw is (refl, refl)
of_kind kind (objects.I32 z) is = rw is refl
of_kind kind (objects.I64 z) is = rw is refl
of_kind kind (objects.Native z) is = rw is refl
