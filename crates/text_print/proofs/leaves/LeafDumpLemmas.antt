-- The text of an object by its kind.
use Rattle.std.proofs.Common.{ℕ, ◌≡◌, ◌++◌, sym, ap, subst}
use Rattle.std.specs.Prelude.{codes}
use Rattle.std.proofs.lemmas.List.{append-nil}
use Rattle.base_data.specs.declared.model.code.Custom.TheVariants as customs
use Rattle.base_data.specs.declared.model.value.Obj.{Obj}
use Rattle.base_data.specs.declared.model.value.Obj.TheVariants as objects
use Rattle.marshal_heap.specs.declared.heap.kind.Kind.{Kind}
use Rattle.marshal_heap.specs.declared.heap.kind.Kind.TheVariants as kinds
use Rattle.marshal_heap.specs.heap.Heap.{IsOfKind}
use Rattle.text_print.specs.leaves.DumpedObjects.{spaced_float, object_text, text_of_kind}

one_double : (bits : ℕ) → text_of_kind kinds.Double (objects.Double bits) ≡ object_text (objects.Double bits)
one_double bits = ap (λ rest. codes " float" ++ rest) (append-nil (spaced_float bits))

pub text_by_kind : (kind : Kind) (object : Obj) → IsOfKind kind object → text_of_kind kind object ≡ object_text object
text_by_kind (kinds.Block tag size) object is = sym (ap object_text is.0)
text_by_kind (kinds.Bytes len) object is = sym (ap object_text is.0)
text_by_kind kinds.Double object is = subst (λ x. text_of_kind kinds.Double x ≡ object_text x) (sym is) (one_double _)
text_by_kind (kinds.Doubles len) object is = sym (ap object_text is.0)
text_by_kind (kinds.Custom (customs.I32 z)) object is = sym (ap object_text is)
text_by_kind (kinds.Custom (customs.I64 z)) object is = sym (ap object_text is)
text_by_kind (kinds.Custom (customs.Native z)) object is = sym (ap object_text is)
