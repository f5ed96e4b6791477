-- Lemmas on the fields of objects, and on a field that is written.
use Rattle.std.proofs.Common.{ℕ, ◌<◌, ◌≡◌, ◌∙◌, List, [], ◌∷◌, ◌++◌, length, Some, get_or, set, ap, length-set}
use Rattle.std.specs.Prelude.{pos, slice_get}
use Rattle.std.proofs.lemmas.List.{get_or_append_left, set-append_left, get_or_at, set_at}
use Rattle.std.proofs.lemmas.List.Elements.{All-contains}
use Rattle.std.proofs.lemmas.Option.{none-some}
use Rattle.base_data.proofs.model.Options.{slice_get-Contains}
use Rattle.base_data.specs.model.Graph.{IsValue, IsObject}
use Rattle.base_data.specs.declared.model.value.Val.{Val}
use Rattle.base_data.specs.declared.model.value.Obj.{Obj}
use Rattle.base_data.specs.declared.model.value.Obj.TheVariants as objects
use Rattle.marshal_heap.specs.heap.Heap.{fields_of, with_field, set_field}

pub length-set_field :
    (all : List Obj) (b i : ℕ) (v : Val) → length (set_field all b i v) ≡ length all
length-set_field all b i v = length-set all b (with_field (get_or all b (objects.I32 (pos 0))) i v)

pub set_field-append :
    (xs ys : List Obj) (b i : ℕ) (v : Val) → b < length xs
    → set_field (xs ++ ys) b i v ≡ set_field xs b i v ++ ys
set_field-append xs ys b i v h =
    ap (λ o. set (xs ++ ys) b (with_field o i v))
    (get_or_append_left xs ys (objects.I32 (pos 0)) b h)
    ∙ set-append_left xs ys b (with_field (get_or xs b (objects.I32 (pos 0))) i v) h

pub set_field_at :
    (xs : List Obj) (tag : ℕ) (values : List Val) (b i : ℕ) (v : Val) → length xs ≡ b
    → set_field (xs ++ objects.Block tag values ∷ []) b i v
    ≡ xs ++ objects.Block tag (set values i v) ∷ []
set_field_at xs tag values b i v e =
    ap (λ o. set (xs ++ objects.Block tag values ∷ []) b (with_field o i v))
    (get_or_at xs (objects.Block tag values) [] (objects.I32 (pos 0)) b e)
    ∙ set_at xs (objects.Block tag values) [] (objects.Block tag (set values i v)) b e

-- Each field of a valid object is a valid value.
pub values_there :
    (n : ℕ) (object : Obj) (i : ℕ) (v : Val) → IsObject n object
    → slice_get (fields_of object) i ≡ Some v → IsValue n v
values_there n (objects.Block tag values) i v is at_i =
    All-contains (IsValue n) values v is.2 (slice_get-Contains values i v at_i)
values_there n (objects.Bytes bytes) i v is at_i = absurd (none-some v at_i)
values_there n (objects.Double bits) i v is at_i = absurd (none-some v at_i)
values_there n (objects.Doubles all) i v is at_i = absurd (none-some v at_i)
values_there n (objects.I32 z) i v is at_i = absurd (none-some v at_i)
values_there n (objects.I64 z) i v is at_i = absurd (none-some v at_i)
values_there n (objects.Native z) i v is at_i = absurd (none-some v at_i)
