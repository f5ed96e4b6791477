-- The fields of objects, and their words.
use Rattle.std.proofs.Common.{ℕ, ◌<◌, ◌≡◌, ◌∙◌, List, length, Some, refl, sym, ap, subst, arith}
use Rattle.std.specs.Prelude.{slice_get, slice_index, map, pos, option_and_then}
use Rattle.std.proofs.lemmas.List.{length-map}
use Rattle.std.proofs.lemmas.List.Elements.{All-contains}
use Rattle.std.proofs.lemmas.Option.{get_or_from_slice_get, slice_get-get_or}
use Rattle.base_data.proofs.model.Options.{slice_get_there, slice_get-Contains}
use Rattle.base_data.specs.model.Graph.{IsValue, IsObject, IsGraph}
use Rattle.base_data.specs.declared.model.value.Val.TheVariants as vals
use Rattle.base_data.specs.declared.model.value.Obj.{Obj}
use Rattle.base_data.specs.declared.model.value.Obj.TheVariants as objects
use Rattle.types_spec.specs.types.Fault.{field_of}
use Rattle.types_spec.specs.types.Typing.{values_of}
use Rattle.marshal_heap.specs.heap.Heap.{object_at, fields_of, field_at, word_of}
use Rattle.marshal_heap.proofs.heap.HeapReadLemmas.{field_word-at}
use Rattle.marshal_heap.proofs.heap.HeapFieldLemmas.{values_there}

-- The two definitions of an object's fields agree.
pub fields_are_values : (object : Obj) → values_of object ≡ fields_of object
fields_are_values (objects.Block tag values) = refl
fields_are_values (objects.Bytes bytes) = refl
fields_are_values (objects.Double bits) = refl
fields_are_values (objects.Doubles all) = refl
fields_are_values (objects.I32 z) = refl
fields_are_values (objects.I64 z) = refl
fields_are_values (objects.Native z) = refl

module _ (graph : List Obj) (o i : ℕ) (inside : o < length graph) (short : i < length (fields_of (object_at graph o))) where
  own_field : slice_get (fields_of (object_at graph o)) i ≡ Some (field_at graph o i)
  own_field = slice_get-get_or (fields_of (object_at graph o)) i (vals.Int (pos 0)) short

  pub field_there : field_of graph (vals.Ref o) i ≡ Some (field_at graph o i)
  field_there =
      let there = slice_get_there graph o inside in
      let is : object_at graph o ≡ there.0 = get_or_from_slice_get graph o there.0 (objects.I32 (pos 0)) there.1 in
      ap (λ object. option_and_then (λ (found : Obj). slice_get (values_of found) i) object) there.1
      ∙ ap (λ values. slice_get values i) (fields_are_values there.0)
      ∙ ap (λ object. slice_get (fields_of object) i) (sym is) ∙ own_field

  pub field_valid : IsGraph graph → IsValue (length graph) (field_at graph o i)
  field_valid graph' =
      let there = slice_get_there graph o inside in
      let is : object_at graph o ≡ there.0 = get_or_from_slice_get graph o there.0 (objects.I32 (pos 0)) there.1 in
      let valid = All-contains (IsObject (length graph)) graph there.0 graph' (slice_get-Contains graph o there.0 there.1) in
      values_there (length graph) (object_at graph o) i (field_at graph o i) (subst (IsObject (length graph)) (sym is) valid) own_field

  pub field_word : (words : List ℕ) (word : ℕ) → words ≡ map (word_of graph) (fields_of (object_at graph o)) → word ≡ slice_index words i → word ≡ word_of graph (field_at graph o i)
  field_word words word are is =
      is ∙ ap (λ ws. slice_index ws i) are ∙ field_word-at graph (fields_of (object_at graph o)) i (vals.Int (pos 0)) short

pub word_inside : (graph : List Obj) (o i : ℕ) (words : List ℕ) → words ≡ map (word_of graph) (fields_of (object_at graph o)) → i < length (fields_of (object_at graph o)) → i < length words
word_inside graph o i words are short = omega (arith, short, ap length are, length-map (fields_of (object_at graph o)) (word_of graph))
