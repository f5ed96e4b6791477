-- Lemmas for callers on an object that is read and written between other objects, and on a list
-- that is filled from the beginning.
use Rattle.std.proofs.Common.{◌≡◌, ◌≢◌, ℕ, ◌+◌, ◌<◌, List, [], ◌∷◌, ◌++◌, length, set, replicate, refl, sym, ap, ◌∙◌, add-one, append_assoc}
use Rattle.std.proofs.lemmas.List.{get_or_at, get_or_append_left, get_or-set_same, get_or-set_other, set_at}
use Rattle.std.proofs.lemmas.List.Sums.{sum_by-append}
use Rattle.base_data.specs.declared.model.value.Val.{Val}
use Rattle.base_data.specs.declared.model.value.Obj.{Obj}
use Rattle.base_data.specs.declared.model.value.Obj.TheVariants as objects
use Rattle.marshal_heap.specs.heap.Heap.{object_at, with_field, with_byte, with_double, set_field, set_byte, set_double, fields_of, bytes_of, object_words, heap_words}

-- If an object stands between other objects, then its number is the number of objects before it.
module _ (before : List Obj) (object : Obj) (after : List Obj) (o : ℕ) (here : o ≡ length before) where
  pub object_at_here : object_at (before ++ object ∷ after) o ≡ object
  object_at_here = get_or_at before object after _ o (sym here)

  changed_here : (f : Obj → Obj) → set (before ++ object ∷ after) o (f (object_at (before ++ object ∷ after) o)) ≡ before ++ f object ∷ after
  changed_here f =
      ap (λ x. set (before ++ object ∷ after) o (f x)) object_at_here ∙ set_at before object after (f object) o (sym here)

  pub set_field_here : (i : ℕ) (v : Val) → set_field (before ++ object ∷ after) o i v ≡ before ++ with_field object i v ∷ after
  set_field_here i v = changed_here (λ x. with_field x i v)

  pub set_byte_here : (i b : ℕ) → set_byte (before ++ object ∷ after) o i b ≡ before ++ with_byte object i b ∷ after
  set_byte_here i b = changed_here (λ x. with_byte x i b)

  pub set_double_here : (i bits : ℕ) → set_double (before ++ object ∷ after) o i bits ≡ before ++ with_double object i bits ∷ after
  set_double_here i bits = changed_here (λ x. with_double x i bits)

pub object_at-append : (graph more : List Obj) (o : ℕ) → o < length graph → object_at (graph ++ more) o ≡ object_at graph o
object_at-append graph more o in_range = get_or_append_left graph more _ o in_range

-- If a field of object `o` is written, then `o` has the new field, and each other object is
-- unchanged.
module _ (graph : List Obj) (o i : ℕ) (v : Val) where
  pub object_at-set_field : o < length graph → object_at (set_field graph o i v) o ≡ with_field (object_at graph o) i v
  object_at-set_field in_range = get_or-set_same graph o _ _ in_range

  pub object_at-set_field_other : (p : ℕ) → p ≢ o → object_at (set_field graph o i v) p ≡ object_at graph p
  object_at-set_field_other p other = get_or-set_other graph o p _ _ other

pub fields_of-with_field : (object : Obj) (i : ℕ) (v : Val) → fields_of (with_field object i v) ≡ set (fields_of object) i v
fields_of-with_field (objects.Block tag values) i v = refl
fields_of-with_field object i v = refl

pub bytes_of-with_byte : (object : Obj) (i b : ℕ) → bytes_of (with_byte object i b) ≡ set (bytes_of object) i b
bytes_of-with_byte (objects.Bytes bytes) i b = refl
bytes_of-with_byte object i b = refl

pub heap_words-append : (graph more : List Obj) → heap_words (graph ++ more) ≡ heap_words graph + heap_words more
heap_words-append graph more = sum_by-append object_words graph more

-- If the first element that is not filled yet is set, then one more element is filled.
pub fill_next : {X : Type 0} (done : List X) (i k n : ℕ) (y v : X) → i ≡ length done → n ≡ k + 1 → set (done ++ replicate n y) i v ≡ (done ++ v ∷ []) ++ replicate k y
fill_next done i k n y v here more =
    rw (more, add-one) (set_at done y (replicate k y) v i (sym here) ∙ sym (append_assoc done (v ∷ []) (replicate k y)))

-- The rules for callers, for `grind (arith, common_steps, heap_steps)` or for `using` on a
-- function.
pub ruleset heap_steps = (fill_next, object_at_here, set_field_here, set_byte_here, set_double_here, object_at-append, object_at-set_field, object_at-set_field_other, fields_of-with_field, bytes_of-with_byte, heap_words-append)
