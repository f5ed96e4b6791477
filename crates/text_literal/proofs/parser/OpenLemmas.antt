-- Open blocks stay open when a value is stored into one of the blocks and objects are appended.
use Rattle.std.proofs.Common.{arith, refl, sym, ap, ◌∙◌, get_or, ⊎_elim, get_or-set_other, get_or-set_same, take}
use Rattle.std.specs.Prelude.{ℕ, ◌+◌, ◌<◌, ◌≤◌, ◌≡◌, List, [], ◌∷◌, ◌++◌, length, pos}
use Rattle.std.proofs.lemmas.Bool.{cases_eq}
use Rattle.std.proofs.lemmas.List.{length-append, length-set, take-append-le, take-set-le, get_or_append_left}
use Rattle.base_data.specs.declared.model.value.Val.{Val}
use Rattle.base_data.specs.declared.model.value.Obj.{Obj}
use Rattle.base_data.specs.declared.model.value.Obj.TheVariants as objects
use Rattle.marshal_heap.specs.heap.Heap.{object_at, fields_of, with_field, set_field}
use Rattle.marshal_heap.proofs.heap.HeapFieldLemmas.{length-set_field}
use Rattle.types_parse.specs.grammar.Grammar.{Kinds}
use Rattle.text_literal.specs.literal_grammar.Literal.{Literal}
use Rattle.text_literal.specs.declared.parser.block_stack.Opened.{Opened}
use Rattle.text_literal.specs.parser.Underway.{PartList, IsAdvanced, IsOpen, AreOpen}

-- ---- the number of fields of an object does not change

with_as_many : (o : Obj) (i : ℕ) (v : Val) → length (fields_of (with_field o i v)) ≡ length (fields_of o)
with_as_many (objects.Block tag values) i v = length-set values i v
with_as_many (objects.Bytes bytes) i v = refl
with_as_many (objects.Double bits) i v = refl
with_as_many (objects.Doubles all) i v = refl
with_as_many (objects.I32 z) i v = refl
with_as_many (objects.I64 z) i v = refl
with_as_many (objects.Native z) i v = refl

set_as_many : (graph : List Obj) (b i : ℕ) (v : Val) (o : ℕ) → b < length graph → length (fields_of (object_at (set_field graph b i v) o)) ≡ length (fields_of (object_at graph o))
set_as_many graph b i v o inside = ⊎_elim
    (λ same.
    ap (λ n. length (fields_of (get_or (set_field graph b i v) n (objects.I32 (pos 0))))) same
    ∙ ap (λ object. length (fields_of object)) (get_or-set_same graph b (with_field (object_at graph b) i v) (objects.I32 (pos 0)) inside)
    ∙ with_as_many (object_at graph b) i v
    ∙ ap (λ n. length (fields_of (object_at graph n))) (sym same))
    (λ other. ap (λ object. length (fields_of object)) (get_or-set_other graph b o (with_field (object_at graph b) i v) (objects.I32 (pos 0)) other))
    (cases_eq o b)

-- If a value is stored and objects are appended, then each old object keeps its number of fields.
module _ (graph : List Obj) (b i : ℕ) (v : Val) (os : List Obj) (inside : b < length graph) where
  pub as_many : (o : ℕ) → o < length graph → length (fields_of (object_at (set_field graph b i v ++ os) o)) ≡ length (fields_of (object_at graph o))
  as_many o h =
      ap (λ object. length (fields_of object)) (get_or_append_left (set_field graph b i v) os (objects.I32 (pos 0)) o (omega (arith, h, length-set_field graph b i v)))
      ∙ set_as_many graph b i v o inside

  pub longer : length (set_field graph b i v ++ os) ≡ length graph + length os
  longer = omega (arith, length-append (set_field graph b i v) os, length-set_field graph b i v)

  pub kept_below : (old : List Obj) → length old ≤ b → take (length old) graph ≡ old → take (length old) (set_field graph b i v ++ os) ≡ old
  kept_below old below kept =
      take-append-le (length old) (set_field graph b i v) os (omega (arith, below, inside, length-set_field graph b i v))
      ∙ take-set-le (length old) graph b (with_field (object_at graph b) i v) below ∙ kept

  pub open_kept : (old : List Obj) (all : Kinds) (o : Opened) (parts : PartList) → IsOpen old graph all o parts → IsOpen old (set_field graph b i v ++ os) all o parts
  open_kept old all o parts h = record {
    behind = h.behind;
    inside = omega (arith, h.inside, longer);
    room = h.room ∙ sym (as_many o.block h.inside);
    within = h.within;
    left = h.left;
    few = h.few;
    some = h.some;
    encoded = h.encoded;
  }

  pub all_kept : (old : List Obj) (all : Kinds) (stack : List Opened) (parts : List PartList) → AreOpen old graph all stack parts → AreOpen old (set_field graph b i v ++ os) all stack parts
  all_kept old all [] [] h = tt
  all_kept old all (o ∷ stack) (parts ∷ rest) h = (open_kept old all o parts h.0, all_kept old all stack rest h.1)
  all_kept old all [] (parts ∷ rest) h = h
  all_kept old all (o ∷ stack) [] h = h

  -- If more parts of a block are still to be read, then the block stays open after its next part
  -- has begun.
  pub more_parts_kept :
      (old : List Obj) (all : Kinds) (o new : Opened) (p : ℕ × Literal) (parts : PartList) → IsOpen old graph all o (p ∷ parts) → IsAdvanced o new → 0 < length parts
      → IsOpen old (set_field graph b i v ++ os) all new parts
  more_parts_kept old all o new p parts h a some = record {
    behind = omega (arith, h.behind, a.block_is);
    inside = omega (arith, h.inside, longer, a.block_is);
    room = omega (arith, a.field_is, h.room) ∙ sym (as_many o.block h.inside) ∙ ap (λ n. length (fields_of (object_at (set_field graph b i v ++ os) n))) (sym a.block_is);
    within = omega (arith, h.within, a.field_is, a.part_is);
    left = omega (arith, h.left, a.left_is);
    few = omega (arith, h.few, a.field_is, a.left_is);
    some = some;
    encoded = h.encoded.1;
  }
