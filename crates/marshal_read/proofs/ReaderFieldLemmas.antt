-- Setting the fields of a block one after another.
use Rattle.std.proofs.Common.{◌≡◌, ℕ, suc, ◌+◌, ◌<◌, List, [], ◌∷◌, ◌++◌, length, refl, ap, sym, ◌∙◌, arith, append_assoc, add-zero, eq-eqb, ne_eqb}
use Rattle.std.proofs.lemmas.List.{set_at, length_push}
use Rattle.base_data.specs.declared.model.value.Val.{Val}
use Rattle.base_data.specs.declared.model.value.Obj.{Obj}
use Rattle.base_data.specs.declared.model.value.Obj.TheVariants as objs
use Rattle.marshal_read.specs.Build.{still_open, advanced}
use Rattle.marshal_read.specs.declared.graph_builder.PendingBlock.{PendingBlock}
use Rattle.marshal_heap.specs.heap.Heap.{set_field}
use Rattle.marshal_heap.proofs.heap.HeapFieldLemmas.{length-set_field, set_field-append, set_field_at}

-- Sets the fields of block `b` from index `i` on, one after another.
abbrev pub set_fields : List Obj → ℕ → ℕ → List Val → List Obj
set_fields all b i [] = all
set_fields all b i (v ∷ values) = set_fields (set_field all b i v) b (i + 1) values

-- If a block is among the first objects, then setting several of its fields does not change the
-- objects after them.

pub set_fields-append : (xs ys : List Obj) (b i : ℕ) (values : List Val) → b < length xs → set_fields (xs ++ ys) b i values ≡ set_fields xs b i values ++ ys
set_fields-append xs ys b i [] h = refl
set_fields-append xs ys b i (v ∷ values) h =
    ap (λ all. set_fields all b (i + 1) values) (set_field-append xs ys b i v h)
    ∙ set_fields-append (set_field xs b i v) ys b (i + 1) values (rw length-set_field h)

-- If the fields of the last block from index `i` on are set, then the block has its first `i`
-- fields and the new values.
set_fields_from : (xs : List Obj) (tag : ℕ) (prefix rest : List Val) (b i : ℕ) (values : List Val) → length xs ≡ b → length prefix ≡ i → length rest ≡ length values
    → set_fields (xs ++ objs.Block tag (prefix ++ rest) ∷ []) b i values ≡ xs ++ objs.Block tag (prefix ++ values) ∷ []
set_fields_from xs tag prefix [] b i [] e d l = refl
set_fields_from xs tag prefix (r ∷ rest) b i [] e d l = absurd (omega arith)
set_fields_from xs tag prefix [] b i (v ∷ values) e d l = absurd (omega arith)
set_fields_from xs tag prefix (r ∷ rest) b i (v ∷ values) e d l =
    ap (λ all. set_fields all b (i + 1) values)
    (set_field_at xs tag (prefix ++ r ∷ rest) b i v e
    ∙ ap (λ vs. xs ++ objs.Block tag vs ∷ []) (set_at prefix r rest v i d ∙ sym (append_assoc prefix (v ∷ []) rest)))
    ∙ set_fields_from xs tag (prefix ++ v ∷ []) rest b (i + 1) values e (length_push prefix v ∙ ap (λ n. n + 1) d) (omega arith)
    ∙ ap (λ vs. xs ++ objs.Block tag vs ∷ []) (append_assoc prefix (v ∷ []) values)

-- If all fields of the last block are set, then the block has the new values.
pub set_fields_at : (xs : List Obj) (tag : ℕ) (old : List Val) (b : ℕ) (values : List Val) → length xs ≡ b → length old ≡ length values
    → set_fields (xs ++ objs.Block tag old ∷ []) b 0 values ≡ xs ++ objs.Block tag values ∷ []
set_fields_at xs tag old b values e l = set_fields_from xs tag [] old b 0 values e refl l

-- If a block is not full, then the block is open.

pub still_open_below : (b : PendingBlock) (outer : List PendingBlock) → b.next < b.size → still_open b outer ≡ b ∷ outer
still_open_below b outer h = rw (ne_eqb b.next b.size (omega arith))

pub still_open_full : (b : PendingBlock) (outer : List PendingBlock) → b.next ≡ b.size → still_open b outer ≡ outer
still_open_full b outer e = rw (eq-eqb b.next b.size e)

pub advanced-zero : (b : PendingBlock) → advanced b 0 ≡ b
advanced-zero b = ap (λ n. record b { next = n }) (add-zero b.next)

pub advanced-suc : (b : PendingBlock) (n : ℕ) → advanced (advanced b 1) n ≡ advanced b (suc n)
advanced-suc b n = ap (λ k. record b { next = k }) (omega arith)
