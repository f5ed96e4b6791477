-- Lines of objects, one more at a time.
use Rattle.std.proofs.Common.{ℕ, zero, suc, ◌≡◌, ◌+◌, ◌<◌, ◌∙◌, List, [], ◌∷◌, ◌++◌, length, take, sym, ap, arith, append_assoc, append-nil}
use Rattle.base_data.specs.declared.model.value.Obj.{Obj}
use Rattle.marshal_heap.specs.heap.Heap.{object_at}
use Rattle.text_print.specs.leaves.DumpedObjects.{object_line}
use Rattle.text_print.specs.show.DumpedGraph.{lines_from}

lines_after : (k i n : ℕ) (g : List Obj) → n ≡ k + i → i < length g → lines_from k (take (suc i) g) ≡ lines_from k (take i g) ++ object_line n (object_at g i)
lines_after k i n [] is less = absurd (omega arith)
lines_after k zero n (object ∷ g) is less = let e : n ≡ k = omega arith in rw e (append-nil (object_line k object))
lines_after k (suc i) n (object ∷ g) is less =
    ap (λ rest. object_line k object ++ rest) (lines_after (suc k) i n g (omega arith) (omega arith))
    ∙ sym (append_assoc (object_line k object) (lines_from (suc k) (take i g)) (object_line n (object_at g i)))

pub lines_more : (i : ℕ) (g : List Obj) → i < length g → lines_from 0 (take (i + 1) g) ≡ lines_from 0 (take i g) ++ object_line i (object_at g i)
lines_more i g less = let e : i + 1 ≡ suc i = omega arith in rw e (lines_after 0 i i g (omega arith) less)

pub line_written : (before root lines line later old new : List ℕ) → new ≡ old ++ line → old ≡ before ++ (root ++ lines) → later ≡ lines ++ line → new ≡ before ++ (root ++ later)
line_written before root lines line later old new write were is =
    write ∙ ap (λ x. x ++ line) were ∙ append_assoc before (root ++ lines) line ∙ ap (λ x. before ++ x) (append_assoc root lines line)
    ∙ ap (λ x. before ++ (root ++ x)) (sym is)
