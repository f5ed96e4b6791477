-- The rows of types, one after another.
use Rattle.std.proofs.Common.{ℕ, ◌≡◌, ◌∙◌, ⊎_elim, Bool, List, [], ◌∷◌, ◌++◌, length, Option, Some, None, sym, ap, subst}
use Rattle.std.specs.Prelude.{slice_get, option_map, is_some, IsTrue, IsSome, ◌↔◌}
use Rattle.types_spec.specs.declared.types.shape.ShapeOf.{ShapeOf}
use Rattle.types_spec.specs.types.Table.{node_or_none}
use Rattle.check_heap.specs.declared.fits.word_conditions.WordConditions.{WordConditions}
use Rattle.check_heap.specs.fits.ObjectRow.{IsRowOf}
use Rattle.check_heap.specs.scan.FittingRows.{AreRows}
use Rattle.check_heap.proofs.scan.ScanPositionLemmas.{slice_get-push_cases}

pub rows_more :
    (nodes : List (ShapeOf ℕ)) (rows : List WordConditions) (i : ℕ) (shape : ShapeOf ℕ) (row : WordConditions) → length rows ≡ i → AreRows nodes rows
    → slice_get nodes i ≡ Some shape → IsRowOf shape row → AreRows nodes (rows ++ row ∷ [])
rows_more nodes rows i shape row long are at_i of j other at_j = ⊎_elim
    (λ here. are j other here)
    (λ last. subst (IsRowOf (node_or_none (slice_get nodes j))) last.1
    (subst (λ node. IsRowOf (node_or_none node) row) (sym (ap (slice_get nodes) (last.0 ∙ long) ∙ at_i)) of))
    (slice_get-push_cases rows row j other at_j)

pub some_mapped : {A B : Type 0} (f : A → B) (o : Option A) (test : Bool) → test ≡ is_some o → IsTrue test ↔ IsSome (option_map f o)
some_mapped f None test is = (λ fits. sym is ∙ fits, λ some. is ∙ some)
some_mapped f (Some x) test is = (λ fits. sym is ∙ fits, λ some. is ∙ some)
