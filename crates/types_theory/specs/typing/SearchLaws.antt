-- The result of a search over objects at types: the first (least) fault among infinitely many
-- paths. Types are numbers in a table.
use Rattle.std.specs.Prelude.{ℕ, List}
use Rattle.base_data.specs.declared.model.value.Val.{Val}
use Rattle.base_data.specs.declared.model.value.Obj.{Obj}
use Rattle.types_spec.specs.declared.types.fault.Fault.TheVariants.{Mismatch, Conflict}
use Rattle.types_spec.specs.types.LawfulShapes.{AreLawful, Everything}
use Rattle.types_spec.specs.types.Fault.{IsBefore, IsMismatch}
use Rattle.types_spec.specs.types.LeastFault.{IsLeastFault}
use Rattle.types_spec.specs.types.Table.{Table, table_shapes}
use Rattle.types_spec.specs.types.SearchedPaths.{Entry, IsSearched, AreLeastConflicting}

-- If a search has covered all paths before a type mismatch, then the type mismatch is the least
-- fault.
abbrev pub FirstMismatchIsLeast : Type 0
FirstMismatchIsLeast =
    (table : Table) → AreLawful (table_shapes table) Everything
    → (graph : List Obj) (root : Val) (t : ℕ) (entries : List (Entry ℕ)) (path : List ℕ)
    → IsSearched (table_shapes table) graph root t entries (λ other. IsBefore other path)
    → IsMismatch (table_shapes table) graph root t path
    → IsLeastFault (table_shapes table) graph root t (Mismatch path)

-- If a search has covered all paths, then the least aliasing conflict among the search's entries is
-- the least fault.
abbrev pub LeastConflictIsLeast : Type 0
LeastConflictIsLeast =
    (table : Table) → AreLawful (table_shapes table) Everything
    → (graph : List Obj) (root : Val) (t : ℕ) (entries : List (Entry ℕ))
    → IsSearched (table_shapes table) graph root t entries (λ path. Unit {0})
    → (one other : Entry ℕ) → AreLeastConflicting (table_shapes table) graph entries one other
    → IsLeastFault (table_shapes table) graph root t (Conflict one.path other.path)
