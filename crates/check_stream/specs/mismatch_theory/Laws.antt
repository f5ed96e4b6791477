-- If only one trail leads to a mismatch, then the mismatch is the first fault. Types are the
-- numbers of a table.
use Rattle.std.specs.Prelude.{ℕ, ◌≡◌, List, [], ◌∷◌, Some, Contains}
use Rattle.base_data.specs.declared.model.value.Val.{Val}
use Rattle.base_data.specs.declared.model.value.Val.TheVariants as vals
use Rattle.base_data.specs.declared.model.value.Obj.{Obj}
use Rattle.types_spec.specs.declared.types.fault.Fault.TheVariants.{Mismatch}
use Rattle.types_spec.specs.types.LawfulShapes.{AreLawful, Everything}
use Rattle.types_spec.specs.types.Fault.{step, value_at, IsMismatch}
use Rattle.types_spec.specs.types.LeastFault.{IsLeastFault}
use Rattle.types_spec.specs.types.Table.{Table, table_shapes}
use Rattle.check_stream.specs.mismatch_theory.OnlyWay.{AreHeldBut, path_of, IsWay, IsOnlyWay}
use Rattle.check_stream.specs.mismatch_theory.OnlyWay.{HasOnlyWay}

-- If the root does not match its type, then the mismatch at the root is the first fault.
abbrev pub RootMismatchIsLeast : Type 0
RootMismatchIsLeast =
    (table : Table) (graph : List Obj) (root : Val) (t : ℕ)
    → ¬ (table_shapes table).fits graph root t
    → IsLeastFault (table_shapes table) graph root t (Mismatch [])

-- If there are several holes, and only one trail leads to each hole, then a mismatch whose path
-- comes first is the first fault.
abbrev pub OnlyWaysAreLeast : Type 0
OnlyWaysAreLeast =
    (table : Table) → AreLawful (table_shapes table) Everything
    → (graph : List Obj) (pairs holes : List (ℕ × ℕ)) (root : Val) (t : ℕ) (path : List ℕ)
    → AreHeldBut (table_shapes table) graph pairs holes root t
    → IsMismatch (table_shapes table) graph root t path
    → ((o i : ℕ) → Contains holes (o, i)
    → HasOnlyWay (table_shapes table) graph pairs root o i path)
    → IsLeastFault (table_shapes table) graph root t (Mismatch path)

-- If there is one hole, to which only one trail leads, the value and the required type at the hole
-- are known. If the value does not match the required type, the mismatch at the hole is the first
-- fault.
abbrev pub OnlyMismatchIsLeast : Type 0
OnlyMismatchIsLeast =
    (table : Table) → AreLawful (table_shapes table) Everything
    → (graph : List Obj) (pairs : List (ℕ × ℕ)) (root : Val) (t : ℕ) (trail : List (ℕ × ℕ))
    (o u i : ℕ) (w : Val) (a : ℕ)
    → AreHeldBut (table_shapes table) graph pairs ((o, i) ∷ []) root t
    → IsWay (table_shapes table) graph root t trail o u
    → IsOnlyWay (table_shapes table) graph pairs root trail o
    → step (table_shapes table) graph (vals.Ref o) u i ≡ Some (w, a)
    → (¬ (table_shapes table).fits graph w a)
    → (value_at (table_shapes table) graph root t (path_of ((o, i) ∷ trail)) ≡ Some (w, a))
    × IsLeastFault (table_shapes table) graph root t (Mismatch (path_of ((o, i) ∷ trail)))
