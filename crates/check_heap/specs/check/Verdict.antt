-- The meaning of a verdict.
use Rattle.std.specs.Prelude.{ℕ, List, map, Contains}
use Rattle.base_data.specs.declared.model.value.Val.{Val}
use Rattle.base_data.specs.declared.model.value.Obj.{Obj}
use Rattle.types_spec.specs.types.LeastFault.{IsLeastFault}
use Rattle.types_spec.specs.types.Table.{Table, table_shapes}
use Rattle.types_spec.specs.types.Typing.{IsListed, IsTyping, HasType}
use Rattle.types_theory.specs.typing.StepLaws.{AreApart, key_of}
use Rattle.check_heap.specs.scan.Paths.{HasPath}
use Rattle.check_heap.specs.declared.check.verdict.Verdict.{Verdict}
use Rattle.check_heap.specs.declared.check.verdict.Verdict.TheVariants.{Yes, No}

-- The pairs justify one another. If the root is a reference, the pairs contain the root's object at
-- a type equal to type 0. The pairs contain no object twice at one class.
pub record IsYes (table : Table) (graph : List Obj) (root : Val) (pairs : List (ℕ × ℕ))
    : Type 0 where
  pub typing : IsTyping (table_shapes table) graph pairs
  pub rooted : IsListed (table_shapes table) pairs root 0
  pub apart : AreApart (map (key_of table) pairs)

-- `Yes` means that the value has type 0. `No` contains the first fault.
abbrev pub IsVerdict : Table → List Obj → Val → Verdict → Type 0
IsVerdict table graph root (Yes typing) =
    HasType (table_shapes table) graph root 0 × IsYes table graph root typing
IsVerdict table graph root (No fault) = IsLeastFault (table_shapes table) graph root 0 fault

-- Some path leads to each object of a `Yes` at its type.
abbrev pub PairsHavePaths : Table → List Obj → Val → Verdict → Type 0
PairsHavePaths table graph root (Yes typing) =
    (o t : ℕ) → Contains typing (o, t) → HasPath table graph root o t
PairsHavePaths table graph root (No fault) = Unit {0}
