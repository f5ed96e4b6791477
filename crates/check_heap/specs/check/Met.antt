-- All objects that the paths of a well-typed value reach.
use Rattle.std.specs.Prelude.{ℕ, ◌≡◌, ◌<◌, List, Some, slice_get}
use Rattle.base_data.specs.declared.model.value.Val.{Val}
use Rattle.base_data.specs.declared.model.value.Val.TheVariants as vals
use Rattle.base_data.specs.declared.model.value.Obj.{Obj}
use Rattle.types_spec.specs.types.Fault.{IsBefore, value_at}
use Rattle.types_spec.specs.types.SearchedPaths.{Entry, IsEntered}
use Rattle.types_spec.specs.types.Table.{Table, table_shapes}
use Rattle.check_heap.specs.declared.check.visits.Visit.{Visit}
use Rattle.check_heap.specs.check.KnownVisits.{AreOrdered, AreKnown}

-- The visits are complete and minimal:
--
-- - The path of each visit leads to the visit's object at the visit's type.
-- - If some path leads to an object at a type, the object is visited at an equal type. The path of
--   the visit is not after the given path.
-- - No object is visited twice at equal types.
-- - The paths increase.
pub record AreAllMet (table : Table) (graph : List Obj) (root : Val) (all : List Visit)
    : Type 0 where
  pub known : List (Entry ℕ)
  pub are_known : AreKnown all known
  pub ordered : AreOrdered all
  pub leads : (k : ℕ) (e : Entry ℕ) → slice_get known k ≡ Some e
      → value_at (table_shapes table) graph root 0 e.path ≡ Some (vals.Ref e.object, e.type)
  pub least :
      (path : List ℕ) (o u : ℕ)
      → value_at (table_shapes table) graph root 0 path ≡ Some (vals.Ref o, u)
      → IsEntered (table_shapes table) known (vals.Ref o) u path
  pub apart :
      (j k : ℕ) (a b : Entry ℕ) → slice_get known j ≡ Some a → slice_get known k ≡ Some b
      → a.object ≡ b.object → (table_shapes table).equal a.type b.type → j ≡ k
  pub increasing :
      (j k : ℕ) (a b : Entry ℕ) → j < k → slice_get known j ≡ Some a → slice_get known k ≡ Some b
      → IsBefore a.path b.path
