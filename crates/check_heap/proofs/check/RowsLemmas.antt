-- The result of testing a required field.
use Rattle.std.proofs.Common.{ℕ, suc, ◌≡◌, true, false, List, length, Some, refl, sym, subst}
use Rattle.std.specs.Prelude.{slice_get}
use Rattle.base_data.specs.model.Graph.{IsValue}
use Rattle.base_data.specs.declared.model.value.Val.{Val}
use Rattle.base_data.specs.declared.model.value.Val.TheVariants as vals
use Rattle.base_data.specs.declared.model.value.Obj.{Obj}
use Rattle.types_spec.specs.types.Fault.{field_of}
use Rattle.types_spec.specs.types.Table.{Table, table_shapes}
use Rattle.check_heap.specs.declared.check.visits.Visit.{Visit}
use Rattle.check_heap.specs.declared.check.search.RequiredField.{RequiredField}
use Rattle.check_heap.specs.declared.check.visits.Visits.{Visits}
use Rattle.check_heap.specs.check.Visits.{listed, AreLinked, Enters}
use Rattle.check_heap.specs.check.Search.{FitAll, EntersValue, TestsNeed}

pub tests_true :
    (table : Table) (graph : List Obj) (old new : List Visit) (need : RequiredField) (v : Val) → IsValue (length graph) v
    → field_of graph (vals.Ref need.object) need.step ≡ Some v → (table_shapes table).fits graph v need.ty → EntersValue table old new need v
    → TestsNeed table graph old new need true
tests_true table graph old new need v valid there fits enters = record { value = v; valid = valid; there = there; tested = (fits, enters) }

pub tests_false :
    (table : Table) (graph : List Obj) (old : List Visit) (need : RequiredField) (v : Val) → IsValue (length graph) v
    → field_of graph (vals.Ref need.object) need.step ≡ Some v → ¬ (table_shapes table).fits graph v need.ty
    → TestsNeed table graph old old need false
tests_false table graph old need v valid there unfit = record { value = v; valid = valid; there = there; tested = (unfit, refl) }

-- An object matches the type at which it was visited first.
pub first_fits :
    (table : Table) (graph : List Obj) (visits : Visits) (t : ℕ) (v : Val) (o : ℕ) → v ≡ vals.Ref o
    → AreLinked table (length graph) visits → FitAll table graph (listed visits) → slice_get visits.first o ≡ Some (suc t)
    → (table_shapes table).fits graph v t
first_fits table graph visits t v o same linked fit at_o =
    let f = linked.noted.met o t at_o in
    subst (λ u. (table_shapes table).fits graph u t) (sym same)
    (subst (λ i. (table_shapes table).fits graph (vals.Ref o) i) f.type
    (subst (λ p. (table_shapes table).fits graph (vals.Ref p) f.visit.ty) f.object (fit f.position f.visit f.at)))

pub enters_named :
    (table : Table) (old new : List Visit) (need : RequiredField) (v : Val) (o : ℕ) → v ≡ vals.Ref o
    → Enters table old new o need.ty need.parent need.step → EntersValue table old new need v
enters_named table old new need v o same enters = subst (EntersValue table old new need) (sym same) enters
