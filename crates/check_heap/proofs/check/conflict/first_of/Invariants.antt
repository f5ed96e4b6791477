use Rattle.std.proofs.Common.{◌<◌, ◌≡◌, Some}
use Rattle.std.specs.Prelude.{ℕ, slice_get}
use Rattle.check_heap.specs.declared.check.visits.Visit.{Visit}
use Rattle.check_heap.specs.check.Visits.{listed}
use Rattle.check_heap.proofs.check.conflict.first_of.Given as goal

-- None of the visits before `f` is a visit of the object.
abbrev pub invariant-loop-f : goal.invariant-loop-f
invariant-loop-f l = (j : ℕ) (v : Visit) → j < l.f → slice_get (listed l.visits) j ≡ Some v → ¬ (v.object ≡ l.object)
