-- The pairs of a typing.
use Rattle.std.specs.Prelude.{ℕ, List}
use Rattle.types_spec.specs.types.Fitting.{numbered_from}
use Rattle.check_heap.specs.declared.check.typed_objects.TypedObjects.{TypedObjects}
use Rattle.check_heap.specs.declared.check.typed_objects.TypedObjects.TheVariants as forms
use Rattle.check_heap.specs.check.Search.{pairs_of}
use Rattle.check_heap.specs.check.Visits.{listed}

abbrev pub pairs_in : TypedObjects → List (ℕ × ℕ)
pairs_in (forms.Searched visits) = pairs_of (listed visits)
pairs_in (forms.Scanned types) = numbered_from 0 types
pairs_in (forms.Settled settled) = settled
pairs_in (forms.Listed pairs) = pairs.items
