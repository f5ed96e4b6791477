-- The numbers of labels, by the numbers of objects.
use Rattle.std.specs.Prelude.{ℕ, ◌<◌, ◌≤◌, ◌-◌, ◌≡◌, ◌||◌, Bool, true, false, List, [], ◌∷◌, ◌++◌}
use Rattle.std.specs.Prelude.{length, slice_index_or, slice_set}
use Rattle.base_data.specs.declared.model.value.Obj.{Obj}
use Rattle.types_table.specs.declared.type_table.tabled.Tabled.{Tabled}
use Rattle.text_print.specs.show.TextChunks.{TextChunk, has, firsts, agains, number_in}
use Rattle.text_print.specs.print.PrintWalk.{IsWalk, chunks_left}
use Rattle.text_print.specs.declared.print.print_walk.PrintStep.{PrintStep}
use Rattle.text_print.specs.declared.print.print_walk.PrintStep.TheVariants as steps
use Rattle.text_print.specs.declared.print.labels.Labels.{Labels}
use Rattle.text_print.specs.declared.print.print_walk.PrintWalk.{PrintWalk}

-- The number is in the range from `first` up to `end`, exclusive.
abbrev pub IsBetween : ℕ → ℕ → ℕ → Type 0
IsBetween first end o = (first ≤ o) × (o < end)

-- From `first` on, `numbers` has the index of each object among `objects`. An object before or
-- beyond the range of `numbers` is not among `objects`.
pub record AreNumbers (objects : List ℕ) (first : ℕ) (numbers : List ℕ) : Type 0 where
  pub before : (o : ℕ) → o < first → length objects ≡ number_in objects o
  pub from_first : (o : ℕ) → first ≤ o
      → slice_index_or numbers (o - first) (length objects) ≡ number_in objects o

abbrev pub AreLabels : Labels → Type 0
AreLabels labels = AreNumbers labels.objects.items labels.first labels.numbers.items

-- The objects that a step visits again.
abbrev pub agains_of : PrintStep → List ℕ
agains_of (steps.Again o) = o ∷ []
agains_of step = []

-- The marks of the objects that occur again, updated for a step.
abbrev pub marks_after : PrintStep → List Bool → List Bool
marks_after (steps.Again o) marks = slice_set marks o true
marks_after step marks = marks

-- If a step visits an object again, then the object is one of the `n` objects that have marks.
abbrev pub IsMarkable : ℕ → PrintStep → Type 0
IsMarkable n (steps.Again o) = o < n
IsMarkable n step = Unit {0}

-- The marks and visits up to now, together with the marks and visits of the remaining chunks, are
-- those of all chunks.
pub record AreCounted (table : Tabled) (graph : List Obj) (all : List TextChunk) (walk : PrintWalk)
    (again : List Bool) : Type 0 where
  pub is_walk : IsWalk table graph walk
  pub many : length again ≡ length graph
  pub met_again : (x : ℕ)
      → has (agains all) x
      ≡ (slice_index_or again x false || has (agains (chunks_left table graph walk)) x)
  pub met_first : firsts all ≡ walk.order ++ firsts (chunks_left table graph walk)
