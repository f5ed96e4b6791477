-- The occurrences found in a text, and the additions of one step to the found occurrences.
use Rattle.std.specs.Prelude.{ℕ, ◌≡◌, List, ◌++◌, All}
use Rattle.types_spec.specs.types.Occurrence.{Placed, Occurrence}
use Rattle.types_resolve.specs.declared.occurrences.found_occurrences.FoundOccurrences.{FoundOccurrences}
use Rattle.types_resolve.specs.occurrences.Adds.{Adds}
use Rattle.types_resolve.specs.scope.TypeBrackets.{brackets_among, all_known, IsOrdered}

-- `new` is `old` with additions: the rows `rows`, the lexemes `carrying` of constructors with
-- arguments, and the data and the brackets of the occurrences `all`.
pub record AddsFound (old new : FoundOccurrences) (rows : List (List Placed)) (carrying : List ℕ)
    (all : List Occurrence) : Type 0 where
  pub site : Adds old.site new.site rows carrying all
  pub ordered : All IsOrdered old.brackets → All IsOrdered new.brackets
  pub brackets : all_known new.brackets ≡ all_known old.brackets ++ brackets_among all
