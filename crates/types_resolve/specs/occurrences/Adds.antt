-- The data that the scope rules read from occurrences, and the additions to a site.
use Rattle.std.specs.Prelude.{ℕ, ◌≡◌, ◌⊎◌, Option, Some, None, List, ◌++◌, length, Contains}
use Rattle.std.specs.List.{filter_map}
use Rattle.types_spec.specs.types.Occurrence.{Placed, Occurrence, use_of, variable_at, bracket_of}
use Rattle.types_spec.specs.types.Scope.{written_tag}
use Rattle.types_resolve.specs.declared.scope.site.Site.{Site}
use Rattle.types_resolve.specs.declared.scope.site.TypeUse.{TypeUse}
use Rattle.types_resolve.specs.occurrences.Facts.{some_grow}

abbrev pub as_use : Occurrence → Option TypeUse
as_use (use_of k name arguments in_tag) = Some (record {
  position = k;
  name = name;
  arguments = length arguments;
  grows = some_grow arguments;
  in_tag = in_tag;
})
as_use (variable_at k name) = None
as_use (bracket_of items) = None

abbrev pub as_variable : Occurrence → Option Placed
as_variable (use_of k name arguments in_tag) = None
as_variable (variable_at k name) = Some (k, name)
as_variable (bracket_of items) = None

-- The row of the tags that a bracket writes, or `None` if the occurrence is not a bracket.
abbrev pub as_row : Occurrence → Option (List Placed)
as_row (use_of k name arguments in_tag) = None
as_row (variable_at k name) = None
as_row (bracket_of items) = Some (filter_map written_tag items)

-- The site `new` extends the site `old` by the rows `rows`, by the lexemes `carrying` of
-- constructors, and by the data of the occurrences `all`. The definition does not fix the order of
-- rows.
pub record Adds (old new : Site) (rows : List (List Placed)) (carrying : List ℕ)
    (all : List Occurrence) : Type 0 where
  pub rows_are :
      (row : List Placed) → Contains new.rows row
      → Contains old.rows row ⊎ (Contains rows row ⊎ Contains (filter_map as_row all) row)
  pub rows_there :
      (row : List Placed)
      → Contains old.rows row ⊎ (Contains rows row ⊎ Contains (filter_map as_row all) row)
      → Contains new.rows row
  pub carrying_is : new.carrying ≡ old.carrying ++ carrying
  pub uses_are : new.uses ≡ old.uses ++ filter_map as_use all
  pub variables_are : new.variables ≡ old.variables ++ filter_map as_variable all
