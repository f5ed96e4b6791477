-- The numbers of names in a table.
use Rattle.std.specs.Prelude.{ℕ, ◌<◌, ◌≡◌, ◌≢◌, List, Option, Some, slice_get, MatchOption}
use Rattle.std.specs.Prelude.{unwrap_or, if◌then◌else◌}
use Rattle.std.specs.Str.{bytes_eq}
use Rattle.indexmap.specs.IndexMap.{get_by}
use Rattle.types_resolve.specs.declared.scope.name_table.NameTable.{NameTable}

-- The number of the name `name`, or `None` if the table does not have the name.
abbrev pub number_of : NameTable → List ℕ → Option ℕ
number_of table name = get_by (λ k. bytes_eq name k.now) table.entries

-- The numbers after a name is added. If the name has a number, the name keeps the number.
abbrev pub added : (List ℕ → Option ℕ) → List ℕ → ℕ → List ℕ → Option ℕ
added numbers name number q =
    if bytes_eq name q then Some (unwrap_or (numbers name) number) else numbers q

-- The first index of the name is `j`, and `j` is less than `n`.
pub record IsFirstPosition (names : List (List ℕ)) (n : ℕ) (name : List ℕ) (j : ℕ) : Type 0 where
  pub below : j < n
  pub is : slice_get names j ≡ Some name
  pub first : (i : ℕ) → i < j → slice_get names i ≢ Some name

-- The first index of the name among the first `n` names. `None` means that the first `n` names do
-- not contain the name.
abbrev pub IsPosition : List (List ℕ) → ℕ → List ℕ → Option ℕ → Type 0
IsPosition names n name position =
    MatchOption position ((i : ℕ) → i < n → slice_get names i ≢ Some name)
    (IsFirstPosition names n name)

-- The number of each name is the first index of the name among the first `n` names.
abbrev pub ArePositions : List (List ℕ) → ℕ → (List ℕ → Option ℕ) → Type 0
ArePositions names n numbers = (name : List ℕ) → IsPosition names n name (numbers name)
