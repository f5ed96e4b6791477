-- For each type of a table, the least number of an equal type.
use Rattle.std.specs.Prelude.{ℕ, ◌<◌, ◌≡◌, List, length, Option, Some, slice_get, slice_index}
use Rattle.std.specs.BTreeMap.{BTreeMap, get}
use Rattle.std.specs.Ordering.{nat_cmp}
use Rattle.types_spec.specs.types.Table.{Table, table_shapes}
use Rattle.cert_verify.specs.certificate.Normal.{IsLeast}

-- `least` is the least number of a type equal to type `t`.
abbrev pub IsLeastOf : Table → ℕ → ℕ → Type 0
IsLeastOf table t least = IsLeast table least × (table_shapes table).equal least t

-- The list contains, for each type of the table, the least number of an equal type.
pub record AreLeastFaults (table : Table) (least_faults : List ℕ) : Type 0 where
  pub many : length least_faults ≡ length table.classes
  pub least : (t : ℕ) → t < length least_faults → IsLeastOf table t (slice_index least_faults t)

-- The pair, with its type number replaced by the least number of an equal type.
abbrev pub at_least : List ℕ → ℕ × ℕ → ℕ × ℕ
at_least least_faults pair = (pair.0, slice_index least_faults pair.1)

-- ---- partial results

-- For each class of the first `n` types, `noted` has the first type.
pub record AreNoted (table : Table) (n : ℕ) (noted : ℕ → Option ℕ) : Type 0 where
  pub there : (c l : ℕ) → noted c ≡ Some l
      → (slice_get table.classes l ≡ Some c) × IsLeast table l
  pub all : (t c : ℕ) → t < n → slice_get table.classes t ≡ Some c → (l : ℕ) × (noted c ≡ Some l)

-- The lookup of a class in the map.
abbrev pub noted_in : BTreeMap ℕ ℕ → ℕ → Option ℕ
noted_in firsts c = get nat_cmp firsts c
