-- Lists of pairs, and tables from an object's number to the object's pair.
use Rattle.std.specs.Prelude.{ℕ, suc, ◌+◌, ◌≡◌, ◌==◌, List, length, Some, slice_get, slice_index}
use Rattle.std.specs.Prelude.{count_by}

-- Pairs of numbers of the objects of two graphs, and the number of objects of each graph.
pub record Paired : Type 0 where
  pub pairs : List (ℕ × ℕ)
  pub lefts : ℕ
  pub rights : ℕ

abbrev pub left_of : ℕ × ℕ → ℕ
left_of p = p.0

abbrev pub right_of : ℕ × ℕ → ℕ
right_of p = p.1

-- The number `k` is not among the keys.
abbrev pub IsNew : List ℕ → ℕ → Type 0
IsNew keys k = (i : ℕ) → slice_get keys i ≡ Some k → ⊥

-- If a number is a key, then the table's entry is the key's position, counted from 1. If a number
-- is no key, then the table's entry is 0.
pub record IsIndex (table keys : List ℕ) : Type 0 where
  pub found : (i k : ℕ) → slice_get keys i ≡ Some k → slice_index table k ≡ suc i
  pub named : (i k : ℕ) → slice_index table k ≡ suc i → slice_get keys i ≡ Some k
  pub room : count_by (λ position. position == 0) table + length keys ≡ length table
