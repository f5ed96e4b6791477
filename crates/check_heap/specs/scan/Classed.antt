-- Sets of pairs of an object and a class.
use Rattle.std.specs.Prelude.{ℕ, suc, ◌≡◌, ◌⊎◌, ◌↔◌, List, [], Some, slice_get, IsTrue}
use Rattle.std.specs.declared.cmp.Ordering.{Ordering}
use Rattle.std.specs.Ordering.{nat_cmp, ordering_then}
use Rattle.std.specs.BTreeSet.{contains}
use Rattle.check_heap.specs.declared.scan.classed.Classed.{Classed}

-- Pairs are ordered by object, then by class.
abbrev pub pair_cmp : ℕ × ℕ → ℕ × ℕ → Ordering
pair_cmp x y = ordering_then (nat_cmp x.0 y.0) (nat_cmp x.1 y.1)

-- The object's cell contains the class.
abbrev pub IsInCell : List ℕ → ℕ → ℕ → Type 0
IsInCell cells o c = slice_get cells o ≡ Some (suc c)

-- The set contains the pair of the object and the class.
abbrev pub Has : Classed → ℕ → ℕ → Type 0
Has classed o c = IsInCell classed.cells.items o c ⊎ IsTrue (contains pair_cmp classed.more (o, c))

-- The set has no cells, and no pairs outside of cells.
abbrev pub IsUntouched : Classed → Type 0
IsUntouched classed = (classed.cells.items ≡ []) × (classed.more.keys ≡ [])

-- The cells `old` and the cells `new` contain the same pairs.
abbrev pub Agree : List ℕ → List ℕ → Type 0
Agree old new = (o c : ℕ) → IsInCell old o c ↔ IsInCell new o c

-- The new set contains the old pairs and the pair of `o` and `c`, and nothing else.
pub record Inserts (old new : Classed) (o c : ℕ) : Type 0 where
  pub here : Has new o c
  pub kept : (p d : ℕ) → Has old p d → Has new p d
  pub only : (p d : ℕ) → Has new p d → Has old p d ⊎ ((o ≡ p) × (c ≡ d))
