-- A set of offsets as cells of 64 bits. Each cell also has the number of offsets before the cell.
use Rattle.std.specs.Prelude.{ℕ, ◌+◌, ◌*◌, ◌/◌, ◌%◌, ◌^◌, ◌<◌, ◌≤◌, ◌≡◌, List, length, slice_index}
use Rattle.std.specs.Prelude.{slice_index_or, slice_set, count_ones}
use Rattle.marshal_heap.specs.declared.offsets.cells.Cell.{Cell}

-- The cell that contains the bit of offset `p`.
abbrev pub cell_at : List Cell → ℕ → Cell
cell_at cells p = slice_index_or cells (p / 64) (record { bits = 0; before = 0 })

-- The number of offsets less than `p` that the cells count.
abbrev pub rank : List Cell → ℕ → ℕ
rank cells p = (cell_at cells p).before + count_ones ((cell_at cells p).bits % 2 ^ (p % 64))

-- The cells with the bit of offset `p` set.
abbrev pub marked : List Cell → ℕ → List Cell
marked cells p =
    slice_set cells (p / 64)
    (record (cell_at cells p) { bits = (cell_at cells p).bits + 2 ^ (p % 64) })

-- The cells without the bits from offset `p` on in the cell of `p`.
abbrev pub cut : List Cell → ℕ → List Cell
cut cells p =
    slice_set cells (p / 64)
    (record (cell_at cells p) { bits = (cell_at cells p).bits % 2 ^ (p % 64) })

-- Exactly the first `n` offsets are less than `p`.
pub record IsRank (positions : List ℕ) (p n : ℕ) : Type 0 where
  pub in_range : n ≤ length positions
  pub before : (k : ℕ) → k < n → slice_index positions k < p
  pub after : (k : ℕ) → n ≤ k → k < length positions → p ≤ slice_index positions k

-- The cells represent the increasing offsets of the list.
pub record IsIndexed (cells : List Cell) (positions : List ℕ) : Type 0 where
  pub increasing : (j k : ℕ) → j < k → k < length positions
      → slice_index positions j < slice_index positions k
  pub covered : (k : ℕ) → k < length positions → slice_index positions k < 64 * length cells
  pub ranks : (p : ℕ) → p < 64 * length cells → IsRank positions p (rank cells p)
  -- If each offset in the cell of `p` is less than `p`, then the cell has no bit from `p` on.
  pub clear : (p : ℕ) → p < 64 * length cells
      → ((k : ℕ) → k < length positions → slice_index positions k / 64 ≡ p / 64
      → slice_index positions k < p)
      → (cell_at cells p).bits < 2 ^ (p % 64)
