-- The state of a block after some of its words were borrowed mutably.
use Rattle.std.specs.Prelude.{ℕ, ◌≤◌, List, ◌++◌, length, take}
use Rattle.std.specs.Borrow.{Fml, MutBor, Array, Lends, u64}
use Rattle.std.specs.List.{length_refill}
use mathlib.Core.Path.{refl, subst}
use Rattle.marshal_heap.specs.arena.Region.{overwritten}
use Rattle.marshal_heap.specs.declared.arena.block.Block.{Block}
use Rattle.marshal_heap.specs.contracts.arena.block.Block.{the_row}

abbrev pub with_part : Block → ℕ → List ℕ → Block
with_part b i part = record {
  at = b.at;
  cap = b.cap;
  words = overwritten b.words i part;
  room =
      subst (λ (n : ℕ). n ≤ b.cap)
      (length_refill (length b.words) b.words (take i b.words ++ part) refl) b.room;
}

-- From word `i` on, the block has the words that were written last through the borrowed slice
-- `part`.
abbrev pub borrows_words : MutBor Block → ℕ → MutBor (List ℕ) → Fml
borrows_words b i part = Lends the_row (Array u64 0) b part (with_part b.now i)
