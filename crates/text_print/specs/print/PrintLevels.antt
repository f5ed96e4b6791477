-- Nested open blocks, and the ends of the blocks whose last part has begun.
use Rattle.std.specs.Prelude.{ℕ, ◌+◌, ◌≤◌, ◌≡◌, ◌==◌, if◌then◌else◌, List, [], ◌∷◌, ◌++◌, length}
use Rattle.std.specs.Prelude.{take, drop, map, Option, Some, None, IfSome, option_to_list, codes}
use Rattle.check_heap.specs.fits.Needs.{needs_in}
use Rattle.text_print.specs.leaves.FrameView.{frame_in}
use Rattle.text_print.specs.declared.print.open_block.OpenBlock.{OpenBlock}
use Rattle.text_print.specs.declared.print.print_walk.PrintWalk.{PrintWalk}

-- ---- ends

-- The text after the parts of a block, encoded in one byte. The byte `]` stands for the closing
-- bracket of an array.
abbrev pub end_text : ℕ → List ℕ
end_text end = if end == 93 then codes "|]" else end ∷ []

-- If an end is given, then the block's next part is its last part, and the end is the block's end.
abbrev pub IsLastEnd : OpenBlock → Option ℕ → Type 0
IsLastEnd block end =
    IfSome end
    (λ end. (length (needs_in block.needs) ≡ block.next + 1)
    × (end_text end ≡ (frame_in block.frame).closing))

-- ---- levels

-- A block that may have remaining parts, or the end of a block without remaining parts.
pub data Level : Type 0 where
  Open : (block : OpenBlock) → Level
  Ended : (end : ℕ) → Level

-- The levels from the outermost to the innermost, without the first `passed` ends. Each block has
-- the number of ends outside of the block.
abbrev pub levels_from : ℕ → List OpenBlock → List ℕ → List Level
levels_from passed [] ends = map Ended (drop passed ends)
levels_from passed (block ∷ blocks) ends =
    map Ended (drop passed (take block.outside ends))
    ++ Open block ∷ levels_from block.outside blocks ends

abbrev pub levels_of : PrintWalk → List Level
levels_of walk = levels_from 0 walk.stack.items walk.ends.items

-- The number of ends outside of the innermost block.
abbrev pub last_outside : ℕ → List OpenBlock → ℕ
last_outside passed [] = passed
last_outside passed (block ∷ blocks) = last_outside block.outside blocks

-- The numbers of ends outside of the blocks do not decrease from block to block, and are at most
-- the number of all ends.
abbrev pub AreNested : ℕ → List OpenBlock → ℕ → Type 0
AreNested passed [] many = passed ≤ many
AreNested passed (block ∷ blocks) many =
    (passed ≤ block.outside) × AreNested block.outside blocks many

-- ---- after a part

-- The block `block` with the next part `next`.
abbrev pub with_next : OpenBlock → ℕ → OpenBlock
with_next block next = record {
  object = block.object;
  fields = block.fields;
  frame = block.frame;
  needs = block.needs;
  next = next;
  outside = block.outside;
}

-- The blocks with remaining parts, after one more part of the innermost block has begun.
abbrev pub blocks_after : List OpenBlock → OpenBlock → Option ℕ → List OpenBlock
blocks_after outer block None = outer ++ block ∷ []
blocks_after outer block (Some end) = outer

abbrev pub level_after : OpenBlock → Option ℕ → Level
level_after block None = Open block
level_after block (Some end) = Ended end

-- The innermost block advances to its next part. If the part that has begun is the last part, only
-- the end of the block is kept.
pub record IsPassed (old new : PrintWalk) (next : ℕ) (end : Option ℕ) : Type 0 where
  pub value : new.value ≡ old.value
  pub marks : new.marks.items ≡ old.marks.items
  pub order : new.order ≡ old.order
  pub ends : new.ends.items ≡ old.ends.items ++ option_to_list end
  pub blocks : (outer : List OpenBlock) (block : OpenBlock)
      → old.stack.items ≡ outer ++ block ∷ []
      → new.stack.items ≡ blocks_after outer (with_next block next) end
