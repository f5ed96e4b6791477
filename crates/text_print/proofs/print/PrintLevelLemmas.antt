-- The levels of a traversal as blocks and ends are added and removed.
use Rattle.std.proofs.Common.{ℕ, suc, ◌≡◌, ◌+◌, ◌<◌, ◌≤◌, ◌∙◌, List, [], ◌∷◌, ◌++◌, length, take, drop, map, get_or, refl, sym, ap, subst, arith, append_assoc, append-nil, Option, Some, None}
use Rattle.std.specs.Prelude.{option_to_list}
use Rattle.std.proofs.lemmas.List.{length-append, map_push, take_all, drop_all, take-append-le, drop-append-le}
use Rattle.text_print.specs.declared.print.open_block.OpenBlock.{OpenBlock}
use Rattle.text_print.specs.declared.print.print_walk.PrintWalk.{PrintWalk}
use Rattle.text_print.proofs.print.PrintMarkLemmas.{last_split}
use Rattle.text_print.specs.print.PrintLevels.{Level, Open, Ended, levels_from, levels_of, last_outside, AreNested, with_next, blocks_after, level_after}

-- ---- the number of ends outside

pub outside_last : (p : ℕ) (blocks : List OpenBlock) (block : OpenBlock) → last_outside p (blocks ++ block ∷ []) ≡ block.outside
outside_last p [] block = refl
outside_last p (b ∷ blocks) block = outside_last b.outside blocks block

nested_start : (p : ℕ) (blocks : List OpenBlock) (n : ℕ) → AreNested p blocks n → p ≤ n
nested_start p [] n nested = nested
nested_start p (b ∷ blocks) n nested = omega (arith, nested.0, nested_start b.outside blocks n nested.1)

pub nested_within : (p : ℕ) (blocks : List OpenBlock) (n : ℕ) → AreNested p blocks n → last_outside p blocks ≤ n
nested_within p [] n nested = nested
nested_within p (b ∷ blocks) n nested = nested_within b.outside blocks n nested.1

pub nested_among : (p : ℕ) (blocks : List OpenBlock) (n m : ℕ) → AreNested p blocks n → last_outside p blocks ≤ m → AreNested p blocks m
nested_among p [] n m nested within = within
nested_among p (b ∷ blocks) n m nested within = (nested.0, nested_among b.outside blocks n m nested.1 within)

pub nested_push : (p : ℕ) (blocks : List OpenBlock) (block : OpenBlock) (n m : ℕ) → AreNested p blocks n → n ≤ block.outside → block.outside ≤ m → AreNested p (blocks ++ block ∷ []) m
nested_push p [] block n m nested below within = (omega (arith, nested, below), within)
nested_push p (b ∷ blocks) block n m nested below within = (nested.0, nested_push b.outside blocks block n m nested.1 below within)

pub nested_outer : (p : ℕ) (blocks : List OpenBlock) (block : OpenBlock) (n : ℕ) → AreNested p (blocks ++ block ∷ []) n → AreNested p blocks block.outside × (block.outside ≤ n)
nested_outer p [] block n nested = nested
nested_outer p (b ∷ blocks) block n nested =
    let r = nested_outer b.outside blocks block n nested.1 in ((nested.0, r.0), r.1)

-- ---- one more level

-- If an end is appended to the ends, then the end becomes the innermost level.
pub level_ended : (p : ℕ) (blocks : List OpenBlock) (ends : List ℕ) (end : ℕ) → AreNested p blocks (length ends) → levels_from p blocks (ends ++ end ∷ []) ≡ levels_from p blocks ends ++ Ended end ∷ []
level_ended p [] ends end nested = ap (map Ended) (drop-append-le p ends (end ∷ []) nested) ∙ map_push Ended (drop p ends) end
level_ended p (b ∷ blocks) ends end nested =
    let within : b.outside ≤ length ends = nested_start b.outside blocks (length ends) nested.1 in
    ap (λ (es : List ℕ). map Ended (drop p es) ++ Open b ∷ levels_from b.outside blocks (ends ++ end ∷ [])) (take-append-le b.outside ends (end ∷ []) within)
    ∙ ap (λ (ls : List Level). map Ended (drop p (take b.outside ends)) ++ Open b ∷ ls) (level_ended b.outside blocks ends end nested.1)
    ∙ sym (append_assoc (map Ended (drop p (take b.outside ends))) (Open b ∷ levels_from b.outside blocks ends) (Ended end ∷ []))

-- If a block is opened inside of all ends, then the block becomes the innermost level.
pub level_opened : (p : ℕ) (blocks : List OpenBlock) (block : OpenBlock) (ends : List ℕ) → block.outside ≡ length ends → levels_from p (blocks ++ block ∷ []) ends ≡ levels_from p blocks ends ++ Open block ∷ []
level_opened p [] block ends all =
    ap (λ (es : List ℕ). map Ended (drop p es) ++ Open block ∷ map Ended (drop block.outside ends)) (take_all block.outside ends (omega (arith, all)))
    ∙ ap (λ (es : List ℕ). map Ended (drop p ends) ++ Open block ∷ map Ended es) (drop_all block.outside ends (omega (arith, all)))
level_opened p (b ∷ blocks) block ends all =
    ap (λ (ls : List Level). map Ended (drop p (take b.outside ends)) ++ Open b ∷ ls) (level_opened b.outside blocks block ends all)
    ∙ sym (append_assoc (map Ended (drop p (take b.outside ends))) (Open b ∷ levels_from b.outside blocks ends) (Open block ∷ []))

-- ---- the levels of a walk

pub same_levels : (walk new : PrintWalk) → new.stack.items ≡ walk.stack.items → new.ends.items ≡ walk.ends.items → levels_of new ≡ levels_of walk
same_levels walk new blocks ends = ap (λ (bs : List OpenBlock). levels_from 0 bs new.ends.items) blocks ∙ ap (levels_from 0 walk.stack.items) ends

pub same_nested : (walk new : PrintWalk) → new.stack.items ≡ walk.stack.items → new.ends.items ≡ walk.ends.items → AreNested 0 walk.stack.items (length walk.ends.items) → AreNested 0 new.stack.items (length new.ends.items)
same_nested walk new blocks ends nested =
    subst (λ (bs : List OpenBlock). AreNested 0 bs (length new.ends.items)) (sym blocks) (subst (λ (es : List ℕ). AreNested 0 walk.stack.items (length es)) (sym ends) nested)

pub no_levels : (walk : PrintWalk) → walk.stack.items ≡ [] → walk.ends.items ≡ [] → levels_of walk ≡ []
no_levels walk blocks ends = ap (λ (bs : List OpenBlock). levels_from 0 bs walk.ends.items) blocks ∙ ap (levels_from 0 []) ends

pub no_nested : (walk : PrintWalk) → walk.stack.items ≡ [] → AreNested 0 walk.stack.items (length walk.ends.items)
no_nested walk blocks = subst (λ (bs : List OpenBlock). AreNested 0 bs (length walk.ends.items)) (sym blocks) (omega arith)

-- If the innermost level is an end, then removing the end removes the innermost level.
pub end_level : (walk new : PrintWalk) (end : ℕ) → AreNested 0 walk.stack.items (length walk.ends.items) → last_outside 0 walk.stack.items < length walk.ends.items
    → new.stack.items ≡ walk.stack.items → walk.ends.items ≡ new.ends.items ++ end ∷ []
    → (levels_of walk ≡ levels_of new ++ Ended end ∷ []) × AreNested 0 new.stack.items (length new.ends.items)
end_level walk new end nested some blocks ends =
    let less : last_outside 0 walk.stack.items ≤ length new.ends.items = omega (arith, some, ap length ends, length-append new.ends.items (end ∷ [])) in
    let inner : AreNested 0 walk.stack.items (length new.ends.items) = nested_among 0 walk.stack.items (length walk.ends.items) (length new.ends.items) nested less in (
      ap (levels_from 0 walk.stack.items) ends ∙ level_ended 0 walk.stack.items new.ends.items end inner
          ∙ ap (λ (bs : List OpenBlock). levels_from 0 bs new.ends.items ++ Ended end ∷ []) (sym blocks),
      subst (λ (bs : List OpenBlock). AreNested 0 bs (length new.ends.items)) (sym blocks) inner,
    )

-- The innermost level is a block.
pub record IsInnermost (walk : PrintWalk) (outer : List OpenBlock) (block : OpenBlock) : Type 0 where
  pub blocks : walk.stack.items ≡ outer ++ block ∷ []
  pub outside : block.outside ≡ length walk.ends.items
  pub level : levels_of walk ≡ levels_from 0 outer walk.ends.items ++ Open block ∷ []
  pub outer_nested : AreNested 0 outer (length walk.ends.items)

pub innermost_is : (walk : PrintWalk) (outer : List OpenBlock) (block : OpenBlock) → AreNested 0 walk.stack.items (length walk.ends.items) → length walk.ends.items ≤ last_outside 0 walk.stack.items
    → walk.stack.items ≡ outer ++ block ∷ [] → IsInnermost walk outer block
innermost_is walk outer block nested none blocks =
    let last : last_outside 0 walk.stack.items ≡ block.outside = ap (last_outside 0) blocks ∙ outside_last 0 outer block in
    let within : last_outside 0 walk.stack.items ≤ length walk.ends.items = nested_within 0 walk.stack.items (length walk.ends.items) nested in
    let all : block.outside ≡ length walk.ends.items = omega (arith, last, none, within) in
    let both = nested_outer 0 outer block (length walk.ends.items) (subst (λ (bs : List OpenBlock). AreNested 0 bs (length walk.ends.items)) blocks nested) in record {
      blocks = blocks;
      outside = all;
      level = ap (λ (bs : List OpenBlock). levels_from 0 bs walk.ends.items) blocks ∙ level_opened 0 outer block walk.ends.items all;
      outer_nested = subst (AreNested 0 outer) all both.0;
    }

-- If no end is inside of the last block, then the last block is the innermost level.
pub innermost_at : (walk : PrintWalk) (last : ℕ) (block : OpenBlock) → AreNested 0 walk.stack.items (length walk.ends.items) → length walk.ends.items ≤ last_outside 0 walk.stack.items
    → length walk.stack.items ≡ suc last → block ≡ get_or walk.stack.items last block → IsInnermost walk (take last walk.stack.items) block
innermost_at walk last block nested none many is =
    innermost_is walk (take last walk.stack.items) block nested none
    (last_split walk.stack.items last block many ∙ ap (λ (b : OpenBlock). take last walk.stack.items ++ b ∷ []) (sym is))

-- If the innermost block is closed, then the levels lose the innermost level.
pub closed_levels : (walk new : PrintWalk) (outer : List OpenBlock) (block : OpenBlock) → IsInnermost walk outer block → new.stack.items ≡ outer → new.ends.items ≡ walk.ends.items
    → (levels_of walk ≡ levels_of new ++ Open block ∷ []) × AreNested 0 new.stack.items (length new.ends.items)
closed_levels walk new outer block inner blocks ends = (
  inner.level ∙ ap (λ (es : List ℕ). levels_from 0 outer es ++ Open block ∷ []) (sym ends) ∙ ap (λ (bs : List OpenBlock). levels_from 0 bs new.ends.items ++ Open block ∷ []) (sym blocks),
  subst (λ (bs : List OpenBlock). AreNested 0 bs (length new.ends.items)) (sym blocks) (subst (λ (es : List ℕ). AreNested 0 outer (length es)) (sym ends) inner.outer_nested),
)

-- If the next part of the innermost block has begun, then only the innermost level changes.
pub passed_levels : (walk new : PrintWalk) (outer : List OpenBlock) (block : OpenBlock) (next : ℕ) (end : Option ℕ) → IsInnermost walk outer block
    → new.stack.items ≡ blocks_after outer (with_next block next) end → new.ends.items ≡ walk.ends.items ++ option_to_list end
    → (levels_of new ≡ levels_from 0 outer walk.ends.items ++ level_after (with_next block next) end ∷ []) × AreNested 0 new.stack.items (length new.ends.items)
passed_levels walk new outer block next None inner blocks ends =
    let more : new.ends.items ≡ walk.ends.items = ends ∙ append-nil walk.ends.items in
    let among : AreNested 0 (outer ++ with_next block next ∷ []) (length walk.ends.items) =
    nested_push 0 outer (with_next block next) (length walk.ends.items) (length walk.ends.items) inner.outer_nested (omega (arith, inner.outside)) (omega (arith, inner.outside)) in (
      ap (λ (bs : List OpenBlock). levels_from 0 bs new.ends.items) blocks ∙ ap (levels_from 0 (outer ++ with_next block next ∷ [])) more
          ∙ level_opened 0 outer (with_next block next) walk.ends.items inner.outside,
      subst (λ (bs : List OpenBlock). AreNested 0 bs (length new.ends.items)) (sym blocks) (subst (λ (es : List ℕ). AreNested 0 (outer ++ with_next block next ∷ []) (length es)) (sym more) among),
    )
passed_levels walk new outer block next (Some end) inner blocks ends =
    let more : length new.ends.items ≡ length walk.ends.items + 1 = ap length ends ∙ length-append walk.ends.items (end ∷ []) in
    let within : last_outside 0 outer ≤ length new.ends.items = omega (arith, more, nested_within 0 outer (length walk.ends.items) inner.outer_nested) in (
      ap (λ (bs : List OpenBlock). levels_from 0 bs new.ends.items) blocks ∙ ap (levels_from 0 outer) ends ∙ level_ended 0 outer walk.ends.items end inner.outer_nested,
      subst (λ (bs : List OpenBlock). AreNested 0 bs (length new.ends.items)) (sym blocks) (nested_among 0 outer (length walk.ends.items) (length new.ends.items) inner.outer_nested within),
    )
