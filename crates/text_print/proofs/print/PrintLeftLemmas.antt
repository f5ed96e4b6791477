-- The remaining chunks of a traversal, step by step.
use Rattle.std.proofs.Common.{ℕ, zero, suc, ◌≡◌, ◌+◌, ◌-◌, ◌<◌, ◌≤◌, ◌∙◌, List, [], ◌∷◌, ◌++◌, length, drop, reverse, refl, sym, ap, arith, append_assoc, Option, Some, None}
use Rattle.std.specs.Prelude.{slice_get}
use Rattle.std.proofs.lemmas.List.{length-append, drop_all}
use Rattle.std.proofs.lemmas.Option.{none-some, same_Some}
use Rattle.base_data.specs.declared.model.value.Val.{Val}
use Rattle.base_data.specs.declared.model.value.Val.TheVariants as vals
use Rattle.base_data.specs.declared.model.value.Obj.{Obj}
use Rattle.types_spec.specs.types.Typing.{field_at as typed_field}
use Rattle.types_table.specs.declared.type_table.tabled.Tabled.{Tabled}
use Rattle.check_heap.specs.fits.Needs.{needs_in}
use Rattle.text_print.specs.leaves.Frames.{before_part}
use Rattle.text_print.specs.leaves.FrameView.{frame_in}
use Rattle.text_print.specs.show.TextChunks.{TextChunk, Text}
use Rattle.text_print.specs.show.ShownValues.{Met, met, led_by, parts_from, chunks_of}
use Rattle.text_print.specs.show.TableShapes.{shape_in, names_in}
use Rattle.text_print.specs.declared.print.open_block.OpenBlock.{OpenBlock}
use Rattle.text_print.specs.print.PrintLevels.{Level, Open, end_text, IsLastEnd, with_next, level_after}
use Rattle.text_print.specs.print.PrintWalk.{needs_left, meet, parts_left, parts_after, level_left, after_inner, left_of}

module _ (table : Tabled) (graph : List Obj) where
  -- ---- the levels

  -- If chunks come first inside the levels, then the chunks come first among the remaining chunks.
  prefix : (n : ℕ) (levels : List Level) (p : List TextChunk) (m : Met) → after_inner table graph n levels (led_by p m) ≡ led_by p (after_inner table graph n levels m)
  prefix n [] p m = refl
  prefix zero (level ∷ levels) p m = refl
  prefix (suc n) (level ∷ levels) p m =
      let k = after_inner table graph n levels m in
      ap (λ (x : Met). led_by x.chunks (level_left table graph n level x.seen)) (prefix n levels p m)
      ∙ ap (λ ps. met ps (level_left table graph n level k.seen).seen) (append_assoc p k.chunks (level_left table graph n level k.seen).chunks)

  -- The chunks of the innermost level come before the chunks of the outer levels.
  innermost : (n k : ℕ) (levels : List Level) (level : Level) (m : Met) → n ≡ length levels + suc k
      → after_inner table graph n (levels ++ level ∷ []) m ≡ after_inner table graph n levels (led_by m.chunks (level_left table graph k level m.seen))
  innermost zero k levels level m is = absurd (omega arith)
  innermost (suc n) k [] level m is =
      let e : n ≡ k = omega arith in ap (λ i. led_by m.chunks (level_left table graph i level m.seen)) e
  innermost (suc n) k (outer ∷ levels) level m is =
      ap (λ (x : Met). led_by x.chunks (level_left table graph n outer x.seen)) (innermost n k levels level m (omega arith))

  -- ---- values

  room : (d : ℕ) → d ≤ length graph → length graph + 1 - d ≡ suc (length graph - d)
  room d few = omega arith

  -- If the next value opens no block, then its chunks come before the chunks of the levels.
  pub value_left : (levels : List Level) (v : Val) (t : ℕ) (order later : List ℕ) (p : List TextChunk) → length levels ≤ length graph
      → meet table graph (suc (length graph - length levels)) (reverse order) v t ≡ led_by p (met [] (reverse later))
      → left_of table graph levels (Some (v, t)) order ≡ p ++ left_of table graph levels None later
  unfolding left_of
  value_left levels v t order later p few is =
      ap (λ n. (after_inner table graph (length graph + 1) levels (meet table graph n (reverse order) v t)).chunks) (room (length levels) few)
      ∙ ap (λ m. (after_inner table graph (length graph + 1) levels m).chunks) is
      ∙ ap (λ (m : Met). m.chunks) (prefix (length graph + 1) levels p (met [] (reverse later)))

  -- If the next value opens a block, then the chunks that remain after the opening are those of the
  -- levels with the block as the innermost level.
  pub block_left : (levels : List Level) (block : OpenBlock) (v : Val) (t : ℕ) (order later : List ℕ) (p : List TextChunk) → length levels ≤ length graph
      → meet table graph (suc (length graph - length levels)) (reverse order) v t ≡ led_by p (parts_left table graph (length graph - length levels) block (reverse later))
      → left_of table graph levels (Some (v, t)) order ≡ p ++ left_of table graph (levels ++ Open block ∷ []) None later
  unfolding left_of
  block_left levels block v t order later p few is =
      let n = length graph + 1 in
      let k = length graph - length levels in
      ap (λ i. (after_inner table graph n levels (meet table graph i (reverse order) v t)).chunks) (room (length levels) few)
      ∙ ap (λ m. (after_inner table graph n levels m).chunks) is
      ∙ ap (λ (m : Met). m.chunks) (prefix n levels p (parts_left table graph k block (reverse later)))
      ∙ ap (λ (m : Met). p ++ m.chunks) (sym (innermost n k levels (Open block) (met [] (reverse later)) (omega arith)))

  -- ---- parts

  -- The remaining chunk of the level is the text of `end`.
  abbrev pub IsAt : Level → ℕ → Type 0
  IsAt level end = (n : ℕ) (seen : List ℕ) → level_left table graph n level seen ≡ met (Text (end_text end) ∷ []) seen

  pub no_parts : (block : OpenBlock) (end : ℕ) → length (needs_in block.needs) ≤ block.next → end_text end ≡ (frame_in block.frame).closing → IsAt (Open block) end
  no_parts block end past ends n seen =
      let none : needs_left block ≡ [] = drop_all block.next (needs_in block.needs) past in
      ap (λ needs. parts_from (shape_in table) (names_in table) graph (meet table graph n) (frame_in block.frame) (vals.Ref block.object) block.next needs seen) none
      ∙ ap (λ (t : List ℕ). met (Text t ∷ []) seen) (sym ends)

  pub closing_left : (levels : List Level) (level : Level) (end : ℕ) (order : List ℕ) → length levels ≤ length graph → IsAt level end
      → left_of table graph (levels ++ level ∷ []) None order ≡ Text (end_text end) ∷ left_of table graph levels None order
  unfolding left_of
  closing_left levels level end order few is_at =
      let n = length graph + 1 in
      let k = length graph - length levels in
      ap (λ (m : Met). m.chunks) (innermost n k levels level (met [] (reverse order)) (omega arith))
      ∙ ap (λ m. (after_inner table graph n levels m).chunks) (is_at k (reverse order))
      ∙ ap (λ (m : Met). m.chunks) (prefix n levels (Text (end_text end) ∷ []) (met [] (reverse order)))

  -- The remaining chunks of the level are those of the block's parts after the next part.
  abbrev pub IsAfter : OpenBlock → Level → Type 0
  IsAfter block level = (n : ℕ) (seen : List ℕ) → level_left table graph n level seen ≡ parts_after table graph n block seen

  pub is_after : (block : OpenBlock) (end : Option ℕ) → IsLastEnd block end → IsAfter block (level_after (with_next block (block.next + 1)) end)
  is_after block None is n seen =
      let later : block.next + 1 ≡ suc block.next = omega arith in
      ap (λ next. parts_from (shape_in table) (names_in table) graph (meet table graph n) (frame_in block.frame) (vals.Ref block.object) next (drop next (needs_in block.needs)) seen) later
  is_after block (Some end) is n seen =
      let none : drop (suc block.next) (needs_in block.needs) ≡ [] = drop_all (suc block.next) (needs_in block.needs) (omega (arith, is.0)) in
      ap (λ (t : List ℕ). met (Text t ∷ []) seen) is.1
      ∙ ap (λ needs. parts_from (shape_in table) (names_in table) graph (meet table graph n) (frame_in block.frame) (vals.Ref block.object) (suc block.next) needs seen) (sym none)

  -- The remaining chunks of a block are the text before the next part, the chunks of the part, and
  -- the chunks of the later parts.
  pub part_next : (n : ℕ) (block : OpenBlock) (next : Level) (seen : List ℕ) (i t : ℕ) (w : Val) → slice_get (needs_in block.needs) block.next ≡ Some (i, t) → typed_field graph block.object i ≡ Some w → IsAfter block next
      → parts_left table graph n block seen
      ≡ led_by (Text (before_part (frame_in block.frame) block.next) ∷ []) (led_by (meet table graph n seen w t).chunks (level_left table graph n next (meet table graph n seen w t).seen))
  part_next n block next seen i t w at_next field after =
      let split : needs_left block ≡ (i, t) ∷ drop (suc block.next) (needs_in block.needs) = drop_at (needs_in block.needs) block.next (i, t) at_next in
      let m = meet table graph n seen w t in
      rw (split, field) (ap (λ (x : Met). led_by (Text (before_part (frame_in block.frame) block.next) ∷ m.chunks) x) (sym (after n m.seen))) where
        drop_at : {X : Type 0} (xs : List X) (k : ℕ) (x : X) → slice_get xs k ≡ Some x → drop k xs ≡ x ∷ drop (suc k) xs
        drop_at [] k x is = absurd (none-some x is)
        drop_at (y ∷ xs) zero x is = ap (λ z. z ∷ xs) (same_Some y x is)
        drop_at (y ∷ xs) (suc k) x is = drop_at xs k x is

  pub before_left : (levels : List Level) (block : OpenBlock) (next : Level) (order : List ℕ) (i t : ℕ) (w : Val) → length levels < length graph
      → slice_get (needs_in block.needs) block.next ≡ Some (i, t) → typed_field graph block.object i ≡ Some w → IsAfter block next
      → left_of table graph (levels ++ Open block ∷ []) None order ≡ Text (before_part (frame_in block.frame) block.next) ∷ left_of table graph (levels ++ next ∷ []) (Some (w, t)) order
  unfolding left_of
  before_left levels block next order i t w few at_next field after =
      let n = length graph + 1 in
      let k = length graph - length levels in
      let seen = reverse order in
      let p : List TextChunk = Text (before_part (frame_in block.frame) block.next) ∷ [] in
      let m = meet table graph k seen w t in
      let inner : length graph + 1 - length (levels ++ next ∷ []) ≡ k = omega (arith, length-append levels (next ∷ [])) in
      ap (λ (x : Met). x.chunks) (innermost n k levels (Open block) (met [] seen) (omega arith))
      ∙ ap (λ x. (after_inner table graph n levels x).chunks) (part_next k block next seen i t w at_next field after)
      ∙ ap (λ (x : Met). x.chunks) (prefix n levels p (led_by m.chunks (level_left table graph k next m.seen)))
      ∙ ap (λ (x : Met). p ++ x.chunks) (sym (innermost n k levels next m (omega arith)))
      ∙ ap (λ j. p ++ (after_inner table graph n (levels ++ next ∷ []) (meet table graph j seen w t)).chunks) (sym inner)

  pub none_left : (levels : List Level) (order : List ℕ) → levels ≡ [] → left_of table graph levels None order ≡ []
  unfolding left_of
  none_left levels order none = rw none refl

  -- ---- the whole value

  pub start_left : (v : Val) (t : ℕ) → left_of table graph [] (Some (v, t)) [] ≡ chunks_of (shape_in table) (names_in table) graph v t
  unfolding left_of
  start_left v t =
      let whole : length graph + 1 - 0 ≡ length graph + 1 = omega arith in ap (λ n. (meet table graph n [] v t).chunks) whole
