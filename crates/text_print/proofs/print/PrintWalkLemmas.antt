-- One step of a traversal.
use Rattle.std.proofs.Common.{ℕ, suc, ◌≡◌, ◌+◌, ◌-◌, ◌<◌, ◌≤◌, ◌∙◌, true, false, cond, List, [], ◌∷◌, ◌++◌, length, drop, reverse, get_or, set, replicate, refl, sym, ap, subst, arith, append-nil, Option, Some, None, ℤ, pos, length-set}
use Rattle.std.specs.Prelude.{All, Contains, IsTrue, Bool, slice_get, option_to_list, codes}
use Rattle.std.proofs.lemmas.List.{length-append, length-replicate, length-map}
use Rattle.std.proofs.lemmas.List.Elements.{All-nil, All-push, All-pop, All-contains}
use Rattle.std.proofs.lemmas.Option.{slice_get-get_or}
use Rattle.base_data.specs.declared.model.value.Val.{Val}
use Rattle.base_data.specs.declared.model.value.Val.TheVariants as vals
use Rattle.base_data.specs.declared.model.value.Obj.{Obj}
use Rattle.base_data.specs.declared.model.value.Obj.TheVariants as objects
use Rattle.base_data.specs.model.Graph.{IsValue, IsObject, IsGraph}
use Rattle.base_data.proofs.model.Options.{slice_get-Contains}
use Rattle.types_spec.specs.types.Fitting.{or_none, is_asked, fields_of as needed_of}
use Rattle.types_spec.proofs.types.TypeAskedLemmas.{is_needed}
use Rattle.types_theory.proofs.table.TableFieldLemmas.{fields_there}
use Rattle.types_table.specs.declared.type_table.tabled.Tabled.{Tabled}
use Rattle.types_table.specs.type_table.Made.{table_of, IsLawful}
use Rattle.marshal_heap.specs.heap.Heap.{object_at, fields_of, field_at, word_of, IsFieldWord}
use Rattle.marshal_heap.proofs.heap.HeapReadLemmas.{field_word-at, word_of-inj}
use Rattle.check_heap.specs.fits.Needs.{needs_in}
use Rattle.text_print.specs.leaves.Frames.{Frame, frame_of, before_part, int_text, object_text, wildcard_text}
use Rattle.text_print.specs.leaves.FrameView.{frame_in}
use Rattle.text_print.specs.show.TextChunks.{TextChunk, Text, First, Again, has, firsts}
use Rattle.text_print.specs.show.ShownValues.{Met, met, led_by, asked_met, object_met, parts_from}
use Rattle.text_print.specs.show.TableShapes.{shape_in, names_in}
use Rattle.text_print.specs.print.Typed.{IsTypedAt}
use Rattle.text_print.specs.declared.print.open_block.OpenBlock.{OpenBlock}
use Rattle.text_print.specs.declared.print.print_walk.PrintStep.{PrintStep}
use Rattle.text_print.specs.declared.print.print_walk.PrintStep.TheVariants as steps
use Rattle.text_print.specs.declared.print.print_walk.PrintWalk.{PrintWalk}
use Rattle.text_print.specs.print.PrintLevels.{Level, Open, Ended, end_text, levels_from, levels_of, last_outside, AreNested, IsLastEnd, with_next, blocks_after, level_after}
use Rattle.text_print.specs.print.PrintWalk.{how_many, meet, parts_left, left_of, step_chunks, IsStep, IsPart, IsOpen, IsBegun, IsWalk, Goes}
use Rattle.text_print.proofs.print.PrintLevelLemmas.{level_opened, nested_push, same_levels, same_nested, no_levels, no_nested, end_level, IsInnermost, closed_levels, passed_levels}
use Rattle.text_print.proofs.print.PrintLeftLemmas.{value_left, block_left, closing_left, before_left, IsAt, no_parts, is_after}
use Rattle.text_print.proofs.print.PrintMarkLemmas.{reversed_more, marked_more, how_many_none, how_many_within, how_many_set, no_marks}
use Rattle.text_print.proofs.print.PrintTypedLemmas.{integer_fits, there, named_below, wildcard_at, part_typed}

pub field_word_at : (graph : List Obj) (words : List ℕ) (i : ℕ) → All (IsFieldWord graph) words → i < length words → IsFieldWord graph (get_or words i 0)
field_word_at graph words i valid inside = All-contains (IsFieldWord graph) words (get_or words i 0) valid (slice_get-Contains words i (get_or words i 0) (slice_get-get_or words i 0 inside))

module _ (table : Tabled) (graph : List Obj) where
  -- If a traversal is valid, then there are at most as many levels as objects, because the blocks
  -- of all levels were visited.
  pub few_levels : (walk : PrintWalk) → IsWalk table graph walk → length (levels_of walk) ≤ length graph
  few_levels walk is = omega (arith, is.depth, is.counted, is.many, how_many_within walk.marks.items)

  -- If the next value opens no block, then the step of the value takes the value's chunks.
  pub value_goes : (walk new : PrintWalk) (v : Val) (t : ℕ) (step : PrintStep) → IsWalk table graph walk → levels_of new ≡ levels_of walk → new.value ≡ None
      → meet table graph (suc (length graph - length (levels_of walk))) (reverse walk.order) v t ≡ led_by (step_chunks table graph step) (met [] (reverse new.order))
      → new.order ≡ walk.order ++ firsts (step_chunks table graph step) → IsStep table graph step → IsWalk table graph new
      → Goes table graph (left_of table graph (levels_of walk) (Some (v, t)) walk.order) walk.order step new
  value_goes walk new v t step is levels none meets order valid is_new = record {
    chunks = value_left table graph (levels_of walk) v t walk.order new.order (step_chunks table graph step) (few_levels walk is) meets
        ∙ ap (λ ls. step_chunks table graph step ++ left_of table graph ls None new.order) (sym levels)
        ∙ ap (λ value. step_chunks table graph step ++ left_of table graph (levels_of new) value new.order) (sym none);
    order = order;
    valid = valid;
    walk = is_new;
  }

  -- ---- values at wildcard types

  pub meet_wildcard : (k : ℕ) (seen : List ℕ) (v : Val) (t : ℕ) → is_asked (shape_in table t) ≡ false → meet table graph (suc k) seen v t ≡ met (Text wildcard_text ∷ []) seen
  meet_wildcard k seen v t wildcard = ap (λ b. cond b (asked_met (shape_in table) (names_in table) graph (meet table graph k) seen v t) (met (Text wildcard_text ∷ []) seen)) wildcard

  pub wildcard_goes : (walk : PrintWalk) (v : Val) (t : ℕ) → IsWalk table graph walk → walk.value ≡ None → is_asked (shape_in table t) ≡ false
      → Goes table graph (left_of table graph (levels_of walk) (Some (v, t)) walk.order) walk.order steps.Wildcard walk
  wildcard_goes walk v t is none wildcard =
      value_goes walk walk v t steps.Wildcard is refl none (meet_wildcard (length graph - length (levels_of walk)) (reverse walk.order) v t wildcard) (sym (append-nil walk.order)) tt is

  pub meet_asked : (k : ℕ) (seen : List ℕ) (v : Val) (t : ℕ) → IsTrue (is_asked (shape_in table t))
      → meet table graph (suc k) seen v t ≡ asked_met (shape_in table) (names_in table) graph (meet table graph k) seen v t
  meet_asked k seen v t asked = ap (λ b. cond b (asked_met (shape_in table) (names_in table) graph (meet table graph k) seen v t) (met (Text wildcard_text ∷ []) seen)) asked

  -- ---- values that are not objects, and objects that occur again

  pub integer_goes : (walk : PrintWalk) (v : Val) (z : ℤ) (t : ℕ) → v ≡ vals.Int z → IsWalk table graph walk → walk.value ≡ None → IsTypedAt (table_of table) graph v t → IsTrue (is_asked (shape_in table t))
      → Goes table graph (left_of table graph (levels_of walk) (Some (v, t)) walk.order) walk.order (steps.Integer z t) walk
  integer_goes walk v z t v_is is none typed asked =
      let meets : meet table graph (suc (length graph - length (levels_of walk))) (reverse walk.order) v t ≡ met (Text (int_text (shape_in table t) (names_in table t) z) ∷ []) (reverse walk.order) =
      meet_asked (length graph - length (levels_of walk)) (reverse walk.order) v t asked
      ∙ ap (λ x. asked_met (shape_in table) (names_in table) graph (meet table graph (length graph - length (levels_of walk))) (reverse walk.order) x t) v_is in
      value_goes walk walk v t (steps.Integer z t) is refl none meets (sym (append-nil walk.order))
      (typed.number, integer_fits (table_of table) graph z t (subst (λ x. IsTypedAt (table_of table) graph x t) v_is typed)) is

  pub atom_goes : (walk : PrintWalk) (v : Val) (tag t : ℕ) → v ≡ vals.Atom tag → IsWalk table graph walk → walk.value ≡ None → IsTrue (is_asked (shape_in table t))
      → Goes table graph (left_of table graph (levels_of walk) (Some (v, t)) walk.order) walk.order steps.Empty walk
  atom_goes walk v tag t v_is is none asked =
      let meets : meet table graph (suc (length graph - length (levels_of walk))) (reverse walk.order) v t ≡ met (Text (codes "[||]") ∷ []) (reverse walk.order) =
      meet_asked (length graph - length (levels_of walk)) (reverse walk.order) v t asked
      ∙ ap (λ x. asked_met (shape_in table) (names_in table) graph (meet table graph (length graph - length (levels_of walk))) (reverse walk.order) x t) v_is in
      value_goes walk walk v t steps.Empty is refl none meets (sym (append-nil walk.order)) tt is

  -- The chunks of the first visit of an object.
  abbrev first_met : ℕ → List ℕ → ℕ → ℕ → Met
  first_met k seen o t = object_met (shape_in table) (names_in table) graph (meet table graph k) (o ∷ seen) o t (slice_get graph o)

  met_marked : (k : ℕ) (seen : List ℕ) (o t : ℕ) → IsTrue (is_asked (shape_in table t)) → has seen o ≡ true → meet table graph (suc k) seen (vals.Ref o) t ≡ met (Again o ∷ []) seen
  met_marked k seen o t asked marked = meet_asked k seen (vals.Ref o) t asked ∙ ap (λ b. cond b (met (Again o ∷ []) seen) (first_met k seen o t)) marked

  pub met_unmarked : (k : ℕ) (seen : List ℕ) (o t : ℕ) → IsTrue (is_asked (shape_in table t)) → has seen o ≡ false → meet table graph (suc k) seen (vals.Ref o) t ≡ first_met k seen o t
  met_unmarked k seen o t asked unmarked = meet_asked k seen (vals.Ref o) t asked ∙ ap (λ b. cond b (met (Again o ∷ []) seen) (first_met k seen o t)) unmarked

  pub again_goes : (walk : PrintWalk) (v : Val) (o t : ℕ) → v ≡ vals.Ref o → IsWalk table graph walk → walk.value ≡ None → o < length graph → get_or walk.marks.items o false ≡ true → IsTrue (is_asked (shape_in table t))
      → Goes table graph (left_of table graph (levels_of walk) (Some (v, t)) walk.order) walk.order (steps.Again o) walk
  again_goes walk v o t v_is is none inside marked asked =
      let k = length graph - length (levels_of walk) in
      let seen = reverse walk.order in
      let meets : meet table graph (suc k) seen v t ≡ met (Again o ∷ []) seen =
      ap (λ x. meet table graph (suc k) seen x t) v_is ∙ met_marked k seen o t asked (sym (is.marked o) ∙ marked) in
      value_goes walk walk v t (steps.Again o) is refl none meets (sym (append-nil walk.order)) inside is

  -- ---- first visits of objects

  pub record IsMarked (walk new : PrintWalk) (o : ℕ) : Type 0 where
    pub value : new.value ≡ None
    pub blocks : new.stack.items ≡ walk.stack.items
    pub ends : new.ends.items ≡ walk.ends.items
    pub marks : new.marks.items ≡ set walk.marks.items o true
    pub order : new.order ≡ walk.order ++ o ∷ []

  pub marked_walk : (walk new : PrintWalk) (o : ℕ) → IsWalk table graph walk → o < length graph → get_or walk.marks.items o false ≡ false → IsMarked walk new o → IsWalk table graph new
  marked_walk walk new o is inside unmet marked =
      let there : o < length walk.marks.items = omega (arith, is.many) in
      let one_more : length (walk.order ++ o ∷ []) ≡ suc (length walk.order) = omega (arith, length-append walk.order (o ∷ [])) in record {
        is_graph = is.is_graph;
        value = rw marked.value tt;
        blocks = subst (All (IsOpen table graph)) (sym marked.blocks) is.blocks;
        nested = same_nested walk new marked.blocks marked.ends is.nested;
        many = ap length marked.marks ∙ length-set walk.marks.items o true ∙ is.many;
        marked = rw (marked.marks, marked.order) (marked_more walk.marks.items walk.order o there is.marked);
        counted = ap how_many marked.marks ∙ how_many_set walk.marks.items o there unmet ∙ ap suc is.counted ∙ sym (ap length marked.order ∙ one_more);
        inside = subst (All (λ x. x < length graph)) (sym marked.order) (All-push (λ x. x < length graph) walk.order o is.inside inside);
        depth = omega (arith, is.depth, ap length (same_levels walk new marked.blocks marked.ends), ap length marked.order, one_more);
      }

  leaf_met : (meets : List ℕ → Val → ℕ → Met) (seen : List ℕ) (o t : ℕ) (object : Obj) → ((tag : ℕ) (values : List Val) → object ≡ objects.Block tag values → ⊥)
      → object_met (shape_in table) (names_in table) graph meets seen o t (Some object) ≡ met (First o ∷ Text (object_text (shape_in table t) (names_in table t) object) ∷ []) seen
  leaf_met meets seen o t (objects.Block tag values) no_block = absurd (no_block tag values refl)
  leaf_met meets seen o t (objects.Bytes bytes) no_block = refl
  leaf_met meets seen o t (objects.Double bits) no_block = refl
  leaf_met meets seen o t (objects.Doubles all) no_block = refl
  leaf_met meets seen o t (objects.I32 z) no_block = refl
  leaf_met meets seen o t (objects.I64 z) no_block = refl
  leaf_met meets seen o t (objects.Native z) no_block = refl

  object_there : (o : ℕ) → o < length graph → slice_get graph o ≡ Some (object_at graph o)
  object_there o inside = slice_get-get_or graph o (objects.I32 (pos 0)) inside

  pub met_leaf : (k : ℕ) (seen : List ℕ) (o t : ℕ) → o < length graph → IsTrue (is_asked (shape_in table t)) → has seen o ≡ false → ((tag : ℕ) (values : List Val) → object_at graph o ≡ objects.Block tag values → ⊥)
      → meet table graph (suc k) seen (vals.Ref o) t ≡ met (First o ∷ Text (object_text (shape_in table t) (names_in table t) (object_at graph o)) ∷ []) (o ∷ seen)
  met_leaf k seen o t inside asked unmarked no_block =
      met_unmarked k seen o t asked unmarked
      ∙ ap (object_met (shape_in table) (names_in table) graph (meet table graph k) (o ∷ seen) o t) (object_there o inside)
      ∙ leaf_met (meet table graph k) (o ∷ seen) o t (object_at graph o) no_block

  pub leaf_goes : (walk new : PrintWalk) (o t : ℕ) → IsWalk table graph walk → o < length graph → t < length table.nodes → get_or walk.marks.items o false ≡ false → IsMarked walk new o
      → ((tag : ℕ) (values : List Val) → object_at graph o ≡ objects.Block tag values → ⊥) → IsTrue (is_asked (shape_in table t))
      → Goes table graph (left_of table graph (levels_of walk) (Some (vals.Ref o, t)) walk.order) walk.order (steps.Leaf o t) new
  leaf_goes walk new o t is inside number unmet marked no_block asked =
      let k = length graph - length (levels_of walk) in
      let seen = reverse walk.order in
      let p : List TextChunk = First o ∷ Text (object_text (shape_in table t) (names_in table t) (object_at graph o)) ∷ [] in
      let later : reverse new.order ≡ o ∷ seen = ap reverse marked.order ∙ reversed_more walk.order o in
      let meets : meet table graph (suc k) seen (vals.Ref o) t ≡ met p (reverse new.order) =
      met_leaf k seen o t inside asked (sym (is.marked o) ∙ unmet) no_block ∙ ap (met p) (sym later) in
      value_goes walk new (vals.Ref o) t (steps.Leaf o t) is (same_levels walk new marked.blocks marked.ends) marked.value meets marked.order (inside, number) (marked_walk walk new o is inside unmet marked)

  pub opening_met : (k : ℕ) (seen : List ℕ) (o t tag : ℕ) (outside : ℕ) (block : OpenBlock) → o < length graph → object_at graph o ≡ objects.Block tag (fields_of (object_at graph o)) → IsBegun table graph o t tag outside block
      → first_met k seen o t ≡ led_by (First o ∷ Text (frame_in block.frame).opening ∷ []) (parts_left table graph k block (o ∷ seen))
  opening_met k seen o t tag outside block inside is begun =
      let S = shape_in table in
      let N = names_in table in
      let frame = frame_of (S t) (N t) tag (fields_of (object_at graph o)) in
      let needs = or_none (needed_of graph (vals.Ref o) (S t)) in
      let P = λ (f : Frame) (object next : ℕ) (ns : List (ℕ × ℕ)). led_by (First o ∷ Text f.opening ∷ []) (parts_from S N graph (meet table graph k) f (vals.Ref object) next (drop next ns) (o ∷ seen)) in
      ap (object_met S N graph (meet table graph k) (o ∷ seen) o t) (object_there o inside ∙ ap Some is)
      ∙ ap (λ f. P f o 0 needs) (sym begun.frame)
      ∙ ap (λ x. P (frame_in block.frame) x 0 needs) (sym begun.object)
      ∙ ap (λ x. P (frame_in block.frame) block.object x needs) (sym begun.next)
      ∙ ap (P (frame_in block.frame) block.object block.next) (sym begun.needs)

  pub opening_goes : (walk marked new : PrintWalk) (block : OpenBlock) (o t tag : ℕ) → IsWalk table graph walk → o < length graph → get_or walk.marks.items o false ≡ false → IsMarked walk marked o
      → object_at graph o ≡ objects.Block tag (fields_of (object_at graph o)) → IsBegun table graph o t tag (length marked.ends.items) block
      → new.value ≡ None → new.marks.items ≡ marked.marks.items → new.order ≡ marked.order → new.stack.items ≡ marked.stack.items ++ block ∷ [] → new.ends.items ≡ marked.ends.items → IsTrue (is_asked (shape_in table t))
      → Goes table graph (left_of table graph (levels_of walk) (Some (vals.Ref o, t)) walk.order) walk.order (steps.Opening o block.frame) new
  opening_goes walk marked new block o t tag is inside unmet is_marked is_block begun value marks order blocks ends asked =
      let k = length graph - length (levels_of walk) in
      let seen = reverse walk.order in
      let p : List TextChunk = First o ∷ Text (frame_in block.frame).opening ∷ [] in
      let all : new.order ≡ walk.order ++ o ∷ [] = order ∙ is_marked.order in
      let later : reverse new.order ≡ o ∷ seen = ap reverse all ∙ reversed_more walk.order o in
      let meets : meet table graph (suc k) seen (vals.Ref o) t ≡ led_by p (parts_left table graph k block (reverse new.order)) =
      met_unmarked k seen o t asked (sym (is.marked o) ∙ unmet) ∙ opening_met k seen o t tag (length marked.ends.items) block inside is_block begun ∙ ap (λ s. led_by p (parts_left table graph k block s)) (sym later) in
      let m = marked_walk walk marked o is inside unmet is_marked in
      let deeper : levels_of new ≡ levels_of walk ++ Open block ∷ [] =
      ap (λ (bs : List OpenBlock). levels_from 0 bs new.ends.items) blocks ∙ ap (levels_from 0 (marked.stack.items ++ block ∷ [])) ends
      ∙ level_opened 0 marked.stack.items block marked.ends.items begun.outside
      ∙ ap (λ (ls : List Level). ls ++ Open block ∷ []) (same_levels walk marked is_marked.blocks is_marked.ends) in
      let among : AreNested 0 (marked.stack.items ++ block ∷ []) (length marked.ends.items) =
      nested_push 0 marked.stack.items block (length marked.ends.items) (length marked.ends.items) m.nested (omega (arith, begun.outside)) (omega (arith, begun.outside)) in record {
        chunks = block_left table graph (levels_of walk) block (vals.Ref o) t walk.order new.order p (few_levels walk is) meets
            ∙ ap (λ ls. p ++ left_of table graph ls None new.order) (sym deeper)
            ∙ ap (λ x. p ++ left_of table graph (levels_of new) x new.order) (sym value);
        order = all;
        valid = inside;
        walk = record {
          is_graph = is.is_graph;
          value = rw value tt;
          blocks = subst (All (IsOpen table graph)) (sym blocks) (All-push (IsOpen table graph) marked.stack.items block m.blocks begun.is_open);
          nested = subst (λ (bs : List OpenBlock). AreNested 0 bs (length new.ends.items)) (sym blocks) (subst (λ (es : List ℕ). AreNested 0 (marked.stack.items ++ block ∷ []) (length es)) (sym ends) among);
          many = ap length marks ∙ m.many;
          marked = rw (marks, order) m.marked;
          counted = ap how_many marks ∙ m.counted ∙ sym (ap length order);
          inside = subst (All (λ x. x < length graph)) (sym order) m.inside;
          depth = omega (arith, is.depth, ap length deeper, length-append (levels_of walk) (Open block ∷ []), ap length all, length-append walk.order (o ∷ []));
        };
      }

  -- ---- steps without a next value

  -- The innermost level, which has only its end left, is removed.
  pub record IsClosed (walk new : PrintWalk) (level : Level) (end : ℕ) : Type 0 where
    pub value : new.value ≡ None
    pub levels : levels_of walk ≡ levels_of new ++ level ∷ []
    pub is_at : IsAt table graph level end
    pub blocks : All (IsOpen table graph) new.stack.items
    pub nested : AreNested 0 new.stack.items (length new.ends.items)
    pub marks : new.marks.items ≡ walk.marks.items
    pub order : new.order ≡ walk.order

  one_less : (walk : PrintWalk) (outer : List Level) (level : Level) → IsWalk table graph walk → levels_of walk ≡ outer ++ level ∷ [] → length outer < length graph
  one_less walk outer level is levels = omega (arith, few_levels walk is, ap length levels, length-append outer (level ∷ []))

  pub closing_goes : (walk new : PrintWalk) (level : Level) (end : ℕ) → IsWalk table graph walk → IsClosed walk new level end
      → Goes table graph (left_of table graph (levels_of walk) None walk.order) walk.order (steps.Closing end) new
  closing_goes walk new level end is closed =
      let outer = levels_of new in
      let p : List TextChunk = Text (end_text end) ∷ [] in
      let less = one_less walk outer level is closed.levels in record {
        chunks = ap (λ ls. left_of table graph ls None walk.order) closed.levels
            ∙ closing_left table graph outer level end walk.order (omega (arith, less)) closed.is_at
            ∙ ap (λ o. p ++ left_of table graph outer None o) (sym closed.order)
            ∙ ap (λ x. p ++ left_of table graph outer x new.order) (sym closed.value);
        order = closed.order ∙ sym (append-nil walk.order);
        valid = tt;
        walk = record {
          is_graph = is.is_graph;
          value = rw closed.value tt;
          blocks = closed.blocks;
          nested = closed.nested;
          many = ap length closed.marks ∙ is.many;
          marked = rw (closed.marks, closed.order) is.marked;
          counted = ap how_many closed.marks ∙ is.counted ∙ sym (ap length closed.order);
          inside = subst (All (λ x. x < length graph)) (sym closed.order) is.inside;
          depth = omega (arith, is.depth, ap length closed.levels, length-append outer (level ∷ []), ap length closed.order);
        };
      }

  -- If the innermost level is an end, then the step of the end takes the end's chunk.
  pub end_goes : (walk new : PrintWalk) (end : ℕ) → IsWalk table graph walk → last_outside 0 walk.stack.items < length walk.ends.items → new.value ≡ None → new.stack.items ≡ walk.stack.items
      → walk.ends.items ≡ new.ends.items ++ end ∷ [] → new.marks.items ≡ walk.marks.items → new.order ≡ walk.order
      → Goes table graph (left_of table graph (levels_of walk) None walk.order) walk.order (steps.Closing end) new
  end_goes walk new end is some value blocks ends marks order =
      let both = end_level walk new end is.nested some blocks ends in
      closing_goes walk new (Ended end) end is (record {
        value = value;
        levels = both.0;
        is_at = λ n seen. refl;
        blocks = subst (All (IsOpen table graph)) (sym blocks) is.blocks;
        nested = both.1;
        marks = marks;
        order = order;
      })

  pub block_open : (walk : PrintWalk) (outer : List OpenBlock) (block : OpenBlock) → IsWalk table graph walk → walk.stack.items ≡ outer ++ block ∷ [] → All (IsOpen table graph) outer × IsOpen table graph block
  block_open walk outer block is blocks = All-pop (IsOpen table graph) walk.stack.items outer (Some block) blocks is.blocks

  -- If the innermost block has no remaining part, then the step of its end takes the end's chunk.
  pub block_goes : (walk new : PrintWalk) (outer : List OpenBlock) (block : OpenBlock) (end : ℕ) → IsWalk table graph walk → IsInnermost walk outer block → length (needs_in block.needs) ≤ block.next
      → end_text end ≡ (frame_in block.frame).closing → new.value ≡ None → new.stack.items ≡ outer → new.ends.items ≡ walk.ends.items → new.marks.items ≡ walk.marks.items → new.order ≡ walk.order
      → Goes table graph (left_of table graph (levels_of walk) None walk.order) walk.order (steps.Closing end) new
  block_goes walk new outer block end is inner past closing value blocks ends marks order =
      let both = closed_levels walk new outer block inner blocks ends in
      closing_goes walk new (Open block) end is (record {
        value = value;
        levels = both.0;
        is_at = no_parts table graph block end past closing;
        blocks = subst (All (IsOpen table graph)) (sym blocks) (block_open walk outer block is inner.blocks).0;
        nested = both.1;
        marks = marks;
        order = order;
      })

  valid_fields : (n : ℕ) (object : Obj) → IsObject n object → All (IsValue n) (fields_of object)
  valid_fields n (objects.Block tag values) valid = valid.2
  valid_fields n (objects.Bytes bytes) valid = All-nil (IsValue n)
  valid_fields n (objects.Double bits) valid = All-nil (IsValue n)
  valid_fields n (objects.Doubles all) valid = All-nil (IsValue n)
  valid_fields n (objects.I32 z) valid = All-nil (IsValue n)
  valid_fields n (objects.I64 z) valid = All-nil (IsValue n)
  valid_fields n (objects.Native z) valid = All-nil (IsValue n)

  field_valid : (o i : ℕ) → IsGraph graph → o < length graph → i < length (fields_of (object_at graph o)) → IsValue (length graph) (field_at graph o i)
  field_valid o i valid inside short =
      let object : IsObject (length graph) (object_at graph o) = All-contains (IsObject (length graph)) graph (object_at graph o) valid (slice_get-Contains graph o (object_at graph o) (object_there o inside)) in
      All-contains (IsValue (length graph)) (fields_of (object_at graph o)) (field_at graph o i) (valid_fields (length graph) (object_at graph o) object)
      (slice_get-Contains (fields_of (object_at graph o)) i (field_at graph o i) (slice_get-get_or (fields_of (object_at graph o)) i (vals.Int (pos 0)) short))

  no_fields_none : (n tag : ℕ) (values : List Val) → IsObject n (objects.Block tag values) → 0 < length values
  no_fields_none n tag values valid = valid.1

  -- A block of a valid graph has at least one field.
  pub some_fields : (o tag : ℕ) → IsGraph graph → o < length graph → object_at graph o ≡ objects.Block tag (fields_of (object_at graph o)) → 0 < length (fields_of (object_at graph o))
  some_fields o tag valid inside is =
      no_fields_none (length graph) tag (fields_of (object_at graph o))
      (subst (IsObject (length graph)) is (All-contains (IsObject (length graph)) graph (object_at graph o) valid (slice_get-Contains graph o (object_at graph o) (object_there o inside))))

  -- ---- the parts of an object that is opened

  -- Each part of an object that is opened exists and is typed, at a wildcard type or at another
  -- type.
  pub open_parts : (o t : ℕ) (needs : List (ℕ × ℕ)) → IsGraph graph → o < length graph → IsLawful (table_of table) → IsTypedAt (table_of table) graph (vals.Ref o) t → needs ≡ or_none (needed_of graph (vals.Ref o) (shape_in table t))
      → (k i u : ℕ) → slice_get needs k ≡ Some (i, u) → IsPart table graph o i u
  open_parts o t needs is_graph inside lawful typed is k i u at_k = by (is_asked (shape_in table u)) refl where
    among : Contains (or_none (needed_of graph (vals.Ref o) (shape_in table t))) (i, u)
    among = subst (λ (ns : List (ℕ × ℕ)). Contains ns (i, u)) is (slice_get-Contains needs k (i, u) at_k)

    by : (test : Bool) → is_asked (shape_in table u) ≡ test → IsPart table graph o i u
    by true asked =
        let part = part_typed (table_of table) graph lawful o t i u typed (is_needed (shape_in table) (or_none (needed_of graph (vals.Ref o) (shape_in table t))) i u among asked) in
        let here = there graph o i part.0 part.1 in record {
          there = here.inside;
          field = part.1 ∙ ap Some (sym here.is);
          typed = subst (λ v. IsTypedAt (table_of table) graph v u) (sym here.is) part.2;
        }
    by false wildcard =
        let part = fields_there (shape_in table t) graph (vals.Ref o) i u among in
        let here = there graph o i part.0 part.1 in record {
          there = here.inside;
          field = part.1 ∙ ap Some (sym here.is);
          typed = wildcard_at (table_of table) graph (field_at graph o i) u (field_valid o i is_graph inside here.inside)
              (named_below (table_of table) graph lawful i u (shape_in table t) (vals.Ref o) (slice_get table.nodes t) t refl among typed.number) wildcard;
        }

  -- If a value is decoded from the word of a field, then the value is the field.
  pub word_is_field : (block : OpenBlock) (i : ℕ) (v : Val) → IsGraph graph → IsOpen table graph block → i < length (fields_of (object_at graph block.object))
      → IsValue (length graph) v → get_or block.fields.now i 0 ≡ word_of graph v → v ≡ field_at graph block.object i
  word_is_field block i v valid is short is_value word =
      word_of-inj graph v (field_at graph block.object i) valid is_value (field_valid block.object i valid is.inside short)
      (sym word ∙ ap (λ ws. get_or ws i 0) is.words ∙ field_word-at graph (fields_of (object_at graph block.object)) i (vals.Int (pos 0)) short)

  pub words_many : (block : OpenBlock) → IsOpen table graph block → length block.fields.now ≡ length (fields_of (object_at graph block.object))
  words_many block is = ap length is.words ∙ length-map (fields_of (object_at graph block.object)) (word_of graph)

  -- The next part of the innermost block becomes the next value.
  pub record IsAdvanced (walk new : PrintWalk) (outer : List OpenBlock) (block : OpenBlock) (i t : ℕ) (v : Val) (end : Option ℕ) : Type 0 where
    pub value : new.value ≡ Some (v, t)
    pub blocks : new.stack.items ≡ blocks_after outer (with_next block (block.next + 1)) end
    pub ends : new.ends.items ≡ walk.ends.items ++ option_to_list end
    pub marks : new.marks.items ≡ walk.marks.items
    pub order : new.order ≡ walk.order
    pub need : slice_get (needs_in block.needs) block.next ≡ Some (i, t)
    pub part : v ≡ field_at graph block.object i
    pub last : IsLastEnd block end

  pub still_open : (block : OpenBlock) (next : ℕ) → IsOpen table graph block → IsOpen table graph (with_next block next)
  still_open block next is = record { inside = is.inside; words = is.words; valid = is.valid; parts = is.parts }

  open_after : (outer : List OpenBlock) (block : OpenBlock) (next : ℕ) (end : Option ℕ) → All (IsOpen table graph) outer → IsOpen table graph block → All (IsOpen table graph) (blocks_after outer (with_next block next) end)
  open_after outer block next None all is = All-push (IsOpen table graph) outer (with_next block next) all (still_open block next is)
  open_after outer block next (Some end) all is = all

  pub part_goes : (walk new : PrintWalk) (outer : List OpenBlock) (block : OpenBlock) (i t : ℕ) (v : Val) (end : Option ℕ) → IsWalk table graph walk → IsInnermost walk outer block → IsValue (length graph) v
      → IsAdvanced walk new outer block i t v end
      → Goes table graph (left_of table graph (levels_of walk) None walk.order) walk.order (steps.Before block.frame block.next) new
  part_goes walk new outer block i t v end is inner value advanced =
      let p : List TextChunk = Text (before_part (frame_in block.frame) block.next) ∷ [] in
      let both = block_open walk outer block is inner.blocks in
      let part = both.1.parts block.next i t advanced.need in
      let levels = levels_from 0 outer walk.ends.items in
      let level = level_after (with_next block (block.next + 1)) end in
      let passed = passed_levels walk new outer block (block.next + 1) end inner advanced.blocks advanced.ends in record {
        chunks = ap (λ ls. left_of table graph ls None walk.order) inner.level
            ∙ before_left table graph levels block level walk.order i t v (one_less walk levels (Open block) is inner.level) advanced.need (part.field ∙ ap Some (sym advanced.part)) (is_after table graph block end advanced.last)
            ∙ ap (λ ls. p ++ left_of table graph ls (Some (v, t)) walk.order) (sym passed.0)
            ∙ ap (λ o. p ++ left_of table graph (levels_of new) (Some (v, t)) o) (sym advanced.order)
            ∙ ap (λ x. p ++ left_of table graph (levels_of new) x new.order) (sym advanced.value);
        order = advanced.order ∙ sym (append-nil walk.order);
        valid = tt;
        walk = record {
          is_graph = is.is_graph;
          value = rw advanced.value (value, subst (λ x. IsTypedAt (table_of table) graph x t) (sym advanced.part) part.typed);
          blocks = subst (All (IsOpen table graph)) (sym advanced.blocks) (open_after outer block (block.next + 1) end both.0 both.1);
          nested = passed.1;
          many = ap length advanced.marks ∙ is.many;
          marked = rw (advanced.marks, advanced.order) is.marked;
          counted = ap how_many advanced.marks ∙ is.counted ∙ sym (ap length advanced.order);
          inside = subst (All (λ x. x < length graph)) (sym advanced.order) is.inside;
          depth = omega (arith, is.depth, ap length inner.level, length-append levels (Open block ∷ []), ap length passed.0, length-append levels (level ∷ []), ap length advanced.order);
        };
      }

  -- ---- the first step

  pub first_walk : (walk : PrintWalk) (v : Val) (t : ℕ) → walk.value ≡ Some (v, t) → walk.stack.items ≡ [] → walk.ends.items ≡ [] → walk.marks.items ≡ replicate (length graph) false → walk.order ≡ []
      → IsGraph graph → IsValue (length graph) v → IsTypedAt (table_of table) graph v t → IsWalk table graph walk
  first_walk walk v t value blocks ends marks order is_graph is_value typed = record {
    is_graph = is_graph;
    value = rw value (is_value, typed);
    blocks = subst (All (IsOpen table graph)) (sym blocks) (All-nil (IsOpen table graph));
    nested = no_nested walk blocks;
    many = ap length marks ∙ length-replicate (length graph) false;
    marked = rw (marks, order) (no_marks (length graph));
    counted = ap how_many marks ∙ how_many_none (length graph) ∙ sym (ap length order);
    inside = subst (All (λ x. x < length graph)) (sym order) (All-nil (λ x. x < length graph));
    depth = omega (arith, ap length (no_levels walk blocks ends), ap length order);
  }
