-- The state of a traversal among the chunks of a value.
use Rattle.std.specs.Prelude.{ℕ, suc, zero, ◌+◌, ◌-◌, ◌<◌, ◌≤◌, ◌≡◌, List, [], ◌∷◌, ◌++◌, length}
use Rattle.std.specs.Prelude.{drop, reverse, map, All, Option, None, Some, IfSome, IsTrue}
use Rattle.std.specs.Prelude.{slice_get, slice_index_or, Bool, true, false, codes}
use Rattle.base_data.specs.declared.model.value.Val.{Val}
use Rattle.base_data.specs.declared.model.value.Val.TheVariants as vals
use Rattle.base_data.specs.declared.model.value.Obj.{Obj}
use Rattle.base_data.specs.model.Graph.{IsValue, IsGraph}
use Rattle.types_spec.specs.types.Fitting.{fits_int, or_none, fields_of as needed_of}
use Rattle.types_spec.specs.types.Typing.{field_at as typed_field}
use Rattle.types_table.specs.declared.type_table.tabled.Tabled.{Tabled}
use Rattle.types_table.specs.type_table.Made.{table_of}
use Rattle.marshal_heap.specs.heap.Heap.{object_at, fields_of, field_at, word_of, IsFieldWord}
use Rattle.check_heap.specs.fits.Needs.{needs_in}
use Rattle.text_print.specs.leaves.Frames.{frame_of, before_part, int_text, object_text}
use Rattle.text_print.specs.leaves.Frames.{wildcard_text}
use Rattle.text_print.specs.leaves.FrameView.{frame_in}
use Rattle.text_print.specs.show.TextChunks.{TextChunk, Text, First, Again, has, firsts}
use Rattle.text_print.specs.show.ShownValues.{Met, met, led_by, met_within, parts_from}
use Rattle.text_print.specs.show.TableShapes.{shape_in, names_in}
use Rattle.text_print.specs.print.PrintLevels.{Level, Open, Ended, end_text, levels_of, AreNested}
use Rattle.text_print.specs.print.Typed.{IsTypedAt}
use Rattle.text_print.specs.declared.print.open_block.OpenBlock.{OpenBlock}
use Rattle.text_print.specs.declared.print.print_walk.PrintStep.{PrintStep}
use Rattle.text_print.specs.declared.print.print_walk.PrintStep.TheVariants as steps
use Rattle.text_print.specs.declared.print.print_walk.PrintWalk.{PrintWalk}

-- ---- marks

-- An object has a mark if and only if it was visited.
abbrev pub AreMarked : List Bool → List ℕ → Type 0
AreMarked marks order = (o : ℕ) → slice_index_or marks o false ≡ has (reverse order) o

-- The number of marks that are set.
abbrev pub how_many : List Bool → ℕ
how_many [] = 0
how_many (true ∷ marks) = suc (how_many marks)
how_many (false ∷ marks) = how_many marks

-- ---- the remaining chunks

abbrev pub needs_left : OpenBlock → List (ℕ × ℕ)
needs_left block = drop block.next (needs_in block.needs)

module _ (table : Tabled) (graph : List Obj) where
  abbrev pub meet : ℕ → List ℕ → Val → ℕ → Met
  meet n seen v t = met_within (shape_in table) (names_in table) graph n seen v t

  -- The chunks of a block's remaining parts, for values nested at most `n` deep.
  abbrev pub parts_left : ℕ → OpenBlock → List ℕ → Met
  parts_left n block seen =
      parts_from (shape_in table) (names_in table) graph (meet n) (frame_in block.frame)
      (vals.Ref block.object) block.next (needs_left block) seen

  -- The chunks of a block's remaining parts without the next part, for values nested at most `n`
  -- deep.
  abbrev pub parts_after : ℕ → OpenBlock → List ℕ → Met
  parts_after n block seen =
      parts_from (shape_in table) (names_in table) graph (meet n) (frame_in block.frame)
      (vals.Ref block.object) (suc block.next) (drop (suc block.next) (needs_in block.needs)) seen

  abbrev pub level_left : ℕ → Level → List ℕ → Met
  level_left n (Open block) seen = parts_left n block seen
  level_left n (Ended end) seen = met (Text (end_text end) ∷ []) seen

  -- The chunks of `inside`, followed by the remaining chunks of the levels from the innermost to
  -- the outermost.
  abbrev pub after_inner : ℕ → List Level → Met → Met
  after_inner n [] inside = inside
  after_inner zero (level ∷ levels) inside = inside
  after_inner (suc n) (level ∷ levels) inside =
      let m = after_inner n levels inside in led_by m.chunks (level_left n level m.seen)

  -- The chunks of the next value, or no chunks if there is no next value.
  abbrev pub value_met : ℕ → Option (Val × ℕ) → List ℕ → Met
  value_met n None seen = met [] seen
  value_met n (Some next) seen = meet n seen next.0 next.1

  -- The remaining chunks, after the objects `order` were visited in the order of the list.
  unfoldable pub left_of : List Level → Option (Val × ℕ) → List ℕ → List TextChunk
  left_of levels value order =
      (after_inner (length graph + 1) levels
      (value_met (length graph + 1 - length levels) value (reverse order))).chunks

  abbrev pub chunks_left : PrintWalk → List TextChunk
  chunks_left walk = left_of (levels_of walk) walk.value walk.order

  -- ---- steps

  abbrev pub step_chunks : PrintStep → List TextChunk
  step_chunks (steps.Integer z t) = Text (int_text (shape_in table t) (names_in table t) z) ∷ []
  step_chunks steps.Empty = Text (codes "[||]") ∷ []
  step_chunks steps.Wildcard = Text wildcard_text ∷ []
  step_chunks (steps.Again o) = Again o ∷ []
  step_chunks (steps.Leaf o t) =
      First o ∷ Text (object_text (shape_in table t) (names_in table t) (object_at graph o)) ∷ []
  step_chunks (steps.Opening o frame) = First o ∷ Text (frame_in frame).opening ∷ []
  step_chunks (steps.Before frame i) = Text (before_part (frame_in frame) i) ∷ []
  step_chunks (steps.Closing end) = Text (end_text end) ∷ []

  -- The step refers to existing objects and types, and to integers that match their types.
  abbrev pub IsStep : PrintStep → Type 0
  IsStep (steps.Integer z t) = (t < length table.nodes) × IsTrue (fits_int (shape_in table t) z)
  IsStep (steps.Again o) = o < length graph
  IsStep (steps.Leaf o t) = (o < length graph) × (t < length table.nodes)
  IsStep (steps.Opening o frame) = o < length graph
  IsStep step = Unit {0}

  -- ---- the invariant of a traversal

  -- Field `i` of object `o` exists and has the type with number `t`.
  pub record IsPart (o i t : ℕ) : Type 0 where
    pub there : i < length (fields_of (object_at graph o))
    pub field : typed_field graph o i ≡ Some (field_at graph o i)
    pub typed : IsTypedAt (table_of table) graph (field_at graph o i) t

  pub record IsOpen (block : OpenBlock) : Type 0 where
    pub inside : block.object < length graph
    pub words : block.fields.now ≡ map (word_of graph) (fields_of (object_at graph block.object))
    pub valid : All (IsFieldWord graph) block.fields.now
    pub parts : (k i t : ℕ) → slice_get (needs_in block.needs) k ≡ Some (i, t)
        → IsPart block.object i t

  -- The block is the open block of object `o` before the first part. `many` ends are outside of the
  -- block.
  pub record IsBegun (o t tag many : ℕ) (block : OpenBlock) : Type 0 where
    pub object : block.object ≡ o
    pub frame : frame_in block.frame
        ≡ frame_of (shape_in table t) (names_in table t) tag (fields_of (object_at graph o))
    pub needs : needs_in block.needs ≡ or_none (needed_of graph (vals.Ref o) (shape_in table t))
    pub next : block.next ≡ 0
    pub outside : block.outside ≡ many
    pub is_open : IsOpen block

  pub record IsWalk (walk : PrintWalk) : Type 0 where
    pub is_graph : IsGraph graph
    pub value : IfSome walk.value
        (λ next. IsValue (length graph) next.0 × IsTypedAt (table_of table) graph next.0 next.1)
    pub blocks : All IsOpen walk.stack.items
    pub nested : AreNested 0 walk.stack.items (length walk.ends.items)
    pub many : length walk.marks.items ≡ length graph
    pub marked : AreMarked walk.marks.items walk.order
    pub counted : how_many walk.marks.items ≡ length walk.order
    pub inside : All (λ o. o < length graph) walk.order
    pub depth : length (levels_of walk) ≤ length walk.order

  -- The chunks of a step are the first of the remaining chunks.
  pub record Goes (left : List TextChunk) (met_before : List ℕ) (step : PrintStep) (new : PrintWalk)
      : Type 0 where
    pub chunks : left ≡ step_chunks step ++ chunks_left new
    pub order : new.order ≡ met_before ++ firsts (step_chunks step)
    pub valid : IsStep step
    pub walk : IsWalk new

  abbrev pub Gives : List TextChunk → List ℕ → PrintWalk → Option PrintStep → Type 0
  Gives left met_before new None = (left ≡ []) × (new.order ≡ met_before)
  Gives left met_before new (Some step) = Goes left met_before step new
