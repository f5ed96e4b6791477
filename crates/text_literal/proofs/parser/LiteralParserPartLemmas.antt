-- Reading one more part does not change the result of the open blocks.
use Rattle.std.proofs.Common.{arith, refl, sym, ap, ◌∙◌, subst, drop, take}
use Rattle.std.specs.Prelude.{ℕ, suc, ◌+◌, ◌<◌, ◌≡◌, true, Option, if◌then◌else◌, Result, Ok, Err, List, [], ◌∷◌, ◌++◌, length, pos, replicate, All}
use Rattle.std.proofs.lemmas.Bool.{lt-ltb, le-ltb}
use Rattle.std.proofs.lemmas.List.{append_assoc, length-append, length-replicate, drop-drop, drop_at, get_or_at}
use Rattle.base_data.specs.declared.model.value.Val.{Val}
use Rattle.base_data.specs.declared.model.value.Val.TheVariants as vals
use Rattle.base_data.specs.declared.model.value.Obj.{Obj}
use Rattle.base_data.specs.declared.model.value.Obj.TheVariants as objects
use Rattle.marshal_heap.specs.heap.Heap.{object_at, fields_of, set_field}
use Rattle.marshal_heap.proofs.heap.HeapFieldLemmas.{length-set_field, set_field-append}
use Rattle.text_literal.specs.literal_grammar.Literal.{Literal, labelled, Plain}
use Rattle.types_parse.specs.grammar.LexemeKinds.{kinds_of}
use Rattle.text_literal.specs.literal_grammar.LiteralNodes.{literal_nodes}
use Rattle.text_literal.specs.declared.parser.block_stack.Opened.{Opened}
use Rattle.text_literal.specs.declared.parser.literal_text.LiteralText.{LiteralText}
use Rattle.text_literal.specs.parser.LiteralReading.{LiteralReading, LiteralRefusal, is_next, with_label, literal_read}
use Rattle.text_literal.specs.parser.Starts as starts
use Rattle.text_literal.specs.parser.Starts.{start_at}
use Rattle.text_literal.specs.parser.LiteralAnswers.{shape_in, names_in}
use Rattle.text_literal.specs.parser.Openings.{types_in}
use Rattle.text_literal.specs.parser.Pending.{Open, open_at, row_read, finished, write}
use Rattle.text_literal.specs.parser.NodesOf.{part_nodes, nodes_of_parts, nodes_to_come}
use Rattle.text_literal.specs.parser.Standing.{Stands, inner_parts}
use Rattle.text_literal.specs.parser.Underway.{PartList, IsAdvanced, if_open, IsWhole, IsInner, opens_with, IsOpen, AreOpen, IsUnderway}
use Rattle.text_literal.proofs.parser.PendingLemmas.{stepped, stepped_in, refused, popped}
use Rattle.text_literal.proofs.parser.StandingLemmas.{own_and_parts, literal_encoded}
use Rattle.text_literal.proofs.parser.OpenLemmas.{longer, kept_below, all_kept, more_parts_kept}

-- ---- the next part

pub record IsNext (text : LiteralText) (old : List Obj) (outcome : Result (List Obj) (LiteralRefusal ℕ)) (block : Opened) (stack : List Opened) (j : ℕ) (graph : List Obj) (labels : List ℕ) : Type 0 where
  pub part : ℕ × Literal
  pub parts : PartList
  pub rest : List PartList
  pub open_block : IsOpen old graph (kinds_of text.lexemes.now) block (part ∷ parts)
  pub others : AreOpen old graph (kinds_of text.lexemes.now) stack rest
  pub come : literal_nodes part.0 part.1 ++ (nodes_of_parts parts ++ nodes_to_come (opens_with stack rest)) ≡ drop j text.nodes.now
  pub same :
      finished (shape_in text.table.now) (names_in text.table.now)
      (open_at block.block block.field block.part (types_in block.at block.types) (part ∷ parts) ∷ opens_with stack rest) graph labels ≡ outcome
  pub labels_in : All (λ o. o < length graph) labels
  pub kept : take (length old) graph ≡ old

module _ (text : LiteralText) (old : List Obj) (outcome : Result (List Obj) (LiteralRefusal ℕ)) (block : Opened) (stack : List Opened) (j : ℕ) (graph : List Obj) (labels : List ℕ) where
  split :
      (all : List PartList) → AreOpen old graph (kinds_of text.lexemes.now) (block ∷ stack) all
      → nodes_to_come (opens_with (block ∷ stack) all) ≡ drop j text.nodes.now
      → finished (shape_in text.table.now) (names_in text.table.now) (opens_with (block ∷ stack) all) graph labels ≡ outcome
      → All (λ o. o < length graph) labels → take (length old) graph ≡ old → IsNext text old outcome block stack j graph labels
  split [] o come same labels_in kept = absurd o
  split ([] ∷ rest) o come same labels_in kept = let none = o.0.some in absurd (omega arith)
  split ((p ∷ ps) ∷ rest) o come same labels_in kept = record {
    part = p;
    parts = ps;
    rest = rest;
    open_block = o.0;
    others = o.1;
    come = sym (append_assoc (part_nodes p) (nodes_of_parts ps) (nodes_to_come (opens_with stack rest))) ∙ come;
    same = same;
    labels_in = labels_in;
    kept = kept;
  }

  pub next_part : IsUnderway text old outcome (block ∷ stack) j graph labels → IsNext text old outcome block stack j graph labels
  next_part u = split u.parts u.open_blocks u.come u.same u.labels_in u.kept

  pub part_stands : (n : IsNext text old outcome block stack j graph labels) → Stands text.nodes.now text.lexemes.now j n.part.0 n.part.1
  part_stands n = record {
    nodes_at = record { rest = nodes_of_parts n.parts ++ nodes_to_come (opens_with stack n.rest); is = sym n.come };
    kinds_at = n.open_block.encoded.0;
  }

  -- If a part is refused, then the outcome of the open blocks is the refusal of the part.
  pub part_refused :
      (n : IsNext text old outcome block stack j graph labels) (refusal : LiteralRefusal ℕ)
      → literal_read (shape_in text.table.now) (names_in text.table.now) n.part.0 n.part.1 (length graph) labels (types_in block.at block.types block.part) ≡ Err refusal
      → outcome ≡ Err refusal
  part_refused n refusal read =
      sym n.same
      ∙ refused (shape_in text.table.now) (names_in text.table.now) block.block block.field block.part (types_in block.at block.types) n.part.0 n.part.1 n.parts (opens_with stack n.rest) graph labels refusal read

-- ---- a block without parts to be read

write_same :
    (f g : List Obj → List ℕ → Result (List Obj) (LiteralRefusal ℕ)) → ((graph : List Obj) (labels : List ℕ) → f graph labels ≡ g graph labels)
    → (graph : List Obj) (b i : ℕ) (r : Result LiteralReading (LiteralRefusal ℕ)) → write f graph b i r ≡ write g graph b i r
write_same f g same graph b i (Err refusal) = refl
write_same f g same graph b i (Ok r) = same _ r.labels

-- ---- the blocks after a part

abbrev pub opened_with : Opened → PartList → Open ℕ
opened_with o parts = open_at o.block o.field o.part (types_in o.at o.types) parts

-- The stack of open blocks. The block is on top if parts of the block are still to be read. If no
-- part is left, the stack does not have the block.
record IsSettled (text : LiteralText) (old graph : List Obj) (block : Opened) (parts : PartList) (stack : List Opened) (rest : List PartList) (result : List Opened) : Type 0 where
  all : List PartList
  open_blocks : AreOpen old graph (kinds_of text.lexemes.now) result all
  come : nodes_to_come (opens_with result all) ≡ nodes_of_parts parts ++ nodes_to_come (opens_with stack rest)
  same :
      (g : List Obj) (labels : List ℕ)
      → finished (shape_in text.table.now) (names_in text.table.now) (opens_with result all) g labels
      ≡ finished (shape_in text.table.now) (names_in text.table.now) (opened_with block parts ∷ opens_with stack rest) g labels

settle :
    (text : LiteralText) (old graph : List Obj) (block : Opened) (parts : PartList) (stack : List Opened) (rest : List PartList) → block.left ≡ length parts
    → (0 < length parts → IsOpen old graph (kinds_of text.lexemes.now) block parts) → AreOpen old graph (kinds_of text.lexemes.now) stack rest
    → IsSettled text old graph block parts stack rest (if_open block stack)
settle text old graph block [] stack rest left here others =
    subst (λ b. IsSettled text old graph block [] stack rest (if b then block ∷ stack else stack)) (sym (le-ltb 0 block.left (omega arith)))
    (record {
      all = rest;
      open_blocks = others;
      come = refl;
      same = λ g labels. sym (popped (shape_in text.table.now) (names_in text.table.now) block.block block.field block.part (types_in block.at block.types) (opens_with stack rest) g labels);
    })
settle text old graph block (p ∷ parts) stack rest left here others =
    subst (λ b. IsSettled text old graph block (p ∷ parts) stack rest (if b then block ∷ stack else stack)) (sym (lt-ltb 0 block.left (omega arith)))
    (record {
      all = (p ∷ parts) ∷ rest;
      open_blocks = (here (omega arith), others);
      come = refl;
      same = λ g labels. refl;
    })

advanced_with : (old new : Opened) (parts : PartList) → IsAdvanced old new
    → open_at old.block (suc old.field) (suc old.part) (types_in old.at old.types) parts ≡ opened_with new parts
advanced_with old new parts a = cc

-- Case: the part is a block whose own parts are still to be read.
stepped_inner :
    (text : LiteralText) (b i n : ℕ) (types : ℕ → ℕ) (k : ℕ) (v : Literal) (ps : PartList) (opens : List (Open ℕ)) (graph : List Obj) (labels : List ℕ)
    (l : Option ℕ) (p : Plain) (tag : ℕ) (prefix : List Val) (inside : ℕ → ℕ) → v ≡ labelled l p → b < length graph
    → is_next labels l ≡ true → start_at (types n) (shape_in text.table.now (types n)) (names_in text.table.now (types n)) p ≡ starts.block tag prefix inside
    → finished (shape_in text.table.now) (names_in text.table.now) (open_at b i n types ((k, v) ∷ ps) ∷ opens) graph labels
    ≡ finished (shape_in text.table.now) (names_in text.table.now)
    (open_at (length graph) (length prefix) 0 inside (inner_parts k v) ∷ open_at b (suc i) (suc n) types ps ∷ opens)
    (set_field graph b i (vals.Ref (length graph)) ++ objects.Block tag (prefix ++ replicate (length (inner_parts k v)) (vals.Int (pos 0))) ∷ [])
    (with_label labels l (length graph))
stepped_inner text b i n types k v ps opens graph labels l p tag prefix inside is below numbered start =
    subst (λ u. finished (shape_in text.table.now) (names_in text.table.now) (open_at b i n types ((k, u) ∷ ps) ∷ opens) graph labels
    ≡ finished (shape_in text.table.now) (names_in text.table.now)
    (open_at (length graph) (length prefix) 0 inside (inner_parts k u) ∷ open_at b (suc i) (suc n) types ps ∷ opens)
    (set_field graph b i (vals.Ref (length graph)) ++ objects.Block tag (prefix ++ replicate (length (inner_parts k u)) (vals.Int (pos 0))) ∷ [])
    (with_label labels l (length graph))) (sym is)
    (stepped_in (shape_in text.table.now) (names_in text.table.now) b i n types k l p ps opens graph labels tag prefix inside below numbered start)

same_at : {R : Type 0} (F : ℕ → ℕ → ℕ → Val → List ℕ → R) (b d i e n m : ℕ) (v w : Val) (ls ms : List ℕ) → b ≡ d → i ≡ e → n ≡ m → v ≡ w → ls ≡ ms → F b i n v ls ≡ F d e m w ms
same_at F b d i e n m v w ls ms p q r s t = cc

-- ---- the state after a part

module _ (text : LiteralText) (old : List Obj) (outcome : Result (List Obj) (LiteralRefusal ℕ)) (block : Opened) (stack : List Opened) (j : ℕ) (graph : List Obj) (labels : List ℕ)
    (n : IsNext text old outcome block stack j graph labels) (advanced : Opened) (a : IsAdvanced block advanced) (new : List Obj) (more : List ℕ) (value : Val)
    (labels_in : All (λ o. o < length new) more) where
  abbrev Underway : List Opened → ℕ → List Obj → Type 0
  Underway blocks next g = IsUnderway text old outcome blocks next g more

  abbrev after : List Obj → List Obj
  after os = set_field graph block.block block.field value ++ os

  settled : (os : List Obj) → IsSettled text old (after os) advanced n.parts stack n.rest (if_open advanced stack)
  settled os =
      settle text old (after os) advanced n.parts stack n.rest (omega (arith, a.left_is, n.open_block.left))
      (more_parts_kept graph block.block block.field value os n.open_block.inside old (kinds_of text.lexemes.now) block advanced n.part n.parts n.open_block a)
      (all_kept graph block.block block.field value os n.open_block.inside old (kinds_of text.lexemes.now) stack n.rest n.others)

  labels_after : (os : List Obj) → new ≡ graph ++ os → All (λ o. o < length (after os)) more
  labels_after os e =
      subst (λ many. All (λ o. o < many) more)
      (ap (λ (g : List Obj). length g) e ∙ omega (arith, length-append graph os, longer graph block.block block.field value os n.open_block.inside)) labels_in

  write_in : (os : List Obj) → new ≡ graph ++ os → after os ≡ set_field new block.block block.field value
  write_in os e = sym (ap (λ g. set_field g block.block block.field value) e ∙ set_field-append graph os block.block block.field value n.open_block.inside)

  kept_after : (os : List Obj) → take (length old) (after os) ≡ old
  kept_after os = kept_below graph block.block block.field value os n.open_block.inside old n.open_block.behind n.kept

  behind_part : (next : ℕ) → next ≡ j + length (literal_nodes n.part.0 n.part.1) → nodes_of_parts n.parts ++ nodes_to_come (opens_with stack n.rest) ≡ drop next text.nodes.now
  behind_part next e =
      sym (ap (λ m. drop m text.nodes.now) e
      ∙ sym (drop-drop (length (literal_nodes n.part.0 n.part.1)) j text.nodes.now)
      ∙ ap (λ rest. drop (length (literal_nodes n.part.0 n.part.1)) rest) (sym n.come)
      ∙ drop_at (literal_nodes n.part.0 n.part.1) _ (length (literal_nodes n.part.0 n.part.1)) refl)

  -- Case: the part was read completely.
  pub after_whole :
      IsWhole (literal_read (shape_in text.table.now) (names_in text.table.now) n.part.0 n.part.1 (length graph) labels (types_in block.at block.types block.part)) graph new more value
      → (next : ℕ) → next ≡ j + length (literal_nodes n.part.0 n.part.1)
      → Underway (if_open advanced stack) next (set_field new block.block block.field value)
  after_whole w next e =
      let s = settled w.objects in
      subst (Underway (if_open advanced stack) next) (write_in w.objects w.behind)
      (record {
        parts = s.all;
        open_blocks = s.open_blocks;
        come = s.come ∙ behind_part next e;
        same =
            s.same (after w.objects) more
            ∙ ap (λ o. finished (shape_in text.table.now) (names_in text.table.now) (o ∷ opens_with stack n.rest) (after w.objects) more) (sym (advanced_with block advanced n.parts a))
            ∙ sym (stepped (shape_in text.table.now) (names_in text.table.now) block.block block.field block.part (types_in block.at block.types) n.part.0 n.part.1 n.parts
            (opens_with stack n.rest) graph labels value w.objects more n.open_block.inside w.read)
            ∙ n.same;
        labels_in = labels_after w.objects w.behind;
        kept = kept_after w.objects;
      })

  -- Case: the part is a block whose own parts are still to be read.
  module _ (inner : Opened) (w : IsInner text.table.now n.part.0 n.part.1 (types_in block.at block.types block.part) graph new labels more value inner) where
    abbrev own : PartList
    own = inner_parts n.part.0 n.part.1

    abbrev made : List Obj
    made = objects.Block w.tag (w.prefix ++ replicate (length own) (vals.Int (pos 0))) ∷ []

    inner_position : length (set_field graph block.block block.field value) ≡ inner.block
    inner_position = length-set_field graph block.block block.field value ∙ sym w.block_is

    inner_room : inner.field + length own ≡ length (fields_of (object_at (after made) inner.block))
    inner_room =
        omega (arith, w.field_is, length-append w.prefix (replicate (length own) (vals.Int (pos 0))), length-replicate (length own) (vals.Int (pos 0)))
        ∙ sym (ap (λ object. length (fields_of object))
        (get_or_at (set_field graph block.block block.field value) (objects.Block w.tag (w.prefix ++ replicate (length own) (vals.Int (pos 0)))) [] (objects.I32 (pos 0)) inner.block inner_position))

    inner_open : IsOpen old (after made) (kinds_of text.lexemes.now) inner own
    inner_open = record {
      behind = omega (arith, n.open_block.behind, n.open_block.inside, w.block_is);
      inside = omega (arith, longer graph block.block block.field value made n.open_block.inside, w.block_is);
      room = inner_room;
      within = omega (arith, w.part_is);
      left = w.left_is;
      few = w.few;
      some = omega (arith, w.some, w.left_is);
      encoded = literal_encoded (kinds_of text.lexemes.now) n.part.0 n.part.1 n.open_block.encoded.0;
    }

    into_part : nodes_of_parts own ++ (nodes_of_parts n.parts ++ nodes_to_come (opens_with stack n.rest)) ≡ drop (j + 1) text.nodes.now
    into_part =
        sym (sym (drop-drop 1 j text.nodes.now)
        ∙ ap (λ rest. drop 1 rest) (sym n.come ∙ ap (λ own. own ++ (nodes_of_parts n.parts ++ nodes_to_come (opens_with stack n.rest))) (own_and_parts n.part.0 n.part.1)))

    inner_stepped :
        finished (shape_in text.table.now) (names_in text.table.now) (opened_with inner own ∷ opened_with advanced n.parts ∷ opens_with stack n.rest) (after made) more ≡ outcome
    inner_stepped =
        same_at (λ b i m v ls. finished (shape_in text.table.now) (names_in text.table.now)
        (open_at b i m (types_in inner.at inner.types) own ∷ opened_with advanced n.parts ∷ opens_with stack n.rest) (set_field graph block.block block.field v ++ made) ls)
        inner.block (length graph) inner.field (length w.prefix) inner.part 0 value (vals.Ref (length graph)) more (with_label labels w.label (length graph))
        w.block_is w.field_is w.part_is w.value_is w.labels_are
        ∙ ap (λ o. finished (shape_in text.table.now) (names_in text.table.now)
        (open_at (length graph) (length w.prefix) 0 (types_in inner.at inner.types) own ∷ o ∷ opens_with stack n.rest)
        (set_field graph block.block block.field (vals.Ref (length graph)) ++ made) (with_label labels w.label (length graph))) (sym (advanced_with block advanced n.parts a))
        ∙ sym (stepped_inner text block.block block.field block.part (types_in block.at block.types) n.part.0 n.part.1 n.parts (opens_with stack n.rest) graph labels
        w.label w.plain w.tag w.prefix (types_in inner.at inner.types) w.literal n.open_block.inside w.numbered w.start)
        ∙ n.same

    inner_same :
        (all : List (Open ℕ)) → ((g : List Obj) (ls : List ℕ) → finished (shape_in text.table.now) (names_in text.table.now) all g ls
        ≡ finished (shape_in text.table.now) (names_in text.table.now) (opened_with advanced n.parts ∷ opens_with stack n.rest) g ls)
        → finished (shape_in text.table.now) (names_in text.table.now) (opened_with inner own ∷ all) (after made) more ≡ outcome
    inner_same all same =
        write_same (finished (shape_in text.table.now) (names_in text.table.now) all)
        (finished (shape_in text.table.now) (names_in text.table.now) (opened_with advanced n.parts ∷ opens_with stack n.rest)) same
        (after made) inner.block inner.field (row_read (shape_in text.table.now) (names_in text.table.now) own (length (after made)) more inner.part (types_in inner.at inner.types))
        ∙ inner_stepped

    -- If the part is a block, then the invariant holds with the block of the part as the innermost
    -- open block.
    pub after_inner : Underway (inner ∷ if_open advanced stack) (j + 1) (set_field new block.block block.field value)
    after_inner =
        let s = settled made in
        subst (Underway (inner ∷ if_open advanced stack) (j + 1)) (write_in made w.behind)
        (record {
          parts = own ∷ s.all;
          open_blocks = (inner_open, s.open_blocks);
          come = ap (λ rest. nodes_of_parts own ++ rest) s.come ∙ into_part;
          same = inner_same (opens_with (if_open advanced stack) s.all) s.same;
          labels_in = labels_after made w.behind;
          kept = kept_after made;
        })
