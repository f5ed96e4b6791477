-- Lemmas on the whole literal: a value that begins as a block, and the result of reading the
-- block's parts.
use Rattle.std.proofs.Common.{arith, refl, sym, ap, ◌∙◌, subst, drop, take}
use Rattle.std.specs.Prelude.{ℕ, suc, ◌<◌, ◌≡◌, Some, Result, Ok, Err, List, [], ◌∷◌, ◌++◌, length, pos, replicate, All, ⊤}
use Rattle.std.proofs.lemmas.List.{append_assoc, append-nil, length-append, length-replicate, get_or_at}
use Rattle.std.proofs.lemmas.List.Elements.{All-nil}
use Rattle.std.proofs.Math.Seq.{take-append_seam}
use Rattle.base_data.specs.declared.model.value.Val.{Val}
use Rattle.base_data.specs.declared.model.value.Val.TheVariants as vals
use Rattle.base_data.specs.declared.model.value.Obj.{Obj}
use Rattle.base_data.specs.declared.model.value.Obj.TheVariants as objects
use Rattle.base_data.specs.model.Graph.{IsValue}
use Rattle.marshal_heap.specs.heap.Heap.{object_at, fields_of}
use Rattle.types_lex.specs.declared.lexeme.Lexeme.{Lexeme}
use Rattle.types_parse.specs.grammar.Grammar.{Kinds}
use Rattle.text_literal.specs.declared.literal_grammar.literal_node.LiteralNode.{LiteralNode}
use Rattle.text_literal.specs.literal_grammar.Literal.{Literal, literal_kinds}
use Rattle.types_parse.specs.grammar.LexemeKinds.{kinds_of}
use Rattle.text_literal.specs.literal_grammar.LiteralNodes.{literal_nodes, IsTreeOf}
use Rattle.text_literal.specs.declared.parser.literal_fault.LiteralFault.{LiteralFault}
use Rattle.text_literal.specs.declared.parser.literal_fault.LiteralFault.TheVariants as faults
use Rattle.text_literal.specs.declared.parser.block_stack.Opened.{Opened}
use Rattle.text_literal.specs.declared.parser.literal_text.LiteralText.{LiteralText}
use Rattle.text_literal.specs.declared.parser.part.PartStart.{PartStart}
use Rattle.text_literal.specs.parser.LiteralReading.{LiteralReading, LiteralRefusal, reading, with_label, block_read, literal_read}
use Rattle.text_literal.specs.parser.LiteralAnswers.{shape_in, names_in}
use Rattle.text_literal.specs.parser.Openings.{types_in}
use Rattle.text_literal.specs.parser.Pending.{row_read, finished, write}
use Rattle.text_literal.specs.parser.NodesOf.{nodes_of_parts}
use Rattle.text_literal.specs.parser.Standing.{Stands, AreEncoded, inner_parts}
use Rattle.text_literal.specs.parser.Underway.{CanGoOn, ReadsTree, IsWhole, IsInner, IsBegun, IsGiven, IsOpen, IsUnderway, Finishes, MayRefuse}
use Rattle.text_literal.proofs.parser.PendingLemmas.{HasValues, row_values, fill_from, block_reads}
use Rattle.text_literal.proofs.parser.StandingLemmas.{own_and_parts, literal_encoded}
use Rattle.text_literal.proofs.parser.LiteralParserPartLemmas.{opened_with}

-- ---- the location of the tree

pub tree_stands : (text : LiteralText) (v : Literal) → literal_kinds v ≡ kinds_of text.lexemes.now → text.nodes.now ≡ literal_nodes 0 v → Stands text.nodes.now text.lexemes.now 0 0 v
tree_stands text v encoded nodes = record {
  nodes_at = record { rest = []; is = nodes ∙ sym (append-nil (literal_nodes 0 v)) };
  kinds_at = record { rest = []; is = sym encoded ∙ sym (append-nil (literal_kinds v)) };
}

-- ---- the result of the parts is the graph of the whole

-- The graph after a reading: the old objects and the objects that the reading makes, or the
-- reading's refusal.
abbrev pub graph_of : List Obj → Result LiteralReading (LiteralRefusal ℕ) → Result (List Obj) (LiteralRefusal ℕ)
graph_of old (Err refusal) = Err refusal
graph_of old (Ok r) = Ok (old ++ r.objects)

-- The graph after the parts of the last block are read and stored into the block.
abbrev finished_row : List Obj → ℕ → List Val → ℕ → Result LiteralReading (LiteralRefusal ℕ) → Result (List Obj) (LiteralRefusal ℕ)
finished_row old tag prefix many row =
    write (λ g labels. Ok g) (old ++ objects.Block tag (prefix ++ replicate many (vals.Int (pos 0))) ∷ []) (length old) (length prefix) row

graph_finished :
    (old : List Obj) (tag : ℕ) (prefix : List Val) (many : ℕ) (row : Result LiteralReading (LiteralRefusal ℕ)) → HasValues many row
    → finished_row old tag prefix many row ≡ graph_of old (block_read (length old) tag prefix row)
graph_finished old tag prefix many (Err refusal) full = refl
graph_finished old tag prefix many (Ok r) full =
    ap (λ g. Ok (g ++ r.objects)) (fill_from old tag prefix (replicate many (vals.Int (pos 0))) (length old) (length prefix) r.values refl refl (length-replicate many (vals.Int (pos 0)) ∙ sym full))
    ∙ ap (λ g. Ok g) (append_assoc old (objects.Block tag (prefix ++ r.values) ∷ []) r.objects)

same_written : {R : Type 0} (F : List Obj → ℕ → ℕ → ℕ → ℕ → R) (g h : List Obj) (b d i e c n m o : ℕ) → g ≡ h → b ≡ d → i ≡ e → c ≡ n → m ≡ o → F g b i c m ≡ F h d e n o
same_written F g h b d i e c n m o p q r s t = cc

-- The reading of the whole literal gives `value`, and `final` is the graph after the reading.
pub record IsWholeRoot (all : Result LiteralReading (LiteralRefusal ℕ)) (old final : List Obj) (value : Val) : Type 0 where
  pub labels : List ℕ
  pub whole : IsWhole all old final labels value
  pub valid : IsValue (length final) value

whole_of_row :
    (old : List Obj) (tag : ℕ) (prefix : List Val) (row all : Result LiteralReading (LiteralRefusal ℕ)) (value : Val) (final : List Obj) → all ≡ block_read (length old) tag prefix row
    → value ≡ vals.Ref (length old) → graph_of old all ≡ Ok final → IsWholeRoot all old final value
whole_of_row old tag prefix (Err refusal) all value final is one same = let e = ap (graph_of old) is in absurd (cc)
whole_of_row old tag prefix (Ok r) all value final is one same =
    let e = ap (graph_of old) is in
    let behind : final ≡ old ++ objects.Block tag (prefix ++ r.values) ∷ r.objects = cc in
    let longer : length old < length final = omega (arith, ap (λ (g : List Obj). length g) behind, length-append old (objects.Block tag (prefix ++ r.values) ∷ r.objects)) in record {
      labels = r.labels;
      whole = record {
        objects = objects.Block tag (prefix ++ r.values) ∷ r.objects;
        read = is ∙ ap (λ v. Ok (reading (v ∷ []) (objects.Block tag (prefix ++ r.values) ∷ r.objects) r.labels)) (sym one);
        behind = behind;
      };
      valid = subst (IsValue (length final)) (sym one) longer;
    }

refused_back : (old : List Obj) (r : Result LiteralReading (LiteralRefusal ℕ)) (refusal : LiteralRefusal ℕ) → graph_of old r ≡ Err refusal → r ≡ Err refusal
refused_back old (Err other) refusal e = let same : other ≡ refusal = cc in ap Err same
refused_back old (Ok r) refusal e = absurd (cc)

module _ (text : LiteralText) (k : ℕ) (v : Literal) (t : ℕ) (old new : List Obj) (labels more : List ℕ) (value : Val) (opened : Opened)
    (w : IsInner text.table.now k v t old new labels more value opened) where
  abbrev own : List (ℕ × Literal)
  own = inner_parts k v

  abbrev row : Result LiteralReading (LiteralRefusal ℕ)
  row = row_read (shape_in text.table.now) (names_in text.table.now) own (suc (length old)) more 0 (types_in opened.at opened.types)

  abbrev whole_reading : Result LiteralReading (LiteralRefusal ℕ)
  whole_reading = literal_read (shape_in text.table.now) (names_in text.table.now) k v (length old) labels t

  as_row : whole_reading ≡ block_read (length old) w.tag w.prefix row
  as_row =
      subst (λ u. literal_read (shape_in text.table.now) (names_in text.table.now) k u (length old) labels t
      ≡ block_read (length old) w.tag w.prefix (row_read (shape_in text.table.now) (names_in text.table.now) (inner_parts k u) (suc (length old)) (with_label labels w.label (length old)) 0 (types_in opened.at opened.types)))
      (sym w.literal)
      (block_reads (shape_in text.table.now) (names_in text.table.now) k w.label w.plain (length old) labels t w.tag w.prefix (types_in opened.at opened.types) w.numbered w.start)
      ∙ ap (λ ls. block_read (length old) w.tag w.prefix (row_read (shape_in text.table.now) (names_in text.table.now) own (suc (length old)) ls 0 (types_in opened.at opened.types))) (sym w.labels_are)

  one_longer : length new ≡ suc (length old)
  one_longer = ap (λ (g : List Obj). length g) w.behind ∙ omega (arith, length-append old (objects.Block w.tag (w.prefix ++ replicate (length own) (vals.Int (pos 0))) ∷ []))

  as_written : finished (shape_in text.table.now) (names_in text.table.now) (opened_with opened own ∷ []) new more ≡ finished_row old w.tag w.prefix (length own) row
  as_written =
      same_written (λ g b i c m. write (λ h labels. Ok h) g b i (row_read (shape_in text.table.now) (names_in text.table.now) own c more m (types_in opened.at opened.types)))
      new _ opened.block (length old) opened.field (length w.prefix) (length new) (suc (length old)) opened.part 0 w.behind w.block_is w.field_is one_longer w.part_is

  rooted : finished (shape_in text.table.now) (names_in text.table.now) (opened_with opened own ∷ []) new more ≡ graph_of old whole_reading
  rooted =
      as_written
      ∙ graph_finished old w.tag w.prefix (length own) row (row_values (shape_in text.table.now) (names_in text.table.now) own (suc (length old)) more 0 (types_in opened.at opened.types))
      ∙ ap (graph_of old) (sym as_row)

  root_open : (all : Kinds) → AreEncoded all own → IsOpen old new all opened own
  root_open all encoded = record {
    behind = omega (arith, w.block_is);
    inside = omega (arith, w.block_is, one_longer);
    room =
        omega (arith, w.field_is, length-append w.prefix (replicate (length own) (vals.Int (pos 0))), length-replicate (length own) (vals.Int (pos 0)))
        ∙ sym (ap (λ object. length (fields_of object))
        (ap (λ g. object_at g opened.block) w.behind
        ∙ get_or_at old (objects.Block w.tag (w.prefix ++ replicate (length own) (vals.Int (pos 0)))) [] (objects.I32 (pos 0)) opened.block (sym w.block_is)));
    within = omega (arith, w.part_is);
    left = w.left_is;
    few = w.few;
    some = omega (arith, w.some, w.left_is);
    encoded = encoded;
  }

  -- If the whole literal begins as a block, then the block is open and the outcome is that of the
  -- whole literal.
  pub root_underway : Stands text.nodes.now text.lexemes.now 0 k v → literal_nodes k v ≡ text.nodes.now → All (λ o. o < length new) more
      → IsUnderway text old (graph_of old whole_reading) (opened ∷ []) 1 new more
  root_underway stands nodes labels_in = record {
    parts = own ∷ [];
    open_blocks = (root_open (kinds_of text.lexemes.now) (literal_encoded (kinds_of text.lexemes.now) k v stands.kinds_at), tt);
    come = append-nil (nodes_of_parts own) ∙ sym (ap (λ (ns : List LiteralNode). drop 1 ns) (sym nodes ∙ own_and_parts k v));
    same = rooted;
    labels_in = labels_in;
    kept = ap (λ (g : List Obj). take (length old) g) w.behind ∙ take-append_seam old (objects.Block w.tag (w.prefix ++ replicate (length own) (vals.Int (pos 0))) ∷ []);
  }

  -- If the parts of the root's block are read, then the result is the reading of the whole literal.
  pub root_whole : (final : List Obj) → graph_of old whole_reading ≡ Ok final → IsWholeRoot whole_reading old final value
  root_whole final same = whole_of_row old w.tag w.prefix row whole_reading value final as_row w.value_is same

-- If a fault may refuse the graph after a reading, then the fault may refuse the reading.
pub root_refused : (lexemes : List Lexeme) (end : ℕ) (old : List Obj) (r : Result LiteralReading (LiteralRefusal ℕ)) (fault : LiteralFault) → MayRefuse lexemes end (graph_of old r) fault → MayRefuse lexemes end r fault
root_refused lexemes end old r faults.Memory m = tt
root_refused lexemes end old r (faults.Syntax position) m = record { refusal = m.refusal; is = refused_back old r m.refusal m.is; position = m.position }
root_refused lexemes end old r (faults.Mismatch position t) m = record { refusal = m.refusal; is = refused_back old r m.refusal m.is; position = m.position }
root_refused lexemes end old r (faults.IntRange position) m = record { refusal = m.refusal; is = refused_back old r m.refusal m.is; position = m.position }
root_refused lexemes end old r (faults.Label position) m = record { refusal = m.refusal; is = refused_back old r m.refusal m.is; position = m.position }

-- ---- the tree of a text

module _ (text : LiteralText) (at : ℕ) (old new : List Obj) (labels more : List ℕ) (none : labels ≡ []) (begun : PartStart) (block : Opened) (inner : begun.inner ≡ Some block)
    (here : (k : ℕ) (v : Literal) → Stands text.nodes.now text.lexemes.now 0 k v → All (λ o. o < length old) labels → IsGiven text.table.now k v at old new labels more begun) where
  abbrev tree_reading : Literal → Result LiteralReading (LiteralRefusal ℕ)
  tree_reading v = literal_read (shape_in text.table.now) (names_in text.table.now) 0 v (length old) [] at

  tree_given : (v : Literal) → literal_kinds v ≡ kinds_of text.lexemes.now → text.nodes.now ≡ literal_nodes 0 v → IsGiven text.table.now 0 v at old new [] more begun
  tree_given v encoded nodes =
      let first = subst (λ ls. (k : ℕ) (u : Literal) → Stands text.nodes.now text.lexemes.now 0 k u → All (λ o. o < length old) ls → IsGiven text.table.now k u at old new ls more begun) none here in
      first 0 v (tree_stands text v encoded nodes) (All-nil (λ o. o < length old))

  tree_begun : (v : Literal) → literal_kinds v ≡ kinds_of text.lexemes.now → text.nodes.now ≡ literal_nodes 0 v → IsInner text.table.now 0 v at old new [] more begun.value block
  tree_begun v encoded nodes = let g = tree_given v encoded nodes in subst (IsBegun text.table.now 0 v at old new [] more begun.value) inner g.begun_is

  tree_underway : (v : Literal) → literal_kinds v ≡ kinds_of text.lexemes.now → text.nodes.now ≡ literal_nodes 0 v → IsUnderway text old (graph_of old (tree_reading v)) (block ∷ []) 1 new more
  tree_underway v encoded nodes =
      let g = tree_given v encoded nodes in
      root_underway text 0 v at old new [] more begun.value block (tree_begun v encoded nodes) (tree_stands text v encoded nodes) (sym nodes) g.labels_in

  pub tree_goes : IsTreeOf text.lexemes.now text.nodes.now → CanGoOn text (block ∷ []) 1 new more
  tree_goes tree = (old, graph_of old (tree_reading tree.0), tree_underway tree.0 tree.1 tree.2)

  module _ (tree : IsTreeOf text.lexemes.now text.nodes.now) (final : List Obj) where
    abbrev AllFinish : Result ⊤ LiteralFault → Type 0
    AllFinish result = (before : List Obj) (outcome : Result (List Obj) (LiteralRefusal ℕ)) → IsUnderway text before outcome (block ∷ []) 1 new more → Finishes text before outcome final result

    pub tree_faulty : (fault : LiteralFault) → AllFinish (Err fault) → ReadsTree text at old final (Err fault)
    tree_faulty fault finish =
        let of_tree = finish old (graph_of old (tree_reading tree.0)) (tree_underway tree.0 tree.1 tree.2) in (
          λ v encoded nodes.
              let f = finish old (graph_of old (tree_reading v)) (tree_underway v encoded nodes) in root_refused text.lexemes.now text.end old (tree_reading v) fault f.1,
          of_tree.0,
        )

    tree_whole : (done : ⊤) → AllFinish (Ok done) → (v : Literal) → literal_kinds v ≡ kinds_of text.lexemes.now → text.nodes.now ≡ literal_nodes 0 v → IsWholeRoot (tree_reading v) old final begun.value
    tree_whole done finish v encoded nodes =
        root_whole text 0 v at old new [] more begun.value block (tree_begun v encoded nodes) final (finish old (graph_of old (tree_reading v)) (tree_underway v encoded nodes))

    pub tree_fine : (done : ⊤) → AllFinish (Ok done) → ReadsTree text at old final (Ok begun.value)
    tree_fine done finish =
        let of_tree = tree_whole done finish tree.0 tree.1 tree.2 in
        (λ v encoded nodes. let w = tree_whole done finish v encoded nodes in (w.labels, w.whole), of_tree.valid)
