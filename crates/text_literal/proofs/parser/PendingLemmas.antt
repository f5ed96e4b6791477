-- If the reader begins the next part, then the result of the open blocks does not change.
use Rattle.std.proofs.Common.{arith, refl, sym, ap, ◌∙◌}
use Rattle.std.specs.Prelude.{ℕ, suc, ◌+◌, ◌<◌, ◌≡◌, true, if◌then◌else◌, Option, Result, Ok, Err, List, [], ◌∷◌, ◌++◌, length, pos, replicate}
use Rattle.std.proofs.lemmas.List.{append_assoc, append-nil, length-append, length-replicate, set_at}
use Rattle.base_data.specs.declared.model.value.Val.{Val}
use Rattle.base_data.specs.declared.model.value.Obj.{Obj}
use Rattle.base_data.specs.declared.model.value.Val.TheVariants as vals
use Rattle.base_data.specs.declared.model.value.Obj.TheVariants as objects
use Rattle.types_spec.specs.declared.types.names.Names.{Names}
use Rattle.types_spec.specs.declared.types.shape.ShapeOf.{ShapeOf}
use Rattle.types_lex.specs.declared.lexeme.Symbol.{Symbol}
use Rattle.types_lex.specs.declared.lexeme.Symbol.TheVariants as symbols
use Rattle.marshal_heap.specs.heap.Heap.{set_field}
use Rattle.marshal_heap.proofs.heap.HeapFieldLemmas.{length-set_field, set_field-append, set_field_at}
use Rattle.text_literal.specs.literal_grammar.Literal.{Literal, Plain, integer, character, string, double, truth, unit, constant, applied, fields, tuple, empty_array, array, Parts, no_parts, more_parts, FieldRows, no_rows, more_rows, row_start, label_kinds, parts_kinds, rows_kinds, labelled}
use Rattle.text_literal.specs.parser.LiteralReading.{LiteralReading, LiteralRefusal, reading, added, and_next, literal_read, inside, parts_read, rows_read, is_next, with_label, begun, block_read, label_at}
use Rattle.text_literal.specs.parser.Pending.{listed_parts, listed_rows, parts_of, fill, Open, then_row, open_at, row_read, finished, write}
use Rattle.text_literal.specs.parser.Starts.{block, start_at}
use Rattle.text_literal.proofs.parser.LiteralParserAnswerLemmas.{HasOneValue, literal_one}

-- ---- lists of parts

abbrev pub HasValues : {T : Type 0} → ℕ → Result LiteralReading (LiteralRefusal T) → Type 0
HasValues n (Err refusal) = Unit {0}
HasValues n (Ok r) = length r.values ≡ n

added_values : (T : Type 0) (n : ℕ) (one : LiteralReading) (v : Val) → one.values ≡ v ∷ [] → (all : Result LiteralReading (LiteralRefusal T)) → HasValues n all → HasValues (suc n) (added one all)
added_values T n one v single (Err refusal) many = tt
added_values T n one v single (Ok r) many = ap (λ vs. length (vs ++ r.values)) single ∙ ap suc many

then_values :
    (T : Type 0) (n c : ℕ) (one : Result LiteralReading (LiteralRefusal T)) (next : ℕ → List ℕ → Result LiteralReading (LiteralRefusal T))
    → HasOneValue one → ((d : ℕ) (labels : List ℕ) → HasValues n (next d labels)) → HasValues (suc n) (then_row c one next)
then_values T n c (Err refusal) next single many = tt
then_values T n c (Ok one) next (v, single) many = added_values T n one v single _ (many _ _)

module _ {T : Type 0} (shape : T → ShapeOf T) (names : T → Names) where
  pub row_values : (parts : List (ℕ × Literal)) (c : ℕ) (labels : List ℕ) (i : ℕ) (types : ℕ → T) → HasValues (length parts) (row_read shape names parts c labels i types)
  row_values [] c labels i types = refl
  row_values (p ∷ parts) c labels i types =
      then_values T (length parts) c (literal_read shape names p.0 p.1 c labels (types i)) (λ next more. row_read shape names parts next more (suc i) types)
      (literal_one shape names p.0 p.1 c labels (types i)) (λ d more. row_values parts d more (suc i) types)

-- ---- one more part at the end

abbrev pub and_at : {T : Type 0} → ℕ → ℕ → (ℕ → T) → Result LiteralReading (LiteralRefusal T) → (ℕ → List ℕ → T → Result LiteralReading (LiteralRefusal T)) → Result LiteralReading (LiteralRefusal T)
and_at c i types (Err refusal) next = Err refusal
and_at c i types (Ok one) next = added one (next (c + length one.objects) one.labels (types (i + length one.values)))

added_nothing : (T : Type 0) (one : LiteralReading) → added {T = T} one (Ok (reading [] [] one.labels)) ≡ Ok one
added_nothing T one = ap (λ vs. Ok (reading vs (one.objects ++ []) one.labels)) (append-nil one.values) ∙ ap (λ os. Ok (reading one.values os one.labels)) (append-nil one.objects)

then_nothing : (T : Type 0) (c : ℕ) (one : Result LiteralReading (LiteralRefusal T)) → then_row c one (λ d more. Ok (reading [] [] more)) ≡ one
then_nothing T c (Err refusal) = refl
then_nothing T c (Ok one) = added_nothing T one

nothing_added : (T : Type 0) (labels : List ℕ) (one : Result LiteralReading (LiteralRefusal T)) → added (reading [] [] labels) one ≡ one
nothing_added T labels (Err refusal) = refl
nothing_added T labels (Ok one) = refl

added_twice :
    (T : Type 0) (a b : LiteralReading) (r : Result LiteralReading (LiteralRefusal T))
    → added a (added b r) ≡ added (reading (a.values ++ b.values) (a.objects ++ b.objects) b.labels) r
added_twice T a b (Err refusal) = refl
added_twice T a b (Ok r) =
    ap (λ vs. Ok (reading vs (a.objects ++ (b.objects ++ r.objects)) r.labels)) (sym (append_assoc a.values b.values r.values))
    ∙ ap (λ os. Ok (reading ((a.values ++ b.values) ++ r.values) os r.labels)) (sym (append_assoc a.objects b.objects r.objects))

both :
    (T : Type 0) (c i : ℕ) (types : ℕ → T) (one : LiteralReading) (v : Val) → one.values ≡ v ∷ [] → (r : Result LiteralReading (LiteralRefusal T)) (next : ℕ → List ℕ → T → Result LiteralReading (LiteralRefusal T))
    → added one (and_at (c + length one.objects) (suc i) types r next) ≡ and_at c i types (added one r) next
both T c i types one v single (Err refusal) next = refl
both T c i types one v single (Ok r) next =
    added_twice T one r _
    ∙ ap (λ n. added (reading (one.values ++ r.values) (one.objects ++ r.objects) r.labels) (next n r.labels (types (suc i + length r.values))))
    (omega (arith, length-append one.objects r.objects))
    ∙ ap (λ n. added (reading (one.values ++ r.values) (one.objects ++ r.objects) r.labels) (next (c + length (one.objects ++ r.objects)) r.labels (types n)))
    (omega (arith, length-append one.values r.values, ap length single))

then_both :
    (T : Type 0) (c i : ℕ) (types : ℕ → T) (one : Result LiteralReading (LiteralRefusal T)) (row all : ℕ → List ℕ → Result LiteralReading (LiteralRefusal T)) (next : ℕ → List ℕ → T → Result LiteralReading (LiteralRefusal T))
    → HasOneValue one → ((d : ℕ) (labels : List ℕ) → all d labels ≡ and_at d (suc i) types (row d labels) next)
    → then_row c one all ≡ and_at c i types (then_row c one row) next
then_both T c i types (Err refusal) row all next single same = refl
then_both T c i types (Ok one) row all next (v, single) same =
    ap (added one) (same (c + length one.objects) one.labels) ∙ both T c i types one v single (row (c + length one.objects) one.labels) next

module _ {T : Type 0} (shape : T → ShapeOf T) (names : T → Names) where
  row_and_last :
      (parts : List (ℕ × Literal)) (k : ℕ) (v : Literal) (c : ℕ) (labels : List ℕ) (i : ℕ) (types : ℕ → T)
      → row_read shape names (parts ++ (k, v) ∷ []) c labels i types ≡ and_at c i types (row_read shape names parts c labels i types) (literal_read shape names k v)
  row_and_last [] k v c labels i types =
      then_nothing T c (literal_read shape names k v c labels (types i))
      ∙ ap (λ n. literal_read shape names k v n labels (types i)) (omega arith)
      ∙ ap (λ n. literal_read shape names k v (c + 0) labels (types n)) (omega arith)
      ∙ sym (nothing_added T labels _)
  row_and_last (p ∷ parts) k v c labels i types =
      then_both T c i types (literal_read shape names p.0 p.1 c labels (types i)) (λ d more. row_read shape names parts d more (suc i) types)
      (λ d more. row_read shape names (parts ++ (k, v) ∷ []) d more (suc i) types) (literal_read shape names k v)
      (literal_one shape names p.0 p.1 c labels (types i)) (λ d more. row_and_last parts k v d more (suc i) types)

-- ---- the parts of a plain literal as a list

first_part : (T : Type 0) (c : ℕ) (types : ℕ → T) (row : Result LiteralReading (LiteralRefusal T)) (next : ℕ → List ℕ → T → Result LiteralReading (LiteralRefusal T)) → and_next c types row next ≡ and_at c 0 types row next
first_part T c types (Err refusal) next = refl
first_part T c types (Ok one) next = ap (λ n. added one (next (c + length one.objects) one.labels (types n))) (omega arith)

module _ {T : Type 0} (shape : T → ShapeOf T) (names : T → Names) where
  -- The reading of a list of parts with one more part is the reading of the list, followed by the
  -- reading of the part.
  and_last :
      (parts : List (ℕ × Literal)) (k : ℕ) (v : Literal) (c : ℕ) (labels : List ℕ) (types : ℕ → T) (row : Result LiteralReading (LiteralRefusal T)) → row ≡ row_read shape names parts c labels 0 types
      → and_next c types row (literal_read shape names k v) ≡ row_read shape names (parts ++ (k, v) ∷ []) c labels 0 types
  and_last parts k v c labels types row same =
      ap (λ all. and_next c types all (literal_read shape names k v)) same
      ∙ first_part T c types _ (literal_read shape names k v)
      ∙ sym (row_and_last shape names parts k v c labels 0 types)

  parts_row :
      (separator : Symbol) (k : ℕ) (ps : Parts) (c : ℕ) (labels : List ℕ) (types : ℕ → T)
      → parts_read shape names separator k ps c labels types ≡ row_read shape names (listed_parts separator k ps) c labels 0 types
  parts_row separator k no_parts c labels types = refl
  parts_row separator k (more_parts ps v) c labels types =
      and_last (listed_parts separator k ps) (k + length (parts_kinds separator ps)) v c labels types _ (parts_row separator k ps c labels types)

  rows_row :
      (k : ℕ) (rs : FieldRows) (c : ℕ) (labels : List ℕ) (types : ℕ → T)
      → rows_read shape names k rs c labels types ≡ row_read shape names (listed_rows k rs) c labels 0 types
  rows_row k no_rows c labels types = refl
  rows_row k (more_rows rs x v) c labels types =
      and_last (listed_rows k rs) (k + length (rows_kinds rs ++ row_start x)) v c labels types _ (rows_row k rs c labels types)

  pub inside_row : (k : ℕ) (p : Plain) (c : ℕ) (labels : List ℕ) (types : ℕ → T) → inside shape names k p c labels types ≡ row_read shape names (parts_of k p) c labels 0 types
  inside_row k (integer i) c labels types = refl
  inside_row k (character b) c labels types = refl
  inside_row k (string s) c labels types = refl
  inside_row k (double d) c labels types = refl
  inside_row k (truth b) c labels types = refl
  inside_row k unit c labels types = refl
  inside_row k (constant h) c labels types = refl
  inside_row k (applied h ps v) c labels types = and_last (listed_parts symbols.Comma _ ps) _ v c labels types _ (parts_row symbols.Comma _ ps c labels types)
  inside_row k (fields o rs x v) c labels types = and_last (listed_rows _ rs) _ v c labels types _ (rows_row _ rs c labels types)
  inside_row k (tuple ps u v) c labels types =
      and_last (listed_parts symbols.Comma _ ps ++ (_, u) ∷ []) _ v c labels types _
      (and_last (listed_parts symbols.Comma _ ps) _ u c labels types _ (parts_row symbols.Comma _ ps c labels types))
  inside_row k empty_array c labels types = refl
  inside_row k (array ps v) c labels types = and_last (listed_parts symbols.Semicolon _ ps) _ v c labels types _ (parts_row symbols.Semicolon _ ps c labels types)

-- ---- fields

pub fill-append : (xs ys : List Obj) (b i : ℕ) (values : List Val) → b < length xs → fill (xs ++ ys) b i values ≡ fill xs b i values ++ ys
fill-append xs ys b i [] h = refl
fill-append xs ys b i (v ∷ values) h =
    ap (λ all. fill all b (suc i) values) (set_field-append xs ys b i v h)
    ∙ fill-append (set_field xs b i v) ys b (suc i) values (rw length-set_field h)

-- If the fields of the last block from index `i` on are filled, then the block has its first `i`
-- fields and the new values.
pub fill_from : (xs : List Obj) (tag : ℕ) (prefix rest : List Val) (b i : ℕ) (values : List Val) → length xs ≡ b → length prefix ≡ i → length rest ≡ length values
    → fill (xs ++ objects.Block tag (prefix ++ rest) ∷ []) b i values ≡ xs ++ objects.Block tag (prefix ++ values) ∷ []
fill_from xs tag prefix [] b i [] e d l = refl
fill_from xs tag prefix (r ∷ rest) b i [] e d l = absurd (omega arith)
fill_from xs tag prefix [] b i (v ∷ values) e d l = absurd (omega arith)
fill_from xs tag prefix (r ∷ rest) b i (v ∷ values) e d l =
    ap (λ all. fill all b (suc i) values)
    (set_field_at xs tag (prefix ++ r ∷ rest) b i v e
    ∙ ap (λ vs. xs ++ objects.Block tag vs ∷ []) (set_at prefix r rest v i d ∙ sym (append_assoc prefix (v ∷ []) rest)))
    ∙ fill_from xs tag (prefix ++ v ∷ []) rest b (suc i) values e (omega (arith, length-append prefix (v ∷ []), d)) (omega arith)
    ∙ ap (λ vs. xs ++ objects.Block tag vs ∷ []) (append_assoc prefix (v ∷ []) values)

-- ---- steps

module _ {T : Type 0} (shape : T → ShapeOf T) (names : T → Names) where
  write_more :
      (opens : List (Open T)) (graph : List Obj) (b i : ℕ) (x : Val) (objs : List Obj) (more : List ℕ) → b < length graph → (r : Result LiteralReading (LiteralRefusal T))
      → write (finished shape names opens) graph b i (added (reading (x ∷ []) objs more) r) ≡ write (finished shape names opens) (set_field graph b i x ++ objs) b (suc i) r
  write_more opens graph b i x objs more h (Err refusal) = refl
  write_more opens graph b i x objs more h (Ok r) =
      ap (λ all. finished shape names opens all r.labels)
      (sym (append_assoc (fill (set_field graph b i x) b (suc i) r.values) objs r.objects)
      ∙ ap (λ all. all ++ r.objects) (sym (fill-append (set_field graph b i x) objs b (suc i) r.values (rw length-set_field h))))

  -- Case: the next part is read completely.
  pub stepped :
      (b i n : ℕ) (types : ℕ → T) (k : ℕ) (v : Literal) (ps : List (ℕ × Literal)) (opens : List (Open T)) (graph : List Obj) (labels : List ℕ)
      (x : Val) (objs : List Obj) (more : List ℕ) → b < length graph → literal_read shape names k v (length graph) labels (types n) ≡ Ok (reading (x ∷ []) objs more)
      → finished shape names (open_at b i n types ((k, v) ∷ ps) ∷ opens) graph labels ≡ finished shape names (open_at b (suc i) (suc n) types ps ∷ opens) (set_field graph b i x ++ objs) more
  stepped b i n types k v ps opens graph labels x objs more h read =
      ap (λ one. write (finished shape names opens) graph b i (then_row (length graph) one (λ d all. row_read shape names ps d all (suc n) types))) read
      ∙ write_more opens graph b i x objs more h _
      ∙ ap (λ d. write (finished shape names opens) (set_field graph b i x ++ objs) b (suc i) (row_read shape names ps d more (suc n) types))
      (omega (arith, length-append (set_field graph b i x) objs, length-set_field graph b i x))

  -- Case: the next part is refused.
  pub refused :
      (b i n : ℕ) (types : ℕ → T) (k : ℕ) (v : Literal) (ps : List (ℕ × Literal)) (opens : List (Open T)) (graph : List Obj) (labels : List ℕ) (refusal : LiteralRefusal T)
      → literal_read shape names k v (length graph) labels (types n) ≡ Err refusal
      → finished shape names (open_at b i n types ((k, v) ∷ ps) ∷ opens) graph labels ≡ Err refusal
  refused b i n types k v ps opens graph labels refusal read =
      ap (λ one. write (finished shape names opens) graph b i (then_row (length graph) one (λ d all. row_read shape names ps d all (suc n) types))) read

  -- Case: the innermost block has no parts still to be read.
  pub popped :
      (b i n : ℕ) (types : ℕ → T) (opens : List (Open T)) (graph : List Obj) (labels : List ℕ)
      → finished shape names (open_at b i n types [] ∷ opens) graph labels ≡ finished shape names opens graph labels
  popped b i n types opens graph labels = ap (λ all. finished shape names opens all labels) (append-nil graph)

  -- If the start of a plain part is a block, then the reading of the part is the reading of the
  -- block.
  pub block_reads :
      (k : ℕ) (l : Option ℕ) (p : Plain) (c : ℕ) (labels : List ℕ) (t : T) (tag : ℕ) (prefix : List Val) (types : ℕ → T)
      → is_next labels l ≡ true → start_at t (shape t) (names t) p ≡ block tag prefix types
      → literal_read shape names k (labelled l p) c labels t
      ≡ block_read c tag prefix (row_read shape names (parts_of (k + length (label_kinds l)) p) (suc c) (with_label labels l c) 0 types)
  block_reads k l p c labels t tag prefix types next start =
      ap (λ b. if b then begun k q c labels l t (inside shape names q p (suc c)) (start_at t (shape t) (names t) p) else Err (label_at k)) next
      ∙ ap (begun k q c labels l t (inside shape names q p (suc c))) start
      ∙ ap (block_read c tag prefix) (inside_row shape names q p (suc c) (with_label labels l c) types)
    where
      q : ℕ
      q = k + length (label_kinds l)

module _ {T : Type 0} (shape : T → ShapeOf T) (names : T → Names) where
  -- The result is the same if the parts of the new block are stored into the block before the parts
  -- after the block are read.
  block_written :
      (b i n : ℕ) (types : ℕ → T) (k : ℕ) (v : Literal) (ps : List (ℕ × Literal)) (opens : List (Open T)) (graph : List Obj) (labels : List ℕ)
      (tag : ℕ) (prefix : List Val) (many : ℕ) → b < length graph → (row : Result LiteralReading (LiteralRefusal T)) → HasValues many row
      → literal_read shape names k v (length graph) labels (types n) ≡ block_read (length graph) tag prefix row
      → finished shape names (open_at b i n types ((k, v) ∷ ps) ∷ opens) graph labels
      ≡ write (finished shape names (open_at b (suc i) (suc n) types ps ∷ opens))
      (set_field graph b i (vals.Ref (length graph)) ++ objects.Block tag (prefix ++ replicate many (vals.Int (pos 0))) ∷ []) (length graph) (length prefix) row
  block_written b i n types k v ps opens graph labels tag prefix many h (Err refusal) full read = refused shape names b i n types k v ps opens graph labels refusal read
  block_written b i n types k v ps opens graph labels tag prefix many h (Ok r) full read =
      stepped shape names b i n types k v ps opens graph labels (vals.Ref (length graph)) (objects.Block tag (prefix ++ r.values) ∷ r.objects) r.labels h read
      ∙ ap (λ all. finished shape names (open_at b (suc i) (suc n) types ps ∷ opens) all r.labels)
      (sym (ap (λ all. all ++ r.objects)
      (fill_from (set_field graph b i (vals.Ref (length graph))) tag prefix (replicate many (vals.Int (pos 0))) (length graph) (length prefix) r.values
      (length-set_field graph b i (vals.Ref (length graph))) refl (length-replicate many (vals.Int (pos 0)) ∙ sym full))
      ∙ append_assoc (set_field graph b i (vals.Ref (length graph))) (objects.Block tag (prefix ++ r.values) ∷ []) r.objects))

  -- If the next part is a block, then the block becomes the innermost open block.
  pub stepped_in :
      (b i n : ℕ) (types : ℕ → T) (k : ℕ) (l : Option ℕ) (p : Plain) (ps : List (ℕ × Literal)) (opens : List (Open T)) (graph : List Obj) (labels : List ℕ)
      (tag : ℕ) (prefix : List Val) (inner : ℕ → T) → b < length graph
      → is_next labels l ≡ true → start_at (types n) (shape (types n)) (names (types n)) p ≡ block tag prefix inner
      → finished shape names (open_at b i n types ((k, labelled l p) ∷ ps) ∷ opens) graph labels
      ≡ finished shape names
      (open_at (length graph) (length prefix) 0 inner (parts_of (k + length (label_kinds l)) p) ∷ open_at b (suc i) (suc n) types ps ∷ opens)
      (set_field graph b i (vals.Ref (length graph)) ++ objects.Block tag (prefix ++ replicate (length (parts_of (k + length (label_kinds l)) p)) (vals.Int (pos 0))) ∷ [])
      (with_label labels l (length graph))
  stepped_in b i n types k l p ps opens graph labels tag prefix inner h next start =
      block_written b i n types k (labelled l p) ps opens graph labels tag prefix (length parts) h
      (row_read shape names parts (suc (length graph)) (with_label labels l (length graph)) 0 inner)
      (row_values shape names parts (suc (length graph)) (with_label labels l (length graph)) 0 inner)
      (block_reads shape names k l p (length graph) labels (types n) tag prefix inner next start)
      ∙ ap (λ d. write (finished shape names (open_at b (suc i) (suc n) types ps ∷ opens)) with_block (length graph) (length prefix) (row_read shape names parts d (with_label labels l (length graph)) 0 inner))
      (omega (arith, length-append (set_field graph b i (vals.Ref (length graph))) (objects.Block tag (prefix ++ replicate (length parts) (vals.Int (pos 0))) ∷ []), length-set_field graph b i (vals.Ref (length graph))))
    where
      parts : List (ℕ × Literal)
      parts = parts_of (k + length (label_kinds l)) p

      with_block : List Obj
      with_block = set_field graph b i (vals.Ref (length graph)) ++ objects.Block tag (prefix ++ replicate (length parts) (vals.Int (pos 0))) ∷ []
