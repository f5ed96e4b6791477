-- Lists of literals are read as the values and the objects of a forest.
use Rattle.std.proofs.Common.{◌≡◌, ℕ, suc, ◌+◌, List, [], ◌∷◌, ◌++◌, length, Result, Ok, refl, sym, ap, subst, ◌∙◌, arith, append_assoc, length-append}
use Rattle.std.proofs.lemmas.List.{append-nil}
use Rattle.base_data.specs.declared.model.value.Val.{Val}
use Rattle.base_data.specs.declared.model.value.Obj.{Obj}
use Rattle.types_spec.specs.declared.types.names.Names.{Names}
use Rattle.types_spec.specs.declared.types.shape.ShapeOf.{ShapeOf}
use Rattle.marshal_spec.specs.format.Tree.{Tree, Forest, none, more, root, roots, made, all_made, objects_of, all_objects, AreTrees}
use Rattle.marshal_spec.proofs.format.Counts.{length-objects_of}
use Rattle.types_lex.specs.declared.lexeme.Symbol.{Symbol}
use Rattle.types_parse.specs.grammar.Grammar.{Name}
use Rattle.text_literal.specs.literal_grammar.Literal.{Literal, Parts, no_parts, more_parts, FieldRows, no_rows, more_rows}
use Rattle.text_roundtrip.specs.literal_texts.Forests.{Reads, ReadForest}
use Rattle.text_roundtrip.specs.literal_texts.Listing.{listing, rowing}
use Rattle.text_roundtrip.specs.literal_texts.NumberedLabels.{before}
use Rattle.text_literal.specs.parser.LiteralReading.{LiteralReading, LiteralRefusal, reading, added, and_next, literal_read, parts_read, rows_read}

module _ {T : Type 0} (shape : T → ShapeOf T) (names : T → Names) (labels : List ℕ) where
  -- If some parts are read and the next literal is read, then the parts and the next literal are
  -- read.
  next_read : (s : Tree) (c d : ℕ) (types : ℕ → T) (v : Literal) (j : ℕ) (values : List Val) (objects : List Obj) → d ≡ c + length objects → Reads shape names labels v (root s d) (objects_of s d) d (d + made s) (types (length values))
      → (r : Result LiteralReading (LiteralRefusal T)) → r ≡ Ok (reading values objects (before d labels))
      → and_next c types r (literal_read shape names j v) ≡ Ok (reading (values ++ root s d ∷ []) (objects ++ objects_of s d) (before (d + made s) labels))
  next_read s c d types v j values objects at reads r is =
      ap (λ r. and_next c types r (literal_read shape names j v)) is
      ∙ ap (λ n. added (reading values objects (before d labels)) (literal_read shape names j v n (before d labels) (types (length values)))) (sym at)
      ∙ ap (λ r. added (reading values objects (before d labels)) r) (reads j)

  module _ (separator : Symbol) (types : ℕ → T) (c : ℕ) where
    -- The parts before the last part, and the last part `v`, are read as the values and objects.
    abbrev RowReads : Parts → Literal → List Val → List Obj → ℕ → Type 0
    RowReads ps v values objects d =
        (k j : ℕ) → and_next c types (parts_read shape names separator k ps c (before c labels) types) (literal_read shape names j v) ≡ Ok (reading values objects (before d labels))

    listing_read : (fs : Forest) (vs : List Literal) (ps : Parts) (v : Literal) (values : List Val) (objects : List Obj) (d : ℕ) → AreTrees fs → d ≡ c + length objects
        → RowReads ps v values objects d → ReadForest shape names labels types (length values) fs d vs
        → RowReads (listing ps v vs).0 (listing ps v vs).1 (values ++ roots fs d) (objects ++ all_objects fs d) (d + all_made fs)
    listing_read none [] ps v values objects d trees at one reads k j =
        one k j ∙ ap (λ vs. Ok (reading vs objects (before d labels))) (sym (append-nil values)) ∙ ap (λ os. Ok (reading (values ++ []) os (before d labels))) (sym (append-nil objects))
        ∙ ap (λ n. Ok (reading (values ++ []) (objects ++ []) (before n labels))) (omega arith)
    listing_read none (w ∷ ws) ps v values objects d trees at one reads k j = absurd reads
    listing_read (more s fs) [] ps v values objects d trees at one reads k j = absurd reads
    listing_read (more s fs) (w ∷ ws) ps v values objects d trees at one reads k j =
        let many = length-objects_of s d trees.0 in
        let at' : d + made s ≡ c + length (objects ++ objects_of s d) = omega (arith, length-append objects (objects_of s d), many, at) in
        let long : suc (length values) ≡ length (values ++ root s d ∷ []) = omega (arith, length-append values (root s d ∷ [])) in
        let next : RowReads (more_parts ps v) w (values ++ root s d ∷ []) (objects ++ objects_of s d) (d + made s) =
        λ k j. next_read s c d types w j values objects at reads.0 _ (one k _) in
        listing_read fs ws (more_parts ps v) w (values ++ root s d ∷ []) (objects ++ objects_of s d) (d + made s) trees.1 at' next (subst (λ i. ReadForest shape names labels types i fs (d + made s) ws) long reads.1) k j
        ∙ ap (λ vs. Ok (reading vs ((objects ++ objects_of s d) ++ all_objects fs (d + made s)) (before (d + made s + all_made fs) labels))) (append_assoc values (root s d ∷ []) (roots fs (d + made s)))
        ∙ ap (λ os. Ok (reading (values ++ (root s d ∷ roots fs (d + made s))) os (before (d + made s + all_made fs) labels))) (append_assoc objects (objects_of s d) (all_objects fs (d + made s)))
        ∙ ap (λ n. Ok (reading (values ++ (root s d ∷ roots fs (d + made s))) (objects ++ (objects_of s d ++ all_objects fs (d + made s))) (before n labels))) (omega arith)

    -- If the literals of a list are read as the trees of a forest, then all parts of the list are
    -- read.
    pub parts_are_read : (s : Tree) (fs : Forest) (v : Literal) (vs : List Literal) → AreTrees (more s fs) → ReadForest shape names labels types 0 (more s fs) c (v ∷ vs)
        → let l = listing no_parts v vs in (k j : ℕ)
        → and_next c types (parts_read shape names separator k l.0 c (before c labels) types) (literal_read shape names j l.1)
        ≡ Ok (reading (roots (more s fs) c) (all_objects (more s fs) c) (before (c + all_made (more s fs)) labels))
    parts_are_read s fs v vs trees reads k j =
        let one : RowReads no_parts v (root s c ∷ []) (objects_of s c) (c + made s) =
        λ k j. next_read s c c types v j [] [] (omega arith) reads.0 _ refl in
        let at : c + made s ≡ c + length (objects_of s c) = omega (arith, length-objects_of s c trees.0) in
        listing_read fs vs no_parts v (root s c ∷ []) (objects_of s c) (c + made s) trees.1 at one reads.1 k j
        ∙ ap (λ n. Ok (reading (roots (more s fs) c) (all_objects (more s fs) c) (before n labels))) (omega arith)

  module _ (types : ℕ → T) (c : ℕ) where
    abbrev RowsRead : FieldRows × Name × Literal → List Val → List Obj → ℕ → Type 0
    RowsRead r values objects d =
        (k j : ℕ) → and_next c types (rows_read shape names k r.0 c (before c labels) types) (literal_read shape names j r.2) ≡ Ok (reading values objects (before d labels))

    rowing_read : (fs : Forest) (fields : List Name) (vs : List Literal) (rs : FieldRows) (x : Name) (v : Literal) (values : List Val) (objects : List Obj) (d : ℕ) → AreTrees fs → d ≡ c + length objects
        → length fields ≡ length vs → RowsRead (rs, x, v) values objects d → ReadForest shape names labels types (length values) fs d vs
        → RowsRead (rowing rs x v fields vs) (values ++ roots fs d) (objects ++ all_objects fs d) (d + all_made fs)
    rowing_read none [] [] rs x v values objects d trees at many one reads k j =
        one k j ∙ ap (λ vs. Ok (reading vs objects (before d labels))) (sym (append-nil values)) ∙ ap (λ os. Ok (reading (values ++ []) os (before d labels))) (sym (append-nil objects))
        ∙ ap (λ n. Ok (reading (values ++ []) (objects ++ []) (before n labels))) (omega arith)
    rowing_read none [] (w ∷ ws) rs x v values objects d trees at many one reads k j = absurd reads
    rowing_read none (y ∷ ys) [] rs x v values objects d trees at many one reads k j = absurd (omega arith)
    rowing_read none (y ∷ ys) (w ∷ ws) rs x v values objects d trees at many one reads k j = absurd reads
    rowing_read (more s fs) fields [] rs x v values objects d trees at many one reads k j = absurd reads
    rowing_read (more s fs) [] (w ∷ ws) rs x v values objects d trees at many one reads k j = absurd (omega arith)
    rowing_read (more s fs) (y ∷ ys) (w ∷ ws) rs x v values objects d trees at many one reads k j =
        let count = length-objects_of s d trees.0 in
        let at' : d + made s ≡ c + length (objects ++ objects_of s d) = omega (arith, length-append objects (objects_of s d), count, at) in
        let long : suc (length values) ≡ length (values ++ root s d ∷ []) = omega (arith, length-append values (root s d ∷ [])) in
        let next : RowsRead (more_rows rs x v, y, w) (values ++ root s d ∷ []) (objects ++ objects_of s d) (d + made s) =
        λ k j. next_read s c d types w j values objects at reads.0 _ (one k _) in
        rowing_read fs ys ws (more_rows rs x v) y w (values ++ root s d ∷ []) (objects ++ objects_of s d) (d + made s) trees.1 at' (omega arith) next (subst (λ i. ReadForest shape names labels types i fs (d + made s) ws) long reads.1) k j
        ∙ ap (λ vs. Ok (reading vs ((objects ++ objects_of s d) ++ all_objects fs (d + made s)) (before (d + made s + all_made fs) labels))) (append_assoc values (root s d ∷ []) (roots fs (d + made s)))
        ∙ ap (λ os. Ok (reading (values ++ (root s d ∷ roots fs (d + made s))) os (before (d + made s + all_made fs) labels))) (append_assoc objects (objects_of s d) (all_objects fs (d + made s)))
        ∙ ap (λ n. Ok (reading (values ++ (root s d ∷ roots fs (d + made s))) (objects ++ (objects_of s d ++ all_objects fs (d + made s))) (before n labels))) (omega arith)

    pub rows_are_read : (s : Tree) (fs : Forest) (field : Name) (fields : List Name) (v : Literal) (vs : List Literal) → AreTrees (more s fs) → length fields ≡ length vs → ReadForest shape names labels types 0 (more s fs) c (v ∷ vs)
        → let r = rowing no_rows field v fields vs in (k j : ℕ)
        → and_next c types (rows_read shape names k r.0 c (before c labels) types) (literal_read shape names j r.2)
        ≡ Ok (reading (roots (more s fs) c) (all_objects (more s fs) c) (before (c + all_made (more s fs)) labels))
    rows_are_read s fs field fields v vs trees many reads k j =
        let one : RowsRead (no_rows, field, v) (root s c ∷ []) (objects_of s c) (c + made s) =
        λ k j. next_read s c c types v j [] [] (omega arith) reads.0 _ refl in
        let at : c + made s ≡ c + length (objects_of s c) = omega (arith, length-objects_of s c trees.0) in
        rowing_read fs fields vs no_rows field v (root s c ∷ []) (objects_of s c) (c + made s) trees.1 at many one reads.1 k j
        ∙ ap (λ n. Ok (reading (roots (more s fs) c) (all_objects (more s fs) c) (before n labels))) (omega arith)
