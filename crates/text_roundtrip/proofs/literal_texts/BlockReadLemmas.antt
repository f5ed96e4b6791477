-- The text of a block is a plain literal with the literals of its parts.
use Rattle.std.proofs.Common.{◌≡◌, ℕ, zero, suc, ◌+◌, List, [], ◌∷◌, ◌++◌, length, Option, Ok, refl, sym, ap, subst, ◌∙◌, arith, append_assoc}
use Rattle.std.specs.Prelude.{slice_get, unwrap_or, codes, replicate}
use Rattle.base_data.specs.declared.model.value.Val.{Val}
use Rattle.types_lex.specs.declared.lexeme.Symbol.{Symbol}
use Rattle.types_lex.specs.declared.lexeme.Symbol.TheVariants as symbols
use Rattle.types_spec.specs.declared.types.names.Names.{Names}
use Rattle.types_spec.specs.declared.types.shape.ShapeOf.{ShapeOf}
use Rattle.marshal_spec.specs.format.Tree.{Forest, none, more, AreTrees, roots, all_made, all_objects}
use Rattle.types_parse.specs.grammar.Grammar.{Name, mark}
use Rattle.text_literal.specs.literal_grammar.Literal.{LiteralHead, head_kinds, owner_kinds, Literal, applied, fields, tuple, array, Parts, no_parts, more_parts, FieldRows, no_rows, plain_kinds, literal_kinds, parts_kinds, rows_kinds, row_start}
use Rattle.text_literal.specs.literal_grammar.LiteralNodes.{count, rows_count}
use Rattle.text_print.specs.leaves.Frames.{listed, fields_frame, array_frame, row_from}
use Rattle.text_literal.specs.parser.LiteralReading.{reading, and_next, literal_read, parts_read, rows_read}
use Rattle.text_literal.specs.parser.Starts.{block, start_at, type_in, names_of_rows}
use Rattle.text_roundtrip.specs.lexed.Lexed.{Ends, NoStar, IsLexed, BeginsWithoutStar}
use Rattle.text_roundtrip.proofs.lexed.LexedLemmas.{lexed_then, lexed_open_paren, lexed_close_paren, lexed_open_array, lexed_close_array, lexed_open_brace, lexed_close_brace, lexed_comma_space, lexed_semicolon_space, begins_with, lexed_at}
use Rattle.text_roundtrip.specs.literal_texts.Blocks.{IsRow}
use Rattle.text_roundtrip.specs.literal_texts.Forests.{TypesAre, ReadForest}
use Rattle.text_roundtrip.specs.literal_texts.Listing.{listing, rowing, IsText, AreTexts}
use Rattle.text_roundtrip.specs.literal_texts.NumberedLabels.{before}
use Rattle.text_roundtrip.specs.literal_texts.Readable.{AreFieldNames}
use Rattle.text_roundtrip.proofs.literal_texts.ObjectReadLemmas.{listing_count, rowing_count, rowing_names}
use Rattle.text_roundtrip.proofs.literal_texts.RowLexLemmas.{parts_lexed, rows_lexed}
use Rattle.text_roundtrip.proofs.literal_texts.RowReadLemmas.{parts_are_read, rows_are_read}

-- ---- types of parts

type_in_here : {T : Type 0} (all : List T) (t : T) (ts : List T) (i : ℕ) → ((j : ℕ) → slice_get all (i + j) ≡ slice_get ts j) → TypesAre (type_in all t) i ts
type_in_here all t [] i same = tt
type_in_here all t (u ∷ us) i same =
    let here : i + 0 ≡ i = omega arith in
    (ap (λ o. unwrap_or o t) (ap (slice_get all) (sym here) ∙ same 0), type_in_here all t us (suc i) (λ j. let e : suc i + j ≡ i + suc j = omega arith in ap (slice_get all) e ∙ same (suc j)))

pub types_in : {T : Type 0} (ts : List T) (t : T) → TypesAre (type_in ts t) 0 ts
types_in ts t = type_in_here ts t ts 0 (λ j. ap (slice_get ts) (omega arith))

pub same_types : {T : Type 0} (u : T) (n i : ℕ) → TypesAre (λ i. u) i (replicate n u)
same_types u zero i = tt
same_types u (suc n) i = (refl, same_types u n (suc i))

-- ---- no star follows an opening parenthesis

no_star : (text later : List ℕ) → BeginsWithoutStar text → NoStar (text ++ later)
no_star text later begins = subst (λ t. NoStar (t ++ later)) (sym begins.is) begins.no_star

row_begins : (opening between closing : List ℕ) (text : List ℕ) (texts : List (List ℕ)) → BeginsWithoutStar text
    → BeginsWithoutStar (row_from (record { opening = opening; labels = []; between = between; closing = closing }) 0 (text ∷ texts))
row_begins opening between closing text texts b = record {
  first = b.first;
  others = b.others ++ row_from (record { opening = opening; labels = []; between = between; closing = closing }) 1 texts;
  is = ap (λ t. t ++ row_from (record { opening = opening; labels = []; between = between; closing = closing }) 1 texts) b.is;
  no_star = b.no_star;
}

module _ {T : Type 0} (shape : T → ShapeOf T) (names : T → Names) (labels : List ℕ) where
  -- If the parts of a list of literals are trees, then the parts are read as the trees.
  row_inside : (types : ℕ → T) (v : Literal) (vs : List Literal) (separator : Symbol) (fs : Forest) (c : ℕ) → AreTrees fs → ReadForest shape names labels types 0 fs c (v ∷ vs)
      → let l = listing no_parts v vs in (k j : ℕ)
      → and_next c types (parts_read shape names separator k l.0 c (before c labels) types) (literal_read shape names j l.1) ≡ Ok (reading (roots fs c) (all_objects fs c) (before (c + all_made fs) labels))
  row_inside types v vs separator none c trees reads k j = absurd reads
  row_inside types v vs separator (more s fs) c trees reads k j = parts_are_read shape names labels separator types c s fs v vs trees reads k j

  rows_inside : (types : ℕ → T) (field : Name) (rest : List Name) (v : Literal) (vs : List Literal) → length rest ≡ length vs → (fs : Forest) (c : ℕ) → AreTrees fs → ReadForest shape names labels types 0 fs c (v ∷ vs)
      → let r = rowing no_rows field v rest vs in (k j : ℕ)
      → and_next c types (rows_read shape names k r.0 c (before c labels) types) (literal_read shape names j r.2) ≡ Ok (reading (roots fs c) (all_objects fs c) (before (c + all_made fs) labels))
  rows_inside types field rest v vs many none c trees reads k j = absurd reads
  rows_inside types field rest v vs many (more s fs) c trees reads k j = rows_are_read shape names labels types c s fs field rest v vs trees many reads k j

  -- ---- a head and its arguments

  pub applied_row : (s : ShapeOf T) (nm : Names) (t : T) (tag : ℕ) (skip : List Val) (ts : List T) (name : List ℕ) (head : LiteralHead) (text : List ℕ) (texts : List (List ℕ)) (v : Literal) (vs : List Literal) (types : ℕ → T)
      → IsLexed Ends name (head_kinds head) → BeginsWithoutStar name → IsText text v → AreTexts texts vs → TypesAre types 0 ts
      → start_at t s nm (applied head (listing no_parts v vs).0 (listing no_parts v vs).1) ≡ block tag skip types
      → IsRow shape names labels s nm t tag skip ts ((name ++ codes "(") ++ (row_from (listed name) 0 (text ∷ texts) ++ codes ")")) (v ∷ vs)
  applied_row s nm t tag skip ts name head text texts v vs types lexed begins one are types_are starts =
      let l = listing no_parts v vs in
      let row = parts_lexed (name ++ codes "(") (codes ", ") (codes ")") symbols.Comma lexed_comma_space (λ after. refl) text v texts vs one are in
      let close = lexed_then row (lexed_close_paren Ends) (λ after may. refl) in
      let starless : (after : List ℕ) → NoStar ((row_from (listed name) 0 (text ∷ texts) ++ codes ")") ++ after) =
      λ after. subst NoStar (sym (append_assoc (row_from (listed name) 0 (text ∷ texts)) (codes ")") after)) (no_star (row_from (listed name) 0 (text ∷ texts)) (codes ")" ++ after) (row_begins (name ++ codes "(") (codes ", ") (codes ")") text texts one.begins)) in
      let open_row = lexed_then (lexed_then lexed lexed_open_paren (λ after may. refl)) close (λ after may. starless after) in
      let row_kinds = parts_kinds symbols.Comma l.0 in
      let grouped : (head_kinds head ++ mark symbols.OpenParen) ++ ((row_kinds ++ literal_kinds l.1) ++ mark symbols.CloseParen) ≡ plain_kinds (applied head l.0 l.1) =
      sym (append_assoc (head_kinds head ++ mark symbols.OpenParen) (row_kinds ++ literal_kinds l.1) (mark symbols.CloseParen))
      ∙ ap (λ k. k ++ mark symbols.CloseParen) (sym (append_assoc (head_kinds head ++ mark symbols.OpenParen) row_kinds (literal_kinds l.1))) in
      record {
        plain = applied head l.0 l.1;
        lexed = lexed_at refl grouped open_row;
        begins = record { first = begins.first; others = (begins.others ++ codes "(") ++ (row_from (listed name) 0 (text ∷ texts) ++ codes ")"); is = ap (λ n. (n ++ codes "(") ++ (row_from (listed name) 0 (text ∷ texts) ++ codes ")")) begins.is; no_star = begins.no_star };
        types = types;
        types_are = types_are;
        starts = starts;
        inside_is = λ fs c trees reads k. row_inside types v vs symbols.Comma fs c trees reads _ _;
      }

  pub array_row : (s : ShapeOf T) (nm : Names) (t : T) (ts : List T) (text : List ℕ) (texts : List (List ℕ)) (v : Literal) (vs : List Literal) (types : ℕ → T)
      → IsText text v → AreTexts texts vs → TypesAre types 0 ts
      → start_at t s nm (array (listing no_parts v vs).0 (listing no_parts v vs).1) ≡ block 0 [] types
      → IsRow shape names labels s nm t 0 [] ts (codes "[|" ++ (row_from array_frame 0 (text ∷ texts) ++ codes "|]")) (v ∷ vs)
  array_row s nm t ts text texts v vs types one are types_are starts =
      let l = listing no_parts v vs in
      let row = parts_lexed (codes "[|") (codes "; ") (codes "|]") symbols.Semicolon lexed_semicolon_space (λ after. refl) text v texts vs one are in
      let open_row = lexed_then (lexed_open_array (λ after. Unit {0})) (lexed_then row (lexed_close_array Ends) (λ after may. refl)) (λ after may. tt) in
      let row_kinds = parts_kinds symbols.Semicolon l.0 in
      let grouped : mark symbols.OpenArray ++ ((row_kinds ++ literal_kinds l.1) ++ mark symbols.CloseArray) ≡ plain_kinds (array l.0 l.1) =
      sym (append_assoc (mark symbols.OpenArray) (row_kinds ++ literal_kinds l.1) (mark symbols.CloseArray))
      ∙ ap (λ k. k ++ mark symbols.CloseArray) (sym (append_assoc (mark symbols.OpenArray) row_kinds (literal_kinds l.1))) in
      record {
        plain = array l.0 l.1;
        lexed = lexed_at refl grouped open_row;
        begins = begins_with 91 _ (λ e. absurd (omega arith));
        types = types;
        types_are = types_are;
        starts = starts;
        inside_is = λ fs c trees reads k. row_inside types v vs symbols.Semicolon fs c trees reads _ _;
      }

  -- If there are two or more parts in parentheses, then the text is a tuple of the parts.
  pub tuple_row : (s : ShapeOf T) (nm : Names) (t : T) (ts : List T) (text other : List ℕ) (texts : List (List ℕ)) (v w : Literal) (vs : List Literal) (types : ℕ → T)
      → IsText text v → AreTexts (other ∷ texts) (w ∷ vs) → TypesAre types 0 ts
      → ((ps : Parts) (u x : Literal) → count ps ≡ length vs → start_at t s nm (tuple ps u x) ≡ block 0 [] types)
      → IsRow shape names labels s nm t 0 [] ts (codes "(" ++ (row_from (listed []) 0 (text ∷ other ∷ texts) ++ codes ")")) (v ∷ w ∷ vs)
  tuple_row s nm t ts text other texts v w vs types one are types_are starts = by_parts (listing no_parts v (w ∷ vs)) refl
    where
      row_text : List ℕ
      row_text = row_from (listed []) 0 (text ∷ other ∷ texts)

      row : let l = listing no_parts v (w ∷ vs) in IsLexed Ends row_text (parts_kinds symbols.Comma l.0 ++ literal_kinds l.1)
      row = parts_lexed (codes "(") (codes ", ") (codes ")") symbols.Comma lexed_comma_space (λ after. refl) text v (other ∷ texts) (w ∷ vs) one are

      starless : (after : List ℕ) → NoStar ((row_text ++ codes ")") ++ after)
      starless after = subst NoStar (sym (append_assoc row_text (codes ")") after)) (no_star row_text (codes ")" ++ after) (row_begins (codes "(") (codes ", ") (codes ")") text (other ∷ texts) one.begins))

      by_parts : (l : Parts × Literal) → listing no_parts v (w ∷ vs) ≡ l → IsRow shape names labels s nm t 0 [] ts (codes "(" ++ (row_text ++ codes ")")) (v ∷ w ∷ vs)
      by_parts (no_parts, x) e = let many = listing_count (w ∷ vs) no_parts v in absurd (omega (arith, many, ap (λ (l : Parts × Literal). count l.0) e))
      by_parts (more_parts ps u, x) e =
          let many : count ps ≡ length vs = omega (arith, listing_count (w ∷ vs) no_parts v, ap (λ (l : Parts × Literal). count l.0) e) in
          let row' : IsLexed Ends row_text (parts_kinds symbols.Comma (more_parts ps u) ++ literal_kinds x) = subst (λ (l : Parts × Literal). IsLexed Ends row_text (parts_kinds symbols.Comma l.0 ++ literal_kinds l.1)) e row in
          let open_row = lexed_then lexed_open_paren (lexed_then row' (lexed_close_paren Ends) (λ after may. refl)) (λ after may. starless after) in
          let row_kinds = parts_kinds symbols.Comma (more_parts ps u) in
          let grouped : mark symbols.OpenParen ++ ((row_kinds ++ literal_kinds x) ++ mark symbols.CloseParen) ≡ plain_kinds (tuple ps u x) =
          sym (append_assoc (mark symbols.OpenParen) (row_kinds ++ literal_kinds x) (mark symbols.CloseParen))
          ∙ ap (λ k. k ++ mark symbols.CloseParen) (sym (append_assoc (mark symbols.OpenParen) row_kinds (literal_kinds x))) in
          record {
            plain = tuple ps u x;
            lexed = lexed_at refl grouped open_row;
            begins = begins_with 40 _ (λ e. absurd (omega arith));
            types = types;
            types_are = types_are;
            starts = starts ps u x many;
            inside_is = λ fs c trees reads k.
                ap (λ (l : Parts × Literal). and_next c types (parts_read shape names symbols.Comma (k + 1) l.0 c (before c labels) types) (literal_read shape names (k + 1 + length (parts_kinds symbols.Comma ps ++ literal_kinds u ++ mark symbols.Comma)) l.1)) (sym e)
                ∙ row_inside types v (w ∷ vs) symbols.Comma fs c trees reads (k + 1) (k + 1 + length (parts_kinds symbols.Comma ps ++ literal_kinds u ++ mark symbols.Comma));
          }

  pub fields_row : (s : ShapeOf T) (nm : Names) (t : T) (tag : ℕ) (ts : List T) (name : List ℕ) (owner : Option LiteralHead) (field : Name) (rest : List Name) (text : List ℕ) (texts : List (List ℕ)) (v : Literal) (vs : List Literal) (types : ℕ → T)
      → IsLexed Ends name (owner_kinds owner) → BeginsWithoutStar (name ++ codes "{") → AreFieldNames (field ∷ rest) → length rest ≡ length texts → length rest ≡ length vs → IsText text v → AreTexts texts vs → TypesAre types 0 ts
      → ((rs : FieldRows) (x : Name) (u : Literal) → names_of_rows rs ++ x ∷ [] ≡ field ∷ rest → rows_count rs ≡ length vs → start_at t s nm (fields owner rs x u) ≡ block tag [] types)
      → IsRow shape names labels s nm t tag [] ts ((name ++ codes "{") ++ (row_from (fields_frame name (field ∷ rest)) 0 (text ∷ texts) ++ codes "}")) (v ∷ vs)
  fields_row s nm t tag ts name owner field rest text texts v vs types lexed begins are_names many as_many one are types_are starts =
      let r = rowing no_rows field v rest vs in
      let row = rows_lexed name field rest text v texts vs are_names many one are in
      let open_row = lexed_then (lexed_then lexed (lexed_open_brace (λ after. Unit {0})) (λ after may. refl)) (lexed_then row (lexed_close_brace Ends) (λ after may. refl)) (λ after may. tt) in
      let prefix = owner_kinds owner ++ mark symbols.OpenBrace in
      let grouped : prefix ++ ((rows_kinds r.0 ++ row_start r.1 ++ literal_kinds r.2) ++ mark symbols.CloseBrace) ≡ plain_kinds (fields owner r.0 r.1 r.2) =
      sym (append_assoc prefix (rows_kinds r.0 ++ row_start r.1 ++ literal_kinds r.2) (mark symbols.CloseBrace))
      ∙ ap (λ k. k ++ mark symbols.CloseBrace) (sym (append_assoc prefix (rows_kinds r.0 ++ row_start r.1) (literal_kinds r.2)) ∙ ap (λ k. k ++ literal_kinds r.2) (sym (append_assoc prefix (rows_kinds r.0) (row_start r.1)))) in
      record {
        plain = fields owner r.0 r.1 r.2;
        lexed = lexed_at refl grouped open_row;
        begins = record { first = begins.first; others = begins.others ++ (row_from (fields_frame name (field ∷ rest)) 0 (text ∷ texts) ++ codes "}"); is = ap (λ n. n ++ (row_from (fields_frame name (field ∷ rest)) 0 (text ∷ texts) ++ codes "}")) begins.is; no_star = begins.no_star };
        types = types;
        types_are = types_are;
        starts = starts r.0 r.1 r.2 (rowing_names rest vs no_rows field v as_many) (rowing_count rest vs no_rows field v as_many ∙ omega (arith, as_many));
        inside_is = λ fs c trees reads k. rows_inside types field rest v vs as_many fs c trees reads _ _;
      }
