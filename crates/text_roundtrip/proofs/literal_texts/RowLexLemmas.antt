-- Lists of texts are lexed as lists of literals.
use Rattle.std.proofs.Common.{◌≡◌, ℕ, suc, ◌+◌, List, [], ◌∷◌, ◌++◌, length, refl, sym, ap, subst, ◌∙◌, arith, append_assoc}
use Rattle.std.specs.Prelude.{slice_get, unwrap_or, map, codes}
use Rattle.std.proofs.lemmas.List.{append-nil}
use Rattle.types_lex.specs.declared.lexeme.Symbol.{Symbol}
use Rattle.types_lex.specs.declared.lexeme.Symbol.TheVariants as symbols
use Rattle.types_lex.specs.Lexeme.{Lower, IsForm}
use Rattle.types_parse.specs.grammar.Grammar.{Name, mark}
use Rattle.text_literal.specs.literal_grammar.Literal.{Literal, Parts, no_parts, more_parts, FieldRows, no_rows, more_rows, literal_kinds, parts_kinds, rows_kinds, row_start}
use Rattle.text_print.specs.leaves.Frames.{Frame, label_at, before_part, row_from, fields_frame}
use Rattle.text_roundtrip.specs.lexed.Lexed.{Ends, IsLexed}
use Rattle.text_roundtrip.proofs.lexed.LexedLemmas.{lexed_at, lexed_then, lexed_lower, lexed_space, lexed_equals, lexed_semicolon_space}
use Rattle.text_roundtrip.specs.literal_texts.Listing.{listing, rowing, IsText, AreTexts}
use Rattle.text_roundtrip.specs.literal_texts.Readable.{AreFieldNames}

-- ---- parts without names

module _ (opening between closing : List ℕ) (separator : Symbol) (separated : (May : List ℕ → Type 0) → IsLexed May between (mark separator)) (ends : (after : List ℕ) → Ends (between ++ after)) where
  abbrev frame : Frame
  frame = record { opening = opening; labels = []; between = between; closing = closing }

  listing_lexed : (texts : List (List ℕ)) (vs : List Literal) (i : ℕ) (ps : Parts) (v : Literal) (text : List ℕ)
      → IsLexed Ends text (parts_kinds separator ps ++ literal_kinds v) → AreTexts texts vs
      → IsLexed Ends (text ++ row_from frame (suc i) texts) (parts_kinds separator (listing ps v vs).0 ++ literal_kinds (listing ps v vs).1)
  listing_lexed [] [] i ps v text one are = lexed_at (sym (append-nil text)) refl one
  listing_lexed [] (w ∷ ws) i ps v text one are = absurd are
  listing_lexed (t ∷ ts) [] i ps v text one are = absurd are
  listing_lexed (t ∷ ts) (w ∷ ws) i ps v text one are =
      let next : IsLexed Ends (text ++ (between ++ t)) ((parts_kinds separator ps ++ literal_kinds v) ++ (mark separator ++ literal_kinds w)) =
      lexed_then one (lexed_then (separated (λ after. Unit {0})) are.0.lexed (λ after may. tt)) (λ after may. subst Ends (sym (append_assoc between t after)) (ends (t ++ after))) in
      let grouped : (parts_kinds separator ps ++ literal_kinds v) ++ (mark separator ++ literal_kinds w) ≡ parts_kinds separator (more_parts ps v) ++ literal_kinds w =
      sym (append_assoc (parts_kinds separator ps ++ literal_kinds v) (mark separator) (literal_kinds w)) in
      let text_is : (text ++ (between ++ t)) ++ row_from frame (suc (suc i)) ts ≡ text ++ row_from frame (suc i) (t ∷ ts) =
      append_assoc text (between ++ t) (row_from frame (suc (suc i)) ts) ∙ ap (λ b. text ++ (b ++ t ++ row_from frame (suc (suc i)) ts)) (sym (append-nil between)) in
      lexed_at text_is refl (listing_lexed ts ws (suc i) (more_parts ps v) w (text ++ (between ++ t)) (lexed_at refl grouped next) are.1)

  pub parts_lexed : (text : List ℕ) (v : Literal) (texts : List (List ℕ)) (vs : List Literal) → IsText text v → AreTexts texts vs
      → IsLexed Ends (row_from frame 0 (text ∷ texts)) (parts_kinds separator (listing no_parts v vs).0 ++ literal_kinds (listing no_parts v vs).1)
  parts_lexed text v texts vs one are = listing_lexed texts vs 0 no_parts v text one.lexed are

-- ---- fields

named_lexed : (field : List ℕ) → IsForm (Lower field) → IsLexed (λ after. Unit {0}) (field ++ codes " = ") (row_start field)
named_lexed field is =
    lexed_then (lexed_lower field is) (lexed_then (lexed_space (λ after. Unit {0})) (lexed_then (lexed_equals (λ after. Unit {0})) (lexed_space (λ after. Unit {0})) (λ after may. tt)) (λ after may. tt)) (λ after may. refl)

-- The labels of the frame from index `i` on are the names of the fields `fields`.
abbrev LabelsFrom : Frame → ℕ → List (List ℕ) → Type 0
LabelsFrom frame i fields = (j : ℕ) → slice_get frame.labels (i + j) ≡ slice_get (map (λ field. field ++ codes " = ") fields) j

label_here : (frame : Frame) (i : ℕ) (field : List ℕ) (fields : List (List ℕ)) → LabelsFrom frame i (field ∷ fields) → label_at frame i ≡ field ++ codes " = "
label_here frame i field fields from = let e : i + 0 ≡ i = omega arith in ap (λ o. unwrap_or o []) (ap (slice_get frame.labels) (sym e) ∙ from 0)

labels_after : (frame : Frame) (i : ℕ) (field : List ℕ) (fields : List (List ℕ)) → LabelsFrom frame i (field ∷ fields) → LabelsFrom frame (suc i) fields
labels_after frame i field fields from j = let e : suc i + j ≡ i + suc j = omega arith in ap (slice_get frame.labels) e ∙ from (suc j)

module _ (frame : Frame) (between : frame.between ≡ codes "; ") where
  rowing_lexed : (fields : List (List ℕ)) (texts : List (List ℕ)) (vs : List Literal) (i : ℕ) (rs : FieldRows) (x : Name) (v : Literal) (text : List ℕ)
      → LabelsFrom frame (suc i) fields → AreFieldNames fields → length fields ≡ length texts
      → IsLexed Ends text (rows_kinds rs ++ row_start x ++ literal_kinds v) → AreTexts texts vs
      → let r = rowing rs x v fields vs in IsLexed Ends (text ++ row_from frame (suc i) texts) (rows_kinds r.0 ++ row_start r.1 ++ literal_kinds r.2)
  rowing_lexed [] [] [] i rs x v text from are many one texts = lexed_at (sym (append-nil text)) refl one
  rowing_lexed [] [] (w ∷ ws) i rs x v text from are many one texts = absurd texts
  rowing_lexed [] (t ∷ ts) vs i rs x v text from are many one texts = absurd (omega arith)
  rowing_lexed (y ∷ ys) [] vs i rs x v text from are many one texts = absurd (omega arith)
  rowing_lexed (y ∷ ys) (t ∷ ts) [] i rs x v text from are many one texts = absurd texts
  rowing_lexed (y ∷ ys) (t ∷ ts) (w ∷ ws) i rs x v text from are many one texts =
      let named = named_lexed y are.0 in
      let part : IsLexed Ends (codes "; " ++ ((y ++ codes " = ") ++ t)) (mark symbols.Semicolon ++ (row_start y ++ literal_kinds w)) =
      lexed_then (lexed_semicolon_space (λ after. Unit {0})) (lexed_then named texts.0.lexed (λ after may. tt)) (λ after may. tt) in
      let next = lexed_then one part (λ after may. refl) in
      let grouped : (rows_kinds rs ++ row_start x ++ literal_kinds v) ++ (mark symbols.Semicolon ++ (row_start y ++ literal_kinds w)) ≡ rows_kinds (more_rows rs x v) ++ row_start y ++ literal_kinds w =
      sym (append_assoc (rows_kinds rs ++ row_start x ++ literal_kinds v) (mark symbols.Semicolon) (row_start y ++ literal_kinds w))
      ∙ sym (append_assoc (rows_kinds (more_rows rs x v)) (row_start y) (literal_kinds w)) in
      let rest = row_from frame (suc (suc i)) ts in
      let before : codes "; " ++ ((y ++ codes " = ") ++ t) ≡ before_part frame (suc i) ++ t =
      sym (append_assoc (codes "; ") (y ++ codes " = ") t) ∙ ap (λ b. b ++ (y ++ codes " = ") ++ t) (sym between) ∙ ap (λ l. frame.between ++ l ++ t) (sym (label_here frame (suc i) y ys from)) in
      let text_is : (text ++ (codes "; " ++ ((y ++ codes " = ") ++ t))) ++ rest ≡ text ++ row_from frame (suc i) (t ∷ ts) =
      append_assoc text (codes "; " ++ ((y ++ codes " = ") ++ t)) rest ∙ ap (λ b. text ++ (b ++ rest)) before in
      lexed_at text_is refl
      (rowing_lexed ys ts ws (suc i) (more_rows rs x v) y w (text ++ (codes "; " ++ ((y ++ codes " = ") ++ t))) (labels_after frame (suc i) y ys from) are.1 (omega arith) (lexed_at refl grouped next) texts.1)

pub rows_lexed : (name field : List ℕ) (fields : List (List ℕ)) (text : List ℕ) (v : Literal) (texts : List (List ℕ)) (vs : List Literal)
    → AreFieldNames (field ∷ fields) → length fields ≡ length texts → IsText text v → AreTexts texts vs
    → let r = rowing no_rows field v fields vs in IsLexed Ends (row_from (fields_frame name (field ∷ fields)) 0 (text ∷ texts)) (rows_kinds r.0 ++ row_start r.1 ++ literal_kinds r.2)
rows_lexed name field fields text v texts vs are many one texts_are =
    let frame = fields_frame name (field ∷ fields) in
    rowing_lexed frame refl fields texts vs 0 no_rows field v ((field ++ codes " = ") ++ text) (labels_after frame 0 field fields (λ j. ap (slice_get frame.labels) (omega arith))) are.1 many
    (lexed_then (named_lexed field are.0) one.lexed (λ after may. tt)) texts_are
