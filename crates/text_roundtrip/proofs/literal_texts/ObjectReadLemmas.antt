-- The text of an object without values in it is a plain literal with the object.
use Rattle.std.proofs.Common.{◌≡◌, ℕ, ℤ, suc, ◌+◌, ◌<◌, ◌≤◌, ◌^◌, Bool, true, false, List, [], ◌∷◌, ◌++◌, length, Some, None, refl, sym, ap, subst, ◌∙◌, arith, append_assoc}
use Rattle.std.specs.Prelude.{All, IsTrue, IsSome, map, codes}
use Rattle.std.specs.Fmt.{signed_decimal}
use Rattle.std.proofs.lemmas.Bool.{false≢true, and_from, eqb-true, eq-eqb}
use Rattle.std.proofs.lemmas.List.{append-nil, length-map}
use Rattle.std.proofs.lemmas.Slice.Eq.{bytes_eq-Decides}
use Rattle.base_data.specs.declared.model.value.Obj.{Obj}
use Rattle.base_data.specs.model.Graph.{IsSigned}
use Rattle.types_lex.specs.Lexeme.{suffix_text}
use Rattle.base_data.specs.declared.model.value.Obj.TheVariants as objects
use Rattle.types_lex.specs.declared.lexeme.Suffix.{Suffix}
use Rattle.types_lex.specs.declared.lexeme.Suffix.TheVariants as suffixes
use Rattle.types_lex.specs.declared.lexeme.Symbol.TheVariants as symbols
use Rattle.types_spec.specs.declared.types.names.Names.{Names}
use Rattle.types_spec.specs.declared.types.shape.ShapeOf.{ShapeOf}
use Rattle.types_spec.specs.declared.types.shape.ShapeOf.TheVariants as shapes
use Rattle.types_spec.specs.types.Fitting.{object_fields, has_doubles}
use Rattle.marshal_spec.specs.format.Token.{IsLeaf}
use Rattle.types_parse.specs.grammar.Grammar.{Name, mark}
use Rattle.text_literal.specs.literal_grammar.Literal.{Literal, labelled, integer, string, double, array, fields, Parts, no_parts, more_parts, FieldRows, no_rows, more_rows, literal_kinds, parts_kinds, rows_kinds, row_start}
use Rattle.text_literal.specs.literal_grammar.LiteralNodes.{count, rows_count}
use Rattle.text_print.specs.leaves.Frames.{object_text, fields_frame, named_frame, row_text}
use Rattle.text_print.specs.leaves.LeafTexts.{float_text}
use Rattle.text_print.specs.show.NamedFields.{HasObjectNames, HasDoublesNames}
use Rattle.text_print.proofs.show.NamedLemmas.{none_if_true}
use Rattle.text_literal.specs.parser.Starts.{start_at, doubles_start, whole, same_names, names_of_rows, bits_of, and_bits, bits_of_parts, bits_of_rows}
use Rattle.text_roundtrip.specs.lexed.Lexed.{Ends}
use Rattle.text_roundtrip.specs.lexed.LexedNumbers.{is_minus}
use Rattle.text_roundtrip.proofs.lexed.CharLemmas.{string_lexed}
use Rattle.text_roundtrip.proofs.lexed.LexedLemmas.{lexed_then, lexed_open_array, lexed_close_array, lexed_open_brace, lexed_close_brace, lexed_semicolon_space, begins_with, lexed_at}
use Rattle.text_roundtrip.proofs.lexed.LexedNumberLemmas.{lexed_integer, lexed_bits, begins_integer}
use Rattle.text_roundtrip.specs.literal_texts.Listing.{listing, rowing, IsText, AreTexts}
use Rattle.text_roundtrip.specs.literal_texts.PlainLiterals.{IsPlain}
use Rattle.text_roundtrip.specs.literal_texts.Readable.{AreFieldNames, IsReadable}
use Rattle.text_roundtrip.proofs.literal_texts.LeafReadLemmas.{in_bits, in_range}
use Rattle.text_roundtrip.proofs.literal_texts.RowLexLemmas.{parts_lexed, rows_lexed}

-- ---- lists: their length and their names

pub listing_count : (vs : List Literal) (ps : Parts) (v : Literal) → count (listing ps v vs).0 ≡ count ps + length vs
listing_count [] ps v = omega arith
listing_count (w ∷ ws) ps v = omega (arith, listing_count ws (more_parts ps v) w)

pub rowing_count : (ys : List Name) (ws : List Literal) (rs : FieldRows) (x : Name) (v : Literal) → length ys ≡ length ws → rows_count (rowing rs x v ys ws).0 ≡ rows_count rs + length ys
rowing_count [] ws rs x v e = omega arith
rowing_count (y ∷ ys) [] rs x v e = absurd (omega arith)
rowing_count (y ∷ ys) (w ∷ ws) rs x v e = omega (arith, rowing_count ys ws (more_rows rs x v) y w (omega arith))

pub rowing_names : (ys : List Name) (ws : List Literal) (rs : FieldRows) (x : Name) (v : Literal) → length ys ≡ length ws
    → names_of_rows (rowing rs x v ys ws).0 ++ (rowing rs x v ys ws).1 ∷ [] ≡ names_of_rows rs ++ x ∷ ys
rowing_names [] ws rs x v e = refl
rowing_names (y ∷ ys) [] rs x v e = absurd (omega arith)
rowing_names (y ∷ ys) (w ∷ ws) rs x v e = rowing_names ys ws (more_rows rs x v) y w (omega arith) ∙ append_assoc (names_of_rows rs) (x ∷ []) (y ∷ ys)

pub same_names_refl : (xs : List Name) → same_names xs xs ≡ true
same_names_refl [] = refl
same_names_refl (x ∷ xs) = and_from _ _ ((bytes_eq-Decides x x).1 refl) (same_names_refl xs)

-- ---- doubles

abbrev bare : ℕ → Literal
bare bits = labelled None (double bits)

double_is_text : (bits : ℕ) → bits < 2 ^ 64 → IsText (float_text bits) (bare bits)
double_is_text bits h = record { lexed = lexed_bits bits h Ends; begins = begins_with 36 _ (λ e. absurd (omega arith)) }

doubles_are_texts : (all : List ℕ) → All (λ bits. bits < 2 ^ 64) all → AreTexts (map float_text all) (map bare all)
doubles_are_texts [] h = tt
doubles_are_texts (b ∷ bs) h = (double_is_text b (h 0 0 (omega arith)), doubles_are_texts bs (λ k d lt. h (suc k) d (omega arith)))

listing_bits : (bs : List ℕ) (ps : Parts) (v : Literal) (all : List ℕ) → and_bits (bits_of_parts ps) (bits_of v) ≡ Some all
    → and_bits (bits_of_parts (listing ps v (map bare bs)).0) (bits_of (listing ps v (map bare bs)).1) ≡ Some (all ++ bs)
listing_bits [] ps v all e = e ∙ ap (λ t. Some t) (sym (append-nil all))
listing_bits (b ∷ bs) ps v all e = listing_bits bs (more_parts ps v) (bare b) (all ++ b ∷ []) (ap (λ o. and_bits o (Some b)) e) ∙ ap (λ t. Some t) (append_assoc all (b ∷ []) bs)

rowing_bits : (ys : List Name) (bs : List ℕ) (rs : FieldRows) (x : Name) (v : Literal) (all : List ℕ) → length ys ≡ length bs → and_bits (bits_of_rows rs) (bits_of v) ≡ Some all
    → and_bits (bits_of_rows (rowing rs x v ys (map bare bs)).0) (bits_of (rowing rs x v ys (map bare bs)).2) ≡ Some (all ++ bs)
rowing_bits [] [] rs x v all many e = e ∙ ap (λ t. Some t) (sym (append-nil all))
rowing_bits [] (b ∷ bs) rs x v all many e = absurd (omega arith)
rowing_bits (y ∷ ys) [] rs x v all many e = absurd (omega arith)
rowing_bits (y ∷ ys) (b ∷ bs) rs x v all many e = rowing_bits ys bs (more_rows rs x v) y (bare b) (all ++ b ∷ []) (omega arith) (ap (λ o. and_bits o (Some b)) e) ∙ ap (λ t. Some t) (append_assoc all (b ∷ []) bs)

module _ {T : Type 0} (t : T) (names : Names) where
  array_plain : (b : ℕ) (bs : List ℕ) → All (λ bits. bits < 2 ^ 64) (b ∷ bs) → IsPlain t shapes.FloatArray names (object_text {T = T} shapes.FloatArray names (objects.Doubles (b ∷ bs))) (whole (objects.Doubles (b ∷ bs)))
  array_plain b bs h =
      let l = listing no_parts (bare b) (map bare bs) in
      let texts = doubles_are_texts (b ∷ bs) h in
      let row = parts_lexed (codes "[|") (codes "; ") (codes "|]") symbols.Semicolon lexed_semicolon_space (λ after. refl) (float_text b) (bare b) (map float_text bs) (map bare bs) texts.0 texts.1 in
      let open_row = lexed_then (lexed_open_array (λ after. Unit {0})) row (λ after may. tt) in
      record {
        plain = array l.0 l.1;
        lexed = lexed_at refl (ap (λ k. k ++ mark symbols.CloseArray) (sym (append_assoc (mark symbols.OpenArray) (parts_kinds symbols.Semicolon l.0) (literal_kinds l.1)))) (lexed_then open_row (lexed_close_array Ends) (λ after may. refl));
        begins = begins_with 91 _ (λ e. absurd (omega arith));
        starts = ap doubles_start (listing_bits bs no_parts (bare b) (b ∷ []) refl);
      }

  flat_plain : (mutable : Bool) (field : Name) (rest : List Name) (b : ℕ) (bs : List ℕ) → names.fields ≡ field ∷ rest → AreFieldNames (field ∷ rest) → length rest ≡ length bs → All (λ bits. bits < 2 ^ 64) (b ∷ bs)
      → IsPlain t (shapes.FlatFloats mutable (suc (length bs))) names (row_text (fields_frame [] (field ∷ rest)) (map float_text (b ∷ bs))) (whole (objects.Doubles (b ∷ bs)))
  flat_plain mutable field rest b bs are_fields are many h =
      let as_many : length rest ≡ length (map bare bs) = many ∙ sym (length-map bs bare) in
      let r = rowing no_rows field (bare b) rest (map bare bs) in
      let texts = doubles_are_texts (b ∷ bs) h in
      let row = rows_lexed [] field rest (float_text b) (bare b) (map float_text bs) (map bare bs) are (many ∙ sym (length-map bs float_text)) texts.0 texts.1 in
      let open_row = lexed_then (lexed_open_brace (λ after. Unit {0})) row (λ after may. tt) in
      let named : names_of_rows r.0 ++ r.1 ∷ [] ≡ field ∷ rest = rowing_names rest (map bare bs) no_rows field (bare b) as_many in
      let counted : rows_count r.0 ≡ length bs = rowing_count rest (map bare bs) no_rows field (bare b) as_many ∙ omega (arith, many) in
      record {
        plain = fields None r.0 r.1 r.2;
        lexed = lexed_at refl (ap (λ k. k ++ mark symbols.CloseBrace) (sym (append_assoc (mark symbols.OpenBrace) (rows_kinds r.0 ++ row_start r.1) (literal_kinds r.2)) ∙ ap (λ k. k ++ literal_kinds r.2) (sym (append_assoc (mark symbols.OpenBrace) (rows_kinds r.0) (row_start r.1))))) (lexed_then open_row (lexed_close_brace Ends) (λ after may. refl));
        begins = begins_with 123 _ (λ e. absurd (omega arith));
        starts = rw (are_fields, named, same_names_refl (field ∷ rest), counted, eq-eqb (suc (length bs)) (suc (length bs)) refl) (ap doubles_start (rowing_bits rest bs no_rows field (bare b) (b ∷ []) many refl));
      }

  custom_plain : (s : ShapeOf T) (z : ℤ) (suffix : Suffix) (n : ℕ) (object : Obj) → 2 ^ n ≤ 2 ^ 63 → IsSigned n z
      → start_at t s names (integer (record { minus = is_minus z; value = z; suffix = suffix })) ≡ whole object
      → IsPlain t s names (signed_decimal z ++ suffix_text suffix) (whole object)
  custom_plain s z suffix n object le range starts = record {
    plain = integer (record { minus = is_minus z; value = z; suffix = suffix });
    lexed = lexed_integer z suffix (in_range n z le range);
    begins = begins_integer z (suffix_text suffix) (in_range n z le range);
    starts = starts;
  }

  doubles_plain : (s : ShapeOf T) (all : List ℕ) → IsReadable s names → 0 < length all → All (λ bits. bits < 2 ^ 64) all → IsTrue (has_doubles s (length all)) → HasDoublesNames s names (length all)
      → IsPlain t s names (object_text s names (objects.Doubles all)) (whole (objects.Doubles all))
  doubles_plain s [] are some h has named = absurd (omega arith)
  doubles_plain shapes.FloatArray (b ∷ bs) are some h has named = array_plain b bs h
  doubles_plain (shapes.FlatFloats mutable n) (b ∷ bs) are some h has named = by_fields names.fields refl
    where
      many : n ≡ suc (length bs)
      many = eqb-true n (suc (length bs)) has

      by_fields : (fs : List Name) → names.fields ≡ fs → IsPlain t (shapes.FlatFloats mutable n) names (row_text (named_frame [] names.fields) (map float_text (b ∷ bs))) (whole (objects.Doubles (b ∷ bs)))
      by_fields [] e = absurd (omega (arith, named, ap length e))
      by_fields (field ∷ rest) e =
          subst (λ m. IsPlain t (shapes.FlatFloats mutable m) names (row_text (named_frame [] names.fields) (map float_text (b ∷ bs))) (whole (objects.Doubles (b ∷ bs)))) (sym many)
          (subst (λ fs. IsPlain t (shapes.FlatFloats mutable (suc (length bs))) names (row_text (named_frame [] fs) (map float_text (b ∷ bs))) (whole (objects.Doubles (b ∷ bs)))) (sym e)
          (flat_plain mutable field rest b bs e (subst AreFieldNames e are) (omega (arith, named, ap length e)) h))
  doubles_plain shapes.Anything (b ∷ bs) are some h has named = absurd are
  doubles_plain (shapes.ArrayOfAnything u) (b ∷ bs) are some h has named = absurd are
  doubles_plain s (b ∷ bs) are some h has named = absurd (false≢true has)

  pub object_plain : (s : ShapeOf T) (object : Obj) → IsReadable s names → IsLeaf object → IsSome (object_fields s object) → HasObjectNames s names object
      → IsPlain t s names (object_text s names object) (whole object)
  object_plain s (objects.Block tag values) are leaf fits named = absurd leaf
  object_plain (shapes.Bytes mutable) (objects.Bytes bytes) are leaf fits named = record {
    plain = string bytes;
    lexed = string_lexed Ends bytes leaf;
    begins = begins_with 34 _ (λ e. absurd (omega arith));
    starts = refl;
  }
  object_plain shapes.Anything (objects.Bytes bytes) are leaf fits named = absurd are
  object_plain s (objects.Bytes bytes) are leaf fits named = absurd (false≢true fits)
  object_plain shapes.Double (objects.Double bits) are leaf fits named = record {
    plain = double bits;
    lexed = lexed_bits bits leaf Ends;
    begins = begins_with 36 _ (λ e. absurd (omega arith));
    starts = refl;
  }
  object_plain shapes.Anything (objects.Double bits) are leaf fits named = absurd are
  object_plain s (objects.Double bits) are leaf fits named = absurd (false≢true fits)
  object_plain s (objects.Doubles all) are leaf fits named = doubles_plain s all are leaf.0 leaf.1 (none_if_true T (has_doubles s (length all)) fits) named
  object_plain shapes.Int32 (objects.I32 z) are leaf fits named = custom_plain shapes.Int32 z suffixes.Int32 31 (objects.I32 z) (omega arith) leaf (rw (in_bits 31 z leaf) refl)
  object_plain shapes.Anything (objects.I32 z) are leaf fits named = absurd are
  object_plain s (objects.I32 z) are leaf fits named = absurd (false≢true fits)
  object_plain shapes.Int64 (objects.I64 z) are leaf fits named = custom_plain shapes.Int64 z suffixes.Int64 63 (objects.I64 z) (omega arith) leaf (rw (in_bits 63 z leaf) refl)
  object_plain shapes.Anything (objects.I64 z) are leaf fits named = absurd are
  object_plain s (objects.I64 z) are leaf fits named = absurd (false≢true fits)
  object_plain shapes.Native (objects.Native z) are leaf fits named = custom_plain shapes.Native z suffixes.Native 63 (objects.Native z) (omega arith) leaf (rw (in_bits 63 z leaf) refl)
  object_plain shapes.Anything (objects.Native z) are leaf fits named = absurd are
  object_plain s (objects.Native z) are leaf fits named = absurd (false≢true fits)
