-- The values of a block that are printed at its shape, their types, and the reading of its parts.
use Rattle.std.proofs.Common.{◌≡◌, ℕ, ℤ, suc, ◌<◌, ◌≤◌, Bool, true, false, ◌&&◌, cond, eqb, List, [], ◌∷◌, ◌++◌, length, Option, Some, None, refl, sym, ap, subst, ◌∙◌, arith, inl, inr, ⊎_elim}
use Rattle.std.specs.Prelude.{IsSome, IsSomeAnd, slice_get, find, unwrap_or, option_map, option_and_then, codes, replicate}
use Rattle.std.specs.List.{position}
use Rattle.std.proofs.lemmas.Bool.{false≢true, and_parts, eqb-true, eq-eqb, lt-ltb}
use Rattle.std.proofs.lemmas.List.{length-replicate}
use Rattle.base_data.specs.model.Graph.{IsInteger}
use Rattle.base_data.specs.declared.model.value.Val.{Val}
use Rattle.base_data.specs.declared.model.value.Val.TheVariants as vals
use Rattle.base_data.proofs.model.Lists.{found_passes}
use Rattle.types_spec.specs.declared.types.names.ConstrNames.{ConstrNames}
use Rattle.types_spec.specs.declared.types.names.TagName.{TagName}
use Rattle.types_spec.specs.declared.types.names.Names.{Names}
use Rattle.types_spec.specs.declared.types.shape.Constr.{Constr}
use Rattle.types_spec.specs.declared.types.shape.PolyTag.{PolyTag}
use Rattle.types_spec.specs.declared.types.shape.ShapeOf.{ShapeOf}
use Rattle.types_spec.specs.declared.types.shape.ShapeOf.TheVariants as shapes
use Rattle.types_spec.specs.types.Fitting.{is_number, tag_with, numbered_from, fields_if, constr_fields, argument_field, tag_fields, block_fields}
use Rattle.types_parse.specs.grammar.Grammar.{Name}
use Rattle.text_literal.specs.literal_grammar.Literal.{tag_head, Literal, applied, fields, Parts, no_parts, FieldRows}
use Rattle.text_literal.specs.literal_grammar.LiteralNodes.{count, rows_count}
use Rattle.text_print.specs.leaves.Frames.{is_hash, tag_of_values, listed, fields_frame, named_frame, array_frame, constr_frame, frame_of, row_from}
use Rattle.text_print.specs.show.NamedFields.{AreForFields, HasTag, HasBlockNames}
use Rattle.text_literal.specs.parser.Starts.{block, start_at, type_in, carrying_start, is_constr, names_of_rows, carrying_tag, if_tag}
use Rattle.text_roundtrip.specs.lexed.Lexed.{Ends}
use Rattle.text_roundtrip.proofs.lexed.LexedLemmas.{lexed_tag, lexed_nothing, begins_with}
use Rattle.text_roundtrip.specs.literal_texts.Blocks.{IsRow, ReadsRow, IsBlockAt}
use Rattle.text_roundtrip.specs.literal_texts.Listing.{listing, IsText, AreTexts}
use Rattle.text_roundtrip.specs.literal_texts.Readable.{AreSumNames, AreFieldNames, IsTagName, IsReadable, IsConstructorName}
use Rattle.text_roundtrip.proofs.literal_texts.BlockReadLemmas.{applied_row, array_row, tuple_row, fields_row, types_in, same_types}
use Rattle.text_roundtrip.proofs.literal_texts.LeafReadLemmas.{same_number, some_of, in_bits}
use Rattle.text_roundtrip.proofs.literal_texts.ObjectReadLemmas.{listing_count, same_names_refl}

texts_many : (texts : List (List ℕ)) (vs : List Literal) → AreTexts texts vs → length texts ≡ length vs
texts_many [] [] are = refl
texts_many [] (v ∷ vs) are = absurd are
texts_many (t ∷ ts) [] are = absurd are
texts_many (t ∷ ts) (v ∷ vs) are = omega (arith, texts_many ts vs are.1)

-- If there is at least one literal, then a property may be proved for a first text followed by
-- other texts.
by_first : (P : List (List ℕ) → List Literal → Type 0) → ((text : List ℕ) (v : Literal) (texts : List (List ℕ)) (vs : List Literal) → IsText text v → AreTexts texts vs → P (text ∷ texts) (v ∷ vs))
    → (texts : List (List ℕ)) (vs : List Literal) → AreTexts texts vs → 0 < length vs → P texts vs
by_first P some [] [] are many = absurd (omega arith)
by_first P some [] (v ∷ vs) are many = absurd are
by_first P some (t ∷ ts) [] are many = absurd are
by_first P some (t ∷ ts) (v ∷ vs) are many = some t v ts vs are.0 are.1

module _ {T : Type 0} (shape : T → ShapeOf T) (names : T → Names) (t : T) where
  -- If all values of a block are printed as parts, then the values satisfy `IsBlockAt` with an
  -- empty `skip`.
  whole_block : (s : ShapeOf T) (nm : Names) (tag : ℕ) (values : List Val) (ts : List T) → block_fields s tag values ≡ Some (numbered_from 0 ts) → length ts ≡ length values
      → ReadsRow shape names t s nm tag [] ts (frame_of s nm tag values) → IsBlockAt shape names t s nm tag values
  whole_block s nm tag values ts needs many row = record { skip = []; rest = values; values_are = refl; skips = inl refl; ts = ts; needs = needs; many = many; row = row }

  -- ---- constructors

  module _ (constants : ℕ) (blocks : List (Constr T)) (nm : Names) (tag : ℕ) (values : List Val) (are : AreSumNames nm) (small : tag ≤ 243) (some : 0 < length values)
      (constr : Constr T) (found : slice_get blocks tag ≡ Some constr) (many : length constr.fields ≡ length values)
      (cn : ConstrNames) (found_name : slice_get nm.constructors tag ≡ Some cn) where
    own : IsConstructorName nm tag cn
    own = are.constructor tag cn found_name

    fits_is : (size : ℕ) → size ≡ length constr.fields → carrying_start t blocks size (Some tag) ≡ block tag [] (type_in constr.fields t)
    fits_is size e = rw (found, lt-ltb tag 244 (omega arith), eq-eqb (length constr.fields) size (sym e)) refl

    applied_is : cn.fields ≡ [] → (ps : Parts) (u : Literal) → suc (count ps) ≡ length constr.fields → start_at t (shapes.Sum constants blocks) nm (applied own.is_head.head ps u) ≡ block tag [] (type_in constr.fields t)
    applied_is none ps u e =
        let one : position (is_constr cn.name []) nm.constructors ≡ Some tag = subst (λ fs. position (is_constr cn.name fs) nm.constructors ≡ Some tag) none own.one in
        rw (own.is_head.named, one) (fits_is (suc (count ps)) e)

    inline_is : (fs : List Name) → cn.fields ≡ fs → (rs : FieldRows) (x : Name) (u : Literal) → names_of_rows rs ++ x ∷ [] ≡ fs → suc (rows_count rs) ≡ length constr.fields
        → start_at t (shapes.Sum constants blocks) nm (fields (Some own.is_head.head) rs x u) ≡ block tag [] (type_in constr.fields t)
    inline_is fs is rs x u named e =
        let one : position (is_constr cn.name fs) nm.constructors ≡ Some tag = subst (λ fs. position (is_constr cn.name fs) nm.constructors ≡ Some tag) is own.one in
        rw (own.is_head.named, named, one) (fits_is (suc (rows_count rs)) e)

    constr_row : (fs : List Name) → cn.fields ≡ fs → AreForFields fs (length values) → AreFieldNames fs → ReadsRow shape names t (shapes.Sum constants blocks) nm tag [] constr.fields (named_frame cn.name fs)
    constr_row [] is for are_names labels texts literals texts_are long =
        by_first (λ texts vs. length vs ≡ length constr.fields → IsRow shape names labels (shapes.Sum constants blocks) nm t tag [] constr.fields ((cn.name ++ codes "(") ++ (row_from (listed cn.name) 0 texts ++ codes ")")) vs)
        (λ text v texts vs one others e.
        applied_row shape names labels (shapes.Sum constants blocks) nm t tag [] constr.fields cn.name own.is_head.head text texts v vs (type_in constr.fields t) own.is_head.lexed own.is_head.begins one others (types_in constr.fields t)
        (applied_is is (listing no_parts v vs).0 (listing no_parts v vs).1 (omega (arith, listing_count vs no_parts v, e))))
        texts literals texts_are (omega (arith, long, many, some)) long
    constr_row (field ∷ fs) is for are_names labels texts literals texts_are long =
        by_first (λ texts vs. length vs ≡ length constr.fields → IsRow shape names labels (shapes.Sum constants blocks) nm t tag [] constr.fields ((cn.name ++ codes "{") ++ (row_from (fields_frame cn.name (field ∷ fs)) 0 texts ++ codes "}")) vs)
        (λ text v texts vs one others e.
        let count_is : length (field ∷ fs) ≡ length values = ⊎_elim (λ none. absurd (omega (arith, ap length none))) (λ h. h) for in
        let rest_is : length fs ≡ length vs = omega (arith, count_is, many, e) in
        fields_row shape names labels (shapes.Sum constants blocks) nm t tag constr.fields cn.name (Some own.is_head.head) field fs text texts v vs (type_in constr.fields t) own.is_head.lexed
        (record { first = own.is_head.begins.first; others = own.is_head.begins.others ++ codes "{"; is = ap (λ n. n ++ codes "{") own.is_head.begins.is; no_star = own.is_head.begins.no_star })
        are_names (rest_is ∙ sym (texts_many texts vs others)) rest_is one others (types_in constr.fields t)
        (λ rs x u named counted. inline_is (field ∷ fs) is rs x u named (omega (arith, counted, e))))
        texts literals texts_are (omega (arith, long, many, some)) long

    constr_block : AreForFields cn.fields (length values) → IsBlockAt shape names t (shapes.Sum constants blocks) nm tag values
    constr_block for =
        whole_block (shapes.Sum constants blocks) nm tag values constr.fields (rw (found, eq-eqb (length constr.fields) (length values) many) refl) many
        (subst (λ o. ReadsRow shape names t (shapes.Sum constants blocks) nm tag [] constr.fields (constr_frame o)) (sym found_name) (constr_row cn.fields refl for own.fields))

  fields_if_true : (test : Bool) (ts : List T) → IsSome (fields_if test ts) → test ≡ true
  fields_if_true true ts is = refl
  fields_if_true false ts is = absurd (false≢true is)

  sum_block : (constants : ℕ) (blocks : List (Constr T)) (nm : Names) (tag : ℕ) (values : List Val) → AreSumNames nm → tag ≤ 243 → 0 < length values
      → (o : Option (Constr T)) → slice_get blocks tag ≡ o → IsSome (constr_fields (length values) o)
      → (p : Option ConstrNames) → slice_get nm.constructors tag ≡ p → IsSomeAnd p (λ (c : ConstrNames). AreForFields c.fields (length values))
      → IsBlockAt shape names t (shapes.Sum constants blocks) nm tag values
  sum_block constants blocks nm tag values are small some None found fits p found_name for = absurd (false≢true fits)
  sum_block constants blocks nm tag values are small some (Some constr) found fits None found_name for = absurd for
  sum_block constants blocks nm tag values are small some (Some constr) found fits (Some cn) found_name for =
      constr_block constants blocks nm tag values are small some constr found (eqb-true (length constr.fields) (length values) (fields_if_true (eqb (length constr.fields) (length values)) constr.fields fits)) cn found_name for

  -- ---- tuples and records

  product_row : (mutable : Bool) (ts : List T) (nm : Names) (size : ℕ) → length ts ≡ size → 0 < size → (nm.fields ≡ [] → 2 ≤ length ts) → AreFieldNames nm.fields → AreForFields nm.fields size
      → (fs : List Name) → nm.fields ≡ fs → ReadsRow shape names t (shapes.Product mutable ts) nm 0 [] ts (named_frame [] fs)
  product_row mutable ts nm size many some two are_names for [] is labels texts literals texts_are long = by_two texts literals texts_are long
    where
      by_two : (texts : List (List ℕ)) (vs : List Literal) → AreTexts texts vs → length vs ≡ length ts → IsRow shape names labels (shapes.Product mutable ts) nm t 0 [] ts (codes "(" ++ (row_from (listed []) 0 texts ++ codes ")")) vs
      by_two [] [] are e = absurd (omega (arith, two is))
      by_two [] (v ∷ vs) are e = absurd are
      by_two (text ∷ texts) [] are e = absurd are
      by_two (text ∷ []) (v ∷ []) are e = absurd (omega (arith, two is))
      by_two (text ∷ []) (v ∷ w ∷ vs) are e = absurd are.1
      by_two (text ∷ other ∷ texts) (v ∷ []) are e = absurd are.1
      by_two (text ∷ other ∷ texts) (v ∷ w ∷ vs) are e =
          tuple_row shape names labels (shapes.Product mutable ts) nm t ts text other texts v w vs (type_in ts t) are.0 are.1 (types_in ts t)
          (λ ps u x counted. rw (is, eq-eqb (length ts) (suc (suc (count ps))) (omega (arith, counted, e))) refl)
  product_row mutable ts nm size many some two are_names for (field ∷ fs) is labels texts literals texts_are long =
      by_first (λ texts vs. length vs ≡ length ts → IsRow shape names labels (shapes.Product mutable ts) nm t 0 [] ts (codes "{" ++ (row_from (fields_frame [] (field ∷ fs)) 0 texts ++ codes "}")) vs)
      (λ text v texts vs one others e.
      let count_is : length (field ∷ fs) ≡ size = ⊎_elim (λ none. absurd (omega (arith, ap length none, ap length is))) (λ h. ap length (sym is) ∙ h) for in
      let rest_is : length fs ≡ length vs = omega (arith, count_is, many, e) in
      fields_row shape names labels (shapes.Product mutable ts) nm t 0 ts [] None field fs text texts v vs (type_in ts t) (lexed_nothing Ends) (begins_with 123 _ (λ e. absurd (omega arith)))
      (subst AreFieldNames is are_names) (rest_is ∙ sym (texts_many texts vs others)) rest_is one others (types_in ts t)
      (λ rs x u named counted. rw (is, named, same_names_refl (field ∷ fs), eq-eqb (length ts) (suc (rows_count rs)) (omega (arith, counted, e))) refl))
      texts literals texts_are (omega (arith, long, many, some)) long

  product_block : (mutable : Bool) (ts : List T) (nm : Names) (tag : ℕ) (values : List Val) → IsReadable (shapes.Product mutable ts) nm → 0 < length values → IsSome (block_fields (shapes.Product mutable ts) tag values)
      → AreForFields nm.fields (length values) → IsBlockAt shape names t (shapes.Product mutable ts) nm tag values
  product_block mutable ts nm tag values are some fits for =
      let both = and_parts (eqb tag 0) (eqb (length ts) (length values)) (fields_if_true (eqb tag 0 && eqb (length ts) (length values)) ts fits) in
      let zero_tag : tag ≡ 0 = eqb-true tag 0 both.0 in
      let many : length ts ≡ length values = eqb-true (length ts) (length values) both.1 in
      whole_block (shapes.Product mutable ts) nm tag values ts (rw (both.0, both.1) refl) many
      (subst (λ n. ReadsRow shape names t (shapes.Product mutable ts) nm n [] ts (named_frame [] nm.fields)) (sym zero_tag) (product_row mutable ts nm (length values) many some are.1 are.0 for nm.fields refl))

  -- ---- arrays

  array_block : (u : T) (nm : Names) (tag : ℕ) (values : List Val) → 0 < length values → IsSome (block_fields (shapes.ArrayOf u) tag values) → IsBlockAt shape names t (shapes.ArrayOf u) nm tag values
  array_block u nm tag values some fits =
      let test : eqb tag 0 ≡ true = fields_if_true (eqb tag 0) (replicate (length values) u) fits in
      let zero_tag : tag ≡ 0 = eqb-true tag 0 test in
      let many : length (replicate (length values) u) ≡ length values = length-replicate (length values) u in
      let ts = replicate (length values) u in
      let row : ReadsRow shape names t (shapes.ArrayOf u) nm 0 [] ts array_frame = λ labels texts literals texts_are long.
      by_first (λ texts vs. IsRow shape names labels (shapes.ArrayOf u) nm t 0 [] ts (codes "[|" ++ (row_from array_frame 0 texts ++ codes "|]")) vs)
      (λ text v texts vs one others. array_row shape names labels (shapes.ArrayOf u) nm t ts text texts v vs (λ i. u) one others (same_types u (length values) 0) refl)
      texts literals texts_are (omega (arith, long, many, some)) in
      whole_block (shapes.ArrayOf u) nm tag values ts (rw test refl) many (subst (λ n. ReadsRow shape names t (shapes.ArrayOf u) nm n [] ts array_frame) (sym zero_tag) row)

  -- ---- tags

  module _ (tags : List (PolyTag T)) (nm : Names) (z : ℤ) (argument : Val) (range : IsInteger z) (own : (z : ℤ) (tag : TagName) → find (is_hash z) nm.tags ≡ Some tag → IsTagName tags nm z tag) where
    poly_row : (u : T) (tag : PolyTag T) → tag_with tags z ≡ Some tag → tag.arg ≡ Some u → (name : TagName) → find (is_hash z) nm.tags ≡ Some name
        → ReadsRow shape names t (shapes.Poly tags) nm 0 (vals.Int z ∷ []) (u ∷ []) (listed (codes "`" ++ name.name))
    poly_row u tag found carries name found_name labels texts literals texts_are long = by_one texts literals texts_are long
      where
        same : tag.hash ≡ z
        same = same_number tag.hash z (found_passes (λ (tag : PolyTag T). is_number tag.hash z) tags tag found)

        starts : (v : Literal) → start_at t (shapes.Poly tags) nm (applied (tag_head name.name) no_parts v) ≡ block 0 (vals.Int z ∷ []) (λ i. u)
        starts v = ap (if_tag carrying_tag) ((own z name found_name).one ∙ found) ∙ rw (carries, same, in_bits 62 z range) refl

        by_one : (texts : List (List ℕ)) (vs : List Literal) → AreTexts texts vs → length vs ≡ 1 → IsRow shape names labels (shapes.Poly tags) nm t 0 (vals.Int z ∷ []) (u ∷ []) (((codes "`" ++ name.name) ++ codes "(") ++ (row_from (listed (codes "`" ++ name.name)) 0 texts ++ codes ")")) vs
        by_one [] vs are e = absurd (omega (arith, texts_many [] vs are))
        by_one (text ∷ texts) [] are e = absurd are
        by_one (text ∷ texts) (v ∷ w ∷ vs) are e = absurd (omega arith)
        by_one (text ∷ texts) (v ∷ []) are e =
            applied_row shape names labels (shapes.Poly tags) nm t 0 (vals.Int z ∷ []) (u ∷ []) (codes "`" ++ name.name) (tag_head name.name) text texts v [] (λ i. u) (lexed_tag name.name (own z name found_name).lexed) (begins_with 96 _ (λ e. absurd (omega arith))) are.0 are.1 (refl, tt) (starts v)

    poly_block : (o : Option (PolyTag T)) → tag_with tags z ≡ o → IsSome (option_and_then (λ (tag : PolyTag T). argument_field tag.arg) o) → HasTag nm z → IsBlockAt shape names t (shapes.Poly tags) nm 0 (vals.Int z ∷ argument ∷ [])
    poly_block None found fits has = absurd (false≢true fits)
    poly_block (Some tag) found fits has = by_argument tag.arg refl fits
      where
        by_argument : (a : Option T) → tag.arg ≡ a → IsSome (argument_field a) → IsBlockAt shape names t (shapes.Poly tags) nm 0 (vals.Int z ∷ argument ∷ [])
        by_argument None carries fits = absurd (false≢true fits)
        by_argument (Some u) carries fits =
            let name = some_of (find (is_hash z) nm.tags) has in
            record {
              skip = vals.Int z ∷ [];
              rest = argument ∷ [];
              values_are = refl;
              skips = inr (z, refl);
              ts = u ∷ [];
              needs = rw (found, carries) refl;
              many = refl;
              row = subst (λ o. ReadsRow shape names t (shapes.Poly tags) nm 0 (vals.Int z ∷ []) (u ∷ []) (listed (codes "`" ++ unwrap_or (option_map (λ (tag : TagName). tag.name) o) []))) (sym name.1) (poly_row u tag found carries name.0 name.1);
            }

  tagged_block : (tags : List (PolyTag T)) (nm : Names) (values : List Val) → IsInteger (tag_of_values values) → ((z : ℤ) (tag : TagName) → find (is_hash z) nm.tags ≡ Some tag → IsTagName tags nm z tag)
      → IsSome (tag_fields tags values) → HasTag nm (tag_of_values values) → IsBlockAt shape names t (shapes.Poly tags) nm 0 values
  tagged_block tags nm (vals.Int z ∷ argument ∷ []) range names_are fits has = poly_block tags nm z argument range names_are (tag_with tags z) refl fits has
  tagged_block tags nm values range names_are fits has = absurd (false≢true fits)

  tags_block : (tags : List (PolyTag T)) (nm : Names) (tag : ℕ) (values : List Val) → IsInteger (tag_of_values values) → ((z : ℤ) (tag : TagName) → find (is_hash z) nm.tags ≡ Some tag → IsTagName tags nm z tag)
      → (test : Bool) → eqb tag 0 ≡ test → IsSome (cond test (tag_fields tags values) None) → HasTag nm (tag_of_values values) → IsBlockAt shape names t (shapes.Poly tags) nm tag values
  tags_block tags nm tag values range names_are false test fits has = absurd (false≢true fits)
  tags_block tags nm tag values range names_are true test fits has = subst (λ n. IsBlockAt shape names t (shapes.Poly tags) nm n values) (sym (eqb-true tag 0 test)) (tagged_block tags nm values range names_are fits has)

  -- ---- all shapes

  pub block_at : (s : ShapeOf T) (nm : Names) (tag : ℕ) (values : List Val) → IsReadable s nm → tag ≤ 243 → 0 < length values → IsInteger (tag_of_values values)
      → IsSome (block_fields s tag values) → HasBlockNames s nm tag values → IsBlockAt shape names t s nm tag values
  block_at (shapes.Sum constants blocks) nm tag values are small some range fits named = sum_block constants blocks nm tag values are small some (slice_get blocks tag) refl fits (slice_get nm.constructors tag) refl named
  block_at (shapes.Product mutable ts) nm tag values are small some range fits named = product_block mutable ts nm tag values are some fits named
  block_at (shapes.ArrayOf u) nm tag values are small some range fits named = array_block u nm tag values some fits
  block_at (shapes.Poly tags) nm tag values are small some range fits named = tags_block tags nm tag values range are (eqb tag 0) refl fits named
  block_at shapes.Anything nm tag values are small some range fits named = absurd are
  block_at (shapes.ArrayOfAnything u) nm tag values are small some range fits named = absurd are
  block_at s nm tag values are small some range fits named = absurd (false≢true fits)
