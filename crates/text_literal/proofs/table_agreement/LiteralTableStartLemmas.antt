-- The start of a literal at a type depends on the parts of the type's shape only through the types
-- of the literal's own parts.
use Rattle.std.proofs.Common.{ℕ, suc, ◌≡◌, ◌∙◌, ℤ, List, [], ◌∷◌, ◌++◌, length, map, Bool, true, false, Option, Some, None, refl, ap, sym, subst}
use Rattle.std.specs.Prelude.{slice_get, option_map, option_and_then, unwrap_or, ◌==◌, ◌&&◌, nat_lt, bytes_eq, find, if◌then◌else◌}
use Rattle.std.proofs.lemmas.List.{length-map}
use Rattle.std.proofs.lemmas.Option.{slice_get-map}
use Rattle.base_data.specs.declared.model.value.Val.{Val}
use Rattle.base_data.specs.declared.model.value.Val.TheVariants as vals
use Rattle.base_data.specs.declared.model.value.Obj.{Obj}
use Rattle.base_data.specs.declared.model.value.Obj.TheVariants as objects
use Rattle.types_lex.specs.declared.lexeme.Suffix.{Suffix}
use Rattle.types_lex.specs.declared.lexeme.Suffix.TheVariants as suffixes
use Rattle.types_spec.specs.declared.types.names.Names.{Names}
use Rattle.types_spec.specs.declared.types.names.TagName.{TagName}
use Rattle.types_spec.specs.declared.types.shape.Constr.{Constr}
use Rattle.types_spec.specs.declared.types.shape.PolyTag.{PolyTag}
use Rattle.types_spec.specs.declared.types.shape.ShapeOf.{ShapeOf}
use Rattle.types_spec.specs.declared.types.shape.ShapeOf.TheVariants as shapes
use Rattle.types_spec.specs.types.Fitting.{is_number, tag_with}
use Rattle.types_spec.specs.types.Table.{constr_with, tag_with_parts, with_parts}
use Rattle.text_literal.specs.literal_grammar.Literal.{LiteralHead, Plain, integer, character, string, double, truth, unit, constant, applied, fields, tuple, empty_array, array, no_parts}
use Rattle.text_literal.specs.literal_grammar.LiteralNodes.{count, rows_count}
use Rattle.text_literal.specs.parser.Starts.{Start, mismatch, out_of_range, small, whole, block, is_in_bits, name_of_tag, same_names, names_of_rows, constant_of_name, tag_of_name, bits_of, and_bits, bits_of_parts, bits_of_rows, if_fits, if_in_range, int_start, int32_start, int64_start, native_start, integer_start, below_start, bytes_start, double_start, doubles_start, flat_start, empty_start, floatarray_start, type_in, array_start, product_start, constant_start, constr_start, carrying_start, sum_start, tag_named, bare_tag, carrying_tag, if_tag, poly_start, start_at}

-- ---- starts with other part types

module _ {T V : Type 0} (f : T → V) where
  pub data Mapped : Start T → Start V → Type 0 where
    to_mismatch : Mapped mismatch mismatch
    to_range : Mapped out_of_range out_of_range
    to_small : (v : Val) → Mapped (small v) (small v)
    to_whole : (object : Obj) → Mapped (whole object) (whole object)
    to_block : (tag : ℕ) (prefix : List Val) (types : ℕ → T) (others : ℕ → V) → ((i : ℕ) → f (types i) ≡ others i)
        → Mapped (block tag prefix types) (block tag prefix others)

  fits_mapped : (test : Bool) (s : Start T) (r : Start V) → Mapped s r → Mapped (if_fits test s) (if_fits test r)
  fits_mapped true s r is = is
  fits_mapped false s r is = to_mismatch

  range_mapped : (test : Bool) (s : Start T) (r : Start V) → Mapped s r → Mapped (if_in_range test s) (if_in_range test r)
  range_mapped true s r is = is
  range_mapped false s r is = to_range

  -- ---- literals without parts

  int_mapped : (suffix : Suffix) (z : ℤ) → Mapped (int_start suffix z) (int_start suffix z)
  int_mapped suffixes.Absent z = range_mapped (is_in_bits 62 z) _ _ (to_small (vals.Int z))
  int_mapped suffix z = to_mismatch

  int32_mapped : (suffix : Suffix) (z : ℤ) → Mapped (int32_start suffix z) (int32_start suffix z)
  int32_mapped suffixes.Int32 z = range_mapped (is_in_bits 31 z) _ _ (to_whole (objects.I32 z))
  int32_mapped suffix z = to_mismatch

  int64_mapped : (suffix : Suffix) (z : ℤ) → Mapped (int64_start suffix z) (int64_start suffix z)
  int64_mapped suffixes.Int64 z = range_mapped (is_in_bits 63 z) _ _ (to_whole (objects.I64 z))
  int64_mapped suffix z = to_mismatch

  native_mapped : (suffix : Suffix) (z : ℤ) → Mapped (native_start suffix z) (native_start suffix z)
  native_mapped suffixes.Native z = range_mapped (is_in_bits 63 z) _ _ (to_whole (objects.Native z))
  native_mapped suffix z = to_mismatch

  integer_mapped : (s : Suffix → ℤ → Start T) (r : Suffix → ℤ → Start V) → ((suffix : Suffix) (z : ℤ) → Mapped (s suffix z) (r suffix z))
      → (p : Plain) → Mapped (integer_start s p) (integer_start r p)
  integer_mapped s r same (integer i) = same i.suffix i.value
  integer_mapped s r same p = to_mismatch

  below_mapped : (many : ℕ) (p : Plain) → Mapped (below_start many p) (below_start many p)
  below_mapped many (character c) = fits_mapped (many == 256) _ _ (to_small _)
  below_mapped many (truth b) = fits_mapped (many == 2) _ _ (to_small _)
  below_mapped many unit = fits_mapped (many == 1) _ _ (to_small _)
  below_mapped many p = to_mismatch

  bytes_mapped : (p : Plain) → Mapped (bytes_start p) (bytes_start p)
  bytes_mapped (string bytes) = to_whole (objects.Bytes bytes)
  bytes_mapped p = to_mismatch

  double_mapped : (p : Plain) → Mapped (double_start p) (double_start p)
  double_mapped (double bits) = to_whole (objects.Double bits)
  double_mapped p = to_mismatch

  doubles_mapped : (all : Option (List ℕ)) → Mapped (doubles_start all) (doubles_start all)
  doubles_mapped None = to_mismatch
  doubles_mapped (Some all) = to_whole (objects.Doubles all)

  flat_mapped : (many : ℕ) (names : Names) (p : Plain) → Mapped (flat_start many names p) (flat_start many names p)
  flat_mapped many names (fields None rs x v) =
      fits_mapped (same_names names.fields (names_of_rows rs ++ x ∷ []) && many == suc (rows_count rs)) _ _
      (doubles_mapped (and_bits (bits_of_rows rs) (bits_of v)))
  flat_mapped many names p = to_mismatch

  empty_mapped : (p : Plain) → Mapped (empty_start p) (empty_start p)
  empty_mapped empty_array = to_small (vals.Atom 0)
  empty_mapped p = to_mismatch

  floatarray_mapped : (p : Plain) → Mapped (floatarray_start p) (floatarray_start p)
  floatarray_mapped (array ps v) = doubles_mapped (and_bits (bits_of_parts ps) (bits_of v))
  floatarray_mapped empty_array = to_small (vals.Atom 0)
  floatarray_mapped p = to_mismatch

  -- ---- literals with parts

  found_mapped : (found : Option T) (t : T) → f (unwrap_or found t) ≡ unwrap_or (option_map f found) (f t)
  found_mapped None t = refl
  found_mapped (Some u) t = refl

  type_mapped : (ts : List T) (t : T) (i : ℕ) → f (type_in ts t i) ≡ type_in (map f ts) (f t) i
  type_mapped ts t i = found_mapped (slice_get ts i) t ∙ ap (λ found. unwrap_or found (f t)) (sym (slice_get-map f ts i))

  -- The starts of a block with a required number of parts correspond.
  sized_mapped : (test : ℕ → Bool) (tag : ℕ) (ts : List T) (t : T)
      → Mapped (if_fits (test (length ts)) (block tag [] (type_in ts t))) (if_fits (test (length (map f ts))) (block tag [] (type_in (map f ts) (f t))))
  sized_mapped test tag ts t =
      subst (λ n. Mapped (if_fits (test (length ts)) (block tag [] (type_in ts t))) (if_fits (test n) (block tag [] (type_in (map f ts) (f t)))))
      (sym (length-map ts f))
      (fits_mapped (test (length ts)) _ _ (to_block tag [] (type_in ts t) (type_in (map f ts) (f t)) (type_mapped ts t)))

  array_mapped : (u : T) (p : Plain) → Mapped (array_start u p) (array_start (f u) p)
  array_mapped u (array ps v) = to_block 0 [] (λ i. u) (λ i. f u) (λ i. refl)
  array_mapped u empty_array = to_small (vals.Atom 0)
  array_mapped u p = to_mismatch

  product_mapped : (t : T) (ts : List T) (names : Names) (p : Plain) → Mapped (product_start t ts names p) (product_start (f t) (map f ts) names p)
  product_mapped t ts names (tuple ps u v) = sized_mapped (λ n. same_names names.fields [] && n == suc (suc (count ps))) 0 ts t
  product_mapped t ts names (fields None rs x v) =
      sized_mapped (λ n. same_names names.fields (names_of_rows rs ++ x ∷ []) && n == suc (rows_count rs)) 0 ts t
  product_mapped t ts names p = to_mismatch

  constant_mapped : (constants : ℕ) (position : Option ℕ) → Mapped (constant_start constants position) (constant_start constants position)
  constant_mapped constants None = to_mismatch
  constant_mapped constants (Some i) = fits_mapped (nat_lt i constants) _ _ (to_small _)

  constr_mapped : (t : T) (size tag : ℕ) (constr : Option (Constr T))
      → Mapped (constr_start t size tag constr) (constr_start (f t) size tag (option_map (constr_with f) constr))
  constr_mapped t size tag None = to_mismatch
  constr_mapped t size tag (Some constr) = sized_mapped (λ n. nat_lt tag 244 && n == size) tag constr.fields t

  carrying_mapped : (t : T) (blocks : List (Constr T)) (size : ℕ) (tag : Option ℕ)
      → Mapped (carrying_start t blocks size tag) (carrying_start (f t) (map (constr_with f) blocks) size tag)
  carrying_mapped t blocks size None = to_mismatch
  carrying_mapped t blocks size (Some tag) =
      subst (λ found. Mapped (constr_start t size tag (slice_get blocks tag)) (constr_start (f t) size tag found))
      (sym (slice_get-map (constr_with f) blocks tag)) (constr_mapped t size tag (slice_get blocks tag))

  sum_mapped : (t : T) (constants : ℕ) (blocks : List (Constr T)) (names : Names) (p : Plain)
      → Mapped (sum_start t constants blocks names p) (sum_start (f t) constants (map (constr_with f) blocks) names p)
  sum_mapped t constants blocks names (constant head) = constant_mapped constants (constant_of_name names head)
  sum_mapped t constants blocks names (applied head ps v) = carrying_mapped t blocks (suc (count ps)) (tag_of_name names [] head)
  sum_mapped t constants blocks names (fields (Some head) rs x v) =
      carrying_mapped t blocks (suc (rows_count rs)) (tag_of_name names (names_of_rows rs ++ x ∷ []) head)
  sum_mapped t constants blocks names p = to_mismatch

  -- ---- tags

  bare_mapped : (hash : ℤ) (arg : Option T) → Mapped (bare_tag hash arg) (bare_tag hash (option_map f arg))
  bare_mapped hash None = fits_mapped (is_in_bits 62 hash) _ _ (to_small (vals.Int hash))
  bare_mapped hash (Some u) = to_mismatch

  argument_mapped : (hash : ℤ) (arg : Option T) → Mapped (carrying_tag hash arg) (carrying_tag hash (option_map f arg))
  argument_mapped hash None = to_mismatch
  argument_mapped hash (Some u) = fits_mapped (is_in_bits 62 hash) _ _ (to_block 0 (vals.Int hash ∷ []) (λ i. u) (λ i. f u) (λ i. refl))

  if_tag_mapped : (s : ℤ → Option T → Start T) (r : ℤ → Option V → Start V) → ((hash : ℤ) (arg : Option T) → Mapped (s hash arg) (r hash (option_map f arg)))
      → (found : Option (PolyTag T)) → Mapped (if_tag s found) (if_tag r (option_map (tag_with_parts f) found))
  if_tag_mapped s r same None = to_mismatch
  if_tag_mapped s r same (Some tag) = same tag.hash tag.arg

  found_by : (test : Bool) (tag : PolyTag T) (one : Option (PolyTag V)) (other : Option (PolyTag T)) → one ≡ option_map (tag_with_parts f) other
      → (if test then Some (tag_with_parts f tag) else one) ≡ option_map (tag_with_parts f) (if test then Some tag else other)
  found_by true tag one other same = refl
  found_by false tag one other same = same

  tag_mapped : (tags : List (PolyTag T)) (z : ℤ) → tag_with (map (tag_with_parts f) tags) z ≡ option_map (tag_with_parts f) (tag_with tags z)
  tag_mapped [] z = refl
  tag_mapped (tag ∷ tags) z =
      found_by (is_number tag.hash z) tag (tag_with (map (tag_with_parts f) tags) z) (tag_with tags z) (tag_mapped tags z)

  hashed_mapped : (tags : List (PolyTag T)) (name : Option TagName)
      → option_map (tag_with_parts f) (option_and_then (λ (tag : TagName). tag_with tags tag.hash) name)
      ≡ option_and_then (λ (tag : TagName). tag_with (map (tag_with_parts f) tags) tag.hash) name
  hashed_mapped tags None = refl
  hashed_mapped tags (Some name) = sym (tag_mapped tags name.hash)

  named_mapped : (tags : List (PolyTag T)) (names : Names) (head : LiteralHead)
      → option_map (tag_with_parts f) (tag_named tags names head) ≡ tag_named (map (tag_with_parts f) tags) names head
  named_mapped tags names head =
      hashed_mapped tags (option_and_then (λ name. find (λ (tag : TagName). bytes_eq tag.name name) names.tags) (name_of_tag head))

  tag_start_mapped : (s : ℤ → Option T → Start T) (r : ℤ → Option V → Start V) → ((hash : ℤ) (arg : Option T) → Mapped (s hash arg) (r hash (option_map f arg)))
      → (tags : List (PolyTag T)) (names : Names) (head : LiteralHead)
      → Mapped (if_tag s (tag_named tags names head)) (if_tag r (tag_named (map (tag_with_parts f) tags) names head))
  tag_start_mapped s r same tags names head =
      subst (λ found. Mapped (if_tag s (tag_named tags names head)) (if_tag r found)) (named_mapped tags names head)
      (if_tag_mapped s r same (tag_named tags names head))

  poly_mapped : (tags : List (PolyTag T)) (names : Names) (p : Plain) → Mapped (poly_start tags names p) (poly_start (map (tag_with_parts f) tags) names p)
  poly_mapped tags names (constant head) = tag_start_mapped bare_tag bare_tag bare_mapped tags names head
  poly_mapped tags names (applied head no_parts v) = tag_start_mapped carrying_tag carrying_tag argument_mapped tags names head
  poly_mapped tags names p = to_mismatch

  -- ---- all literals

  pub start_mapped : (t : T) (s : ShapeOf T) (names : Names) (p : Plain) → Mapped (start_at t s names p) (start_at (f t) (with_parts f s) names p)
  start_mapped t shapes.AnyInt names p = integer_mapped int_start int_start int_mapped p
  start_mapped t (shapes.Below many) names p = below_mapped many p
  start_mapped t (shapes.Bytes mutable) names p = bytes_mapped p
  start_mapped t shapes.Double names p = double_mapped p
  start_mapped t shapes.Int32 names p = integer_mapped int32_start int32_start int32_mapped p
  start_mapped t shapes.Int64 names p = integer_mapped int64_start int64_start int64_mapped p
  start_mapped t shapes.Native names p = integer_mapped native_start native_start native_mapped p
  start_mapped t (shapes.Sum constants blocks) names p = sum_mapped t constants blocks names p
  start_mapped t (shapes.Product mutable ts) names p = product_mapped t ts names p
  start_mapped t (shapes.FlatFloats mutable many) names p = flat_mapped many names p
  start_mapped t (shapes.ArrayOf u) names p = array_mapped u p
  start_mapped t shapes.FloatArray names p = floatarray_mapped p
  start_mapped t (shapes.Poly tags) names p = poly_mapped tags names p
  start_mapped t shapes.Variable names p = to_mismatch
  start_mapped t shapes.ArrayOfVariable names p = empty_mapped p
  start_mapped t shapes.Anything names p = to_mismatch
  start_mapped t (shapes.ArrayOfAnything u) names p = array_mapped u p
