-- The start of a literal at the shape and names of a type, before the literal's parts are read. The
-- start depends on the form of the literal, its name, and its number of parts or its fields.
use Rattle.std.specs.Prelude.{ℕ, ℤ, pos, negsuc, suc, ◌==◌, ◌^◌, ◌&&◌, nat_lt, Bool, true, false}
use Rattle.std.specs.Prelude.{if◌then◌else◌, List, [], ◌∷◌, ◌++◌, length, slice_get, find, codes}
use Rattle.std.specs.Prelude.{Option, Some, None, option_and_then, unwrap_or}
use Rattle.std.specs.List.{position}
use Rattle.std.specs.Str.{bytes_eq}
use Rattle.base_data.specs.declared.model.value.Val.{Val}
use Rattle.base_data.specs.declared.model.value.Val.TheVariants as vals
use Rattle.base_data.specs.declared.model.value.Obj.{Obj}
use Rattle.base_data.specs.declared.model.value.Obj.TheVariants as objects
use Rattle.types_lex.specs.declared.lexeme.Suffix.{Suffix}
use Rattle.types_lex.specs.declared.lexeme.Suffix.TheVariants as suffixes
use Rattle.types_spec.specs.declared.types.names.ConstrNames.{ConstrNames}
use Rattle.types_spec.specs.declared.types.names.TagName.{TagName}
use Rattle.types_spec.specs.declared.types.names.Names.{Names}
use Rattle.types_spec.specs.declared.types.shape.Constr.{Constr}
use Rattle.types_spec.specs.declared.types.shape.PolyTag.{PolyTag}
use Rattle.types_spec.specs.declared.types.shape.ShapeOf.{ShapeOf}
use Rattle.types_spec.specs.declared.types.shape.ShapeOf.TheVariants as shapes
use Rattle.types_spec.specs.types.Fitting.{tag_with}
use Rattle.types_parse.specs.grammar.Grammar.{Name}
use Rattle.text_literal.specs.literal_grammar.Literal.{LiteralHead, upper_head, tag_head, cons_head}
use Rattle.text_literal.specs.literal_grammar.Literal.{empty_head}
use Rattle.text_literal.specs.literal_grammar.Literal.{ref_head, Literal, labelled, Plain, integer}
use Rattle.text_literal.specs.literal_grammar.Literal.{character}
use Rattle.text_literal.specs.literal_grammar.Literal.{string, double, truth, unit, constant}
use Rattle.text_literal.specs.literal_grammar.Literal.{applied}
use Rattle.text_literal.specs.literal_grammar.Literal.{fields}
use Rattle.text_literal.specs.literal_grammar.Literal.{tuple, empty_array, array, Parts, no_parts}
use Rattle.text_literal.specs.literal_grammar.Literal.{more_parts}
use Rattle.text_literal.specs.literal_grammar.Literal.{FieldRows, no_rows, more_rows, ref_name}
use Rattle.text_literal.specs.literal_grammar.LiteralNodes.{count, rows_count}

-- The start of a literal at a type: a mismatch, or what the literal begins.
pub data Start (T : Type 0) : Type 0 where
  mismatch : Start T
  out_of_range : Start T
  -- The literal is an integer or an atom.
  small : Val → Start T
  -- The literal is an object without parts.
  whole : Obj → Start T
  -- The literal is a block: its tag, its fields before the parts, and the type of each part by
  -- index.
  block : ℕ → List Val → (ℕ → T) → Start T

-- ---- numbers

-- The number is at least -2^n and less than 2^n.
abbrev pub is_in_bits : ℕ → ℤ → Bool
is_in_bits n (pos m) = nat_lt m (2 ^ n)
is_in_bits n (negsuc m) = nat_lt m (2 ^ n)

-- ---- names

abbrev pub constructor_name : LiteralHead → Option Name
constructor_name (upper_head x) = Some x
constructor_name (tag_head x) = None
constructor_name cons_head = Some (codes "::")
constructor_name empty_head = Some (codes "[]")
constructor_name ref_head = Some ref_name

abbrev pub name_of_tag : LiteralHead → Option Name
name_of_tag (tag_head x) = Some x
name_of_tag head = None

abbrev pub same_names : List Name → List Name → Bool
same_names [] [] = true
same_names (x ∷ xs) (y ∷ ys) = bytes_eq x y && same_names xs ys
same_names xs ys = false

abbrev pub names_of_rows : FieldRows → List Name
names_of_rows no_rows = []
names_of_rows (more_rows rs x v) = names_of_rows rs ++ x ∷ []

abbrev pub is_constr : Name → List Name → ConstrNames → Bool
is_constr name wanted names = bytes_eq names.name name && same_names names.fields wanted

-- The index of the constant constructor that the head names.
abbrev pub constant_of_name : Names → LiteralHead → Option ℕ
constant_of_name names head =
    option_and_then (λ name. position (bytes_eq name) names.constants) (constructor_name head)

-- The tag of the constructor that the head names and whose inline record has the fields `wanted`.
-- If `wanted` is empty, the constructor has no inline record.
abbrev pub tag_of_name : Names → List Name → LiteralHead → Option ℕ
tag_of_name names wanted head =
    option_and_then (λ name. position (is_constr name wanted) names.constructors)
    (constructor_name head)

-- ---- doubles

abbrev pub bits_of : Literal → Option ℕ
bits_of (labelled None (double bits)) = Some bits
bits_of v = None

abbrev pub and_bits : Option (List ℕ) → Option ℕ → Option (List ℕ)
and_bits (Some all) (Some bits) = Some (all ++ bits ∷ [])
and_bits all bits = None

-- The bits of all parts, if each part is a double without a label.
abbrev pub bits_of_parts : Parts → Option (List ℕ)
bits_of_parts no_parts = Some []
bits_of_parts (more_parts ps v) = and_bits (bits_of_parts ps) (bits_of v)

abbrev pub bits_of_rows : FieldRows → Option (List ℕ)
bits_of_rows no_rows = Some []
bits_of_rows (more_rows rs x v) = and_bits (bits_of_rows rs) (bits_of v)

module _ {T : Type 0} where
  abbrev pub if_fits : Bool → Start T → Start T
  if_fits fits start = if fits then start else mismatch

  abbrev pub if_in_range : Bool → Start T → Start T
  if_in_range fits start = if fits then start else out_of_range

  -- ---- literals without parts

  abbrev pub int_start : Suffix → ℤ → Start T
  int_start suffixes.Absent z = if_in_range (is_in_bits 62 z) (small (vals.Int z))
  int_start suffix z = mismatch

  abbrev pub int32_start : Suffix → ℤ → Start T
  int32_start suffixes.Int32 z = if_in_range (is_in_bits 31 z) (whole (objects.I32 z))
  int32_start suffix z = mismatch

  abbrev pub int64_start : Suffix → ℤ → Start T
  int64_start suffixes.Int64 z = if_in_range (is_in_bits 63 z) (whole (objects.I64 z))
  int64_start suffix z = mismatch

  abbrev pub native_start : Suffix → ℤ → Start T
  native_start suffixes.Native z = if_in_range (is_in_bits 63 z) (whole (objects.Native z))
  native_start suffix z = mismatch

  -- The start of an integer literal, from its suffix and its value.
  abbrev pub integer_start : (Suffix → ℤ → Start T) → Plain → Start T
  integer_start start (integer i) = start i.suffix i.value
  integer_start start p = mismatch

  -- The start of a literal of type `char`, `bool` or `unit`.
  abbrev pub below_start : ℕ → Plain → Start T
  below_start many (character c) = if_fits (many == 256) (small (vals.Int (pos c)))
  below_start many (truth b) = if_fits (many == 2) (small (vals.Int (pos (if b then 1 else 0))))
  below_start many unit = if_fits (many == 1) (small (vals.Int (pos 0)))
  below_start many p = mismatch

  abbrev pub bytes_start : Plain → Start T
  bytes_start (string bytes) = whole (objects.Bytes bytes)
  bytes_start p = mismatch

  abbrev pub double_start : Plain → Start T
  double_start (double bits) = whole (objects.Double bits)
  double_start p = mismatch

  -- The start of a literal that makes one object of several doubles.
  abbrev pub doubles_start : Option (List ℕ) → Start T
  doubles_start None = mismatch
  doubles_start (Some all) = whole (objects.Doubles all)

  abbrev pub flat_start : ℕ → Names → Plain → Start T
  flat_start many names (fields None rs x v) =
      if_fits (same_names names.fields (names_of_rows rs ++ x ∷ []) && many == suc (rows_count rs))
      (doubles_start (and_bits (bits_of_rows rs) (bits_of v)))
  flat_start many names p = mismatch

  abbrev pub empty_start : Plain → Start T
  empty_start empty_array = small (vals.Atom 0)
  empty_start p = mismatch

  abbrev pub floatarray_start : Plain → Start T
  floatarray_start (array ps v) = doubles_start (and_bits (bits_of_parts ps) (bits_of v))
  floatarray_start p = empty_start p

  -- ---- literals with parts: t is the default type of a part without a type, which never occurs

  abbrev pub type_in : List T → T → ℕ → T
  type_in ts t i = unwrap_or (slice_get ts i) t

  abbrev pub array_start : T → Plain → Start T
  array_start u (array ps v) = block 0 [] (λ i. u)
  array_start u p = empty_start p

  abbrev pub product_start : T → List T → Names → Plain → Start T
  product_start t ts names (tuple ps u v) =
      if_fits (same_names names.fields [] && length ts == suc (suc (count ps)))
      (block 0 [] (type_in ts t))
  product_start t ts names (fields None rs x v) =
      if_fits
      (same_names names.fields (names_of_rows rs ++ x ∷ []) && length ts == suc (rows_count rs))
      (block 0 [] (type_in ts t))
  product_start t ts names p = mismatch

  -- ---- constructors

  -- The start of a name, given the index of the name among the constant constructors.
  abbrev pub constant_start : ℕ → Option ℕ → Start T
  constant_start constants None = mismatch
  constant_start constants (Some i) = if_fits (nat_lt i constants) (small (vals.Int (pos i)))

  -- The block of the constructor with this tag, if the constructor has `size` fields. No block has
  -- a tag above 243.
  abbrev pub constr_start : T → ℕ → ℕ → Option (Constr T) → Start T
  constr_start t size tag None = mismatch
  constr_start t size tag (Some constr) =
      if_fits (nat_lt tag 244 && length constr.fields == size)
      (block tag [] (type_in constr.fields t))

  abbrev pub carrying_start : T → List (Constr T) → ℕ → Option ℕ → Start T
  carrying_start t blocks size None = mismatch
  carrying_start t blocks size (Some tag) = constr_start t size tag (slice_get blocks tag)

  abbrev pub sum_start : T → ℕ → List (Constr T) → Names → Plain → Start T
  sum_start t constants blocks names (constant head) =
      constant_start constants (constant_of_name names head)
  sum_start t constants blocks names (applied head ps v) =
      carrying_start t blocks (suc (count ps)) (tag_of_name names [] head)
  sum_start t constants blocks names (fields (Some head) rs x v) =
      carrying_start t blocks (suc (rows_count rs))
      (tag_of_name names (names_of_rows rs ++ x ∷ []) head)
  sum_start t constants blocks names p = mismatch

  -- ---- tags of polymorphic variants

  abbrev pub tag_named : List (PolyTag T) → Names → LiteralHead → Option (PolyTag T)
  tag_named tags names head =
      option_and_then (λ (tag : TagName). tag_with tags tag.hash)
      (option_and_then (λ name. find (λ (tag : TagName). bytes_eq tag.name name) names.tags)
      (name_of_tag head))

  -- The start of a tag without an argument, from its hash and the type of its argument. No value
  -- has an integer of more than 63 bits.
  abbrev pub bare_tag : ℤ → Option T → Start T
  bare_tag hash None = if_fits (is_in_bits 62 hash) (small (vals.Int hash))
  bare_tag hash (Some u) = mismatch

  abbrev pub carrying_tag : ℤ → Option T → Start T
  carrying_tag hash None = mismatch
  carrying_tag hash (Some u) = if_fits (is_in_bits 62 hash) (block 0 (vals.Int hash ∷ []) (λ i. u))

  abbrev pub if_tag : (ℤ → Option T → Start T) → Option (PolyTag T) → Start T
  if_tag start None = mismatch
  if_tag start (Some tag) = start tag.hash tag.arg

  abbrev pub poly_start : List (PolyTag T) → Names → Plain → Start T
  poly_start tags names (constant head) = if_tag bare_tag (tag_named tags names head)
  poly_start tags names (applied head no_parts v) = if_tag carrying_tag (tag_named tags names head)
  poly_start tags names p = mismatch

  -- ---- all literals

  abbrev pub start_at : T → ShapeOf T → Names → Plain → Start T
  start_at t shapes.AnyInt names p = integer_start int_start p
  start_at t (shapes.Below many) names p = below_start many p
  start_at t (shapes.Bytes mutable) names p = bytes_start p
  start_at t shapes.Double names p = double_start p
  start_at t shapes.Int32 names p = integer_start int32_start p
  start_at t shapes.Int64 names p = integer_start int64_start p
  start_at t shapes.Native names p = integer_start native_start p
  start_at t (shapes.Sum constants blocks) names p = sum_start t constants blocks names p
  start_at t (shapes.Product mutable ts) names p = product_start t ts names p
  start_at t (shapes.FlatFloats mutable many) names p = flat_start many names p
  start_at t (shapes.ArrayOf u) names p = array_start u p
  start_at t shapes.FloatArray names p = floatarray_start p
  start_at t (shapes.Poly tags) names p = poly_start tags names p
  start_at t shapes.Variable names p = mismatch
  start_at t shapes.ArrayOfVariable names p = empty_start p
  start_at t shapes.Anything names p = mismatch
  start_at t (shapes.ArrayOfAnything u) names p = array_start u p
