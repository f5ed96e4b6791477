-- If a value matches a type's representation, then the type has the names that the value's text
-- needs.
use Rattle.std.proofs.Common.{ℕ, zero, suc, ◌+◌, ◌<◌, ◌≡◌, ◌∙◌, ℤ, pos, negsuc, inl, inr, List, [], ◌∷◌, length, Bool, true, false, cond, Option, Some, None, refl, ap, sym, subst, arith}
use Rattle.std.specs.Prelude.{map, slice_get, find, IsSome, IsTrue, IsSomeAnd, if◌then◌else◌, ◌==◌, ◌&&◌, nat_lt, option_and_then}
use Rattle.std.specs.List.{filter_map, cons_option}
use Rattle.std.proofs.lemmas.Bool.{false≢true}
use Rattle.std.proofs.lemmas.Bool.Decides.{Decides-eqb, Decides-ltb}
use Rattle.std.proofs.lemmas.List.{length-map}
use Rattle.std.proofs.lemmas.List.Recursion.{is_count_by}
use Rattle.base_data.proofs.model.Options.{slice_get_there}
use Rattle.base_data.specs.declared.model.value.Val.{Val}
use Rattle.base_data.specs.declared.model.value.Val.TheVariants as vals
use Rattle.base_data.specs.declared.model.value.Obj.{Obj}
use Rattle.base_data.specs.declared.model.value.Obj.TheVariants as objects
use Rattle.types_spec.specs.declared.types.decl.Predeclared.{Predeclared}
use Rattle.types_spec.specs.declared.types.decl.Predeclared.TheVariants as bases
use Rattle.types_spec.specs.declared.types.decl.Field.{Field}
use Rattle.types_spec.specs.declared.types.decl.Arguments.{Arguments}
use Rattle.types_spec.specs.declared.types.decl.Arguments.TheVariants as arguments
use Rattle.types_spec.specs.declared.types.decl.Constructor.{Constructor}
use Rattle.types_spec.specs.declared.types.decl.Body.{Body}
use Rattle.types_spec.specs.declared.types.decl.Body.TheVariants as bodies
use Rattle.types_spec.specs.declared.types.decl.Decl.{Decl}
use Rattle.types_spec.specs.declared.types.head.TagOf.{TagOf}
use Rattle.types_spec.specs.declared.types.head.HeadOf.{HeadOf}
use Rattle.types_spec.specs.declared.types.head.HeadOf.TheVariants as heads
use Rattle.types_spec.specs.declared.types.names.ConstrNames.{ConstrNames}
use Rattle.types_spec.specs.declared.types.names.TagName.{TagName}
use Rattle.types_spec.specs.declared.types.names.Names.{Names}
use Rattle.types_spec.specs.declared.types.shape.Constr.{Constr}
use Rattle.types_spec.specs.declared.types.shape.PolyTag.{PolyTag}
use Rattle.types_spec.specs.declared.types.shape.ShapeOf.{ShapeOf}
use Rattle.types_spec.specs.declared.types.shape.ShapeOf.TheVariants as shapes
use Rattle.types_spec.specs.types.Ty.{Ty}
use Rattle.types_spec.specs.types.Declarations.{declaration_of, instance_of}
use Rattle.types_spec.specs.types.Predeclared.{SumBlock, Sum, sum_at, name_at, takes, constr_of, shape_if, sum_shape}
use Rattle.types_spec.specs.types.Fitting.{is_number, tag_with, is_bare, fits_int, constr_fields, fields_if, tag_fields, argument_field, block_fields, has_doubles, none_if, object_fields, fields_of}
use Rattle.types_spec.specs.types.Head.{head}
use Rattle.types_spec.specs.types.Names.{no_names, field_names, constant_name, carrying_names, constr_names, tag_name, body_names, declared_body_names, predeclared_type_names, head_names, names_of, plain_constr, sum_names}
use Rattle.types_spec.specs.types.Shape.{is_flat, is_constant, constants_in, types_of_fields, block_of, blocks_in, array_of, predeclared_shape, record_shape, body_shape, datatype_shape, tag_shape, head_shape, shape}
use Rattle.text_print.specs.leaves.Frames.{is_hash, tag_of_values}
use Rattle.text_print.specs.show.NamedFields.{HasTag, AreForFields, HasIntName, HasBlockNames, HasDoublesNames, HasObjectNames, HasItsNames}

-- ---- the names of a representation

module _ {T : Type 0} where
  -- Each block has names for its fields, and the blocks and the names correspond in order.
  abbrev AreForBlocks : List (Constr T) → List ConstrNames → Type 0
  AreForBlocks [] [] = Unit {0}
  AreForBlocks (block ∷ blocks) (c ∷ all) = AreForFields c.fields (length block.fields) × AreForBlocks blocks all
  AreForBlocks blocks all = ⊥

  -- Each tag has a name with the tag's hash, and the tags and the names correspond in order.
  abbrev AreForTags : List (PolyTag T) → List TagName → Type 0
  AreForTags [] [] = Unit {0}
  AreForTags (tag ∷ tags) (name ∷ all) = (tag.hash ≡ name.hash) × AreForTags tags all
  AreForTags tags all = ⊥

  abbrev AreFor : ShapeOf T → Names → Type 0
  AreFor (shapes.Sum constants blocks) names =
      (length names.constants ≡ constants) × AreForBlocks blocks names.constructors
  AreFor (shapes.Product mutable ts) names = AreForFields names.fields (length ts)
  AreFor (shapes.FlatFloats mutable n) names = length names.fields ≡ n
  AreFor (shapes.Poly tags) names = AreForTags tags names.tags
  AreFor s names = Unit {0}

-- ---- the names of a type

constant_more : (test : Bool) (name : List ℕ) (rest : List (List ℕ))
    → length (cons_option (if test then Some name else None) rest) ≡ cond test (1 + length rest) (length rest)
constant_more true name rest = omega arith
constant_more false name rest = refl

constants_named : (all : List Constructor) → length (filter_map constant_name all) ≡ constants_in all
constants_named all =
    is_count_by (λ all. length (filter_map constant_name all)) (λ (c : Constructor). is_constant c.arguments) refl
    (λ c rest. constant_more (is_constant c.arguments) c.name (filter_map constant_name rest)) all

module _ (instance : Ty → Ty) where
  fields_counted : (fields : List Field) → length (field_names fields) ≡ length (map instance (types_of_fields fields))
  fields_counted fields =
      length-map fields (λ (field : Field). field.name)
      ∙ sym (length-map fields (λ (field : Field). field.ty))
      ∙ sym (length-map (types_of_fields fields) instance)

  block_named : (name : List ℕ) (carried : Arguments) (blocks : List (Constr Ty)) (rest : List ConstrNames)
      → AreForBlocks blocks rest
      → AreForBlocks (cons_option (block_of instance carried) blocks) (cons_option (carrying_names name carried) rest)
  block_named name arguments.Constant blocks rest more = more
  block_named name (arguments.Listed types) blocks rest more = (inl refl, more)
  block_named name (arguments.Inline fields) blocks rest more = (inr (fields_counted fields), more)

  blocks_named : (all : List Constructor) → AreForBlocks (blocks_in instance all) (filter_map constr_names all)
  blocks_named [] = tt
  blocks_named (c ∷ all) =
      block_named c.name c.arguments (blocks_in instance all) (filter_map constr_names all) (blocks_named all)

  record_named : (fields : List Field) (flat : Bool)
      → AreFor (record_shape instance fields flat) (body_names (bodies.Record fields))
  record_named fields true = length-map fields (λ (field : Field). field.name)
  record_named fields false = inr (fields_counted fields)

  body_named : (decls : List Decl) (body : Body) → AreFor (body_shape decls instance body) (body_names body)
  body_named decls (bodies.Abbreviation t) = tt
  body_named decls (bodies.Record fields) = record_named fields (is_flat decls fields)
  body_named decls (bodies.Variant constructors) = (constants_named constructors, blocks_named constructors)

datatype_named : (decls : List Decl) (found : Option Decl) (ts : List Ty)
    → AreFor (datatype_shape decls found ts) (declared_body_names found)
datatype_named decls None ts = tt
datatype_named decls (Some decl) ts = body_named (instance_of decl ts) decls decl.body

tags_named : (tags : List (TagOf Ty)) → AreForTags (map tag_shape tags) (map tag_name tags)
tags_named [] = tt
tags_named (tag ∷ tags) = (refl, tags_named tags)

array_named : (h : HeadOf Ty) (t : Ty) → AreFor (array_of h t) no_names
array_named (heads.Variable name) t = tt
array_named (heads.Predeclared b ts) t = by_base b where
  by_base : (base : Predeclared) → AreFor (array_of (heads.Predeclared base ts) t) no_names
  by_base bases.Float = tt
  by_base bases.Any = tt
  by_base base = tt
array_named h t = tt

sum_blocks_named : (name : List ℕ) (ts : List Ty) (blocks : List SumBlock)
    → AreForBlocks (map (constr_of name ts) blocks) (map (λ (block : SumBlock). plain_constr block.name) blocks)
sum_blocks_named name ts [] = tt
sum_blocks_named name ts (block ∷ blocks) = (inl refl, sum_blocks_named name ts blocks)

shape_if_named : (test : Bool) (known : Sum) (name : List ℕ) (ts : List Ty)
    → AreFor (shape_if test known name ts) (sum_names (Some known))
shape_if_named false known name ts = tt
shape_if_named true known name ts = (refl, sum_blocks_named name ts known.blocks)

sum_named : (known : Option Sum) (name : List ℕ) (ts : List Ty) → AreFor (sum_shape known name ts) (sum_names known)
sum_named None name ts = tt
sum_named (Some known) name ts = shape_if_named (takes known.parameters ts) known name ts

predeclared_named : (decls : List Decl) (base : Predeclared) (ts : List Ty)
    → AreFor (predeclared_shape decls base ts) (predeclared_type_names base)
predeclared_named decls (bases.Sum k) ts = sum_named (sum_at k) (name_at k) ts
predeclared_named decls bases.Array (t ∷ []) = array_named (head decls t) t
predeclared_named decls bases.Int [] = tt
predeclared_named decls base [] = tt
predeclared_named decls base (t ∷ []) = tt
predeclared_named decls bases.Int (t ∷ u ∷ ts) = tt
predeclared_named decls base (t ∷ u ∷ ts) = tt

head_named : (decls : List Decl) (h : HeadOf Ty) → AreFor (head_shape decls h) (head_names decls h)
head_named decls (heads.Variable name) = tt
head_named decls (heads.Predeclared base ts) = predeclared_named decls base ts
head_named decls (heads.Datatype name ts) = datatype_named decls (declaration_of decls name) ts
head_named decls (heads.Tuple ts) = inl refl
head_named decls (heads.Variants tags) = tags_named tags
head_named decls heads.Absent = tt

-- ---- a matching value has its names

pub none_if_true : (T : Type 0) (test : Bool) → IsSome (none_if {T = T} test) → IsTrue test
none_if_true T true some = refl
none_if_true T false some = some

as_many : (fields : List (List ℕ)) (m n : ℕ) → AreForFields fields m → IsTrue (m == n) → AreForFields fields n
as_many fields m n named same = subst (AreForFields fields) ((Decides-eqb m n).0 same) named

both_true : (a b : Bool) → IsTrue (a && b) → IsTrue b
both_true true b both = both
both_true false b both = absurd (false≢true both)

-- If a list has `n` elements and `k` is below `n`, then the list has an element at index `k`.
there : {X : Type 0} (xs : List X) (n k : ℕ) → length xs ≡ n → IsTrue (nat_lt k n) → IsSome (slice_get xs k)
there xs n k long below =
    let less : k < length xs = subst (λ m. k < m) (sym long) ((Decides-ltb k n).0 below) in
    let found = slice_get_there xs k less in
    subst IsSome (sym found.1) refl

module _ {T : Type 0} where
  tag_more : (tag : PolyTag T) (name : TagName) (found : Option (PolyTag T)) (found' : Option TagName)
      (test test' : Bool) → test ≡ test' → (IsSome found → IsSome found')
      → IsSome (cond test (Some tag) found) → IsSome (cond test' (Some name) found')
  tag_more tag name found found' true true same later some = refl
  tag_more tag name found found' false false same later some = later some
  tag_more tag name found found' true false same later some = absurd (false≢true (sym same))
  tag_more tag name found found' false true same later some = refl

  -- If a tag with hash `z` is found, then a name with hash `z` is found.
  tag_there : (tags : List (PolyTag T)) (all : List TagName) (z : ℤ) → AreForTags tags all
      → IsSome (tag_with tags z) → IsSome (find (is_hash z) all)
  tag_there [] [] z named some = some
  tag_there [] (name ∷ all) z named some = absurd named
  tag_there (tag ∷ tags) [] z named some = absurd named
  tag_there (tag ∷ tags) (name ∷ all) z named some =
      tag_more tag name (tag_with tags z) (find (is_hash z) all) (is_number tag.hash z) (is_number name.hash z)
      (ap (λ h. is_number h z) named.0) (tag_there tags all z named.1) some

  bare_there : (found : Option (PolyTag T)) → IsTrue (is_bare found) → IsSome found
  bare_there None bare = bare
  bare_there (Some tag) bare = refl

  int_named : (s : ShapeOf T) (names : Names) (z : ℤ) → AreFor s names → IsTrue (fits_int s z) → HasIntName s names z
  int_named (shapes.Sum constants blocks) names (pos n) named fits = there names.constants constants n named.0 fits
  int_named (shapes.Sum constants blocks) names (negsuc n) named fits = absurd (false≢true fits)
  int_named (shapes.Poly tags) names z named fits =
      tag_there tags names.tags z named (bare_there (tag_with tags z) fits)
  int_named s names z named fits = tt

  fields_if_true : (test : Bool) (ts : List T) → IsSome (fields_if test ts) → IsTrue test
  fields_if_true true ts some = refl
  fields_if_true false ts some = some

  constr_there : (blocks : List (Constr T)) (all : List ConstrNames) (tag n : ℕ) → AreForBlocks blocks all
      → IsSome (constr_fields n (slice_get blocks tag))
      → IsSomeAnd (slice_get all tag) (λ (c : ConstrNames). AreForFields c.fields n)
  constr_there [] [] tag n named some = absurd (false≢true some)
  constr_there [] (c ∷ all) tag n named some = absurd named
  constr_there (block ∷ blocks) [] tag n named some = absurd named
  constr_there (block ∷ blocks) (c ∷ all) zero n named some =
      as_many c.fields (length block.fields) n named.0
      (fields_if_true (length block.fields == n) block.fields some)
  constr_there (block ∷ blocks) (c ∷ all) (suc tag) n named some = constr_there blocks all tag n named.1 some

  with_there : (found : Option (PolyTag T))
      → IsSome (option_and_then (λ (tag : PolyTag T). argument_field tag.arg) found) → IsSome found
  with_there None some = some
  with_there (Some tag) some = refl

  carried_there : (tags : List (PolyTag T)) (names : Names) (values : List Val) → AreForTags tags names.tags
      → IsSome (tag_fields tags values) → HasTag names (tag_of_values values)
  carried_there tags names (vals.Int z ∷ argument ∷ []) named some =
      tag_there tags names.tags z named (with_there (tag_with tags z) some)
  carried_there tags names values named some = absurd (false≢true some)

  poly_there : (test : Bool) (tags : List (PolyTag T)) (names : Names) (values : List Val)
      → AreForTags tags names.tags → IsSome (if test then tag_fields tags values else None)
      → HasTag names (tag_of_values values)
  poly_there true tags names values named some = carried_there tags names values named some
  poly_there false tags names values named some = absurd (false≢true some)

  block_has : (s : ShapeOf T) (names : Names) (tag : ℕ) (values : List Val) → AreFor s names
      → IsSome (block_fields s tag values) → HasBlockNames s names tag values
  block_has (shapes.Sum constants blocks) names tag values named some =
      constr_there blocks names.constructors tag (length values) named.1 some
  block_has (shapes.Product mutable ts) names tag values named some =
      as_many names.fields (length ts) (length values) named
      (both_true (tag == 0) (length ts == length values)
      (fields_if_true ((tag == 0) && (length ts == length values)) ts some))
  block_has (shapes.Poly tags) names tag values named some = poly_there (tag == 0) tags names values named some
  block_has s names tag values named some = tt

  doubles_have : (s : ShapeOf T) (names : Names) (n : ℕ) → AreFor s names → IsTrue (has_doubles s n)
      → HasDoublesNames s names n
  doubles_have (shapes.FlatFloats mutable k) names n named fits = named ∙ (Decides-eqb k n).0 fits
  doubles_have s names n named fits = tt

  object_has : (s : ShapeOf T) (names : Names) (object : Obj) → AreFor s names
      → IsSome (object_fields s object) → HasObjectNames s names object
  object_has s names (objects.Block tag values) named some = block_has s names tag values named some
  object_has s names (objects.Doubles all) named some =
      doubles_have s names (length all) named (none_if_true T (has_doubles s (length all)) some)
  object_has s names object named some = tt

  found_has : (s : ShapeOf T) (names : Names) (object : Option Obj) → AreFor s names
      → IsSome (option_and_then (object_fields s) object) → IsSomeAnd object (HasObjectNames s names)
  found_has s names None named some = absurd (false≢true some)
  found_has s names (Some object) named some = object_has s names object named some

  value_has : (s : ShapeOf T) (names : Names) (graph : List Obj) (v : Val) → AreFor s names
      → IsSome (fields_of graph v s) → HasItsNames s names graph v
  value_has s names graph (vals.Int z) named some =
      int_named s names z named (none_if_true T (fits_int s z) some)
  value_has s names graph (vals.Atom tag) named some = tt
  value_has s names graph (vals.Ref o) named some = found_has s names (slice_get graph o) named some

pub has_its_names : (decls : List Decl) (graph : List Obj) (v : Val) (t : Ty)
    → IsSome (fields_of graph v (shape decls t)) → HasItsNames (shape decls t) (names_of decls t) graph v
has_its_names decls graph v t fits =
    value_has (shape decls t) (names_of decls t) graph v (head_named decls (head decls t)) fits
