-- Lemmas about heads and shapes over type indices.
use Rattle.std.proofs.Common.{ℕ, ◌<◌, ◌≡◌, ◌∙◌, Bool, List, [], ◌∷◌, ◌++◌, length, map, Option, Some, None, refl, sym, ap, All, unwrap_or}
use Rattle.std.specs.Prelude.{slice_get, option_map}
use Rattle.std.proofs.lemmas.List.{map-id}
use Rattle.std.proofs.lemmas.List.Elements.{All-nil, All-cons, All-head, All-tail, All-weaker}
use Rattle.std.proofs.lemmas.Option.{slice_get_within, slice_get-get_or, unwrap_or-slice_get}
use Rattle.types_spec.specs.declared.types.decl.Decl.{Decl}
use Rattle.types_spec.specs.declared.types.head.TagOf.{TagOf}
use Rattle.types_spec.specs.declared.types.head.HeadOf.{HeadOf}
use Rattle.types_spec.specs.declared.types.head.HeadOf.TheVariants as heads
use Rattle.types_spec.specs.declared.types.shape.PolyTag.{PolyTag}
use Rattle.types_spec.specs.declared.types.shape.ShapeOf.TheVariants as shapes
use Rattle.types_spec.specs.types.Ty.{Ty, tuple}
use Rattle.types_spec.specs.types.TypeNodes.{type_at}
use Rattle.types_spec.specs.types.Head.{head}
use Rattle.types_spec.specs.types.Names.{tag_name, head_names}
use Rattle.types_spec.specs.types.Reached.{listed_if, parts_of}
use Rattle.types_spec.specs.tag_hash.TagHash.{tag_hash}
use Rattle.types_spec.specs.types.Shape.{tag_shape}
use Rattle.types_spec.specs.types.Table.{tag_with_part, tag_with_parts, head_with_parts}
use Rattle.types_spec.specs.declared.types.names.Names.{Names}
use Rattle.types_theory.proofs.equality.HeadMapLemmas.{parts_of-map}
use Rattle.types_table.specs.store.Held.{Grows}
use Rattle.types_table.specs.store.Instance.{HasNumbers}
use Rattle.types_table.proofs.store.StoreHeldLemmas.{there_kept}
use Rattle.types_build.specs.representation.Representation.{head_of_types, IsShapeAt, hashed, named, AreNamesAt}

-- ---- functions that agree on the parts

abbrev tag_named : {T : Type 0} → List ℕ → Option T → TagOf T
tag_named name argument = record { name = name; argument = argument }

module _ {T U : Type 0} (f g : T → U) where
  pub lists_agree : (ts : List T) → All (λ t. f t ≡ g t) ts → map f ts ≡ map g ts
  lists_agree [] agree = refl
  lists_agree (t ∷ ts) agree = λ k.
      All-head (λ u. f u ≡ g u) t ts agree k ∷ lists_agree ts (All-tail (λ u. f u ≡ g u) t ts agree) k

  argument_agrees : (o : Option T) (rest : List T) → All (λ t. f t ≡ g t) (listed_if o ++ rest)
      → (option_map f o ≡ option_map g o) × All (λ t. f t ≡ g t) rest
  argument_agrees None rest agree = (refl, agree)
  argument_agrees (Some t) rest agree =
      (ap (λ u. Some u) (All-head (λ u. f u ≡ g u) t rest agree), All-tail (λ u. f u ≡ g u) t rest agree)

  pub tags_agree : (tags : List (TagOf T)) → All (λ t. f t ≡ g t) (parts_of (heads.Variants tags))
      → map (tag_with_part f) tags ≡ map (tag_with_part g) tags
  tags_agree [] agree = refl
  tags_agree (tag ∷ tags) agree =
      let both = argument_agrees tag.argument (parts_of (heads.Variants tags)) agree in
      λ k. tag_named tag.name (both.0 k) ∷ tags_agree tags both.1 k

  pub heads_agree : (h : HeadOf T) → All (λ t. f t ≡ g t) (parts_of h) → head_with_parts f h ≡ head_with_parts g h
  heads_agree (heads.Variable x) agree = refl
  heads_agree (heads.Predeclared b ts) agree = ap (heads.Predeclared b) (lists_agree ts agree)
  heads_agree (heads.Datatype n ts) agree = ap (heads.Datatype n) (lists_agree ts agree)
  heads_agree (heads.Tuple ts) agree = ap (λ us. heads.Tuple us) (lists_agree ts agree)
  heads_agree (heads.Variants tags) agree = ap (λ all. heads.Variants all) (tags_agree tags agree)
  heads_agree heads.Absent agree = refl

-- ---- parts replaced twice, and not at all

module _ {T U V : Type 0} (f : T → U) (g : U → V) where
  pub list_twice : (ts : List T) → map g (map f ts) ≡ map (λ t. g (f t)) ts
  list_twice [] = refl
  list_twice (t ∷ ts) = ap (λ vs. g (f t) ∷ vs) (list_twice ts)

  tag_twice : (tag : TagOf T) → tag_with_part g (tag_with_part f tag) ≡ tag_with_part (λ t. g (f t)) tag
  tag_twice tag = by tag.argument where
    by : (o : Option T) → tag_named tag.name (option_map g (option_map f o)) ≡ tag_named tag.name (option_map (λ t. g (f t)) o)
    by None = refl
    by (Some t) = refl

  pub tags_twice : (tags : List (TagOf T)) → map (tag_with_part g) (map (tag_with_part f) tags) ≡ map (tag_with_part (λ t. g (f t))) tags
  tags_twice [] = refl
  tags_twice (tag ∷ tags) = λ k. tag_twice tag k ∷ tags_twice tags k

  head_twice : (h : HeadOf T) → head_with_parts g (head_with_parts f h) ≡ head_with_parts (λ t. g (f t)) h
  head_twice (heads.Variable x) = refl
  head_twice (heads.Predeclared b ts) = ap (heads.Predeclared b) (list_twice ts)
  head_twice (heads.Datatype n ts) = ap (heads.Datatype n) (list_twice ts)
  head_twice (heads.Tuple ts) = ap (λ us. heads.Tuple us) (list_twice ts)
  head_twice (heads.Variants tags) = ap (λ all. heads.Variants all) (tags_twice tags)
  head_twice heads.Absent = refl

tag_itself : {T : Type 0} (tag : TagOf T) → tag_with_part (λ (t : T). t) tag ≡ tag
tag_itself {T} tag = by tag.argument where
  by : (o : Option T) → tag_named tag.name (option_map (λ (t : T). t) o) ≡ tag_named tag.name o
  by None = refl
  by (Some t) = refl

tags_themselves : {T : Type 0} (tags : List (TagOf T)) → map (tag_with_part (λ (t : T). t)) tags ≡ tags
tags_themselves [] = refl
tags_themselves (tag ∷ tags) = λ k. tag_itself tag k ∷ tags_themselves tags k

head_itself : {T : Type 0} (h : HeadOf T) → head_with_parts (λ (t : T). t) h ≡ h
head_itself (heads.Variable x) = refl
head_itself (heads.Predeclared b ts) = ap (heads.Predeclared b) (map-id ts)
head_itself (heads.Datatype n ts) = ap (heads.Datatype n) (map-id ts)
head_itself (heads.Tuple ts) = ap (λ us. heads.Tuple us) (map-id ts)
head_itself (heads.Variants tags) = ap (λ all. heads.Variants all) (tags_themselves tags)
head_itself heads.Absent = refl

-- ---- heads over type indices

-- If each index has a type in the store, then each index is below the length of the store.
pub below_found : (types : List Ty) (ns : List ℕ) (ts : List Ty) → map (slice_get types) ns ≡ map (λ (t : Ty). Some t) ts
    → All (λ i. i < length types) ns
below_found types [] ts same = All-nil (λ i. i < length types)
below_found types (n ∷ ns) [] same = cc
below_found types (n ∷ ns) (t ∷ ts) same =
    All-cons (λ i. i < length types) n ns
    (slice_get_within types n t (first_of_both same))
    (below_found types ns ts (rest_of_both same)) where
      first_of_both : slice_get types n ∷ map (slice_get types) ns ≡ Some t ∷ map (λ (u : Ty). Some u) ts → slice_get types n ≡ Some t
      first_of_both e = cc

      rest_of_both : slice_get types n ∷ map (slice_get types) ns ≡ Some t ∷ map (λ (u : Ty). Some u) ts
          → map (slice_get types) ns ≡ map (λ (u : Ty). Some u) ts
      rest_of_both e = cc

abbrev some : Ty → Option Ty
some t = Some t

abbrev or_tuple : Option Ty → Ty
or_tuple o = unwrap_or o tuple

module _ (types : List Ty) (h : HeadOf ℕ) (all : HeadOf Ty)
    (is : head_with_parts (slice_get types) h ≡ head_with_parts (λ (t : Ty). Some t) all) where
  -- If types replace the type indices in the head `h`, then the result is the head `all`.
  pub head_found : head_of_types types h ≡ all
  head_found =
      let same : (λ (i : ℕ). type_at types i) ≡ (λ (i : ℕ). or_tuple (slice_get types i)) =
      λ k i. sym (unwrap_or-slice_get types i tuple) k in
      ap (λ (f : ℕ → Ty). head_with_parts f h) same
      ∙ sym (head_twice (slice_get types) or_tuple h)
      ∙ ap (head_with_parts or_tuple) is
      ∙ head_twice some or_tuple all
      ∙ head_itself all

  -- The parts of the head `h` are type indices.
  pub head_within : All (λ i. i < length types) (parts_of h)
  head_within =
      below_found types (parts_of h) (parts_of all)
      (sym (parts_of-map (slice_get types) h) ∙ ap (λ (g : HeadOf (Option Ty)). parts_of g) is ∙ parts_of-map some all)

  -- If types are appended to the store, then the parts of the head `h` denote the same types.
  pub head_kept : (new : List Ty) → Grows types new → head_with_parts (slice_get new) h ≡ head_with_parts (λ (t : Ty). Some t) all
  head_kept new grown =
      heads_agree (slice_get new) (slice_get types) h
      (All-weaker (λ i. i < length types) (λ i. slice_get new i ≡ slice_get types i)
      (λ i below. let there = slice_get-get_or types i tuple below in there_kept types new i _ grown there ∙ sym there)
      (parts_of h) head_within)
      ∙ is

-- ---- shapes

pub numbers_found :
    (types all : List Ty) (numbers : List ℕ) → HasNumbers types all numbers
    → map (slice_get types) numbers ≡ map some all
numbers_found types all numbers has =
    lists_agree (slice_get types) (λ i. some (type_at types i)) numbers
    (All-weaker (λ i. i < length types) (λ i. slice_get types i ≡ some (type_at types i))
    (λ i below. slice_get-get_or types i tuple below) numbers has.below)
    ∙ sym (list_twice (type_at types) some numbers)
    ∙ ap (map some) has.are

pub product_at :
    (types all : List Ty) (numbers : List ℕ) (mutable : Bool) → HasNumbers types all numbers
    → IsShapeAt types (shapes.Product mutable all) (shapes.Product mutable numbers)
product_at types all numbers mutable has = ap (λ ts. shapes.Product mutable ts) (numbers_found types all numbers has)

-- The tag of a representation with the hash of the name and the argument.
abbrev with_argument : List ℕ → Option (Option Ty) → PolyTag (Option Ty)
with_argument name o = record { hash = tag_hash name; arg = o }

module _ (types : List Ty) where
  argument_found : (o : Option ℕ) (rest : List ℕ) → All (λ i. i < length types) (listed_if o ++ rest)
      → (option_map (slice_get types) o ≡ option_map some (option_map (type_at types) o)) × All (λ i. i < length types) rest
  argument_found None rest within = (refl, within)
  argument_found (Some i) rest within = (
    ap (λ (o : Option Ty). Some o) (slice_get-get_or types i tuple (All-head (λ n. n < length types) i rest within)),
    All-tail (λ n. n < length types) i rest within,
  )

  tags_hashed : (tags : List (TagOf ℕ)) → All (λ i. i < length types) (parts_of (heads.Variants tags))
      → map (tag_with_parts (slice_get types)) (map hashed tags)
      ≡ map (tag_with_parts some) (map tag_shape (map (tag_with_part (type_at types)) tags))
  tags_hashed [] within = refl
  tags_hashed (tag ∷ tags) within =
      let both = argument_found tag.argument (parts_of (heads.Variants tags)) within in
      λ k. with_argument tag.name (both.0 k) ∷ tags_hashed tags both.1 k

  pub poly_at : (tags : List (TagOf ℕ)) → All (λ i. i < length types) (parts_of (heads.Variants tags))
      → IsShapeAt types (shapes.Poly (map tag_shape (map (tag_with_part (type_at types)) tags))) (shapes.Poly (map hashed tags))
  poly_at tags within = ap (λ all. shapes.Poly all) (tags_hashed tags within)

-- ---- names

pub tags_named : {T : Type 0} (f : T → Ty) (tags : List (TagOf T)) → map tag_name (map (tag_with_part f) tags) ≡ map named tags
tags_named f [] = refl
tags_named f (tag ∷ tags) = ap (λ all. named tag ∷ all) (tags_named f tags)

pub names_by_types :
    (decls : List Decl) (h : HeadOf ℕ) (names : Names)
    → ((types : List Ty) → names ≡ head_names decls (head_of_types types h)) → AreNamesAt decls h names
names_by_types decls h names are types t is = are types ∙ ap (head_names decls) (head_found types h (head decls t) is)
