-- If the heads of two types agree, then their shapes agree.
use Rattle.std.proofs.Common.{ℕ, zero, suc, ◌≡◌, ◌∙◌, ◌⊎◌, ⊎_elim, inl, inr, List, [], ◌∷◌, get_or}
use Rattle.std.proofs.Common.{Bool, true}
use Rattle.std.proofs.Common.{false, cond, Option, Some, None, refl, ap, subst, sym}
use Rattle.std.specs.Prelude.{Contains, map, length, ℤ, pos, negsuc}
use Rattle.std.specs.List.{flat_map, cons_option}
use Rattle.std.proofs.lemmas.Bool.{false≢true}
use Rattle.std.proofs.lemmas.Bool.Decides.{Decides-eqb}
use Rattle.std.proofs.lemmas.Option.{same_Some, none-some}
use Rattle.std.proofs.lemmas.List.Elements.{Contains-append_left, Contains-append_right}
use Rattle.types_spec.specs.tag_hash.TagHash.{tag_hash}
use Rattle.types_spec.specs.declared.types.decl.Predeclared.{Predeclared}
use Rattle.types_spec.specs.declared.types.decl.Predeclared.TheVariants as bases
use Rattle.types_spec.specs.declared.types.decl.Field.{Field}
use Rattle.types_spec.specs.declared.types.decl.Arguments.{Arguments}
use Rattle.types_spec.specs.declared.types.decl.Arguments.TheVariants as arguments
use Rattle.types_spec.specs.declared.types.decl.Constructor.{Constructor}
use Rattle.types_spec.specs.declared.types.decl.Body.{Body}
use Rattle.types_spec.specs.declared.types.decl.Body.TheVariants as bodies
use Rattle.types_spec.specs.declared.types.decl.Decl.{Decl}
use Rattle.types_spec.specs.declared.types.head.TagOf.{TagOf}
use Rattle.types_spec.specs.declared.types.head.HeadOf.{HeadOf}
use Rattle.types_spec.specs.declared.types.head.HeadOf.TheVariants as heads
use Rattle.types_spec.specs.declared.types.shape.Constr.{Constr}
use Rattle.types_spec.specs.declared.types.shape.PolyTag.{PolyTag}
use Rattle.types_spec.specs.declared.types.shape.ShapeOf.TheVariants as shapes
use Rattle.types_spec.specs.declared.types.predeclared.SumField.{SumField}
use Rattle.types_spec.specs.declared.types.predeclared.SumField.TheVariants as members
use Rattle.types_spec.specs.types.Ty.{Ty, named, part, instance, argument_for}
use Rattle.types_spec.specs.types.Predeclared.{SumBlock, Sum, sum_at, name_at, takes, applied, member_type, constr_of, shape_if, sum_shape}
use Rattle.types_spec.specs.types.Declarations.{declaration_of}
use Rattle.types_spec.specs.types.WellFormed.{IsType, AreSound, AreHashed, types_of_body, types_of_arguments}
use Rattle.types_spec.specs.types.Head.{head}
use Rattle.types_spec.specs.types.Shape.{is_flat, any_mutable, constants_in, types_of_fields}
use Rattle.types_spec.specs.types.Shape.{block_of, blocks_in, array_of, predeclared_shape}
use Rattle.types_spec.specs.types.Shape.{record_shape, body_shape, datatype_shape, tag_shape, head_shape}
use Rattle.types_spec.specs.types.Shape.{shape}
use Rattle.types_spec.specs.types.Fitting.{is_number, tag_with}
use Rattle.types_spec.specs.types.Equal.{Pairwise, ArgumentsAgree, SameTags, HeadsAgree, Holds, IsClosed}
use Rattle.base_data.proofs.model.Options.{Contains-first, Contains-later, Contains-none, Contains-cases, Contains-map, map-Contains}
use Rattle.types_theory.proofs.equality.SimilarLemmas.{Similar, Whole, instances_similar, arguments_similar}
use Rattle.types_theory.proofs.equality.EqualityNeedLemmas.{similar_heads, held_similar}
use Rattle.types_theory.proofs.equality.RankedLemmas.{are_ranked}
use Rattle.types_theory.proofs.equality.ShapeAgreement.{ShapesAgree, BlocksAgree, BothConstr, FoundAgree}
use Rattle.types_theory.proofs.equality.ShapeAgreement.{PolysAgree}
use Rattle.types_theory.proofs.equality.ShapeAgreement.{same_any_int, same_below, same_bytes, same_double}
use Rattle.types_theory.proofs.equality.ShapeAgreement.{same_int32}
use Rattle.types_theory.proofs.equality.ShapeAgreement.{same_int64, same_native, same_sum, same_product}
use Rattle.types_theory.proofs.equality.ShapeAgreement.{same_flat}
use Rattle.types_theory.proofs.equality.ShapeAgreement.{same_array, same_float_array, same_poly, same_variable}
use Rattle.types_theory.proofs.equality.ShapeAgreement.{same_array_of_variable, same_anything}
use Rattle.types_theory.proofs.equality.ShapeAgreement.{same_array_of_anything}

-- ---- tags by their hashes

number_is : (m z : ℤ) → is_number m z ≡ true → m ≡ z
number_is (pos m) (pos n) is = ap pos ((Decides-eqb m n).0 is)
number_is (negsuc m) (negsuc n) is = ap negsuc ((Decides-eqb m n).0 is)
number_is (pos m) (negsuc n) is = absurd (false≢true is)
number_is (negsuc m) (pos n) is = absurd (false≢true is)

is_itself : (z : ℤ) → is_number z z ≡ true
is_itself (pos m) = (Decides-eqb m m).1 refl
is_itself (negsuc m) = (Decides-eqb m m).1 refl

module _ {T : Type 0} where
  abbrev first_found : Bool → PolyTag T → Option (PolyTag T) → Option (PolyTag T)
  first_found test tag later = cond test (Some tag) later

  by_first : (test : Bool) (tag a : PolyTag T) (tags : List (PolyTag T)) (z : ℤ)
      → (test ≡ true → tag.hash ≡ z) → (tag_with tags z ≡ Some a → Contains tags a × (a.hash ≡ z))
      → first_found test tag (tag_with tags z) ≡ Some a → Contains (tag ∷ tags) a × (a.hash ≡ z)
  by_first true tag a tags z is known found =
      let same = same_Some tag a found in (
        subst (λ t. Contains (tag ∷ tags) t) same (Contains-first tag tags),
        ap (λ (t : PolyTag T).
            t.hash) (sym same) ∙ is refl,
      )
  by_first false tag a tags z is known found =
      let later = known found in (Contains-later tag tags a later.0, later.1)

  -- If `tag_with` finds a tag for a hash, then the tag is in the list and has the hash.
  pub found_is : (tags : List (PolyTag T)) (z : ℤ) (a : PolyTag T) → tag_with tags z ≡ Some a
      → Contains tags a × (a.hash ≡ z)
  found_is [] z a found = absurd (none-some a found)
  found_is (tag ∷ tags) z a found =
      by_first (is_number tag.hash z) tag a tags z (number_is tag.hash z) (found_is tags z a) found

  when_first : (test : Bool) (tag : PolyTag T) (later : Option (PolyTag T)) → (test ≡ true)
      ⊎ ((b : PolyTag T) × (later ≡ Some b)) → (b : PolyTag T)
      × (first_found test tag later ≡ Some b)
  when_first true tag later known = (tag, refl)
  when_first false tag later (inl is) = absurd (false≢true is)
  when_first false tag later (inr known) = known

  -- If a tag is in the list, then `tag_with` finds a tag for the hash of the tag.
  pub is_found : (tags : List (PolyTag T)) (a : PolyTag T) → Contains tags a → (b : PolyTag T)
      × (tag_with tags a.hash ≡ Some b)
  is_found [] a among = absurd (Contains-none a among)
  is_found (tag ∷ tags) a among =
      when_first (is_number tag.hash a.hash) tag (tag_with tags a.hash) (⊎_elim
      (λ here. inl (subst (λ (t : PolyTag T). is_number tag.hash t.hash ≡ true) here
      (is_itself tag.hash)))
      (λ later. inr (is_found tags a later))
      (Contains-cases tag tags a among))

module _ (Likes : Ty → Ty → Type 0) (tags others : List (TagOf Ty))
    (same : SameTags Likes tags others) (hashed : AreHashed (map tag_shape others)) where
  abbrev firsts : List (PolyTag Ty)
  firsts = map tag_shape tags

  abbrev seconds : List (PolyTag Ty)
  seconds = map tag_shape others

  -- For each tag of the first list, the second list has a tag with the same hash, and the arguments
  -- of the two tags agree.
  there : (a : PolyTag Ty) → Contains firsts a → (b : PolyTag Ty) × Contains seconds b
      × (b.hash ≡ a.hash) × ArgumentsAgree Likes a.arg b.arg
  there a among =
      let source = map-Contains tag_shape tags a among in
      let found = same.there source.0 source.1 in (
        tag_shape found.0,
        Contains-map tag_shape others found.0 found.1,
        ap tag_hash (sym found.2.0) ∙ ap (λ (t : PolyTag Ty). t.hash) source.2,
        subst (λ (t : PolyTag Ty). ArgumentsAgree Likes t.arg found.0.argument) source.2 found.2.1,
      )

  back : (b : PolyTag Ty) → Contains seconds b → (a : PolyTag Ty) × Contains firsts a
      × (a.hash ≡ b.hash)
  back b among =
      let source = map-Contains tag_shape others b among in
      let found = same.back source.0 source.1 in (
        tag_shape found.0,
        Contains-map tag_shape tags found.0 found.1,
        ap tag_hash found.2.0
            ∙ ap (λ (t : PolyTag Ty). t.hash) source.2,
      )

  both_found : (z : ℤ) (one other : Option (PolyTag Ty)) → tag_with firsts z ≡ one
      → tag_with seconds z ≡ other → FoundAgree Likes one other
  both_found z None None is is' = tt
  both_found z (Some a) (Some b) is is' =
      let one = found_is firsts z a is in
      let other = found_is seconds z b is' in
      let match = there a one.0 in
      let same_tag : match.0 ≡ b = hashed match.0 b match.1 other.0 (match.2 ∙ one.1
      ∙ sym other.1) in
      subst (λ (t : PolyTag Ty). ArgumentsAgree Likes a.arg t.arg) same_tag match.3
  both_found z None (Some b) is is' =
      let other = found_is seconds z b is' in
      let match = back b other.0 in
      let found = is_found firsts match.0 match.1 in
      absurd (none-some found.0 (sym is ∙ ap (tag_with firsts) (sym (match.2 ∙ other.1)) ∙ found.1))
  both_found z (Some a) None is is' =
      let one = found_is firsts z a is in
      let match = there a one.0 in
      let found = is_found seconds match.0 match.1 in
      absurd (none-some found.0 (sym is' ∙ ap (tag_with seconds) (sym (match.2 ∙ one.1)) ∙ found.1))

  pub polys_agree : PolysAgree Likes firsts seconds
  polys_agree z = both_found z (tag_with firsts z) (tag_with seconds z) refl refl

-- ---- heads

-- The predeclared type has a representation of its own.
abbrev IsBase : Predeclared → Type 0
IsBase (bases.Sum k) = ⊥
IsBase b = Unit {0}

-- The shape of a predeclared type without arguments, which has a representation of its own, agrees
-- with itself.
own_shape : (Likes : Ty → Ty → Type 0) (decls : List Decl) (b : Predeclared) → IsBase b
    → ShapesAgree Likes (predeclared_shape decls b []) (predeclared_shape decls b [])
own_shape Likes decls bases.Int own = same_any_int
own_shape Likes decls bases.Char own = same_below 256
own_shape Likes decls bases.Bool own = same_below 2
own_shape Likes decls bases.Unit own = same_below 1
own_shape Likes decls bases.String own = same_bytes false
own_shape Likes decls bases.Bytes own = same_bytes true
own_shape Likes decls bases.Float own = same_double
own_shape Likes decls bases.Int32 own = same_int32
own_shape Likes decls bases.Int64 own = same_int64
own_shape Likes decls bases.Nativeint own = same_native
own_shape Likes decls bases.Floatarray own = same_float_array
own_shape Likes decls bases.Any own = same_anything
own_shape Likes decls bases.Array own = same_variable
own_shape Likes decls (bases.Sum k) own = absurd own

-- If two predeclared types have several arguments, their shapes agree, because neither type has
-- values.
several : (Likes : Ty → Ty → Type 0) (decls : List Decl) (b : Predeclared) (t t' u u' : Ty)
    (ts us : List Ty) → IsBase b → ShapesAgree Likes (predeclared_shape decls b (t ∷ t' ∷ ts))
    (predeclared_shape decls b (u ∷ u' ∷ us))
several Likes decls (bases.Sum k) t t' u u' ts us own = absurd own
several Likes decls bases.Int t t' u u' ts us own = same_variable
several Likes decls b t t' u u' ts us own = same_variable

module _ (Likes : Ty → Ty → Type 0) where
  float_array : (b c : Predeclared) (ts us : List Ty) (t u : Ty) → b ≡ c → Likes t u
      → ShapesAgree Likes (array_of (heads.Predeclared b ts) t) (array_of (heads.Predeclared c us)
      u)
  float_array b c ts us t u same similar =
      subst (λ d. ShapesAgree Likes (array_of (heads.Predeclared b ts) t)
      (array_of (heads.Predeclared d us) u)) same (own b) where
        own : (b : Predeclared) → ShapesAgree Likes (array_of (heads.Predeclared b ts) t)
            (array_of (heads.Predeclared b us) u)
        own bases.Float = same_float_array
        own bases.Any = same_array_of_anything t u similar
        own b = same_array t u similar

  arrays_agree : (h k : HeadOf Ty) (t u : Ty) → HeadsAgree Likes h k → Likes t u
      → ShapesAgree Likes (array_of h t) (array_of k u)
  arrays_agree (heads.Variable x) (heads.Variable y) t u agree similar = same_array_of_variable
  arrays_agree (heads.Predeclared b ts) (heads.Predeclared c us) t u agree similar =
      float_array b c ts us t u agree.0 similar
  arrays_agree (heads.Datatype m ts) (heads.Datatype n us) t u agree similar = same_array t u similar
  arrays_agree (heads.Tuple ts) (heads.Tuple us) t u agree similar = same_array t u similar
  arrays_agree (heads.Variants ts) (heads.Variants us) t u agree similar = same_array t u similar
  arrays_agree heads.Absent heads.Absent t u agree similar = same_array t u similar
  arrays_agree h k t u agree similar = absurd agree

  with_constr : (c d : Option (Constr Ty)) (cs ds : List (Constr Ty)) → BothConstr Likes c d
      → BlocksAgree Likes cs ds → BlocksAgree Likes (cons_option c cs) (cons_option d ds)
  with_constr None None cs ds both agree = agree
  with_constr (Some c) (Some d) cs ds both agree = (both.0, both.1, agree)
  with_constr None (Some d) cs ds both agree = absurd both
  with_constr (Some c) None cs ds both agree = absurd both

module _ (decls : List Decl) (sound : AreSound decls) (pairs : List (Ty × Ty))
    (closed : IsClosed (head decls) pairs) where
  abbrev Likes : Ty → Ty → Type 0
  Likes = Similar pairs

  -- ---- datatypes

  module _ (one other : List ℕ → Ty) (similar : (x : List ℕ) → Likes (one x) (other x)) where
    types_agree : (types : List Ty) → ((t : Ty) → Contains types t → IsType t)
        → Pairwise Likes (map (instance one) types) (map (instance other) types)
    types_agree [] written = tt
    types_agree (t ∷ types) written = (
      instances_similar pairs one other similar t (written t (Contains-first t types)),
      types_agree types (λ u among. written u (Contains-later t types u among)),
    )

    block_agrees : (all : Arguments) → ((t : Ty) → Contains (types_of_arguments all) t → IsType t)
        → BothConstr Likes (block_of (instance one) all) (block_of (instance other) all)
    block_agrees arguments.Constant written = tt
    block_agrees (arguments.Listed types) written = (refl, types_agree types written)
    block_agrees (arguments.Inline fields) written =
        (refl, types_agree (types_of_fields fields) written)

    abbrev types_in : List Constructor → List Ty
    types_in all = flat_map (λ (constructor : Constructor).
        types_of_arguments constructor.arguments) all

    blocks_agree : (all : List Constructor) → ((t : Ty) → Contains (types_in all) t → IsType t)
        → BlocksAgree Likes (blocks_in (instance one) all) (blocks_in (instance other) all)
    blocks_agree [] written = tt
    blocks_agree (c ∷ all) written =
        with_constr Likes (block_of (instance one) c.arguments)
        (block_of (instance other) c.arguments) (blocks_in (instance one) all)
        (blocks_in (instance other) all)
        (block_agrees c.arguments
        (λ t among. written t (Contains-append_left (types_of_arguments c.arguments)
        (types_in all) t among)))
        (blocks_agree all
        (λ t among. written t (Contains-append_right (types_of_arguments c.arguments)
        (types_in all) t among)))

    record_agrees : (fields : List Field) (flat : Bool)
        → ((t : Ty) → Contains (types_of_fields fields) t → IsType t)
        → ShapesAgree Likes (record_shape (instance one) fields flat)
        (record_shape (instance other) fields flat)
    record_agrees fields true written = same_flat (any_mutable fields) (length fields)
    record_agrees fields false written =
        same_product (any_mutable fields) (map (instance one) (types_of_fields fields))
        (map (instance other) (types_of_fields fields)) (types_agree (types_of_fields fields)
        written)

    body_agrees : (body : Body) → ((t : Ty) → Contains (types_of_body body) t → IsType t)
        → ShapesAgree Likes (body_shape decls (instance one) body)
        (body_shape decls (instance other) body)
    body_agrees (bodies.Abbreviation t) written = same_variable
    body_agrees (bodies.Record fields) written = record_agrees fields (is_flat decls fields) written
    body_agrees (bodies.Variant all) written =
        same_sum (constants_in all) (blocks_in (instance one) all) (blocks_in (instance other) all)
        (blocks_agree all written)

  datatypes_agree :
      (found : Option Decl) → ((d : Decl) → found ≡ Some d → (t : Ty)
      → Contains (types_of_body d.body) t → IsType t) → (ts us : List Ty) → Pairwise Likes ts us
      → ShapesAgree Likes (datatype_shape decls found ts) (datatype_shape decls found us)
  datatypes_agree None written ts us similar = same_variable
  datatypes_agree (Some d) written ts us similar =
      body_agrees (argument_for d.parameters ts) (argument_for d.parameters us)
      (arguments_similar pairs d.parameters ts us similar) d.body (written d refl)

  -- ---- predeclared types

  abbrev Held : Ty → Ty → Type 0
  Held = Holds pairs

  takes_same : (n : ℕ) (ts us : List Ty) → Pairwise Held ts us → takes n ts ≡ takes n us
  takes_same zero [] [] held = refl
  takes_same (suc n) [] [] held = refl
  takes_same zero (t ∷ ts) (u ∷ us) held = refl
  takes_same (suc n) (t ∷ ts) (u ∷ us) held = takes_same n ts us held.1
  takes_same n [] (u ∷ us) held = absurd held
  takes_same n (t ∷ ts) [] held = absurd held

  applied_whole : (t u : Ty) (ts us : List Ty) → Whole pairs t u → Pairwise Held ts us
      → Whole pairs (applied t ts) (applied u us)
  applied_whole t u [] [] same held = same
  applied_whole t u (a ∷ ts) (b ∷ us) same held = applied_whole (part t a) (part u b) ts us (same, inl held.0) held.1
  applied_whole t u [] (b ∷ us) same held = absurd held
  applied_whole t u (a ∷ ts) [] same held = absurd held

  got_similar : (d e : Ty) → Likes d e → (i : ℕ) (ts us : List Ty) → Pairwise Held ts us
      → Likes (get_or ts i d) (get_or us i e)
  got_similar d e same i [] [] held = same
  got_similar d e same zero (t ∷ ts) (u ∷ us) held = inl held.0
  got_similar d e same (suc i) (t ∷ ts) (u ∷ us) held = got_similar d e same i ts us held.1
  got_similar d e same i [] (u ∷ us) held = absurd held
  got_similar d e same i (t ∷ ts) [] held = absurd held

  module _ (name : List ℕ) (ts us : List Ty) (held : Pairwise Held ts us) where
    own_similar : Likes (applied (named name) ts) (applied (named name) us)
    own_similar = inr (applied_whole (named name) (named name) ts us refl held)

    member_similar : (m : SumField) → Likes (member_type name ts m) (member_type name us m)
    member_similar (members.Argument i) =
        got_similar (applied (named name) ts) (applied (named name) us) own_similar i ts us held
    member_similar members.Itself = own_similar

    members_similar : (ms : List SumField)
        → Pairwise Likes (map (member_type name ts) ms) (map (member_type name us) ms)
    members_similar [] = tt
    members_similar (m ∷ ms) = (member_similar m, members_similar ms)

    constrs_agree : (bs : List SumBlock) → BlocksAgree Likes (map (constr_of name ts) bs) (map (constr_of name us) bs)
    constrs_agree [] = tt
    constrs_agree (b ∷ bs) = (refl, members_similar b.fields, constrs_agree bs)

    shape_if_agrees : (test : Bool) (known : Sum)
        → ShapesAgree Likes (shape_if test known name ts) (shape_if test known name us)
    shape_if_agrees false known = same_variable
    shape_if_agrees true known =
        same_sum (length known.constants) (map (constr_of name ts) known.blocks) (map (constr_of name us) known.blocks)
        (constrs_agree known.blocks)

    sums_agree : (known : Option Sum) → ShapesAgree Likes (sum_shape known name ts) (sum_shape known name us)
    sums_agree None = same_variable
    sums_agree (Some known) =
        subst (λ (test : Bool). ShapesAgree Likes (shape_if (takes known.parameters ts) known name ts) (shape_if test known name us))
        (takes_same known.parameters ts us held) (shape_if_agrees (takes known.parameters ts) known)

  heads_similar : (t u : Ty) → Held t u → HeadsAgree Likes (head decls t) (head decls u)
  heads_similar t u held =
      similar_heads decls sound.rank (are_ranked decls sound) pairs closed t u (inl held)

  predeclared_agree :
      (b : Predeclared) (ts us : List Ty) → Pairwise Held ts us
      → ShapesAgree Likes (predeclared_shape decls b ts) (predeclared_shape decls b us)
  predeclared_agree (bases.Sum k) ts us held = sums_agree (name_at k) ts us held (sum_at k)
  predeclared_agree b [] [] held = own_shape Likes decls b tt
  predeclared_agree b [] (u ∷ us) held = absurd held
  predeclared_agree b (t ∷ ts) [] held = absurd held
  predeclared_agree b (t ∷ []) (u ∷ u' ∷ us) held = absurd held.1
  predeclared_agree b (t ∷ t' ∷ ts) (u ∷ []) held = absurd held.1
  predeclared_agree bases.Array (t ∷ []) (u ∷ []) held =
      arrays_agree Likes (head decls t) (head decls u) t u (heads_similar t u held.0) (inl held.0)
  predeclared_agree b (t ∷ t' ∷ ts) (u ∷ u' ∷ us) held = several Likes decls b t t' u u' ts us tt
  predeclared_agree b (t ∷ []) (u ∷ []) held = same_variable

  -- ---- all heads

  tuples_similar : (ts us : List Ty) → Pairwise Held ts us → Pairwise Likes ts us
  tuples_similar ts us held =
      held_similar decls sound.rank (are_ranked decls sound) pairs closed ts us held

  tags_similar : (tags others : List (TagOf Ty)) → SameTags Held tags others
      → SameTags Likes tags others
  tags_similar tags others same = record {
    there = λ tag among. let found =
        same.there tag among in
        (found.0, found.1, (found.2.0, held_argument tag.argument found.0.argument found.2.1));
    back = λ other among. let found =
        same.back other among in
        (found.0, found.1, (found.2.0, held_argument found.0.argument other.argument found.2.1));
  } where
    held_argument : (t u : Option Ty) → ArgumentsAgree Held t u → ArgumentsAgree Likes t u
    held_argument None None held = tt
    held_argument (Some t) (Some u) held = inl held
    held_argument None (Some u) held = absurd held
    held_argument (Some t) None held = absurd held

  heads_agree : (h k : HeadOf Ty) → HeadsAgree Held h k
      → ((tags : List (PolyTag Ty)) → head_shape decls k ≡ shapes.Poly tags → AreHashed tags)
      → ShapesAgree Likes (head_shape decls h) (head_shape decls k)
  heads_agree (heads.Variable x) (heads.Variable y) agree hashed = same_variable
  heads_agree (heads.Predeclared b ts) (heads.Predeclared c us) agree hashed =
      subst (λ d. ShapesAgree Likes (predeclared_shape decls b ts) (predeclared_shape decls d us))
      agree.0 (predeclared_agree b ts us agree.1)
  heads_agree (heads.Datatype m ts) (heads.Datatype n us) agree hashed =
      subst (λ name. ShapesAgree Likes (datatype_shape decls (declaration_of decls m) ts)
      (datatype_shape decls (declaration_of decls name) us)) agree.0
      (datatypes_agree (declaration_of decls m) (λ d found t among.
      (sound.written m d t found among).0) ts us (tuples_similar ts us agree.1))
  heads_agree (heads.Tuple ts) (heads.Tuple us) agree hashed =
      same_product false ts us (tuples_similar ts us agree)
  heads_agree (heads.Variants tags) (heads.Variants others) agree hashed =
      same_poly (map tag_shape tags) (map tag_shape others)
      (polys_agree Likes tags others (tags_similar tags others agree)
      (hashed (map tag_shape others) refl))
  heads_agree heads.Absent heads.Absent agree hashed = same_variable
  heads_agree h k agree hashed = absurd agree

  -- Suppose a closed list contains a pair of types, and the tags of the second type are determined
  -- by their hashes. Then the shapes of the two types agree.
  pub pair_shapes :
      (t u : Ty) → Held t u → ((tags : List (PolyTag Ty)) → shape decls u ≡ shapes.Poly tags
      → AreHashed tags) → ShapesAgree Likes (shape decls t) (shape decls u)
  pair_shapes t u held hashed = heads_agree (head decls t) (head decls u) (closed t u held) hashed
