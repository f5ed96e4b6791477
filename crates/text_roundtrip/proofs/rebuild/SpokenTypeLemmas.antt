-- If the names of a type are lexemes, then the names of the types that it reaches are lexemes.
use Rattle.std.proofs.Common.{◌≡◌, ℕ, zero, suc, ◌<◌, ⊎_elim, Bool, true, false, cond, not, List, [], ◌∷◌, Option, Some, None, refl, sym, ap, subst, ◌∙◌, arith, length, length-append, get_or}
use Rattle.std.specs.Prelude.{slice_get, filter, map, option_map, Contains}
use Rattle.std.specs.List.{AllByRecursion, flat_map, cons_option}
use Rattle.std.specs.Str.{bytes_eq}
use Rattle.std.proofs.lemmas.Option.{same_Some, none-some}
use Rattle.base_data.proofs.model.Options.{Contains-none}
use Rattle.base_data.proofs.model.Lists.{AllByRecursion-append, AllByRecursion-filter, AllByRecursion-Contains, Contains-position}
use Rattle.types_spec.specs.declared.types.decl.Predeclared.{Predeclared}
use Rattle.types_spec.specs.declared.types.decl.Predeclared.TheVariants as bases
use Rattle.types_spec.specs.declared.types.decl.Field.{Field}
use Rattle.types_spec.specs.declared.types.decl.Arguments.{Arguments}
use Rattle.types_spec.specs.declared.types.decl.Arguments.TheVariants as arguments
use Rattle.types_spec.specs.declared.types.decl.Constructor.{Constructor}
use Rattle.types_spec.specs.declared.types.decl.Body.{Body}
use Rattle.types_spec.specs.declared.types.decl.Body.TheVariants as bodies
use Rattle.types_spec.specs.declared.types.decl.Decl.{Decl}
use Rattle.types_spec.specs.declared.types.head.TagOf.{TagOf}
use Rattle.types_spec.specs.declared.types.head.HeadOf.{HeadOf}
use Rattle.types_spec.specs.declared.types.head.HeadOf.TheVariants as heads
use Rattle.types_spec.specs.declared.types.shape.Constr.{Constr}
use Rattle.types_spec.specs.declared.types.shape.PolyTag.{PolyTag}
use Rattle.types_spec.specs.types.Ty.{Ty, variable, named, tuple, bracket, part, tag, tag_of, including, name_of, parts, instance, argument_for}
use Rattle.types_spec.specs.types.Declarations.{predeclared, declaration_of, instance_of, abbreviated, abbreviated_at, abbreviated_by, unfolded}
use Rattle.types_spec.specs.types.Head.{has_tag, with_tags, tags_in, bare_tag, carrying_tag, head_meant, with_part, plain_head, head_by, head_within, enough, head}
use Rattle.types_spec.specs.declared.types.predeclared.SumField.{SumField}
use Rattle.types_spec.specs.declared.types.predeclared.SumField.TheVariants as members
use Rattle.types_spec.specs.types.Predeclared.{SumBlock, Sum, sum_at, name_at, takes, applied, member_type, constr_of, shape_if, sum_shape}
use Rattle.types_spec.specs.types.Names.{names_of}
use Rattle.types_spec.specs.types.Shape.{is_flat, array_of, predeclared_shape, record_shape, types_of_fields, block_of, blocks_in, body_shape, datatype_shape, tag_shape, head_shape, shape}
use Rattle.types_spec.specs.types.Reached.{listed_if, named_in, parts_of, is_any_head, NoneIsWildcard, reached_from, IsReached}
use Rattle.types_theory.proofs.equality.EqualityReachedLemmas.{parts_listed}
use Rattle.text_roundtrip.specs.literal_texts.Readable.{IsReadable, AreReadable}
use Rattle.text_roundtrip.specs.rebuild.Spoken.{IsSpoken, IsSpokenField, AreSpokenArguments, IsSpokenConstructor, IsSpokenBody, AreSpoken}
use Rattle.text_roundtrip.proofs.rebuild.SpokenLemmas.{IsSpokenTag, IsSpokenHead, head_readable, declaration_spoken}

-- ---- lists

all_map : {X Y : Type 0} (P : X → Type 0) (Q : Y → Type 0) (f : X → Y) → ((x : X) → P x → Q (f x)) → (xs : List X) → AllByRecursion P xs → AllByRecursion Q (map f xs)
all_map P Q f each [] h = tt
all_map P Q f each (x ∷ xs) h = (each x h.0, all_map P Q f each xs h.1)

all_flat : {X Y : Type 0} (P : X → Type 0) (Q : Y → Type 0) (f : X → List Y) → ((x : X) → P x → AllByRecursion Q (f x)) → (xs : List X) → AllByRecursion P xs → AllByRecursion Q (flat_map f xs)
all_flat P Q f each [] h = tt
all_flat P Q f each (x ∷ xs) h = AllByRecursion-append Q (f x) (flat_map f xs) (each x h.0) (all_flat P Q f each xs h.1)

abbrev AllSpoken : List Ty → Type 0
AllSpoken ts = AllByRecursion (IsSpoken 0) ts

-- ---- instances

spoken_instance : (value : List ℕ → Ty) → ((x : List ℕ) → IsSpoken 0 (value x)) → (t : Ty) (k : ℕ) → IsSpoken k t → IsSpoken k (instance value t)
spoken_instance value all (variable x) k is = subst (λ k. IsSpoken k (value x)) (sym is) (all x)
spoken_instance value all (named n) k is = tt
spoken_instance value all tuple k is = is
spoken_instance value all bracket k is = tt
spoken_instance value all (part t a) k is = (spoken_instance value all t (suc k) is.0, spoken_instance value all a 0 is.1)
spoken_instance value all (tag t x) k is = (spoken_instance value all t 0 is.0, is.1)
spoken_instance value all (tag_of t x a) k is = (spoken_instance value all t 0 is.0, is.1, spoken_instance value all a 0 is.2)
spoken_instance value all (including t a) k is = (spoken_instance value all t 0 is.0, spoken_instance value all a 0 is.1)

spoken_argument : (ps : List (List ℕ)) (ts : List Ty) → AllSpoken ts → (x : List ℕ) → IsSpoken 0 (argument_for ps ts x)
spoken_argument [] ts all x = refl
spoken_argument (p ∷ ps) [] all x = refl
spoken_argument (p ∷ ps) (t ∷ ts) all x = by_test (bytes_eq p x) (spoken_argument ps ts all.1 x)
  where
    by_test : (b : Bool) → IsSpoken 0 (argument_for ps ts x) → IsSpoken 0 (cond b t (argument_for ps ts x))
    by_test true rest = all.0
    by_test false rest = rest

spoken_parts : (t : Ty) (k : ℕ) → IsSpoken k t → AllSpoken (parts t)
spoken_parts (variable x) k is = tt
spoken_parts (named n) k is = tt
spoken_parts tuple k is = tt
spoken_parts bracket k is = tt
spoken_parts (part t a) k is = AllByRecursion-append (IsSpoken 0) (parts t) (a ∷ []) (spoken_parts t (suc k) is.0) (is.1, tt)
spoken_parts (tag t x) k is = tt
spoken_parts (tag_of t x a) k is = tt
spoken_parts (including t a) k is = tt

-- ---- heads

with_part_spoken : (h : HeadOf Ty) (a : Ty) (k : ℕ) → IsSpokenHead (suc k) h → IsSpoken 0 a → IsSpokenHead k (with_part h a)
with_part_spoken (heads.Variable x) a k is one = tt
with_part_spoken (heads.Predeclared b ts) a k is one = AllByRecursion-append (IsSpoken 0) ts (a ∷ []) is (one, tt)
with_part_spoken (heads.Datatype n ts) a k is one = AllByRecursion-append (IsSpoken 0) ts (a ∷ []) is (one, tt)
with_part_spoken (heads.Tuple ts) a k is one = (let two = is.0 in omega (arith, length-append ts (a ∷ [])), AllByRecursion-append (IsSpoken 0) ts (a ∷ []) is.1 (one, tt))
with_part_spoken (heads.Variants tags) a k is one = tt
with_part_spoken heads.Absent a k is one = tt

with_tags_spoken : (h : HeadOf Ty) (more : List (TagOf Ty)) (k : ℕ) → IsSpokenHead 0 h → AllByRecursion IsSpokenTag more → IsSpokenHead k (with_tags h more)
with_tags_spoken (heads.Variants tags) more k is all = AllByRecursion-append IsSpokenTag tags (filter (λ (tag : TagOf Ty). not (has_tag tags tag.name)) more) is (AllByRecursion-filter IsSpokenTag (λ (tag : TagOf Ty). not (has_tag tags tag.name)) more all)
with_tags_spoken (heads.Variable x) more k is all = tt
with_tags_spoken (heads.Predeclared b ts) more k is all = tt
with_tags_spoken (heads.Datatype n ts) more k is all = tt
with_tags_spoken (heads.Tuple ts) more k is all = tt
with_tags_spoken heads.Absent more k is all = tt

tags_spoken : (h : HeadOf Ty) → IsSpokenHead 0 h → AllByRecursion IsSpokenTag (tags_in h)
tags_spoken (heads.Variants tags) is = is
tags_spoken (heads.Variable x) is = tt
tags_spoken (heads.Predeclared b ts) is = tt
tags_spoken (heads.Datatype n ts) is = tt
tags_spoken (heads.Tuple ts) is = tt
tags_spoken heads.Absent is = tt

meant_spoken : (base : Option Predeclared) (name : List ℕ) (k : ℕ) → IsSpokenHead k (head_meant base name)
meant_spoken None name k = tt
meant_spoken (Some b) name k = tt

plain_spoken : (f : Ty → HeadOf Ty) → ((u : Ty) → IsSpoken 0 u → IsSpokenHead 0 (f u)) → (t : Ty) (k : ℕ) → IsSpoken k t → IsSpokenHead k (plain_head f t)
plain_spoken f all (variable x) k is = tt
plain_spoken f all (named n) k is = meant_spoken (predeclared n) n k
plain_spoken f all tuple k is = (omega arith, tt)
plain_spoken f all bracket k is = tt
plain_spoken f all (part t a) k is = with_part_spoken (plain_head f t) a k (plain_spoken f all t (suc k) is.0) is.1
plain_spoken f all (tag t x) k is = with_tags_spoken (plain_head f t) (bare_tag x ∷ []) k (plain_spoken f all t 0 is.0) ((is.1, tt), tt)
plain_spoken f all (tag_of t x a) k is = with_tags_spoken (plain_head f t) (carrying_tag x a ∷ []) k (plain_spoken f all t 0 is.0) ((is.1, (is.2, tt)), tt)
plain_spoken f all (including t a) k is = with_tags_spoken (plain_head f t) (tags_in (f a)) k (plain_spoken f all t 0 is.0) (tags_spoken (f a) (all a is.1))

-- ---- predeclared variants

applied_spoken : (whole : Ty) (ts : List Ty) → IsSpoken (length ts) whole → AllSpoken ts → IsSpoken 0 (applied whole ts)
applied_spoken whole [] is all = is
applied_spoken whole (t ∷ ts) is all = applied_spoken (part whole t) ts (is, all.0) all.1

got_spoken : (d : Ty) → IsSpoken 0 d → (i : ℕ) (ts : List Ty) → AllSpoken ts → IsSpoken 0 (get_or ts i d)
got_spoken d own i [] all = own
got_spoken d own zero (t ∷ ts) all = all.0
got_spoken d own (suc i) (t ∷ ts) all = got_spoken d own i ts all.1

module _ (name : List ℕ) (ts : List Ty) (all : AllSpoken ts) where
  member_spoken : (m : SumField) → IsSpoken 0 (member_type name ts m)
  member_spoken (members.Argument i) = got_spoken (applied (named name) ts) (applied_spoken (named name) ts tt all) i ts all
  member_spoken members.Itself = applied_spoken (named name) ts tt all

  members_spoken : (ms : List SumField) → AllSpoken (map (member_type name ts) ms)
  members_spoken [] = tt
  members_spoken (m ∷ ms) = (member_spoken m, members_spoken ms)

  constrs_spoken : (bs : List SumBlock) → AllSpoken (flat_map (λ (c : Constr Ty). c.fields) (map (constr_of name ts) bs))
  constrs_spoken [] = tt
  constrs_spoken (b ∷ bs) =
      AllByRecursion-append (IsSpoken 0) (map (member_type name ts) b.fields)
      (flat_map (λ (c : Constr Ty). c.fields) (map (constr_of name ts) bs)) (members_spoken b.fields) (constrs_spoken bs)

  shape_if_reached : (test : Bool) (known : Sum) → AllSpoken (named_in (shape_if test known name ts))
  shape_if_reached false known = tt
  shape_if_reached true known = constrs_spoken known.blocks

-- ---- types over declarations

module _ (decls : List Decl) (spoken : AreSpoken decls) where
  body_unfolded : (d : Decl) (args : List Ty) (u : Ty) → AllSpoken args → (body : Body) → IsSpokenBody body → option_map (instance_of d args) (abbreviated body) ≡ Some u → IsSpoken 0 u
  body_unfolded d args u all (bodies.Abbreviation t) is e = subst (IsSpoken 0) (same_Some (instance_of d args t) u e) (spoken_instance (argument_for d.parameters args) (spoken_argument d.parameters args all) t 0 is)
  body_unfolded d args u all (bodies.Record fields) is e = absurd (none-some u e)
  body_unfolded d args u all (bodies.Variant cs) is e = absurd (none-some u e)

  at_spoken : (args : List Ty) (u : Ty) → AllSpoken args → (o : Option Decl) → ((d : Decl) → o ≡ Some d → IsSpokenBody d.body) → abbreviated_at o args ≡ Some u → IsSpoken 0 u
  at_spoken args u all None body e = absurd (none-some u e)
  at_spoken args u all (Some d) body e = body_unfolded d args u all d.body (body d refl) e

  by_spoken : (args : List Ty) (u : Ty) → AllSpoken args → (o : Option (List ℕ)) → abbreviated_by decls o args ≡ Some u → IsSpoken 0 u
  by_spoken args u all None e = absurd (none-some u e)
  by_spoken args u all (Some name) e = at_spoken args u all (declaration_of decls name) (λ d found. declaration_spoken decls spoken name d found) e

  within_spoken : (n : ℕ) (t : Ty) → IsSpoken 0 t → IsSpokenHead 0 (head_within decls n t)
  within_spoken zero t is = tt
  within_spoken (suc n) t is = by_next (within_spoken n) (unfolded decls t) refl
    where
      by_next : ((u : Ty) → IsSpoken 0 u → IsSpokenHead 0 (head_within decls n u)) → (o : Option Ty) → unfolded decls t ≡ o → IsSpokenHead 0 (head_by (head_within decls n) t o)
      by_next others None e = plain_spoken (head_within decls n) others t 0 is
      by_next others (Some u) e = others u (by_spoken (parts t) u (spoken_parts t 0 is) (name_of t) e)

  head_spoken : (t : Ty) → IsSpoken 0 t → IsSpokenHead 0 (head decls t)
  unfolding head
  head_spoken t is = within_spoken (enough decls t) t is

  pub type_readable : (t : Ty) → IsSpoken 0 t → is_any_head (head decls t) ≡ false
      → ((a : Ty) → Contains (parts_of (head decls t)) a → is_any_head (head decls a) ≡ false)
      → IsReadable (shape decls t) (names_of decls t)
  type_readable t is other parts = head_readable decls spoken (head decls t) (head_spoken t is) other parts

  -- ---- reached types

  array_reached : (h : HeadOf Ty) (t : Ty) → IsSpoken 0 t → AllSpoken (named_in (array_of h t))
  array_reached (heads.Variable x) t is = tt
  array_reached (heads.Predeclared b ts) t is = by_base b where
    by_base : (base : Predeclared) → AllSpoken (named_in (array_of (heads.Predeclared base ts) t))
    by_base bases.Float = tt
    by_base bases.Any = (is, tt)
    by_base base = (is, tt)
  array_reached h t is = (is, tt)

  sum_reached : (known : Option Sum) (name : List ℕ) (ts : List Ty) → AllSpoken ts → AllSpoken (named_in (sum_shape known name ts))
  sum_reached None name ts all = tt
  sum_reached (Some known) name ts all = shape_if_reached name ts all (takes known.parameters ts) known

  predeclared_reached : (base : Predeclared) (ts : List Ty) → AllSpoken ts → AllSpoken (named_in (predeclared_shape decls base ts))
  predeclared_reached (bases.Sum k) ts all = sum_reached (sum_at k) (name_at k) ts all
  predeclared_reached bases.Array (t ∷ []) all = array_reached (head decls t) t all.0
  predeclared_reached bases.Int [] all = tt
  predeclared_reached base [] all = tt
  predeclared_reached bases.Int (t ∷ []) all = tt
  predeclared_reached base (t ∷ []) all = tt
  predeclared_reached bases.Int (t ∷ u ∷ ts) all = tt
  predeclared_reached base (t ∷ u ∷ ts) all = tt

  module _ (value : List ℕ → Ty) (all : (x : List ℕ) → IsSpoken 0 (value x)) where
    types_reached : (ts : List Ty) → AllSpoken ts → AllSpoken (map (instance value) ts)
    types_reached ts is = all_map (IsSpoken 0) (IsSpoken 0) (instance value) (λ t h. spoken_instance value all t 0 h) ts is

    fields_reached : (fields : List Field) → AllByRecursion IsSpokenField fields → AllSpoken (map (instance value) (types_of_fields fields))
    fields_reached fields is = types_reached (types_of_fields fields) (all_map IsSpokenField (IsSpoken 0) (λ (f : Field). f.ty) (λ f h. h.1) fields is)

    block_reached : (given : Arguments) (rest : List (Constr Ty)) → AreSpokenArguments given → AllByRecursion (λ (c : Constr Ty). AllSpoken c.fields) rest → AllByRecursion (λ (c : Constr Ty). AllSpoken c.fields) (cons_option (block_of (instance value) given) rest)
    block_reached arguments.Constant rest is more = more
    block_reached (arguments.Listed types) rest is more = (types_reached types is, more)
    block_reached (arguments.Inline fields) rest is more = (fields_reached fields is, more)

    blocks_reached : (cs : List Constructor) → AllByRecursion IsSpokenConstructor cs → AllByRecursion (λ (c : Constr Ty). AllSpoken c.fields) (blocks_in (instance value) cs)
    blocks_reached [] is = tt
    blocks_reached (c ∷ cs) is = block_reached c.arguments (blocks_in (instance value) cs) is.0.1 (blocks_reached cs is.1)

    record_reached : (fields : List Field) (flat : Bool) → AllByRecursion IsSpokenField fields → AllSpoken (named_in (record_shape (instance value) fields flat))
    record_reached fields true is = tt
    record_reached fields false is = fields_reached fields is

    body_reached : (body : Body) → IsSpokenBody body → AllSpoken (named_in (body_shape decls (instance value) body))
    body_reached (bodies.Abbreviation t) is = tt
    body_reached (bodies.Record fields) is = record_reached fields (is_flat decls fields) is.1
    body_reached (bodies.Variant cs) is = all_flat (λ (c : Constr Ty). AllSpoken c.fields) (IsSpoken 0) (λ (c : Constr Ty). c.fields) (λ c h. h) (blocks_in (instance value) cs) (blocks_reached cs is.1)

  datatype_reached : (found : Option Decl) (ts : List Ty) → AllSpoken ts → ((d : Decl) → found ≡ Some d → IsSpokenBody d.body) → AllSpoken (named_in (datatype_shape decls found ts))
  datatype_reached None ts all body = tt
  datatype_reached (Some d) ts all body = body_reached (argument_for d.parameters ts) (spoken_argument d.parameters ts all) d.body (body d refl)

  tag_reached : (tags : List (TagOf Ty)) → AllByRecursion IsSpokenTag tags → AllSpoken (flat_map (λ (tag : PolyTag Ty). listed_if tag.arg) (map tag_shape tags))
  tag_reached [] is = tt
  tag_reached (t ∷ ts) is = AllByRecursion-append (IsSpoken 0) (listed_if t.argument) (flat_map (λ (tag : PolyTag Ty). listed_if tag.arg) (map tag_shape ts)) is.0.1 (tag_reached ts is.1)

  named_reached : (h : HeadOf Ty) → IsSpokenHead 0 h → AllSpoken (named_in (head_shape decls h))
  named_reached (heads.Variable x) is = tt
  named_reached (heads.Predeclared base ts) is = predeclared_reached base ts is
  named_reached (heads.Datatype name ts) is = datatype_reached (declaration_of decls name) ts is (λ d e. declaration_spoken decls spoken name d e)
  named_reached (heads.Tuple ts) is = is.1
  named_reached (heads.Variants tags) is = tag_reached tags is
  named_reached heads.Absent is = tt

  parts_reached : (h : HeadOf Ty) → IsSpokenHead 0 h → AllSpoken (parts_of h)
  parts_reached (heads.Variable x) is = tt
  parts_reached (heads.Predeclared base ts) is = is
  parts_reached (heads.Datatype name ts) is = is
  parts_reached (heads.Tuple ts) is = is.1
  parts_reached (heads.Variants tags) is = all_flat IsSpokenTag (IsSpoken 0) (λ (tag : TagOf Ty). listed_if tag.argument) (λ tag h. h.1) tags is
  parts_reached heads.Absent is = tt

  reached_spoken : (t a : Ty) → IsSpoken 0 t → Contains (reached_from decls t) a → IsSpoken 0 a
  reached_spoken t a is among =
      AllByRecursion-Contains (IsSpoken 0) (reached_from decls t) a
      (AllByRecursion-append (IsSpoken 0) (named_in (shape decls t)) (parts_of (head decls t)) (named_reached (head decls t) (head_spoken t is)) (parts_reached (head decls t) (head_spoken t is))) among

  module _ (t : Ty) (is : IsSpoken 0 t) (types : List Ty) (reached : IsReached decls t types) where
    first_is : slice_get types 0 ≡ Some t
    first_is = ⊎_elim (λ seen. absurd (Contains-none t seen.0)) (λ new. ap (λ all. slice_get all 0) new.2) reached.in_order

    spoken_below : (n k : ℕ) (u : Ty) → k < n → slice_get types k ≡ Some u → IsSpoken 0 u
    spoken_below zero k u below at = absurd (omega (arith, below))
    spoken_below (suc n) zero u below at = subst (IsSpoken 0) (same_Some t u (sym first_is ∙ at)) is
    spoken_below (suc n) (suc k) u below at =
        let from = reached.from_earlier (suc k) u (omega arith) at in
        reached_spoken from.1 u (spoken_below n from.0 from.1 (omega (arith, below, from.2)) from.3) from.4

    pub reached_readable : NoneIsWildcard decls types → AreReadable decls types
    reached_readable none u among =
        let found = Contains-position types u among in
        type_readable u (spoken_below (suc found.0) found.0 u (omega arith) found.1) (none u among)
        (λ a part. none a (parts_listed decls t types reached u a among part))
