-- Over well-formed declarations, every type that a sound type reaches is sound, and the tags of
-- each reached type are determined by their hashes.
use Rattle.std.proofs.Common.{ℕ, zero, suc, ◌<◌, ◌≤◌, ◌≡◌, ◌∙◌, ◌⊎◌, ⊎_elim, inl, inr, List, []}
use Rattle.std.proofs.Common.{◌∷◌, ◌++◌}
use Rattle.std.proofs.Common.{Bool, true, false, Option, Some, None, refl, ap, subst, sym, arith}
use Rattle.std.specs.Prelude.{Contains, map, option_map, filter, slice_get, length}
use Rattle.std.specs.List.{flat_map}
use Rattle.std.proofs.lemmas.Option.{same_Some, none-some}
use Rattle.std.proofs.lemmas.List.Elements.{Contains-append_cases}
use Rattle.types_spec.specs.tag_hash.TagHash.{tag_hash}
use Rattle.types_spec.specs.declared.types.decl.Predeclared.{Predeclared}
use Rattle.types_spec.specs.declared.types.decl.Predeclared.TheVariants as bases
use Rattle.types_spec.specs.declared.types.decl.Field.{Field}
use Rattle.types_spec.specs.declared.types.decl.Arguments.{Arguments}
use Rattle.types_spec.specs.declared.types.decl.Arguments.TheVariants as arguments
use Rattle.types_spec.specs.declared.types.decl.Constructor.{Constructor}
use Rattle.types_spec.specs.declared.types.decl.Body.{Body}
use Rattle.types_spec.specs.declared.types.decl.Body.TheVariants as bodies
use Rattle.types_spec.specs.declared.types.decl.Decl.{Decl}
use Rattle.types_spec.specs.declared.types.head.TagOf.{TagOf}
use Rattle.types_spec.specs.declared.types.head.HeadOf.{HeadOf}
use Rattle.types_spec.specs.declared.types.head.HeadOf.TheVariants as heads
use Rattle.types_spec.specs.declared.types.shape.Constr.{Constr}
use Rattle.types_spec.specs.declared.types.shape.PolyTag.{PolyTag}
use Rattle.types_spec.specs.declared.types.shape.ShapeOf.{ShapeOf}
use Rattle.types_spec.specs.declared.types.shape.ShapeOf.TheVariants as shapes
use Rattle.types_spec.specs.types.Ty.{Ty, variable, named, tuple, bracket, part, tag, tag_of, including}
use Rattle.types_spec.specs.types.Ty.{parts, instance, argument_for}
use Rattle.types_spec.specs.types.Declarations.{predeclared, declaration_of, unfolded, arity_in}
use Rattle.types_spec.specs.types.Predeclared.{Sum, sum_at, name_at, sum_parameters, takes, applied, shape_if, sum_shape}
use Rattle.types_spec.proofs.types.SumTypes.{sums_are_found, takes_length, sum_has}
use Rattle.types_spec.specs.types.Head.{has_tag, joined, with_tags, tags_in, bare_tag, carrying_tag}
use Rattle.types_spec.specs.types.Head.{head_meant}
use Rattle.types_spec.specs.types.Head.{with_part, plain_head, head_by, head_within, enough}
use Rattle.types_spec.specs.types.Head.{head}
use Rattle.types_spec.specs.types.WellFormed.{IsVariable, IsWhole, IsType, TakeArguments, AreVariants}
use Rattle.types_spec.specs.types.WellFormed.{HaveOwnHashes}
use Rattle.types_spec.specs.types.WellFormed.{IsHashed, HasSoundBrackets, IsSoundType, AreWellFormed}
use Rattle.types_spec.specs.types.WellFormed.{AreHashed}
use Rattle.types_spec.specs.types.WellFormed.{AreKnownByHash, types_of_body, types_of_arguments}
use Rattle.types_spec.specs.types.Shape.{types_of_fields, block_of, blocks_in, array_of}
use Rattle.types_spec.specs.types.Shape.{predeclared_shape, record_shape, body_shape, datatype_shape}
use Rattle.types_spec.specs.types.Shape.{tag_shape}
use Rattle.types_spec.specs.types.Shape.{head_shape, shape, is_flat}
use Rattle.types_spec.specs.types.Reached.{listed_if, named_in, parts_of, reached_from, IsReached}
use Rattle.types_spec.specs.types.Table.{tag_with_part, head_with_parts}
use Rattle.base_data.proofs.model.Options.{Contains-first, Contains-later, Contains-none, Contains-cases, Contains-flat_map, map-Contains, flat_map-Contains}
use Rattle.base_data.proofs.model.Lists.{Contains-position}
use Rattle.types_spec.proofs.types.TypeListLemmas.{filter_mapped_is}
use Rattle.types_theory.proofs.equality.HeadInstance.{includes_of, head-instance, tags_in-map, variants-map}
use Rattle.types_theory.proofs.equality.HeadInstance.{IsNoVariable}
use Rattle.types_theory.proofs.equality.HeadInstance.{no_variable, of_argument, unfolded_is}
use Rattle.types_theory.proofs.equality.HeadInstance.{weighs, falls_to}
use Rattle.types_theory.proofs.equality.HeadInstance.{heavier, around, within, again, plain, last_part}
use Rattle.types_theory.proofs.equality.EqualityInstanceLemmas.{type-instance, type-takes, abbreviation_is}
use Rattle.types_spec.proofs.types.TypeListLemmas.{filtered-Contains}
use Rattle.types_theory.proofs.equality.EqualityTagLemmas.{Contains-has_tag, not_true, is_new}

-- ---- tags with one name are one tag

abbrev AreDistinct : List (TagOf Ty) → Type 0
AreDistinct tags =
    (one other : TagOf Ty) → Contains tags one → Contains tags other → one.name ≡ other.name
    → one ≡ other

none_distinct : AreDistinct []
none_distinct one other among among' same = absurd (Contains-none one among)

single_distinct : (item : TagOf Ty) → AreDistinct (item ∷ [])
single_distinct item one other among among' same = sym (only one among) ∙ only other among' where
  only : (x : TagOf Ty) → Contains (item ∷ []) x → item ≡ x
  only x has = ⊎_elim (λ here. here) (λ never. absurd (Contains-none x never))
      (Contains-cases item [] x has)

joined_distinct :
    (tags more : List (TagOf Ty)) → AreDistinct tags → AreDistinct more
    → AreDistinct (joined tags more)
joined_distinct tags more first later one other among among' same = ⊎_elim
    (λ a. ⊎_elim (λ b. first one other a b same) (λ b. absurd (twice one other a b same))
    (Contains-append_cases tags (filter (is_new tags) more) other among'))
    (λ a. ⊎_elim (λ b. absurd (twice other one b a (sym same)))
    (λ b. later one other (filtered-Contains (is_new tags) more one a).0
    (filtered-Contains (is_new tags) more other b).0 same)
    (Contains-append_cases tags (filter (is_new tags) more) other among'))
    (Contains-append_cases tags (filter (is_new tags) more) one among) where
      twice : (x y : TagOf Ty) → Contains tags x → Contains (filter (is_new tags) more) y
          → x.name ≡ y.name → ⊥
      twice x y there new is =
          not_true (has_tag tags y.name) (filtered-Contains (is_new tags) more y new).1
          (Contains-has_tag tags x y.name there is)

with_tags_distinct :
    (h : HeadOf Ty) (more : List (TagOf Ty)) → AreDistinct (tags_in h) → AreDistinct more
    → AreDistinct (tags_in (with_tags h more))
with_tags_distinct (heads.Variants tags) more first later = joined_distinct tags more first later
with_tags_distinct (heads.Variable x) more first later = none_distinct
with_tags_distinct h more first later = none_distinct

no_tags_with_part : (h : HeadOf Ty) (t : Ty) → tags_in (with_part h t) ≡ []
no_tags_with_part (heads.Variable x) t = refl
no_tags_with_part h t = refl

no_tags_meant : (base : Option Predeclared) (name : List ℕ) → tags_in (head_meant base name) ≡ []
no_tags_meant None name = refl
no_tags_meant (Some b) name = refl

plain_distinct :
    (f : Ty → HeadOf Ty) → ((t : Ty) → AreDistinct (tags_in (f t))) → (t : Ty)
    → AreDistinct (tags_in (plain_head f t))
plain_distinct f all (variable x) = none_distinct
plain_distinct f all (named n) =
    subst AreDistinct (sym (no_tags_meant (predeclared n) n)) none_distinct
plain_distinct f all tuple = none_distinct
plain_distinct f all bracket = none_distinct
plain_distinct f all (part t a) =
    subst AreDistinct (sym (no_tags_with_part (plain_head f t) a)) none_distinct
plain_distinct f all (tag t x) =
    with_tags_distinct (plain_head f t) (bare_tag x ∷ []) (plain_distinct f all t)
    (single_distinct (bare_tag x))
plain_distinct f all (tag_of t x a) =
    with_tags_distinct (plain_head f t) (carrying_tag x a ∷ []) (plain_distinct f all t)
    (single_distinct (carrying_tag x a))
plain_distinct f all (including t a) =
    with_tags_distinct (plain_head f t) (tags_in (f a)) (plain_distinct f all t) (all a)

by_distinct : (f : Ty → HeadOf Ty) → ((t : Ty) → AreDistinct (tags_in (f t)))
    → (t : Ty) (next : Option Ty) → AreDistinct (tags_in (head_by f t next))
by_distinct f all t None = plain_distinct f all t
by_distinct f all t (Some u) = all u

within_distinct :
    (decls : List Decl) (n : ℕ) (t : Ty) → AreDistinct (tags_in (head_within decls n t))
within_distinct decls zero t = none_distinct
within_distinct decls (suc n) t =
    by_distinct (head_within decls n) (within_distinct decls n) t (unfolded decls t)

head_distinct : (decls : List Decl) (t : Ty) → AreDistinct (tags_in (head decls t))
unfolding head
head_distinct decls t = within_distinct decls (enough decls t) t

-- ---- the parts of constructed heads

abbrev arguments_in : List (TagOf Ty) → List Ty
arguments_in tags = flat_map (λ (item : TagOf Ty). listed_if item.argument) tags

part_in : (ts : List Ty) (t a : Ty) → Contains (ts ++ t ∷ []) a → Contains ts a ⊎ (t ≡ a)
part_in ts t a among =
    ⊎_elim (λ prefix. inl prefix)
    (λ end. ⊎_elim (λ here. inr here) (λ never. absurd (Contains-none a never))
    (Contains-cases t [] a end)) (Contains-append_cases ts (t ∷ []) a among)

with_part_parts :
    (h : HeadOf Ty) (t a : Ty) → Contains (parts_of (with_part h t)) a → Contains (parts_of h) a
    ⊎ (t ≡ a)
with_part_parts (heads.Predeclared b ts) t a among = part_in ts t a among
with_part_parts (heads.Datatype n ts) t a among = part_in ts t a among
with_part_parts (heads.Tuple ts) t a among = part_in ts t a among
with_part_parts h t a among = absurd (Contains-none a among)

joined_parts : (tags more : List (TagOf Ty)) (a : Ty) → Contains (arguments_in (joined tags more)) a
    → Contains (arguments_in tags) a ⊎ Contains (arguments_in more) a
joined_parts tags more a among =
    let source = flat_map-Contains (λ (item : TagOf Ty). listed_if item.argument) (joined tags more) a
    among in
    ⊎_elim
    (λ first. inl (Contains-flat_map (λ (item : TagOf Ty). listed_if item.argument) tags source.0 a
    first source.2))
    (λ later. inr (Contains-flat_map (λ (item : TagOf Ty). listed_if item.argument) more source.0 a
    (filtered-Contains (is_new tags) more source.0 later).0 source.2))
    (Contains-append_cases tags (filter (is_new tags) more) source.0 source.1)

with_tags_parts :
    (h : HeadOf Ty) (more : List (TagOf Ty)) (a : Ty) → Contains (parts_of (with_tags h more)) a
    → Contains (parts_of h) a ⊎ Contains (arguments_in more) a
with_tags_parts (heads.Variants tags) more a among = joined_parts tags more a among
with_tags_parts h more a among = absurd (Contains-none a among)

tags_in_parts : (h : HeadOf Ty) (a : Ty) → Contains (arguments_in (tags_in h)) a
    → Contains (parts_of h) a
tags_in_parts (heads.Variants tags) a among = among
tags_in_parts h a among = absurd (Contains-none a among)

meant_parts : (base : Option Predeclared) (name : List ℕ) (a : Ty)
    → Contains (parts_of (head_meant base name)) a → ⊥
meant_parts None name a among = Contains-none a among
meant_parts (Some b) name a among = Contains-none a among

no_variable_tags : (h : HeadOf Ty) (more : List (TagOf Ty)) → IsNoVariable (with_tags h more)
no_variable_tags (heads.Variable x) more = tt
no_variable_tags h more = tt

-- ---- sound types

module _ (decls : List Decl) (well : AreWellFormed decls) where
  abbrev Sound : Ty → Type 0
  Sound t = IsSoundType decls t

  variable_sound : (x : List ℕ) → Sound (variable x)
  variable_sound x = record { written = inl tt; arguments = tt; brackets = tt }

  parts_sound : (j : ℕ) (t a : Ty) → IsWhole t → TakeArguments decls j t → HasSoundBrackets decls t
      → Contains (parts t) a → Sound a
  parts_sound j (part t b) a whole given brackets among =
      last_part decls well Sound (parts t) b a (λ c has. parts_sound (suc j) t c whole.0 given.0
      brackets.0 has) (record { written = whole.1; arguments = given.1; brackets = brackets.1 })
      among
  parts_sound j t a whole given brackets among = absurd (Contains-none a among)

  module _ (value : List ℕ → Ty) (sound : (x : List ℕ) → Sound (value x)) where
    own_hashes : (t : Ty) → head decls (instance value t) ≡ head_with_parts (instance value)
        (head decls t) → IsHashed decls t → IsHashed decls (instance value t)
    own_hashes t same hashed one other among among' equal =
        let tags = ap tags_in same ∙ tags_in-map (instance value) (head decls t) in
        let first = map-Contains (tag_with_part (instance value)) (tags_in (head decls t)) one
        (subst (λ all. Contains all one) tags among) in
        let second = map-Contains (tag_with_part (instance value)) (tags_in (head decls t)) other
        (subst (λ all. Contains all other) tags among') in
        let name_one : first.0.name ≡ one.name = ap (λ (x : TagOf Ty). x.name) first.2 in
        let name_other : second.0.name ≡ other.name = ap (λ (x : TagOf Ty). x.name) second.2 in
        sym name_one ∙ hashed first.0 second.0 first.1 second.1 (ap tag_hash name_one ∙ equal
        ∙ sym (ap tag_hash name_other)) ∙ name_other

    variable-brackets : (t : Ty) → IsVariable t → HasSoundBrackets decls (instance value t)
    variable-brackets (variable x) is = (sound x).brackets
    variable-brackets t is = absurd is

    hashed-instance :
        (t : Ty) → IsWhole t → TakeArguments decls 0 t → HasSoundBrackets decls t
        → IsNoVariable (head decls t) → IsHashed decls t → IsHashed decls (instance value t)
    hashed-instance t whole given brackets free hashed =
        own_hashes t (head-instance decls well value t (inr whole) given
        (includes_of decls well t brackets) free) hashed

    tagged_free : (t : Ty) (next : HeadOf Ty) (more : List (TagOf Ty)) → unfolded decls t ≡ None
        → plain_head (head decls) t ≡ with_tags next more → IsNoVariable (head decls t)
    tagged_free t next more is same =
        subst IsNoVariable (sym (plain decls well t is ∙ same)) (no_variable_tags next more)

    whole-brackets :
        (j : ℕ) (t : Ty) → IsWhole t → TakeArguments decls j t → HasSoundBrackets decls t
        → HasSoundBrackets decls (instance value t)
    whole-brackets j (variable x) whole given brackets = absurd whole
    whole-brackets j (named n) whole given brackets = tt
    whole-brackets j tuple whole given brackets = tt
    whole-brackets j bracket whole given brackets = tt
    whole-brackets j (part t a) whole given brackets = (
      whole-brackets (suc j) t whole.0 given.0 brackets.0,
      ⊎_elim (λ is. variable-brackets a is) (λ is. whole-brackets 0 a is given.1 brackets.1)
          whole.1,
    )
    whole-brackets j (tag t x) whole given brackets = (
      whole-brackets 0 t whole given brackets.0,
      hashed-instance (tag t x) whole given brackets
          (tagged_free (tag t x) (plain_head (head decls) t) (bare_tag x ∷ []) refl refl)
          brackets.1,
    )
    whole-brackets j (tag_of t x a) whole given brackets = (
      whole-brackets 0 t whole.0 given.0 brackets.0,
      ⊎_elim (λ is. variable-brackets a is) (λ is. whole-brackets 0 a is given.1 brackets.1)
          whole.1,
      hashed-instance (tag_of t x a) whole given brackets
          (tagged_free (tag_of t x a) (plain_head (head decls) t) (carrying_tag x a ∷ []) refl refl)
          brackets.2,
    )
    whole-brackets j (including t a) whole given brackets =
        let inner = head-instance decls well value a whole.1 given.1
        (includes_of decls well a brackets.1) (no_variable (head decls a) brackets.2) in (
          whole-brackets 0 t whole.0 given.0 brackets.0,
          ⊎_elim (λ is. variable-brackets a is) (λ is. whole-brackets 0 a is given.1 brackets.1)
              whole.1,
          subst (λ h. AreVariants h) (sym inner) (variants-map (instance value) (head decls a)
              brackets.2),
          hashed-instance (including t a) whole given brackets
              (tagged_free (including t a) (plain_head (head decls) t) (tags_in (head decls a)) refl
              refl) brackets.3,
        )

    type-brackets : (t : Ty) → IsType t → TakeArguments decls 0 t → HasSoundBrackets decls t
        → HasSoundBrackets decls (instance value t)
    type-brackets t (inl is) given brackets = variable-brackets t is
    type-brackets t (inr is) given brackets = whole-brackets 0 t is given brackets

    -- If sound types replace the variables of a sound type, then the instance is sound.
    pub sound-instance : (t : Ty) → Sound t → Sound (instance value t)
    sound-instance t s = record {
      written = type-instance value (λ x. (sound x).written) t s.written;
      arguments = type-takes value decls (λ x. (sound x).arguments) t s.written s.arguments;
      brackets = type-brackets t s.written s.arguments s.brackets;
    }

  pub arguments_sound :
      (ps : List (List ℕ)) (ts : List Ty) → ((t : Ty) → Contains ts t → Sound t) → (x : List ℕ)
      → Sound (argument_for ps ts x)
  arguments_sound ps ts all x = of_argument decls well Sound variable_sound ps ts all x

  type_parts_sound : (t a : Ty) → Sound t → Contains (parts t) a → Sound a
  type_parts_sound t a s among = by_kind s.written where
    variable_parts : (u : Ty) → IsVariable u → Contains (parts u) a → ⊥
    variable_parts (variable x) is has = Contains-none a has
    variable_parts u is has = absurd is

    by_kind : IsVariable t ⊎ IsWhole t → Sound a
    by_kind (inl is) = absurd (variable_parts t is among)
    by_kind (inr is) = parts_sound 0 t a is s.arguments s.brackets among

  -- If a sound type has an abbreviation at its head, then the type's expansion is sound.
  pub sound_unfolded : (t u : Ty) → Sound t → unfolded decls t ≡ Some u → Sound u
  sound_unfolded t u s is =
      let by = unfolded_is decls well t u is in
      subst Sound by.same (sound-instance (argument_for by.decl.parameters (parts t))
      (arguments_sound by.decl.parameters (parts t) (λ a among. type_parts_sound t a s among))
      by.body
      (well.types by.name by.decl by.body by.found (abbreviation_is decls well by.decl.body by.body
      by.stands)))

  -- ---- the parts of heads

  AllSound : ℕ → Type 0
  AllSound k = (t a : Ty) → weighs decls well t < k → Sound t → Contains (parts_of (head decls t)) a
      → Sound a

  plain_parts : (k : ℕ) → AllSound k → (j : ℕ) (t a : Ty) → IsWhole t → TakeArguments decls j t
      → HasSoundBrackets decls t → weighs decls well t ≤ k
      → Contains (parts_of (plain_head (head decls) t)) a → Sound a
  unfolding AllSound
  plain_parts k known j (variable x) a whole given brackets below among = absurd whole
  plain_parts k known j (named n) a whole given brackets below among =
      absurd (meant_parts (predeclared n) n a among)
  plain_parts k known j tuple a whole given brackets below among = absurd (Contains-none a among)
  plain_parts k known j bracket a whole given brackets below among = absurd (Contains-none a among)
  plain_parts k known j (part t b) a whole given brackets below among = ⊎_elim
      (λ prefix. plain_parts k known (suc j) t a whole.0 given.0 brackets.0
      (omega (arith, heavier decls well t b, below)) prefix)
      (λ here. subst Sound here (record {
        written = whole.1;
        arguments = given.1;
        brackets = brackets.1;
      }))
      (with_part_parts (plain_head (head decls) t) b a among)
  plain_parts k known j (tag t x) a whole given brackets below among = ⊎_elim
      (λ prefix. plain_parts k known 0 t a whole given brackets.0 below prefix)
      (λ never. absurd (Contains-none a never))
      (with_tags_parts (plain_head (head decls) t) (bare_tag x ∷ []) a among)
  plain_parts k known j (tag_of t x b) a whole given brackets below among = ⊎_elim
      (λ prefix. plain_parts k known 0 t a whole.0 given.0 brackets.0 below prefix)
      (λ last. ⊎_elim
      (λ here. subst Sound here (record {
        written = whole.1;
        arguments = given.1;
        brackets = brackets.1;
      }))
      (λ never. absurd (Contains-none a never))
      (Contains-cases b [] a last))
      (with_tags_parts (plain_head (head decls) t) (carrying_tag x b ∷ []) a among)
  plain_parts k known j (including t b) a whole given brackets below among = ⊎_elim
      (λ prefix. plain_parts k known 0 t a whole.0 given.0 brackets.0
      (omega (arith, around decls well t b, below)) prefix)
      (λ later. known b a (omega (arith, within decls well t b, below))
      (record { written = whole.1; arguments = given.1; brackets = brackets.1 })
      (tags_in_parts (head decls b) a later))
      (with_tags_parts (plain_head (head decls) t) (tags_in (head decls b)) a among)

  type_plain_parts :
      (k : ℕ) → AllSound k → (t a : Ty) → Sound t → weighs decls well t ≤ k
      → Contains (parts_of (plain_head (head decls) t)) a → Sound a
  type_plain_parts k known t a s below among = by_kind s.written where
    variable_parts : (u : Ty) → IsVariable u → Contains (parts_of (plain_head (head decls) u)) a → ⊥
    variable_parts (variable x) is has = Contains-none a has
    variable_parts u is has = absurd is

    by_kind : IsVariable t ⊎ IsWhole t → Sound a
    by_kind (inl is) = absurd (variable_parts t is among)
    by_kind (inr is) = plain_parts k known 0 t a is s.arguments s.brackets below among

  one_sound : (k : ℕ) → AllSound k → (t a : Ty) → weighs decls well t ≤ k → Sound t
      → (next : Option Ty) → unfolded decls t ≡ next → Contains (parts_of (head decls t)) a
      → Sound a
  unfolding AllSound
  one_sound k known t a below s None is among =
      type_plain_parts k known t a s below (subst (λ (h : HeadOf Ty). Contains (parts_of h) a)
      (plain decls well t is) among)
  one_sound k known t a below s (Some u) is among =
      known u a (omega (arith, falls_to decls well t u is, below)) (sound_unfolded t u s is)
      (subst (λ (h : HeadOf Ty). Contains (parts_of h) a) (again decls well t u is) among)

  all_sound : (k : ℕ) → AllSound k
  unfolding AllSound
  all_sound zero t a below s among = absurd (omega (arith, below))
  all_sound (suc k) t a below s among =
      one_sound k (all_sound k) t a (omega (arith, below)) s (unfolded decls t) refl among

  -- The parts of a sound type's head are sound.
  pub head_parts_sound : (t a : Ty) → Sound t → Contains (parts_of (head decls t)) a → Sound a
  unfolding AllSound
  head_parts_sound t a s among = all_sound (suc (weighs decls well t)) t a (omega arith) s among

  -- ---- types named by shapes

  applied_sound : (whole : Ty) (ts : List Ty) → IsWhole whole → TakeArguments decls (length ts) whole
      → HasSoundBrackets decls whole → ((t : Ty) → Contains ts t → Sound t) → Sound (applied whole ts)
  applied_sound whole [] written takes brackets each =
      record { written = inr written; arguments = takes; brackets = brackets }
  applied_sound whole (t ∷ ts) written takes brackets each =
      let s = each t (Contains-first t ts) in
      applied_sound (part whole t) ts (written, s.written) (takes, s.arguments) (brackets, s.brackets)
      (λ u among. each u (Contains-later t ts u among))

  -- If a predeclared variant has the right number of arguments, and the arguments are sound, then
  -- the variant is sound.
  sum_sound : (k : ℕ) (known : Sum) → sum_at k ≡ Some known → (ts : List Ty) → takes known.parameters ts ≡ true
      → ((t : Ty) → Contains ts t → Sound t) → Sound (applied (named (name_at k)) ts)
  sum_sound k known is ts right each =
      applied_sound (named (name_at k)) ts tt
      (ap (λ (base : Option Predeclared). arity_in base (declaration_of decls (name_at k))) (sums_are_found k known is)
      ∙ ap (λ (found : Option Sum). Some (sum_parameters found)) is
      ∙ ap (λ (n : ℕ). Some n) (takes_length known.parameters ts right))
      tt each

  one_of : (ts : List Ty) (t a : Ty) → Sound t → ((b : Ty) → Contains ts b → Sound b)
      → Contains (t ∷ ts) a → Sound a
  one_of ts t a s rest among =
      ⊎_elim (λ here. subst Sound here s) (λ later. rest a later) (Contains-cases t ts a among)

  none_of : (a : Ty) → Contains [] a → Sound a
  none_of a never = absurd (Contains-none a never)

  array_named : (h : HeadOf Ty) (t a : Ty) → Sound t → Contains (named_in (array_of h t)) a
      → Sound a
  array_named (heads.Variable x) t a s among = none_of a among
  array_named (heads.Predeclared b ts) t a s among = by_base b among where
    by_base : (base : Predeclared) → Contains (named_in (array_of (heads.Predeclared base ts) t)) a
        → Sound a
    by_base bases.Float has = none_of a has
    by_base bases.Any has = one_of [] t a s none_of has
    by_base base has = one_of [] t a s none_of has
  array_named h t a s among = one_of [] t a s none_of among

  predeclared_named :
      (b : Predeclared) (ts : List Ty) (a : Ty) → ((t : Ty) → Contains ts t → Sound t)
      → Contains (named_in (predeclared_shape decls b ts)) a → Sound a
  predeclared_named (bases.Sum k) ts a all among =
      sum_has Sound (name_at k) ts all (sum_at k)
      (λ known is right. sum_sound k known is ts right all) a among
  predeclared_named bases.Array (t ∷ []) a all among =
      array_named (head decls t) t a (all t (Contains-first t [])) among
  predeclared_named bases.Int [] a all among = none_of a among
  predeclared_named b [] a all among = none_of a among
  predeclared_named bases.Int (t ∷ []) a all among = none_of a among
  predeclared_named b (t ∷ []) a all among = none_of a among
  predeclared_named bases.Int (t ∷ t' ∷ ts) a all among = none_of a among
  predeclared_named b (t ∷ t' ∷ ts) a all among = none_of a among

  module _ (value : List ℕ → Ty) (sound : (x : List ℕ) → Sound (value x)) where
    types_named : (types : List Ty) → ((t : Ty) → Contains types t → Sound t) → (a : Ty)
        → Contains (map (instance value) types) a → Sound a
    types_named types all a among =
        let source = map-Contains (instance value) types a among in
        subst Sound source.2 (sound-instance value sound source.0 (all source.0 source.1))

    record_named : (fields : List Field) (flat : Bool)
        → ((t : Ty) → Contains (types_of_fields fields) t → Sound t) → (a : Ty)
        → Contains (named_in (record_shape (instance value) fields flat)) a → Sound a
    record_named fields true all a among = none_of a among
    record_named fields false all a among = types_named (types_of_fields fields) all a among

    block_named : (given : Arguments) → ((t : Ty) → Contains (types_of_arguments given) t → Sound t)
        → (c : Constr Ty) → block_of (instance value) given ≡ Some c → (a : Ty)
        → Contains c.fields a → Sound a
    block_named arguments.Constant all c is a among = absurd (none-some c is)
    block_named (arguments.Listed types) all c is a among =
        let same = ap (λ (d : Constr Ty). d.fields)
        (same_Some (record { mutable = false; fields = map (instance value) types }) c is) in
        types_named types all a (subst (λ fields. Contains fields a) (sym same) among)
    block_named (arguments.Inline fields) all c is a among =
        let same = ap (option_map (λ (d : Constr Ty). d.fields)) is in
        types_named (types_of_fields fields) all a
        (subst (λ fs. Contains fs a)
        (sym (same_Some (map (instance value) (types_of_fields fields)) c.fields same)) among)

    variant_named : (all : List Constructor)
        → ((t : Ty) → Contains (types_of_body (bodies.Variant all)) t → Sound t) → (a : Ty)
        → Contains (flat_map (λ (c : Constr Ty). c.fields) (blocks_in (instance value) all)) a
        → Sound a
    variant_named all known a among =
        let block = flat_map-Contains (λ (c : Constr Ty). c.fields) (blocks_in (instance value) all) a
        among in
        let source = filter_mapped_is (λ (constructor : Constructor). block_of (instance value)
        constructor.arguments) all block.0 block.1 in
        block_named source.0.arguments
        (λ t has. known t (Contains-flat_map (λ (constructor : Constructor).
        types_of_arguments constructor.arguments) all source.0 t source.1 has))
        block.0 source.2 a block.2

    body_named : (body : Body) → ((t : Ty) → Contains (types_of_body body) t → Sound t) → (a : Ty)
        → Contains (named_in (body_shape decls (instance value) body)) a → Sound a
    body_named (bodies.Abbreviation t) all a among = none_of a among
    body_named (bodies.Record fields) all a among =
        record_named fields (is_flat decls fields) all a among
    body_named (bodies.Variant constructors) all a among = variant_named constructors all a among

  datatype_named :
      (found : Option Decl) → ((d : Decl) → found ≡ Some d → (t : Ty)
      → Contains (types_of_body d.body) t → Sound t) → (ts : List Ty)
      → ((t : Ty) → Contains ts t → Sound t)
      → (a : Ty) → Contains (named_in (datatype_shape decls found ts)) a → Sound a
  datatype_named None known ts all a among = none_of a among
  datatype_named (Some d) known ts all a among =
      body_named (argument_for d.parameters ts) (arguments_sound d.parameters ts all) d.body
      (known d refl) a among

  tag_arguments : (tags : List (TagOf Ty)) (a : Ty)
      → Contains (named_in (shapes.Poly (map tag_shape tags))) a → Contains (arguments_in tags) a
  tag_arguments tags a among =
      let poly = flat_map-Contains (λ (p : PolyTag Ty). listed_if p.arg) (map tag_shape tags) a
      among in
      let source = map-Contains tag_shape tags poly.0 poly.1 in
      Contains-flat_map (λ (item : TagOf Ty). listed_if item.argument) tags source.0 a source.1
      (subst (λ (p : PolyTag Ty). Contains (listed_if p.arg) a) (sym source.2) poly.2)

  head_named : (h : HeadOf Ty) → ((t : Ty) → Contains (parts_of h) t → Sound t) → (a : Ty)
      → Contains (named_in (head_shape decls h)) a → Sound a
  head_named (heads.Variable x) all a among = none_of a among
  head_named (heads.Predeclared b ts) all a among = predeclared_named b ts a all among
  head_named (heads.Datatype n ts) all a among =
      datatype_named (declaration_of decls n) (λ d found t has. well.types n d t found has) ts all a
      among
  head_named (heads.Tuple ts) all a among = all a among
  head_named (heads.Variants tags) all a among = all a (tag_arguments tags a among)
  head_named heads.Absent all a among = none_of a among

  -- If a type is sound, then the types that it reaches are sound.
  pub reached_sound : (t a : Ty) → Sound t → Contains (reached_from decls t) a → Sound a
  reached_sound t a s among = ⊎_elim
      (λ named'. head_named (head decls t) (λ b has. head_parts_sound t b s has) a named')
      (λ part'. head_parts_sound t a s part')
      (Contains-append_cases (named_in (shape decls t)) (parts_of (head decls t)) a among)

  -- ---- hashes

  Hashed : ℕ → Type 0
  Hashed k = (t : Ty) → weighs decls well t < k → Sound t → IsHashed decls t

  no_hashes : (tags : List (TagOf Ty)) → tags ≡ [] → HaveOwnHashes tags
  no_hashes tags is one other among among' same =
      absurd (Contains-none one (subst (λ all. Contains all one) is among))

  plain_hashed : (t : Ty) → Sound t → unfolded decls t ≡ None → IsHashed decls t
  plain_hashed (variable x) s is =
      no_hashes (tags_in (head decls (variable x))) (ap tags_in (plain decls well (variable x) is))
  plain_hashed (named n) s is =
      no_hashes (tags_in (head decls (named n))) (ap tags_in (plain decls well (named n) is)
      ∙ no_tags_meant (predeclared n) n)
  plain_hashed tuple s is =
      no_hashes (tags_in (head decls tuple)) (ap tags_in (plain decls well tuple is))
  plain_hashed bracket s is =
      no_hashes (tags_in (head decls bracket)) (ap tags_in (plain decls well bracket is))
  plain_hashed (part t a) s is =
      no_hashes (tags_in (head decls (part t a))) (ap tags_in (plain decls well (part t a) is)
      ∙ no_tags_with_part (plain_head (head decls) t) a)
  plain_hashed (tag t x) s is = s.brackets.1
  plain_hashed (tag_of t x a) s is = s.brackets.2
  plain_hashed (including t a) s is = s.brackets.3

  one_hashed : (k : ℕ) → Hashed k → (t : Ty) → weighs decls well t ≤ k → Sound t
      → (next : Option Ty) → unfolded decls t ≡ next → IsHashed decls t
  unfolding Hashed
  one_hashed k known t below s None is = plain_hashed t s is
  one_hashed k known t below s (Some u) is =
      subst (λ h. HaveOwnHashes (tags_in h)) (sym (again decls well t u is))
      (known u (omega (arith, falls_to decls well t u is, below)) (sound_unfolded t u s is))

  all_hashed : (k : ℕ) → Hashed k
  unfolding Hashed
  all_hashed zero t below s = absurd (omega (arith, below))
  all_hashed (suc k) t below s =
      one_hashed k (all_hashed k) t (omega (arith, below)) s (unfolded decls t) refl

  pub head_hashed : (t : Ty) → Sound t → IsHashed decls t
  unfolding Hashed
  head_hashed t s = all_hashed (suc (weighs decls well t)) t (omega arith) s

  -- ---- shapes whose tags are determined by hashes

  abbrev pub HashedShape : ShapeOf Ty → Type 0
  HashedShape (shapes.Poly tags) = AreHashed tags
  HashedShape s = Unit {0}

  array_hashed : (h : HeadOf Ty) (t : Ty) → HashedShape (array_of h t)
  array_hashed (heads.Variable x) t = tt
  array_hashed (heads.Predeclared b ts) t = by_base b where
    by_base : (base : Predeclared) → HashedShape (array_of (heads.Predeclared base ts) t)
    by_base bases.Float = tt
    by_base bases.Any = tt
    by_base base = tt
  array_hashed h t = tt

  shape_if_hashed : (test : Bool) (known : Sum) (name : List ℕ) (ts : List Ty) → HashedShape (shape_if test known name ts)
  shape_if_hashed true known name ts = tt
  shape_if_hashed false known name ts = tt

  sum_hashed : (known : Option Sum) (name : List ℕ) (ts : List Ty) → HashedShape (sum_shape known name ts)
  sum_hashed None name ts = tt
  sum_hashed (Some known) name ts = shape_if_hashed (takes known.parameters ts) known name ts

  predeclared_hashed : (b : Predeclared) (ts : List Ty) → HashedShape (predeclared_shape decls b ts)
  predeclared_hashed (bases.Sum k) ts = sum_hashed (sum_at k) (name_at k) ts
  predeclared_hashed bases.Array (t ∷ []) = array_hashed (head decls t) t
  predeclared_hashed bases.Int [] = tt
  predeclared_hashed b [] = tt
  predeclared_hashed bases.Int (t ∷ []) = tt
  predeclared_hashed b (t ∷ []) = tt
  predeclared_hashed bases.Int (t ∷ t' ∷ ts) = tt
  predeclared_hashed b (t ∷ t' ∷ ts) = tt

  record_hashed : (value : Ty → Ty) (fields : List Field) (flat : Bool)
      → HashedShape (record_shape value fields flat)
  record_hashed value fields true = tt
  record_hashed value fields false = tt

  body_hashed : (value : Ty → Ty) (body : Body) → HashedShape (body_shape decls value body)
  body_hashed value (bodies.Abbreviation t) = tt
  body_hashed value (bodies.Record fields) = record_hashed value fields (is_flat decls fields)
  body_hashed value (bodies.Variant all) = tt

  datatype_hashed :
      (found : Option Decl) (ts : List Ty) → HashedShape (datatype_shape decls found ts)
  datatype_hashed None ts = tt
  datatype_hashed (Some d) ts = body_hashed (instance (argument_for d.parameters ts)) d.body

  tags_hashed : (tags : List (TagOf Ty)) → HaveOwnHashes tags → AreDistinct tags
      → AreHashed (map tag_shape tags)
  tags_hashed tags hashed distinct one other among among' same =
      let first = map-Contains tag_shape tags one among in
      let second = map-Contains tag_shape tags other among' in
      let hash = ap (λ (p : PolyTag Ty). p.hash) first.2 ∙ same
      ∙ sym (ap (λ (p : PolyTag Ty). p.hash) second.2) in
      let item = distinct first.0 second.0 first.1 second.1
      (hashed first.0 second.0 first.1 second.1 hash) in
      sym first.2 ∙ ap tag_shape item ∙ second.2

  head_shape_hashed :
      (h : HeadOf Ty) → HaveOwnHashes (tags_in h) → AreDistinct (tags_in h)
      → HashedShape (head_shape decls h)
  head_shape_hashed (heads.Variable x) hashed distinct = tt
  head_shape_hashed (heads.Predeclared b ts) hashed distinct = predeclared_hashed b ts
  head_shape_hashed (heads.Datatype n ts) hashed distinct =
      datatype_hashed (declaration_of decls n) ts
  head_shape_hashed (heads.Tuple ts) hashed distinct = tt
  head_shape_hashed (heads.Variants tags) hashed distinct = tags_hashed tags hashed distinct
  head_shape_hashed heads.Absent hashed distinct = tt

  -- If the shape of a sound type is the shape of a polymorphic variant, then the tags of the type
  -- are determined by their hashes.
  pub shape_hashed : (t : Ty) → Sound t → HashedShape (shape decls t)
  shape_hashed t s = head_shape_hashed (head decls t) (head_hashed t s) (head_distinct decls t)

  -- ---- reached types

  module _ (t : Ty) (s : Sound t) (types : List Ty) (reached : IsReached decls t types) where
    first_is : slice_get types 0 ≡ Some t
    first_is = ⊎_elim
        (λ seen. absurd (Contains-none t seen.0))
        (λ new. ap (λ all. slice_get all 0) new.2)
        reached.in_order

    sound_below : (n k : ℕ) (u : Ty) → k < n → slice_get types k ≡ Some u → Sound u
    sound_below zero k u below is = absurd (omega (arith, below))
    sound_below (suc n) zero u below is = subst Sound (same_Some t u (sym first_is ∙ is)) s
    sound_below (suc n) (suc k) u below is =
        let from = reached.from_earlier (suc k) u (omega arith) is in
        reached_sound from.1 u (sound_below n from.0 from.1 (omega (arith, below, from.2)) from.3)
        from.4

    -- Every type that a sound type reaches is sound.
    pub all_reached_sound : (u : Ty) → Contains types u → Sound u
    all_reached_sound u among =
        let found = Contains-position types u among in sound_below (suc found.0) found.0 u (omega arith)
        found.1

    -- The tags of every type that a sound type reaches are determined by their hashes.
    pub known_by_hash : AreKnownByHash decls types
    known_by_hash u tags among is =
        subst HashedShape is
        (head_shape_hashed (head decls u) (head_hashed u (all_reached_sound u among))
        (head_distinct decls u))
