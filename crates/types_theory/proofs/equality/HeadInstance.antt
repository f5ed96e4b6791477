-- If the head of a type is not a variable, then the head of an instance of the type is the instance
-- of the type's head.
use Rattle.std.proofs.Common.{ℕ, zero, suc, ◌<◌, ◌≤◌, ◌≡◌, ◌∙◌, ⊎_elim, inl, inr, List, []}
use Rattle.std.proofs.Common.{◌∷◌, ◌++◌}
use Rattle.std.proofs.Common.{Bool, true, false, Option, Some, None, refl, ap, subst, sym, arith}
use Rattle.std.specs.Prelude.{Contains, map, option_map, cond, filter, not, ◌||◌}
use Rattle.std.specs.Str.{bytes_eq}
use Rattle.std.proofs.lemmas.Option.{same_Some, none-some}
use Rattle.types_spec.specs.declared.types.decl.Predeclared.{Predeclared}
use Rattle.types_spec.specs.declared.types.decl.Decl.{Decl}
use Rattle.types_spec.specs.declared.types.head.TagOf.{TagOf}
use Rattle.types_spec.specs.declared.types.head.HeadOf.{HeadOf}
use Rattle.types_spec.specs.declared.types.head.HeadOf.TheVariants as heads
use Rattle.types_spec.specs.types.Ty.{Ty, variable, named, tuple, bracket, part, tag, tag_of, including}
use Rattle.types_spec.specs.types.Ty.{name_of}
use Rattle.types_spec.specs.types.Ty.{parts, instance, argument_for}
use Rattle.types_spec.specs.types.Declarations.{predeclared, declaration_of, abbreviated, abbreviated_at}
use Rattle.types_spec.specs.types.Declarations.{abbreviated_by, unfolded}
use Rattle.types_spec.specs.types.Head.{has_tag, joined, with_tags, tags_in, bare_tag, carrying_tag}
use Rattle.types_spec.specs.types.Head.{head_meant}
use Rattle.types_spec.specs.types.Head.{with_part, plain_head, head}
use Rattle.types_spec.specs.types.WellFormed.{IsVariable, IsWhole, IsType, TakeArguments, AreVariants}
use Rattle.types_spec.specs.types.WellFormed.{HasSoundBrackets}
use Rattle.types_spec.specs.types.WellFormed.{AreWellFormed, IsSoundType}
use Rattle.types_spec.specs.types.Table.{tag_with_part, head_with_parts}
use Rattle.base_data.proofs.model.Options.{Contains-first, Contains-later, Contains-none, Contains-cases}
use Rattle.std.proofs.lemmas.List.Elements.{Contains-append_cases}
use Rattle.types_theory.proofs.equality.HeadMapLemmas.{append-map}
use Rattle.types_theory.proofs.equality.EqualityInstanceLemmas.{type-instance, type-takes}
use Rattle.types_theory.proofs.equality.EqualityInstanceLemmas.{unfolded-instance, abbreviation_is}
use Rattle.types_theory.proofs.equality.EqualityNeedLemmas.{head_again, head_plain}
use Rattle.types_theory.proofs.equality.RankedLemmas.{are_ranked}
use Rattle.types_theory.proofs.equality.WeightLemmas.{heft, falls, body_falls, by_part, beside, by_including}
use Rattle.types_theory.proofs.equality.WeightLemmas.{inside, price, priced}

-- ---- mapping the parts of a head

module _ (f : Ty → Ty) where
  abbrev mapped : HeadOf Ty → HeadOf Ty
  mapped h = head_with_parts f h

  abbrev tagged : TagOf Ty → TagOf Ty
  tagged item = tag_with_part f item

  with_part-map : (h : HeadOf Ty) (t : Ty) → with_part (mapped h) (f t) ≡ mapped (with_part h t)
  with_part-map (heads.Variable x) t = refl
  with_part-map (heads.Predeclared b ts) t =
      ap (heads.Predeclared b) (sym (append-map f ts (t ∷ [])))
  with_part-map (heads.Datatype n ts) t = ap (heads.Datatype n) (sym (append-map f ts (t ∷ [])))
  with_part-map (heads.Tuple ts) t = ap (λ all. heads.Tuple all) (sym (append-map f ts (t ∷ [])))
  with_part-map (heads.Variants tags) t = refl
  with_part-map heads.Absent t = refl

  has_tag-map : (tags : List (TagOf Ty)) (name : List ℕ) → has_tag (map tagged tags) name ≡ has_tag
      tags name
  has_tag-map [] name = refl
  has_tag-map (item ∷ tags) name =
      ap (λ later. bytes_eq item.name name || later) (has_tag-map tags name)

  kept-map : (one other : Bool) (item : TagOf Ty) (kept : List (TagOf Ty)) (kept' : List (TagOf Ty))
      → one ≡ other → kept ≡ map tagged kept' → cond one (tagged item ∷ kept) kept ≡ map tagged
      (cond other (item ∷ kept') kept')
  kept-map true true item kept kept' same rest = ap (λ all. tagged item ∷ all) rest
  kept-map false false item kept kept' same rest = rest
  kept-map true false item kept kept' same rest = absurd (differ same) where
    differ : true ≡ false → ⊥
    differ same = cc
  kept-map false true item kept kept' same rest = absurd (differ same) where
    differ : false ≡ true → ⊥
    differ same = cc

  new-map : (tags more : List (TagOf Ty))
      → filter (λ (tag : TagOf Ty). not (has_tag (map tagged tags) tag.name))
      (map tagged more) ≡ map tagged (filter (λ (tag : TagOf Ty). not (has_tag tags tag.name)) more)
  new-map tags [] = refl
  new-map tags (item ∷ more) =
      kept-map (not (has_tag (map tagged tags) item.name)) (not (has_tag tags item.name)) item
      (filter (λ (t : TagOf Ty). not (has_tag (map tagged tags) t.name)) (map tagged more))
      (filter (λ (t : TagOf Ty). not (has_tag tags t.name)) more)
      (ap not (has_tag-map tags item.name)) (new-map tags more)

  joined-map : (tags more : List (TagOf Ty)) → joined (map tagged tags) (map tagged more) ≡ map
      tagged (joined tags more)
  joined-map tags more =
      ap (λ all. map tagged tags ++ all) (new-map tags more)
      ∙ sym (append-map tagged tags (filter (λ (tag : TagOf Ty). not (has_tag tags tag.name))
      more))

  with_tags-map : (h : HeadOf Ty) (more : List (TagOf Ty))
      → with_tags (mapped h) (map tagged more) ≡ mapped (with_tags h more)
  with_tags-map (heads.Variable x) more = refl
  with_tags-map (heads.Predeclared b ts) more = refl
  with_tags-map (heads.Datatype n ts) more = refl
  with_tags-map (heads.Tuple ts) more = refl
  with_tags-map (heads.Variants tags) more = ap (λ all. heads.Variants all) (joined-map tags more)
  with_tags-map heads.Absent more = refl

  pub tags_in-map : (h : HeadOf Ty) → tags_in (mapped h) ≡ map tagged (tags_in h)
  tags_in-map (heads.Variable x) = refl
  tags_in-map (heads.Predeclared b ts) = refl
  tags_in-map (heads.Datatype n ts) = refl
  tags_in-map (heads.Tuple ts) = refl
  tags_in-map (heads.Variants tags) = refl
  tags_in-map heads.Absent = refl

  meant-map : (base : Option Predeclared) (name : List ℕ)
      → mapped (head_meant base name) ≡ head_meant base name
  meant-map None name = refl
  meant-map (Some b) name = refl

  pub variants-map : (h : HeadOf Ty) → AreVariants h → AreVariants (mapped h)
  variants-map (heads.Variants tags) are = tt
  variants-map h are = absurd are

abbrev pub IsNoVariable : HeadOf Ty → Type 0
IsNoVariable (heads.Variable x) = ⊥
IsNoVariable h = Unit {0}

pub no_variable : (h : HeadOf Ty) → AreVariants h → IsNoVariable h
no_variable (heads.Variants tags) are = tt
no_variable h are = absurd are

pub free_head : (h : HeadOf Ty) → ((x : List ℕ) → h ≡ heads.Variable x → ⊥) → IsNoVariable h
free_head (heads.Variable x) differs = differs x refl
free_head h differs = tt

module _ (decls : List Decl) (well : AreWellFormed decls) where
  -- All types that a type includes at its head, or in arguments of the name at its head, are
  -- variants.
  abbrev pub HasIncludes : Ty → Type 0
  HasIncludes (variable x) = Unit {0}
  HasIncludes (named n) = Unit {0}
  HasIncludes tuple = Unit {0}
  HasIncludes bracket = Unit {0}
  HasIncludes (part t a) = HasIncludes t × HasIncludes a
  HasIncludes (tag t x) = HasIncludes t
  HasIncludes (tag_of t x a) = HasIncludes t
  HasIncludes (including t a) = HasIncludes t × HasIncludes a × AreVariants (head decls a)

  pub includes_of : (t : Ty) → HasSoundBrackets decls t → HasIncludes t
  includes_of (variable x) sound = tt
  includes_of (named n) sound = tt
  includes_of tuple sound = tt
  includes_of bracket sound = tt
  includes_of (part t a) sound = (includes_of t sound.0, includes_of a sound.1)
  includes_of (tag t x) sound = includes_of t sound.0
  includes_of (tag_of t x a) sound = includes_of t sound.0
  includes_of (including t a) sound = (includes_of t sound.0, includes_of a sound.1, sound.2)

  abbrev pub weighs : Ty → ℕ
  weighs t = heft decls well.sound.rank (are_ranked decls well.sound) t

  pub falls_to : (t u : Ty) → unfolded decls t ≡ Some u → weighs u < weighs t
  falls_to t u is = falls decls well.sound.rank (are_ranked decls well.sound) t u is

  pub heavier : (t a : Ty) → weighs t ≤ weighs (part t a)
  heavier t a = by_part (price decls well.sound.rank (are_ranked decls well.sound))
      (priced decls well.sound.rank (are_ranked decls well.sound)) t a

  beside_it : (t a : Ty) → weighs a ≤ weighs (part t a)
  beside_it t a = beside (price decls well.sound.rank (are_ranked decls well.sound))
      (priced decls well.sound.rank (are_ranked decls well.sound)) t a

  pub around : (t a : Ty) → weighs t ≤ weighs (including t a)
  around t a = by_including (price decls well.sound.rank (are_ranked decls well.sound))
      (priced decls well.sound.rank (are_ranked decls well.sound)) t a

  pub within : (t a : Ty) → weighs a < weighs (including t a)
  within t a = inside (price decls well.sound.rank (are_ranked decls well.sound))
      (priced decls well.sound.rank (are_ranked decls well.sound)) t a

  pub again : (t u : Ty) → unfolded decls t ≡ Some u → head decls t ≡ head decls u
  again t u is = head_again decls well.sound.rank (are_ranked decls well.sound) t u is

  pub plain : (t : Ty) → unfolded decls t ≡ None → head decls t ≡ plain_head (head decls) t
  plain t is = head_plain decls well.sound.rank (are_ranked decls well.sound) t is

  -- The head of the instance of `t` is the instance of the head of `t`.
  abbrev pub Commutes : (List ℕ → Ty) → Ty → Type 0
  Commutes value t = head decls (instance value t) ≡ head_with_parts (instance value) (head decls t)

  -- Induction hypothesis: heads commute with instances for all types with a weight below `k`.
  abbrev Known : ℕ → Type 0
  Known k = (value : List ℕ → Ty) (t : Ty) → weighs t < k → IsType t → TakeArguments decls 0 t
      → HasIncludes t → IsNoVariable (head decls t) → Commutes value t

  -- ---- without an abbreviation at the head

  module _ (k : ℕ) (known : Known k) (value : List ℕ → Ty) where
    plain-instance :
        (j : ℕ) (t : Ty) → IsWhole t → TakeArguments decls j t → HasIncludes t → weighs t ≤ k
        → plain_head (head decls) (instance value t) ≡ head_with_parts (instance value)
        (plain_head (head decls) t)
    plain-instance j (variable x) whole given includes below = absurd whole
    plain-instance j (named n) whole given includes below =
        sym (meant-map (instance value) (predeclared n) n)
    plain-instance j tuple whole given includes below = refl
    plain-instance j bracket whole given includes below = refl
    plain-instance j (part t a) whole given includes below =
        ap (λ h. with_part h (instance value a)) (plain-instance (suc j) t whole.0 given.0
        includes.0 (omega (arith, heavier t a, below)))
        ∙ with_part-map (instance value) (plain_head (head decls) t) a
    plain-instance j (tag t x) whole given includes below =
        ap (λ h. with_tags h (bare_tag x ∷ [])) (plain-instance 0 t whole given includes below)
        ∙ with_tags-map (instance value) (plain_head (head decls) t) (bare_tag x ∷ [])
    plain-instance j (tag_of t x a) whole given includes below =
        ap (λ h. with_tags h (carrying_tag x (instance value a) ∷ []))
        (plain-instance 0 t whole.0 given.0 includes below)
        ∙ with_tags-map (instance value) (plain_head (head decls) t) (carrying_tag x a ∷ [])
    plain-instance j (including t a) whole given includes below =
        let inner = known value a (omega (arith, within t a, below)) whole.1 given.1 includes.1
        (no_variable (head decls a) includes.2) in
        ap (λ h. with_tags h (tags_in (head decls (instance value a))))
        (plain-instance 0 t whole.0 given.0 includes.0 (omega (arith, around t a, below)))
        ∙ ap (λ h. with_tags (head_with_parts (instance value) (plain_head (head decls) t))
        (tags_in h)) inner
        ∙ ap (λ tags. with_tags (head_with_parts (instance value) (plain_head (head decls) t)) tags)
        (tags_in-map (instance value) (head decls a))
        ∙ with_tags-map (instance value) (plain_head (head decls) t) (tags_in (head decls a))

    -- ---- types that an instance includes

    variable-includes :
        ((x : List ℕ) → HasIncludes (value x)) → (t : Ty) → IsVariable t
        → HasIncludes (instance value t)
    variable-includes values (variable x) is = values x
    variable-includes values t is = absurd is

    whole-includes :
        ((x : List ℕ) → HasIncludes (value x)) → (j : ℕ) (t : Ty) → IsWhole t
        → TakeArguments decls j t → HasIncludes t → weighs t ≤ k → HasIncludes (instance value t)
    whole-includes values j (variable x) whole given includes below = absurd whole
    whole-includes values j (named n) whole given includes below = tt
    whole-includes values j tuple whole given includes below = tt
    whole-includes values j bracket whole given includes below = tt
    whole-includes values j (part t a) whole given includes below = (
      whole-includes values (suc j) t whole.0 given.0 includes.0
          (omega (arith, heavier t a, below)),
      ⊎_elim (λ is. variable-includes values a is) (λ is. whole-includes values 0 a is given.1
          includes.1 (omega (arith, beside_it t a, below))) whole.1,
    )
    whole-includes values j (tag t x) whole given includes below =
        whole-includes values 0 t whole given includes below
    whole-includes values j (tag_of t x a) whole given includes below =
        whole-includes values 0 t whole.0 given.0 includes below
    whole-includes values j (including t a) whole given includes below =
        let lighter = within t a in
        let inner = known value a (omega (arith, lighter, below)) whole.1 given.1 includes.1
        (no_variable (head decls a) includes.2) in (
          whole-includes values 0 t whole.0 given.0 includes.0 (omega (arith, around t a, below)),
          ⊎_elim (λ is. variable-includes values a is) (λ is. whole-includes values 0 a is given.1
              includes.1 (omega (arith, lighter, below))) whole.1,
          subst (λ h. AreVariants h) (sym inner) (variants-map (instance value) (head decls a)
              includes.2),
        )

    type-includes : ((x : List ℕ) → HasIncludes (value x)) → (t : Ty) → IsType t
        → TakeArguments decls 0 t → HasIncludes t → weighs t ≤ k → HasIncludes (instance value t)
    type-includes values t (inl is) given includes below = variable-includes values t is
    type-includes values t (inr is) given includes below =
        whole-includes values 0 t is given includes below

  -- ---- arguments

  chosen : (P : Ty → Type 0) (test : Bool) (t u : Ty) → P t → P u → P (cond test t u)
  chosen P true t u one other = one
  chosen P false t u one other = other

  -- If a property holds for variables and for all arguments, then it holds for the type that
  -- replaces a variable.
  pub of_argument :
      (P : Ty → Type 0) → ((x : List ℕ) → P (variable x)) → (ps : List (List ℕ)) (ts : List Ty)
      → ((t : Ty) → Contains ts t → P t) → (x : List ℕ) → P (argument_for ps ts x)
  of_argument P variables [] ts all x = variables x
  of_argument P variables (p ∷ ps) [] all x = variables x
  of_argument P variables (p ∷ ps) (t ∷ ts) all x =
      chosen P (bytes_eq p x) t (argument_for ps ts x) (all t (Contains-first t ts))
      (of_argument P variables ps ts (λ u among. all u (Contains-later t ts u among)) x)

  -- ---- expansions of abbreviations

  -- An abbreviation is at the head of `t`, and `u` is the type in the abbreviation's declaration.
  pub record IsAbbreviated (t u : Ty) : Type 0 where
    pub name : List ℕ
    pub decl : Decl
    pub body : Ty
    pub named_by : name_of t ≡ Some name
    pub found : declaration_of decls name ≡ Some decl
    pub stands : abbreviated decl.body ≡ Some body
    pub same : instance (argument_for decl.parameters (parts t)) body ≡ u

  with_stands : (t u : Ty) (name : List ℕ) (d : Decl) → name_of t ≡ Some name
      → declaration_of decls name ≡ Some d → (body : Option Ty) → abbreviated d.body ≡ body
      → option_map (instance (argument_for d.parameters (parts t))) body ≡ Some u
      → IsAbbreviated t u
  with_stands t u name d is found None stands same = absurd (none-some u same)
  with_stands t u name d is found (Some body) stands same =
      record {
        name = name;
        decl = d;
        body = body;
        named_by = is;
        found = found;
        stands = stands;
        same = same_Some (instance (argument_for d.parameters (parts t)) body) u same;
      }

  with_found : (t u : Ty) (name : List ℕ) → name_of t ≡ Some name → (found : Option Decl)
      → declaration_of decls name ≡ found → abbreviated_at found (parts t) ≡ Some u
      → IsAbbreviated t u
  with_found t u name is None found same = absurd (none-some u same)
  with_found t u name is (Some d) found same =
      with_stands t u name d is found (abbreviated d.body) refl same

  with_name : (t u : Ty) (name : Option (List ℕ)) → name_of t ≡ name
      → abbreviated_by decls name (parts t) ≡ Some u → IsAbbreviated t u
  with_name t u None is same = absurd (none-some u same)
  with_name t u (Some name) is same = with_found t u name is (declaration_of decls name) refl same

  pub unfolded_is : (t u : Ty) → unfolded decls t ≡ Some u → IsAbbreviated t u
  unfolded_is t u same = with_name t u (name_of t) refl same

  -- ---- the parts of a name

  pub last_part : (P : Ty → Type 0) (ts : List Ty) (b a : Ty) → ((c : Ty) → Contains ts c → P c)
      → P b → Contains (ts ++ b ∷ []) a → P a
  last_part P ts b a all last among = ⊎_elim
      (λ prefix. all a prefix)
      (λ end. ⊎_elim (λ here. subst P here last) (λ never. absurd (Contains-none a never))
      (Contains-cases b [] a end))
      (Contains-append_cases ts (b ∷ []) a among)

  pub parts_written : (t a : Ty) → IsWhole t → Contains (parts t) a → IsType a
  parts_written (part t b) a whole among =
      last_part IsType (parts t) b a (λ c has. parts_written t c whole.0 has) whole.1 among
  parts_written t a whole among = absurd (Contains-none a among)

  pub parts_take :
      (j : ℕ) (t a : Ty) → TakeArguments decls j t → Contains (parts t) a → TakeArguments decls 0 a
  parts_take j (part t b) a given among =
      last_part (TakeArguments decls 0) (parts t) b a (λ c has. parts_take (suc j) t c given.0 has)
      given.1 among
  parts_take j t a given among = absurd (Contains-none a among)

  parts_include : (t a : Ty) → HasIncludes t → Contains (parts t) a → HasIncludes a
  parts_include (part t b) a includes among =
      last_part HasIncludes (parts t) b a (λ c has. parts_include t c includes.0 has) includes.1
      among
  parts_include t a includes among = absurd (Contains-none a among)

  -- ---- all heads

  variable_head : (t : Ty) → IsVariable t → IsNoVariable (head decls t) → ⊥
  variable_head (variable x) is free = subst IsNoVariable (plain (variable x) refl) free
  variable_head t is free = absurd is

  module _ (k : ℕ) (known : Known k) (value : List ℕ → Ty) (t : Ty) (below : weighs t ≤ k)
      (whole : IsWhole t) (given : TakeArguments decls 0 t) (includes : HasIncludes t) where
    unfolds_to : (next : Option Ty) → unfolded decls t ≡ next
        → unfolded decls (instance value t) ≡ option_map (instance value) next
    unfolds_to next is =
        unfolded-instance decls well value t whole given ∙ ap (option_map (instance value)) is

    module _ (u : Ty) (is : unfolded decls t ≡ Some u) where
      by : IsAbbreviated t u
      by = unfolded_is t u is

      abbrev argument : List ℕ → Ty
      argument = argument_for by.decl.parameters (parts t)

      body_type : IsSoundType decls by.body
      body_type = well.types by.name by.decl by.body by.found
          (abbreviation_is decls well by.decl.body by.body by.stands)

      stands_written : IsType u
      stands_written =
          subst IsType by.same
          (type-instance argument (of_argument IsType (λ x. inl tt) by.decl.parameters (parts t)
          (λ a among. parts_written t a whole among)) by.body body_type.written)

      stands_takes : TakeArguments decls 0 u
      stands_takes = subst (TakeArguments decls 0) by.same
          (type-takes argument decls (of_argument (TakeArguments decls 0) (λ x. tt)
          by.decl.parameters (parts t) (λ a among. parts_take 0 t a given among)) by.body
          body_type.written body_type.arguments)

      stands_includes : HasIncludes u
      stands_includes =
          let lighter = body_falls decls well.sound.rank (are_ranked decls well.sound) t by.body
          by.name by.decl by.named_by by.found by.stands in
          subst HasIncludes by.same
          (type-includes k known argument (of_argument HasIncludes (λ x. tt) by.decl.parameters
          (parts t) (λ a among. parts_include t a includes among)) by.body body_type.written
          body_type.arguments (includes_of by.body body_type.brackets)
          (omega (arith, lighter, below)))

      through : IsNoVariable (head decls t) → Commutes value t
      through free =
          again (instance value t) (instance value u) (unfolds_to (Some u) is)
          ∙ known value u (omega (arith, falls_to t u is, below)) stands_written stands_takes
          stands_includes (subst IsNoVariable (again t u is) free)
          ∙ ap (head_with_parts (instance value)) (sym (again t u is))

    by_unfolding : (next : Option Ty) → unfolded decls t ≡ next → IsNoVariable (head decls t)
        → Commutes value t
    by_unfolding None is free =
        plain (instance value t) (unfolds_to None is)
        ∙ plain-instance k known value 0 t whole given includes below
        ∙ ap (head_with_parts (instance value)) (sym (plain t is))
    by_unfolding (Some u) is free = through u is free

  all_known : (k : ℕ) → Known k
  all_known zero value t below written given includes free = absurd (omega (arith, below))
  all_known (suc k) value t below (inl is) given includes free = absurd (variable_head t is free)
  all_known (suc k) value t below (inr whole) given includes free =
      by_unfolding k (all_known k) value t (omega (arith, below)) whole given includes
      (unfolded decls t) refl free

  -- If the head of a type is not a variable, then the head of an instance of the type is the
  -- instance of the type's head.
  pub head-instance :
      (value : List ℕ → Ty) (t : Ty) → IsType t → TakeArguments decls 0 t → HasIncludes t
      → IsNoVariable (head decls t) → Commutes value t
  head-instance value t written given includes free =
      all_known (suc (weighs t)) value t (omega arith) written given includes free
