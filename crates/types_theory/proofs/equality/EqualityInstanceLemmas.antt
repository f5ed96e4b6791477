-- The expansion of an abbreviation at the head commutes with instantiation.
use Rattle.std.proofs.Common.{ℕ, suc, ◌+◌, ◌≡◌, ◌∙◌, ⊎_elim, inl, inr, List, [], ◌∷◌}
use Rattle.std.proofs.Common.{◌++◌}
use Rattle.std.proofs.Common.{length, Bool, true, false, Option, Some, None, refl, ap, subst, sym}
use Rattle.std.proofs.Common.{arith}
use Rattle.std.specs.Prelude.{Contains, map, option_map, cond}
use Rattle.std.specs.Str.{bytes_eq}
use Rattle.std.proofs.lemmas.Bool.{false≢true}
use Rattle.std.proofs.lemmas.Slice.Eq.{bytes_eq-Decides}
use Rattle.std.proofs.lemmas.Option.{same_Some, none-some}
use Rattle.std.proofs.lemmas.List.{length_push}
use Rattle.types_spec.specs.declared.types.decl.Body.{Body}
use Rattle.types_spec.specs.declared.types.decl.Body.TheVariants as bodies
use Rattle.types_spec.specs.declared.types.decl.Decl.{Decl}
use Rattle.types_spec.specs.types.Ty.{Ty, variable, named, tuple, bracket, part, tag, tag_of, including}
use Rattle.types_spec.specs.types.Ty.{name_of}
use Rattle.types_spec.specs.types.Ty.{parts, instance, argument_for}
use Rattle.types_spec.specs.types.Declarations.{declaration_of, arity_in, arity_of}
use Rattle.types_spec.specs.types.Declarations.{instance_of}
use Rattle.types_spec.specs.types.Declarations.{abbreviated, abbreviated_at, abbreviated_by, unfolded}
use Rattle.types_spec.specs.types.WellFormed.{IsVariable, IsWhole, IsType, TakeArguments, VariablesAmong}
use Rattle.types_spec.specs.types.WellFormed.{AreWellFormed, types_of_body}
use Rattle.base_data.proofs.model.Options.{Contains-first, Contains-none, Contains-cases}
use Rattle.types_theory.proofs.equality.HeadMapLemmas.{append-map}

-- ---- properties that instances preserve

module _ (value : List ℕ → Ty) where
  pub name_of-instance : (t : Ty) → IsWhole t → name_of (instance value t) ≡ name_of t
  name_of-instance (variable x) whole = absurd whole
  name_of-instance (named n) whole = refl
  name_of-instance tuple whole = refl
  name_of-instance bracket whole = refl
  name_of-instance (part t a) whole = name_of-instance t whole.0
  name_of-instance (tag t x) whole = refl
  name_of-instance (tag_of t x a) whole = refl
  name_of-instance (including t a) whole = refl

  pub parts-instance :
      (t : Ty) → IsWhole t → parts (instance value t) ≡ map (instance value) (parts t)
  parts-instance (variable x) whole = absurd whole
  parts-instance (named n) whole = refl
  parts-instance tuple whole = refl
  parts-instance bracket whole = refl
  parts-instance (part t a) whole =
      ap (λ ts. ts ++ instance value a ∷ []) (parts-instance t whole.0)
      ∙ sym (append-map (instance value) (parts t) (a ∷ []))
  parts-instance (tag t x) whole = refl
  parts-instance (tag_of t x a) whole = refl
  parts-instance (including t a) whole = refl

  module _ (typed : (x : List ℕ) → IsType (value x)) where
    variable-instance : (t : Ty) → IsVariable t → IsType (instance value t)
    variable-instance (variable x) is = typed x
    variable-instance t is = absurd is

    pub whole-instance : (t : Ty) → IsWhole t → IsWhole (instance value t)
    whole-instance (variable x) whole = absurd whole
    whole-instance (named n) whole = tt
    whole-instance tuple whole = tt
    whole-instance bracket whole = tt
    whole-instance (part t a) whole = (
      whole-instance t whole.0,
      ⊎_elim (λ is. variable-instance a is)
          (λ is. inr (whole-instance a is)) whole.1,
    )
    whole-instance (tag t x) whole = whole-instance t whole
    whole-instance (tag_of t x a) whole = (
      whole-instance t whole.0,
      ⊎_elim (λ is. variable-instance a is)
          (λ is. inr (whole-instance a is)) whole.1,
    )
    whole-instance (including t a) whole = (
      whole-instance t whole.0,
      ⊎_elim (λ is. variable-instance a is)
          (λ is. inr (whole-instance a is)) whole.1,
    )

    pub type-instance : (t : Ty) → IsType t → IsType (instance value t)
    type-instance t (inl is) = variable-instance t is
    type-instance t (inr is) = inr (whole-instance t is)

  module _ (decls : List Decl) (takes : (x : List ℕ) → TakeArguments decls 0 (value x)) where
    variable-takes : (t : Ty) → IsVariable t → TakeArguments decls 0 (instance value t)
    variable-takes (variable x) is = takes x
    variable-takes t is = absurd is

    pub whole-takes :
        (k : ℕ) (t : Ty) → IsWhole t → TakeArguments decls k t
        → TakeArguments decls k (instance value t)
    whole-takes k (variable x) whole given = absurd whole
    whole-takes k (named n) whole given = given
    whole-takes k tuple whole given = tt
    whole-takes k bracket whole given = tt
    whole-takes k (part t a) whole given = (
      whole-takes (suc k) t whole.0 given.0,
      ⊎_elim (λ is. variable-takes a is)
          (λ is. whole-takes 0 a is given.1) whole.1,
    )
    whole-takes k (tag t x) whole given = whole-takes 0 t whole given
    whole-takes k (tag_of t x a) whole given = (
      whole-takes 0 t whole.0 given.0,
      ⊎_elim (λ is. variable-takes a is)
          (λ is. whole-takes 0 a is given.1) whole.1,
    )
    whole-takes k (including t a) whole given = (
      whole-takes 0 t whole.0 given.0,
      ⊎_elim (λ is. variable-takes a is)
          (λ is. whole-takes 0 a is given.1) whole.1,
    )

    pub type-takes :
        (t : Ty) → IsType t → TakeArguments decls 0 t → TakeArguments decls 0 (instance value t)
    type-takes t (inl is) given = variable-takes t is
    type-takes t (inr is) given = whole-takes 0 t is given

  -- ---- an instance of an instance

  chosen : (test : Bool) (t u v : Ty) → (test ≡ false → u ≡ instance value v)
      → cond test (instance value t) u ≡ instance value (cond test t v)
  chosen true t u v later = refl
  chosen false t u v later = later refl

  argument_for-instance :
      (ps : List (List ℕ)) (ts : List Ty) (x : List ℕ) → length ts ≡ length ps → Contains ps x
      → argument_for ps (map (instance value) ts) x ≡ instance value (argument_for ps ts x)
  argument_for-instance [] ts x same among = absurd (Contains-none x among)
  argument_for-instance (p ∷ ps) [] x same among = absurd (omega (arith, same))
  argument_for-instance (p ∷ ps) (t ∷ ts) x same among =
      chosen (bytes_eq p x) t (argument_for ps (map (instance value) ts) x) (argument_for ps ts x)
      (λ differs.
      argument_for-instance ps ts x (omega (arith, same)) (⊎_elim
      (λ here. absurd (false≢true (sym differs ∙ (bytes_eq-Decides p x).1 here)))
      (λ later. later)
      (Contains-cases p ps x among)))

  module _ (ps : List (List ℕ)) (ts : List Ty) (many : length ts ≡ length ps) where
    abbrev inner : Ty → Ty
    inner t = instance (argument_for ps ts) t

    abbrev outer : Ty → Ty
    outer t = instance (argument_for ps (map (instance value) ts)) t

    pub instance-instance : (t : Ty) → VariablesAmong ps t → outer t ≡ instance value (inner t)
    instance-instance (variable x) among = argument_for-instance ps ts x many among
    instance-instance (named n) among = refl
    instance-instance tuple among = refl
    instance-instance bracket among = refl
    instance-instance (part t a) among =
        ap (λ w. part w (outer a)) (instance-instance t among.0)
        ∙ ap (λ b. part (instance value (inner t)) b) (instance-instance a among.1)
    instance-instance (tag t x) among = ap (λ w. tag w x) (instance-instance t among)
    instance-instance (tag_of t x a) among =
        ap (λ w. tag_of w x (outer a)) (instance-instance t among.0)
        ∙ ap (λ b. tag_of (instance value (inner t)) x b) (instance-instance a among.1)
    instance-instance (including t a) among =
        ap (λ w. including w (outer a)) (instance-instance t among.0)
        ∙ ap (λ b. including (instance value (inner t)) b) (instance-instance a among.1)

-- ---- abbreviations

-- The arity of a type's name is the number of the type's parts plus `k`.
counted : (decls : List Decl) (k : ℕ) (t : Ty) (name : List ℕ) → TakeArguments decls k t
    → name_of t ≡ Some name → arity_of decls name ≡ Some (length (parts t) + k)
counted decls k (named n) name given is =
    let none : k ≡ 0 + k = omega arith in
    subst (λ m. arity_of decls m ≡ Some (0 + k)) (same_Some n name is) (given ∙ ap Some none)
counted decls k (part t a) name given is =
    let more : length (parts t) + suc k ≡ length (parts t ++ a ∷ []) + k =
    omega (arith, length_push (parts t) a) in
    counted decls (suc k) t name given.0 is ∙ ap Some more
counted decls k t name given is = absurd (none-some name is)

module _ (decls : List Decl) (well : AreWellFormed decls) where
  pub abbreviation_is :
      (body : Body) (t : Ty) → abbreviated body ≡ Some t → Contains (types_of_body body) t
  abbreviation_is (bodies.Abbreviation u) t is =
      subst (λ w. Contains (u ∷ []) w) (same_Some u t is) (Contains-first u [])
  abbreviation_is (bodies.Record fields) t is = absurd (none-some t is)
  abbreviation_is (bodies.Variant all) t is = absurd (none-some t is)

  -- The arity of a declared name is the number of its parameters.
  declared_arity :
      (name : List ℕ) (d : Decl) → declaration_of decls name ≡ Some d → arity_of decls name ≡ Some
      (length d.parameters)
  declared_arity name d found =
      ap (λ base. arity_in base (declaration_of decls name)) (well.new_names name d found)
      ∙ ap (arity_in None) found

  module _ (value : List ℕ → Ty) (t : Ty) (whole : IsWhole t) (given : TakeArguments decls 0 t)
    where
      many : (name : List ℕ) (d : Decl) → name_of t ≡ Some name → declaration_of decls name ≡ Some d
          → length (parts t) ≡ length d.parameters
      many name d is found =
          let n : ℕ = length (parts t) in
          let none : n ≡ n + 0 = omega arith in
          none ∙ same_Some (n + 0) (length d.parameters) (sym (counted decls 0 t name given is)
          ∙ declared_arity name d found)

      by_body : (name : List ℕ) (d : Decl) → name_of t ≡ Some name → declaration_of decls name ≡ Some
          d → (stands : Option Ty) → abbreviated d.body ≡ stands
          → option_map (instance_of d (map (instance value) (parts t))) stands ≡ option_map
          (instance value) (option_map (instance_of d (parts t)) stands)
      by_body name d is found None body = refl
      by_body name d is found (Some u) body =
          ap Some (instance-instance value d.parameters (parts t) (many name d is found) u
          (well.variables name d u found (abbreviation_is d.body u body)))

      by_decl : (name : List ℕ) → name_of t ≡ Some name → (found : Option Decl)
          → declaration_of decls name ≡ found
          → abbreviated_at found (map (instance value) (parts t)) ≡ option_map (instance value)
          (abbreviated_at found (parts t))
      by_decl name is None found = refl
      by_decl name is (Some d) found = by_body name d is found (abbreviated d.body) refl

      by_name : (name : Option (List ℕ)) → name_of t ≡ name
          → abbreviated_by decls name (map (instance value) (parts t)) ≡ option_map (instance value)
          (abbreviated_by decls name (parts t))
      by_name None is = refl
      by_name (Some name) is = by_decl name is (declaration_of decls name) refl

      pub unfolded-instance :
          unfolded decls (instance value t) ≡ option_map (instance value) (unfolded decls t)
      unfolded-instance =
          ap (λ name. abbreviated_by decls name (parts (instance value t)))
          (name_of-instance value t whole)
          ∙ ap (abbreviated_by decls (name_of t)) (parts-instance value t whole)
          ∙ by_name (name_of t) refl
