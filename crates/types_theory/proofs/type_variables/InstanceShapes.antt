-- The shape of an instance is the shape of the type, with instances as parts. Variables and arrays
-- of variables are exceptions.
use Rattle.std.proofs.Common.{ℕ, ◌≡◌, ◌∙◌, ◌⊎◌, inl, inr, List, [], ◌∷◌, length, Bool, true, false}
use Rattle.std.proofs.Common.{Option, Some, None, refl, ap, subst, sym}
use Rattle.std.specs.Prelude.{Contains, map, option_map}
use Rattle.std.specs.List.{cons_option}
use Rattle.base_data.proofs.model.Options.{Contains-first, Contains-later, Contains-flat_map}
use Rattle.types_spec.specs.declared.types.decl.Predeclared.{Predeclared}
use Rattle.types_spec.specs.declared.types.decl.Predeclared.TheVariants as bases
use Rattle.types_spec.specs.declared.types.decl.Arguments.{Arguments}
use Rattle.types_spec.specs.declared.types.decl.Arguments.TheVariants as arguments
use Rattle.types_spec.specs.declared.types.decl.Constructor.{Constructor}
use Rattle.types_spec.specs.declared.types.decl.Field.{Field}
use Rattle.types_spec.specs.declared.types.decl.Body.{Body}
use Rattle.types_spec.specs.declared.types.decl.Body.TheVariants as bodies
use Rattle.types_spec.specs.declared.types.decl.Decl.{Decl}
use Rattle.types_spec.specs.declared.types.head.TagOf.{TagOf}
use Rattle.types_spec.specs.declared.types.head.HeadOf.{HeadOf}
use Rattle.types_spec.specs.declared.types.head.HeadOf.TheVariants as heads
use Rattle.types_spec.specs.declared.types.shape.Constr.{Constr}
use Rattle.types_spec.specs.declared.types.shape.ShapeOf.TheVariants as shapes
use Rattle.types_spec.specs.types.Ty.{Ty, instance}
use Rattle.types_spec.specs.types.Declarations.{declaration_of, instance_of}
use Rattle.types_spec.specs.types.Head.{head}
use Rattle.types_spec.specs.types.Shape.{any_mutable, types_of_fields, block_of, blocks_in, array_of, is_flat, constants_in}
use Rattle.types_spec.specs.types.Shape.{record_shape, body_shape, datatype_shape, tag_shape, head_shape, shape}
use Rattle.types_spec.specs.types.Predeclared.{sum_at, name_at}
use Rattle.types_spec.proofs.types.SumTypes.{sum-instance}
use Rattle.types_spec.specs.types.WellFormed.{VariablesAmong, types_of_arguments, types_of_body, IsSoundType, AreWellFormed}
use Rattle.types_spec.specs.types.Reached.{parts_of}
use Rattle.types_spec.specs.types.Table.{constr_with, tag_with_parts, with_parts, tag_with_part, head_with_parts}
use Rattle.types_theory.proofs.equality.EqualityInstanceLemmas.{instance-instance}
use Rattle.types_theory.proofs.equality.HeadInstance.{IsNoVariable, head-instance, includes_of}
use Rattle.types_theory.proofs.equality.HeadVariable.{head-variable}
use Rattle.types_theory.proofs.equality.EqualitySoundLemmas.{head_parts_sound}
use Rattle.types_theory.proofs.type_variables.ArityLemmas.{as_many}

pub variable_or_not : (h : HeadOf Ty) → ((x : List ℕ) × (h ≡ heads.Variable x)) ⊎ IsNoVariable h
variable_or_not (heads.Variable x) = inl (x, refl)
variable_or_not (heads.Predeclared b ts) = inr tt
variable_or_not (heads.Datatype n ts) = inr tt
variable_or_not (heads.Tuple ts) = inr tt
variable_or_not (heads.Variants tags) = inr tt
variable_or_not heads.Absent = inr tt

module _ (decls : List Decl) (value : List ℕ → Ty) where
  abbrev pub inst : Ty → Ty
  inst t = instance value t

  -- ---- declarations

  module _ (d : Decl) (ts : List Ty) (many : length ts ≡ length d.parameters) where
    abbrev outer : Ty → Ty
    outer t = instance_of d (map inst ts) t

    abbrev inner : Ty → Ty
    inner t = instance_of d ts t

    abbrev AllAmong : List Ty → Type 0
    AllAmong us = (u : Ty) → Contains us u → VariablesAmong d.parameters u

    types_become : (us : List Ty) → AllAmong us → map outer us ≡ map inst (map inner us)
    types_become [] among = refl
    types_become (u ∷ us) among =
        ap (λ w. w ∷ map outer us) (instance-instance value d.parameters ts many u (among u (Contains-first u us)))
        ∙ ap (λ rest. inst (inner u) ∷ rest) (types_become us (λ w has. among w (Contains-later u us w has)))

    block_becomes : (given : Arguments) → AllAmong (types_of_arguments given)
        → block_of outer given ≡ option_map (constr_with inst) (block_of inner given)
    block_becomes arguments.Constant among = refl
    block_becomes (arguments.Listed types) among =
        ap (λ (fields : List Ty). Some (record { mutable = false; fields = fields })) (types_become types among)
    block_becomes (arguments.Inline fields) among =
        ap (λ (all : List Ty). Some (record { mutable = any_mutable fields; fields = all }))
        (types_become (types_of_fields fields) among)

    joined : (one : Option (Constr Ty)) (rest : List (Constr Ty))
        → cons_option (option_map (constr_with inst) one) (map (constr_with inst) rest) ≡ map (constr_with inst) (cons_option one rest)
    joined None rest = refl
    joined (Some c) rest = refl

    blocks_become : (all : List Constructor)
        → ((c : Constructor) → Contains all c → AllAmong (types_of_arguments c.arguments))
        → blocks_in outer all ≡ map (constr_with inst) (blocks_in inner all)
    blocks_become [] among = refl
    blocks_become (c ∷ all) among =
        ap (λ one. cons_option one (blocks_in outer all)) (block_becomes c.arguments (among c (Contains-first c all)))
        ∙ ap (cons_option (option_map (constr_with inst) (block_of inner c.arguments)))
        (blocks_become all (λ e has. among e (Contains-later c all e has)))
        ∙ joined (block_of inner c.arguments) (blocks_in inner all)

    record_becomes : (fields : List Field) (flat : Bool) → AllAmong (types_of_fields fields)
        → record_shape outer fields flat ≡ with_parts inst (record_shape inner fields flat)
    record_becomes fields true among = refl
    record_becomes fields false among =
        ap (λ (us : List Ty). shapes.Product (any_mutable fields) us) (types_become (types_of_fields fields) among)

    body_becomes : (body : Body) → AllAmong (types_of_body body)
        → body_shape decls outer body ≡ with_parts inst (body_shape decls inner body)
    body_becomes (bodies.Abbreviation t) among = refl
    body_becomes (bodies.Record fields) among = record_becomes fields (is_flat decls fields) among
    body_becomes (bodies.Variant all) among =
        ap (λ (blocks : List (Constr Ty)). shapes.Sum (constants_in all) blocks)
        (blocks_become all (λ c has u in_it. among u
        (Contains-flat_map (λ (c : Constructor). types_of_arguments c.arguments) all c u has in_it)))

  -- ---- heads

  tags_become : (tags : List (TagOf Ty))
      → map tag_shape (map (tag_with_part inst) tags) ≡ map (tag_with_parts inst) (map tag_shape tags)
  tags_become [] = refl
  tags_become (t ∷ tags) = ap (λ rest. tag_with_parts inst (tag_shape t) ∷ rest) (tags_become tags)

  abbrev HeadBecomes : HeadOf Ty → Type 0
  HeadBecomes h = head_shape decls (head_with_parts inst h) ≡ with_parts inst (head_shape decls h)

  array_becomes : (h : HeadOf Ty) (a : Ty) → IsNoVariable h
      → array_of (head_with_parts inst h) (inst a) ≡ with_parts inst (array_of h a)
  array_becomes (heads.Variable x) a free = absurd free
  array_becomes (heads.Predeclared b ts) a free = by_base b where
    by_base : (base : Predeclared)
        → array_of (head_with_parts inst (heads.Predeclared base ts)) (inst a) ≡ with_parts inst (array_of (heads.Predeclared base ts) a)
    by_base bases.Float = refl
    by_base bases.Any = refl
    by_base base = refl
  array_becomes (heads.Datatype n ts) a free = refl
  array_becomes (heads.Tuple ts) a free = refl
  array_becomes (heads.Variants tags) a free = refl
  array_becomes heads.Absent a free = refl

module _ (decls : List Decl) (well : AreWellFormed decls) (value : List ℕ → Ty) where
  abbrev new : Ty → Ty
  new t = instance value t

  abbrev pub Commutes : Ty → Type 0
  Commutes t = head decls (new t) ≡ head_with_parts new (head decls t)

  -- The shape of the instance of `t` is the shape of `t`, with instances as parts.
  abbrev pub Same : Ty → Type 0
  Same t = shape decls (new t) ≡ with_parts new (shape decls t)

  -- The head of `t` is the predeclared type of arrays, and the head of the element type is a
  -- variable.
  abbrev pub IsArray : Ty → Type 0
  IsArray t = (a : Ty) × (x : List ℕ) × (head decls t ≡ heads.Predeclared bases.Array (a ∷ [])) × (head decls a ≡ heads.Variable x)

  abbrev pub IsVariableAt : Ty → Type 0
  IsVariableAt t = (x : List ℕ) × (head decls t ≡ heads.Variable x)

  abbrev pub Becomes : Ty → Type 0
  Becomes t = IsVariableAt t ⊎ (Commutes t × (Same t ⊎ IsArray t))

  pub commutes : (t : Ty) → IsSoundType decls t → IsNoVariable (head decls t) → Commutes t
  commutes t s free = head-instance decls well value t s.written s.arguments (includes_of decls well t s.brackets) free

  -- If the head of a type is a variable, then the head of an instance is the head of the type that
  -- replaces the variable.
  pub replaced : (t : Ty) → IsSoundType decls t → (x : List ℕ) → head decls t ≡ heads.Variable x
      → head decls (new t) ≡ head decls (value x)
  replaced t s x is = head-variable decls well value x t s.written s.arguments is

  module _ (t : Ty) (s : IsSoundType decls t) where
    same_by : (h : HeadOf Ty) → head decls t ≡ h → IsNoVariable h
        → head_shape decls (head_with_parts new h) ≡ with_parts new (head_shape decls h) → Same t
    same_by h is free becomes' =
        let commuted = commutes t s (subst IsNoVariable (sym is) free) in
        ap (head_shape decls) (commuted ∙ ap (head_with_parts new) is) ∙ becomes'
        ∙ ap (λ k. with_parts new (head_shape decls k)) (sym is)

    argument_sound : (b : Predeclared) (a : Ty) → head decls t ≡ heads.Predeclared b (a ∷ []) → IsSoundType decls a
    argument_sound b a is =
        head_parts_sound decls well t a s (subst (λ (h : HeadOf Ty). Contains (parts_of h) a) (sym is) (Contains-first a []))

    array_case : (a : Ty) → head decls t ≡ heads.Predeclared bases.Array (a ∷ [])
        → ((x : List ℕ) × (head decls a ≡ heads.Variable x)) ⊎ IsNoVariable (head decls a) → Same t ⊎ IsArray t
    array_case a is (inl at) = inr (a, at.0, is, at.1)
    array_case a is (inr free) =
        let commuted = commutes a (argument_sound bases.Array a is) free in
        inl (same_by (heads.Predeclared bases.Array (a ∷ [])) is tt
        (ap (λ h. array_of h (new a)) commuted ∙ array_becomes decls value (head decls a) a free))

    by_predeclared : (b : Predeclared) (ts : List Ty) → head decls t ≡ heads.Predeclared b ts → Same t ⊎ IsArray t
    by_predeclared (bases.Sum k) ts is =
        inl (same_by (heads.Predeclared (bases.Sum k) ts) is tt (sum-instance value (name_at k) ts (sum_at k)))
    by_predeclared bases.Array (a ∷ []) is = array_case a is (variable_or_not (head decls a))
    by_predeclared bases.Int [] is = inl (same_by (heads.Predeclared bases.Int []) is tt refl)
    by_predeclared b [] is = inl (same_by (heads.Predeclared b []) is tt refl)
    by_predeclared bases.Int (a ∷ []) is = inl (same_by (heads.Predeclared bases.Int (a ∷ [])) is tt refl)
    by_predeclared b (a ∷ []) is = inl (same_by (heads.Predeclared b (a ∷ [])) is tt refl)
    by_predeclared bases.Int (a ∷ c ∷ ts) is = inl (same_by (heads.Predeclared bases.Int (a ∷ c ∷ ts)) is tt refl)
    by_predeclared b (a ∷ c ∷ ts) is = inl (same_by (heads.Predeclared b (a ∷ c ∷ ts)) is tt refl)

    datatype_becomes : (n : List ℕ) (ts : List Ty) → head decls t ≡ heads.Datatype n ts → (found : Option Decl)
        → declaration_of decls n ≡ found
        → datatype_shape decls found (map new ts) ≡ with_parts new (datatype_shape decls found ts)
    datatype_becomes n ts is None found = refl
    datatype_becomes n ts is (Some d) found =
        body_becomes decls value d ts (as_many decls well t s n ts is d found) d.body
        (λ u has. well.variables n d u found has)

    by_head : (h : HeadOf Ty) → head decls t ≡ h → Becomes t
    by_head (heads.Variable x) is = inl (x, is)
    by_head (heads.Predeclared b ts) is =
        inr (commutes t s (subst IsNoVariable (sym is) tt), by_predeclared b ts is)
    by_head (heads.Datatype n ts) is = inr (
      commutes t s (subst IsNoVariable (sym is) tt),
      inl (same_by (heads.Datatype n ts) is tt (datatype_becomes n ts is (declaration_of decls n) refl)),
    )
    by_head (heads.Tuple ts) is =
        inr (commutes t s (subst IsNoVariable (sym is) tt), inl (same_by (heads.Tuple ts) is tt refl))
    by_head (heads.Variants tags) is = inr (
      commutes t s (subst IsNoVariable (sym is) tt),
      inl (same_by (heads.Variants tags) is tt (ap (λ all. shapes.Poly all) (tags_become decls value tags))),
    )
    by_head heads.Absent is =
        inr (commutes t s (subst IsNoVariable (sym is) tt), inl (same_by heads.Absent is tt refl))

    pub becomes : Becomes t
    becomes = by_head (head decls t) refl
