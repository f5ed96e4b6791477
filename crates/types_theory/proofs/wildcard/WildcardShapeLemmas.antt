-- If declared types are hidden, then the shapes of types stay the same, except for hidden types and
-- arrays of hidden types.
use Rattle.std.proofs.Common.{ℕ, ◌≡◌, ◌∙◌, List, [], ◌∷◌, Bool, true, false, cond}
use Rattle.std.proofs.Common.{Option, Some, None, refl, ap, subst, sym}
use Rattle.std.specs.Prelude.{Contains, IsSome, IsTrue, slice_get, option_and_then, ◌&&◌}
use Rattle.std.proofs.lemmas.Bool.{false≢true}
use Rattle.base_data.proofs.model.Options.{Contains-none}
use Rattle.base_data.specs.declared.model.value.Val.{Val}
use Rattle.base_data.specs.declared.model.value.Val.TheVariants as vals
use Rattle.base_data.specs.declared.model.value.Obj.{Obj}
use Rattle.base_data.specs.declared.model.value.Obj.TheVariants as objects
use Rattle.types_spec.specs.declared.types.decl.Predeclared.{Predeclared}
use Rattle.types_spec.specs.declared.types.decl.Predeclared.TheVariants as bases
use Rattle.types_spec.specs.declared.types.decl.Field.{Field}
use Rattle.types_spec.specs.declared.types.decl.Body.{Body}
use Rattle.types_spec.specs.declared.types.decl.Body.TheVariants as bodies
use Rattle.types_spec.specs.declared.types.decl.Decl.{Decl}
use Rattle.types_spec.specs.declared.types.head.HeadOf.{HeadOf}
use Rattle.types_spec.specs.declared.types.head.HeadOf.TheVariants as heads
use Rattle.types_spec.specs.declared.types.shape.ShapeOf.{ShapeOf}
use Rattle.types_spec.specs.declared.types.shape.ShapeOf.TheVariants as shapes
use Rattle.types_spec.specs.types.Ty.{Ty}
use Rattle.types_spec.specs.types.Declarations.{declaration_of, instance_of}
use Rattle.types_spec.specs.types.Head.{head}
use Rattle.types_spec.specs.types.Shape.{is_float_head, is_float, is_flat, array_of, predeclared_shape}
use Rattle.types_spec.specs.types.Shape.{record_shape, body_shape, datatype_shape, head_shape, shape}
use Rattle.types_spec.specs.types.Fitting.{object_fields, fields_of, is_mutable, or_none, is_asked}
use Rattle.types_spec.specs.types.Equal.{Pairwise, HeadsAgree, Holds, EqualBy, declared_shapes}
use Rattle.types_spec.specs.types.WellFormed.{AreWellFormed}
use Rattle.types_spec.proofs.types.TypeAskedLemmas.{asked_is, is_needed}
use Rattle.types_theory.specs.wildcard.Weaker.{IsWeaker}
use Rattle.types_theory.specs.wildcard.Wildcard.{hide, HidesDatatypes, wildcard_head}
use Rattle.types_theory.proofs.wildcard.WildcardHeadLemmas.{same_wildcard, shown_declared, heads_wildcard}

-- ---- shapes that require less

abbrev Fields : Type 0
Fields = List (ℕ × Ty)

-- If a value matches the first shape, then the value matches the second shape, which requires no
-- more fields.
abbrev AreFewer : Option Fields → Option Fields → Type 0
AreFewer all few = IsSome all → IsSome few
    × ((i : ℕ) (u : Ty) → Contains (or_none few) (i, u) → Contains (or_none all) (i, u))

never : {A : Type 0} → IsSome {T = Fields} None → A
never some = absurd (false≢true some)

none_there : (all : Option Fields) → AreFewer all (Some [])
none_there all some = (refl, λ i u has. absurd (Contains-none {X = ℕ × Ty} (i, u) has))

any_object : (s : ShapeOf Ty) (object : Obj) → AreFewer (object_fields s object) (object_fields shapes.Anything object)
any_object s (objects.Block tag values) = none_there (object_fields s (objects.Block tag values))
any_object s object = none_there (object_fields s object)

array_object : (t : Ty) (object : Obj)
    → AreFewer (object_fields (shapes.ArrayOf t) object) (object_fields (shapes.ArrayOfAnything t) object)
array_object t (objects.Block tag values) some = (some, λ i u has. has)
array_object t object some = never some

-- If the relation `AreFewer` holds for integers, atoms and objects, then it holds for each value.
of_value : (s l : ShapeOf Ty) (graph : List Obj) (v : Val)
    → ((z : _) → AreFewer (fields_of graph (vals.Int z) s) (fields_of graph (vals.Int z) l))
    → ((tag : ℕ) → AreFewer (fields_of graph (vals.Atom tag) s) (fields_of graph (vals.Atom tag) l))
    → ((object : Obj) → AreFewer (object_fields s object) (object_fields l object))
    → AreFewer (fields_of graph v s) (fields_of graph v l)
of_value s l graph (vals.Int z) int atom each = int z
of_value s l graph (vals.Atom tag) int atom each = atom tag
of_value s l graph (vals.Ref o) int atom each = by (slice_get graph o) where
  by : (found : Option Obj)
      → AreFewer (option_and_then (object_fields s) found) (option_and_then (object_fields l) found)
  by None some = never some
  by (Some object) some = each object some

-- The shape `l` requires less than the shape `s` of each value that matches `s`.
record IsLooser (s l : ShapeOf Ty) : Type 0 where
  fewer : (graph : List Obj) (v : Val) → AreFewer (fields_of graph v s) (fields_of graph v l)
  asked : IsTrue (is_asked l) → IsTrue (is_asked s)
  mutable : (object : Option Obj) → IsTrue (is_mutable l object) → IsTrue (is_mutable s object)

any_looser : (s : ShapeOf Ty) → IsLooser s shapes.Anything
any_looser s = record {
  fewer = λ graph v. of_value s shapes.Anything graph v
      (λ z. none_there (fields_of graph (vals.Int z) s))
      (λ tag. none_there (fields_of graph (vals.Atom tag) s)) (any_object s);
  asked = λ asked. absurd (false≢true asked);
  mutable = λ object mutable. absurd (false≢true mutable);
}

itself : (s : ShapeOf Ty) → IsLooser s s
itself s = record {
  fewer = λ graph v some. (some, λ i u has. has);
  asked = λ asked. asked;
  mutable = λ object mutable. mutable;
}

array_looser : (t : Ty) → IsLooser (shapes.ArrayOf t) (shapes.ArrayOfAnything t)
array_looser t = record {
  fewer = λ graph v. of_value (shapes.ArrayOf t) (shapes.ArrayOfAnything t) graph v
      (λ z some. never some) (λ tag some. (some, λ i u has. has)) (array_object t);
  asked = λ asked. refl;
  mutable = λ object mutable. refl;
}

-- ---- heads that agree

module _ (hides : List ℕ → Bool) (Agree : Ty → Ty → Type 0) where
  data_types_agree : (m : List ℕ) (ts us : List Ty) → Pairwise Agree ts us
      → HeadsAgree Agree (wildcard_head hides (heads.Datatype m ts)) (wildcard_head hides (heads.Datatype m us))
  data_types_agree m ts us matching = by (hides m) where
    by : (test : Bool) → HeadsAgree Agree (cond test (heads.Predeclared bases.Any []) (heads.Datatype m ts))
        (cond test (heads.Predeclared bases.Any []) (heads.Datatype m us))
    by true = (refl, tt)
    by false = (refl, matching)

  wildcard_agree : (h k : HeadOf Ty) → HeadsAgree Agree h k
      → HeadsAgree Agree (wildcard_head hides h) (wildcard_head hides k)
  wildcard_agree (heads.Variable x) (heads.Variable y) agree = agree
  wildcard_agree (heads.Predeclared b ts) (heads.Predeclared c us) agree = agree
  wildcard_agree (heads.Datatype m ts) (heads.Datatype n us) agree =
      subst (λ a. HeadsAgree Agree (wildcard_head hides (heads.Datatype m ts)) (wildcard_head hides (heads.Datatype a us)))
      agree.0 (data_types_agree m ts us agree.1)
  wildcard_agree (heads.Tuple ts) (heads.Tuple us) agree = agree
  wildcard_agree (heads.Variants tags) (heads.Variants others) agree = agree
  wildcard_agree heads.Absent heads.Absent agree = agree
  wildcard_agree h k agree = absurd agree

-- ---- the shape of a type

module _ (hides : List ℕ → Bool) (decls : List Decl) (well : AreWellFormed decls)
    (datatypes : HidesDatatypes hides decls) where
  abbrev less : List Decl
  less = hide hides decls

  abbrev wildcard : HeadOf Ty → HeadOf Ty
  wildcard h = wildcard_head hides h

  head_is : (t : Ty) → head less t ≡ wildcard (head decls t)
  head_is t = heads_wildcard hides decls well datatypes t

  float_same : (t : Ty) → is_float less t ≡ is_float decls t
  float_same t = ap is_float_head (head_is t) ∙ same_wildcard hides is_float_head (λ n ts. refl) (head decls t)

  flat_same : (fields : List Field) → is_flat less fields ≡ is_flat decls fields
  flat_same [] = refl
  flat_same (field ∷ fields) =
      ap (λ b. b && is_flat less fields) (float_same field.ty)
      ∙ ap (λ b. is_float decls field.ty && b) (flat_same fields)

  body_same : (inst : Ty → Ty) (body : Body) → body_shape less inst body ≡ body_shape decls inst body
  body_same inst (bodies.Abbreviation t) = refl
  body_same inst (bodies.Record fields) = ap (record_shape inst fields) (flat_same fields)
  body_same inst (bodies.Variant constructors) = refl

  array_of_looser : (h : HeadOf Ty) (t : Ty) → IsLooser (array_of h t) (array_of (wildcard h) t)
  array_of_looser (heads.Datatype n ts) t = by (hides n) where
    by : (test : Bool) → IsLooser (shapes.ArrayOf t)
        (array_of (cond test (heads.Predeclared bases.Any []) (heads.Datatype n ts)) t)
    by true = array_looser t
    by false = itself (shapes.ArrayOf t)
  array_of_looser h t = itself (array_of h t)

  base_looser : (b : Predeclared) (ts : List Ty)
      → IsLooser (predeclared_shape decls b ts) (predeclared_shape less b ts)
  base_looser (bases.Sum k) ts = itself (predeclared_shape decls (bases.Sum k) ts)
  base_looser bases.Array (t ∷ []) =
      subst (λ h. IsLooser (array_of (head decls t) t) (array_of h t)) (sym (head_is t))
      (array_of_looser (head decls t) t)
  base_looser bases.Int [] = itself (predeclared_shape decls bases.Int [])
  base_looser b [] = itself (predeclared_shape decls b [])
  base_looser bases.Int (t ∷ []) = itself (predeclared_shape decls bases.Int (t ∷ []))
  base_looser b (t ∷ []) = itself (predeclared_shape decls b (t ∷ []))
  base_looser bases.Int (t ∷ u ∷ ts) = itself (predeclared_shape decls bases.Int (t ∷ u ∷ ts))
  base_looser b (t ∷ u ∷ ts) = itself (predeclared_shape decls b (t ∷ u ∷ ts))

  data_type_looser : (n : List ℕ) (ts : List Ty) (test : Bool) → hides n ≡ test
      → IsLooser (datatype_shape decls (declaration_of decls n) ts)
      (head_shape less (cond test (heads.Predeclared bases.Any []) (heads.Datatype n ts)))
  data_type_looser n ts true is = any_looser (datatype_shape decls (declaration_of decls n) ts)
  data_type_looser n ts false is =
      subst (IsLooser (datatype_shape decls (declaration_of decls n) ts))
      (sym (ap (λ found. datatype_shape less found ts) (shown_declared hides decls n is)
      ∙ by (declaration_of decls n)))
      (itself (datatype_shape decls (declaration_of decls n) ts)) where
        by : (found : Option Decl) → datatype_shape less found ts ≡ datatype_shape decls found ts
        by None = refl
        by (Some d) = body_same (instance_of d ts) d.body

  head_looser : (h : HeadOf Ty) → IsLooser (head_shape decls h) (head_shape less (wildcard h))
  head_looser (heads.Predeclared b ts) = base_looser b ts
  head_looser (heads.Datatype n ts) = data_type_looser n ts (hides n) refl
  head_looser h = itself (head_shape decls h)

  looser : (t : Ty) → IsLooser (shape decls t) (shape less t)
  looser t = subst (λ h. IsLooser (shape decls t) (head_shape less h)) (sym (head_is t)) (head_looser (head decls t))

  -- ---- the shapes of declared types

  equal_still : (t u : Ty) → EqualBy (head decls) t u → EqualBy (head less) t u
  equal_still t u equal = record {
    pairs = equal.pairs;
    holds = equal.holds;
    closed = λ a b held.
        subst (λ h. HeadsAgree (Holds equal.pairs) h (head less b)) (sym (head_is a))
        (subst (λ h. HeadsAgree (Holds equal.pairs) (wildcard (head decls a)) h) (sym (head_is b))
        (wildcard_agree hides (Holds equal.pairs) (head decls a) (head decls b) (equal.closed a b held)));
  }

  pub weaker : IsWeaker (declared_shapes less) (declared_shapes decls)
  weaker = record {
    fits = λ graph v t fit. ((looser t).fewer graph v fit).0;
    needs = λ graph v t i u fit need.
        let is = asked_is (shape less) (or_none (fields_of graph v (shape less t))) i u need in
        is_needed (shape decls) (or_none (fields_of graph v (shape decls t))) i u
        (((looser t).fewer graph v fit).1 i u is.0)
        ((looser u).asked is.1);
    mutable = λ graph o t fit mutable.
        (fit, (looser t).mutable (slice_get graph o) mutable.1);
    equal = equal_still;
  }
