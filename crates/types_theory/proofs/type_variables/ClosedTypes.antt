-- Closed types: three predeclared types, and tuples of integers. For each value, one of the three
-- predeclared types does not match the value.
use Rattle.std.proofs.Common.{ℕ, zero, suc, ◌≡◌, ◌∙◌, ⊎_elim, inl, inr, List, [], ◌∷◌, ◌++◌, length, refl, ap, subst, sym}
use Rattle.std.proofs.Common.{Option, Some, None, true}
use Rattle.std.specs.Prelude.{Contains, codes, slice_get, option_and_then, option_map, map}
use Rattle.std.proofs.lemmas.Option.{none-some}
use Rattle.std.proofs.lemmas.List.Elements.{Contains-append_cases}
use Rattle.base_data.proofs.model.Options.{Contains-first, Contains-later, Contains-none, Contains-cases}
use Rattle.base_data.specs.declared.model.value.Val.{Val}
use Rattle.base_data.specs.declared.model.value.Val.TheVariants as vals
use Rattle.base_data.specs.declared.model.value.Obj.{Obj}
use Rattle.base_data.specs.declared.model.value.Obj.TheVariants as objects
use Rattle.types_spec.specs.declared.types.decl.Predeclared.{Predeclared}
use Rattle.types_spec.specs.declared.types.decl.Predeclared.TheVariants as bases
use Rattle.types_spec.specs.declared.types.decl.Decl.{Decl}
use Rattle.types_spec.specs.declared.types.head.HeadOf.{HeadOf}
use Rattle.types_spec.specs.declared.types.head.HeadOf.TheVariants as heads
use Rattle.types_spec.specs.declared.types.shape.ShapeOf.{ShapeOf}
use Rattle.types_spec.specs.declared.types.shape.ShapeOf.TheVariants as shapes
use Rattle.types_spec.specs.types.Ty.{Ty, named, tuple, part, name_of, parts, instance}
use Rattle.types_spec.specs.types.Declarations.{predeclared, declaration_of, abbreviated_at, abbreviated_by, arity_in}
use Rattle.types_spec.specs.types.Head.{head_meant, with_part, plain_head, head}
use Rattle.types_spec.specs.types.Shape.{array_of, predeclared_shape, head_shape, shape}
use Rattle.types_spec.specs.types.Fitting.{object_fields, fields_of, is_asked}
use Rattle.types_spec.specs.types.WellFormed.{IsWhole, TakeArguments, VariablesAmong, HasSoundBrackets, IsSoundType, AreWellFormed}
use Rattle.types_spec.specs.types.Reached.{named_in, parts_of, reached_from}
use Rattle.types_spec.specs.types.Table.{head_with_parts}
use Rattle.types_theory.proofs.equality.HeadInstance.{plain}
use Rattle.types_theory.proofs.equality.EqualityPartsLemmas.{fields_of_mapped}
use Rattle.types_theory.proofs.equality.EqualitySoundLemmas.{head_parts_sound}
use Rattle.types_theory.specs.type_variables.TypeVariables.{IsClosedType}
use Rattle.types_theory.proofs.type_variables.ArityLemmas.{length-push}
use Rattle.types_theory.proofs.type_variables.InstanceShapes.{Becomes, becomes, replaced}
use Rattle.types_theory.proofs.type_variables.InstanceFields.{array_shape, new_need}

only_is : {X : Type 0} (x y : X) → Contains (x ∷ []) y → x ≡ y
only_is x y among = ⊎_elim (λ here. here) (λ never. absurd (Contains-none y never)) (Contains-cases x [] y among)

abbrev pub int : Ty
int = named (codes "int")

module _ (decls : List Decl) (well : AreWellFormed decls) where
  -- ---- predeclared types without arguments

  module _ (n : List ℕ) (b : Predeclared) (is : predeclared n ≡ Some b) where
    no_abbreviation : (found : Option Decl) → declaration_of decls n ≡ found → abbreviated_at found [] ≡ None
    no_abbreviation None found = refl
    no_abbreviation (Some d) found = absurd (none-some b (sym (well.new_names n d found) ∙ is))

    pub base_head : head decls (named n) ≡ heads.Predeclared b []
    base_head = plain decls well (named n) (no_abbreviation (declaration_of decls n) refl) ∙ ap (λ base. head_meant base n) is

    pub base_reaches : named_in (predeclared_shape decls b []) ≡ [] → (a : Ty) → Contains (reached_from decls (named n)) a → ⊥
    base_reaches nothing a has =
        let at_head = subst (λ (h : HeadOf Ty). Contains (named_in (head_shape decls h) ++ parts_of h) a) base_head has in
        ⊎_elim
        (λ in_shape. Contains-none a (subst (λ (ts : List Ty). Contains ts a) nothing in_shape))
        (λ in_head. Contains-none a in_head)
        (Contains-append_cases (named_in (predeclared_shape decls b [])) [] a at_head)

    pub base_sound : arity_in (Some b) (declaration_of decls n) ≡ Some 0 → IsSoundType decls (named n)
    base_sound none = record {
      written = inr tt;
      arguments = ap (λ base. arity_in base (declaration_of decls n)) is ∙ none;
      brackets = tt;
    }

    pub base_closed : arity_in (Some b) (declaration_of decls n) ≡ Some 0 → named_in (predeclared_shape decls b []) ≡ []
        → IsClosedType decls (named n)
    base_closed none nothing = record {
      no_variables = tt;
      types = named n ∷ [];
      own = Contains-first (named n) [];
      sound = λ u among. subst (IsSoundType decls) (only_is (named n) u among) (base_sound none);
      reached = λ u a among has. absurd (base_reaches nothing a
          (subst (λ w. Contains (reached_from decls w) a) (sym (only_is (named n) u among)) has));
    }

  int_is : predeclared (codes "int") ≡ Some bases.Int
  unfolding predeclared
  int_is = refl

  string_is : predeclared (codes "string") ≡ Some bases.String
  unfolding predeclared
  string_is = refl

  float_is : predeclared (codes "float") ≡ Some bases.Float
  unfolding predeclared
  float_is = refl

  -- ---- tuples of integers

  abbrev pub tuple_of : ℕ → Ty
  tuple_of zero = tuple
  tuple_of (suc n) = part (tuple_of n) int

  abbrev pub ints : ℕ → List Ty
  ints zero = []
  ints (suc n) = ints n ++ int ∷ []

  pub length_ints : (n : ℕ) → length (ints n) ≡ n
  length_ints zero = refl
  length_ints (suc n) = length-push (ints n) int ∙ ap suc (length_ints n)

  ints_are : (n : ℕ) (u : Ty) → Contains (ints n) u → int ≡ u
  ints_are zero u among = absurd (Contains-none u among)
  ints_are (suc n) u among =
      ⊎_elim (λ prefix. ints_are n u prefix) (λ last. only_is int u last) (Contains-append_cases (ints n) (int ∷ []) u among)

  no_name : (n : ℕ) → name_of (tuple_of n) ≡ None
  no_name zero = refl
  no_name (suc n) = no_name n

  tuple_plain : (f : Ty → HeadOf Ty) (n : ℕ) → plain_head f (tuple_of n) ≡ heads.Tuple (ints n)
  tuple_plain f zero = refl
  tuple_plain f (suc n) = ap (λ h. with_part h int) (tuple_plain f n)

  pub tuple_head : (n : ℕ) → head decls (tuple_of n) ≡ heads.Tuple (ints n)
  tuple_head n =
      plain decls well (tuple_of n) (ap (λ name. abbreviated_by decls name (parts (tuple_of n))) (no_name n))
      ∙ tuple_plain (head decls) n

  tuple_whole : (n : ℕ) → IsWhole (tuple_of n)
  tuple_whole zero = tt
  tuple_whole (suc n) = (tuple_whole n, inr tt)

  tuple_takes : (n k : ℕ) → TakeArguments decls k (tuple_of n)
  tuple_takes zero k = tt
  tuple_takes (suc n) k = (tuple_takes n (suc k), (base_sound (codes "int") bases.Int int_is refl).arguments)

  tuple_brackets : (n : ℕ) → HasSoundBrackets decls (tuple_of n)
  tuple_brackets zero = tt
  tuple_brackets (suc n) = (tuple_brackets n, tt)

  tuple_variables : (n : ℕ) → VariablesAmong [] (tuple_of n)
  tuple_variables zero = tt
  tuple_variables (suc n) = (tuple_variables n, tt)

  pub tuple_closed : (n : ℕ) → IsClosedType decls (tuple_of n)
  tuple_closed n = record {
    no_variables = tuple_variables n;
    types = tuple_of n ∷ int ∷ [];
    own = Contains-first (tuple_of n) (int ∷ []);
    sound = λ u among. ⊎_elim
        (λ here. subst (IsSoundType decls) here
        (record { written = inr (tuple_whole n); arguments = tuple_takes n 0; brackets = tuple_brackets n }))
        (λ later. subst (IsSoundType decls) (only_is int u later) (base_sound (codes "int") bases.Int int_is refl))
        (Contains-cases (tuple_of n) (int ∷ []) u among);
    reached = λ u a among has. ⊎_elim
        (λ here. from_tuple a (subst (λ w. Contains (reached_from decls w) a) (sym here) has))
        (λ later. absurd (base_reaches (codes "int") bases.Int int_is refl a
        (subst (λ w. Contains (reached_from decls w) a) (sym (only_is int u later)) has)))
        (Contains-cases (tuple_of n) (int ∷ []) u among);
  } where
    from_tuple : (a : Ty) → Contains (reached_from decls (tuple_of n)) a → Contains (tuple_of n ∷ int ∷ []) a
    from_tuple a has =
        let at_head : Contains (ints n ++ ints n) a =
        subst (λ (h : HeadOf Ty). Contains (named_in (head_shape decls h) ++ parts_of h) a) (tuple_head n) has in
        let is : int ≡ a = ⊎_elim (λ prefix. ints_are n a prefix) (λ back. ints_are n a back)
        (Contains-append_cases (ints n) (ints n) a at_head) in
        Contains-later (tuple_of n) (int ∷ []) a (subst (Contains (int ∷ [])) is (Contains-first int []))

  -- ---- a closed type that a value does not match

  pub record IsAway (graph : List Obj) (v : Val) : Type 0 where
    pub closed_type : Ty
    pub base : Predeclared
    pub closed : IsClosedType decls closed_type
    pub head_is : head decls closed_type ≡ heads.Predeclared base []
    pub asked : is_asked (predeclared_shape decls base []) ≡ true
    pub away : fields_of graph v (predeclared_shape decls base []) ≡ None
    pub array_away :
        (a : Ty) → fields_of {T = Ty} graph v shapes.ArrayOfVariable ≡ None
        → fields_of graph v (array_of (heads.Predeclared base []) a) ≡ None

  at_object : (graph : List Obj) (o : ℕ) (s : ShapeOf Ty) (object : Obj) → slice_get graph o ≡ Some object
      → object_fields s object ≡ None → fields_of graph (vals.Ref o) s ≡ None
  at_object graph o s object is none = ap (option_and_then (object_fields s)) is ∙ none

  by_int : (graph : List Obj) (o : ℕ) (object : Obj) → slice_get graph o ≡ Some object
      → object_fields {T = Ty} shapes.AnyInt object ≡ None → ((a : Ty) → object_fields (shapes.ArrayOf a) object ≡ None)
      → IsAway graph (vals.Ref o)
  by_int graph o object is none none_in_array = record {
    closed_type = int;
    base = bases.Int;
    closed = base_closed (codes "int") bases.Int int_is refl refl;
    head_is = base_head (codes "int") bases.Int int_is;
    asked = refl;
    away = at_object graph o shapes.AnyInt object is none;
    array_away = λ a unfit. at_object graph o (shapes.ArrayOf a) object is (none_in_array a);
  }

  for_object : (graph : List Obj) (o : ℕ) (object : Obj) → slice_get graph o ≡ Some object → IsAway graph (vals.Ref o)
  for_object graph o (objects.Block tag values) is = record {
    closed_type = named (codes "float");
    base = bases.Float;
    closed = base_closed (codes "float") bases.Float float_is refl refl;
    head_is = base_head (codes "float") bases.Float float_is;
    asked = refl;
    away = at_object graph o shapes.Double (objects.Block tag values) is refl;
    array_away = λ a unfit. at_object graph o shapes.FloatArray (objects.Block tag values) is refl;
  }
  for_object graph o (objects.Bytes bytes) is = by_int graph o (objects.Bytes bytes) is refl (λ a. refl)
  for_object graph o (objects.Double bits) is = by_int graph o (objects.Double bits) is refl (λ a. refl)
  for_object graph o (objects.Doubles all) is = by_int graph o (objects.Doubles all) is refl (λ a. refl)
  for_object graph o (objects.I32 z) is = by_int graph o (objects.I32 z) is refl (λ a. refl)
  for_object graph o (objects.I64 z) is = by_int graph o (objects.I64 z) is refl (λ a. refl)
  for_object graph o (objects.Native z) is = by_int graph o (objects.Native z) is refl (λ a. refl)

  for_reference : (graph : List Obj) (o : ℕ) (found : Option Obj) → slice_get graph o ≡ found → IsAway graph (vals.Ref o)
  for_reference graph o (Some object) is = for_object graph o object is
  for_reference graph o None is = record {
    closed_type = int;
    base = bases.Int;
    closed = base_closed (codes "int") bases.Int int_is refl refl;
    head_is = base_head (codes "int") bases.Int int_is;
    asked = refl;
    away = ap (option_and_then (object_fields shapes.AnyInt)) is;
    array_away = λ a unfit. ap (option_and_then (object_fields (shapes.ArrayOf a))) is;
  }

  pub some_is_away : (graph : List Obj) (v : Val) → IsAway graph v
  some_is_away graph (vals.Int z) = record {
    closed_type = named (codes "string");
    base = bases.String;
    closed = base_closed (codes "string") bases.String string_is refl refl;
    head_is = base_head (codes "string") bases.String string_is;
    asked = refl;
    away = refl;
    array_away = λ a unfit. refl;
  }
  some_is_away graph (vals.Atom tag) = record {
    closed_type = int;
    base = bases.Int;
    closed = base_closed (codes "int") bases.Int int_is refl refl;
    head_is = base_head (codes "int") bases.Int int_is;
    asked = refl;
    away = refl;
    array_away = λ a unfit. unfit;
  }
  some_is_away graph (vals.Ref o) = for_reference graph o (slice_get graph o) refl

  pub away_asked : (graph : List Obj) (v : Val) (at : IsAway graph v) → is_asked (shape decls at.closed_type) ≡ true
  away_asked graph v at = ap (λ h. is_asked (head_shape decls h)) at.head_is ∙ at.asked

  -- Let a closed type that a value does not match replace all variables. If the value does not
  -- match a type, then the value does not match the instance of the type.
  module _ (graph : List Obj) (v : Val) (at : IsAway graph v) where
    abbrev value : List ℕ → Ty
    value x = at.closed_type

    abbrev fields_here : Ty → Option (List (ℕ × Ty))
    fields_here t = fields_of graph v (shape decls t)

    by_becoming : (t : Ty) → IsSoundType decls t → fields_here t ≡ None → Becomes decls well value t
        → fields_here (instance value t) ≡ None
    by_becoming t s none (inl is) =
        ap (λ h. fields_of graph v (head_shape decls h)) (replaced decls well value t s is.0 is.1 ∙ at.head_is) ∙ at.away
    by_becoming t s none (inr (commuted, inl same)) =
        ap (fields_of graph v) same ∙ fields_of_mapped (instance value) graph v (shape decls t)
        ∙ ap (option_map (map (new_need decls well value graph))) none
    by_becoming t s none (inr (commuted, inr array)) =
        let element : Ty = array.0 in
        let first : shape decls t ≡ shapes.ArrayOfVariable =
        array_shape decls well value graph t element array.2 ∙ ap (λ h. array_of h element) array.3 in
        let later : shape decls (instance value t) ≡ array_of (head decls (instance value element)) (instance value element) =
        array_shape decls well value graph (instance value t) (instance value element)
        (commuted ∙ ap (head_with_parts (instance value)) array.2) in
        let element_head : head decls (instance value element) ≡ heads.Predeclared at.base [] =
        element_is t s element array.1 array.2 array.3 in
        ap (fields_of graph v) (later ∙ ap (λ h. array_of h (instance value element)) element_head)
        ∙ at.array_away (instance value element) (sym (ap (fields_of graph v) first) ∙ none) where
          element_is : (t : Ty) → IsSoundType decls t → (a : Ty) (x : List ℕ) → head decls t ≡ heads.Predeclared bases.Array (a ∷ [])
              → head decls a ≡ heads.Variable x → head decls (instance value a) ≡ heads.Predeclared at.base []
          element_is t s a x is at_variable =
              replaced decls well value a
              (head_parts_sound decls well t a s (subst (λ (h : HeadOf Ty). Contains (parts_of h) a) (sym is) (Contains-first a [])))
              x at_variable ∙ at.head_is

    pub stays_away : (t : Ty) → IsSoundType decls t → fields_here t ≡ None → fields_here (instance value t) ≡ None
    stays_away t s none = by_becoming t s none (becomes decls well value t s)
