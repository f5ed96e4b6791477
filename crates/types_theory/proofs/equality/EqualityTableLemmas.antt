-- A table agrees with its types, and its shapes are lawful.
use Rattle.std.proofs.Common.{ℕ, zero, suc, ◌≡◌, ◌∙◌, inl, List, [], ◌∷◌, length, Option}
use Rattle.std.proofs.Common.{Some}
use Rattle.std.proofs.Common.{None, refl, ap, subst, sym, ◌==◌, cond, Bool, true, false, arith}
use Rattle.std.specs.Prelude.{Contains, IsSome, IsTrue, map, slice_get, option_map, option_and_then}
use Rattle.std.specs.Prelude.{find}
use Rattle.std.proofs.lemmas.Bool.{false≢true}
use Rattle.std.proofs.lemmas.Option.{same_Some, none-some}
use Rattle.base_data.specs.declared.model.value.Val.{Val}
use Rattle.base_data.specs.declared.model.value.Val.TheVariants as vals
use Rattle.base_data.specs.declared.model.value.Obj.{Obj}
use Rattle.base_data.specs.declared.model.value.Obj.TheVariants as objects
use Rattle.types_spec.specs.declared.types.decl.Decl.{Decl}
use Rattle.types_spec.specs.declared.types.fault.Fault.{Fault}
use Rattle.types_spec.specs.declared.types.shape.ShapeOf.{ShapeOf}
use Rattle.types_spec.specs.declared.types.shape.ShapeOf.TheVariants as shapes
use Rattle.types_spec.specs.types.Ty.{Ty}
use Rattle.types_spec.specs.types.Shape.{shape}
use Rattle.types_spec.specs.types.Fitting.{object_fields, fields_of, is_mutable, or_none}
use Rattle.types_spec.specs.types.Fitting.{is_asked, asked_of}
use Rattle.types_spec.proofs.types.TypeAskedLemmas.{asked_is, is_needed}
use Rattle.types_spec.specs.types.Shapes.{Shapes}
use Rattle.types_spec.specs.types.WellFormed.{AreSound, AreKnownByHash}
use Rattle.types_spec.specs.types.Equal.{declared_shapes}
use Rattle.types_spec.specs.types.Fault.{type_of_field, IsFault}
use Rattle.types_spec.specs.types.LeastFault.{IsLeastFault}
use Rattle.types_spec.specs.types.Reached.{IsReached}
use Rattle.types_spec.specs.types.Table.{with_parts, Table, node_or_none, table_shapes, IsTableOf}
use Rattle.types_spec.specs.types.LawfulShapes.{AreLawful, Everything}
use Rattle.base_data.proofs.model.Options.{Contains-none, slice_get-Contains, none_is_not_some}
use Rattle.types_theory.proofs.equality.EqualityLawfulLemmas.{reached_lawful}
use Rattle.types_theory.proofs.equality.NeedAgreement.{NeedsAgree, FieldsAgree, both_some, both_some_back}
use Rattle.types_theory.proofs.equality.NeedAgreement.{need_matched}
use Rattle.types_theory.proofs.equality.NeedAgreement.{turned_fields, asked_agree}
use Rattle.types_theory.proofs.equality.EqualityPartsLemmas.{fields_of_mapped, mutable_same, asked_same}
use Rattle.types_theory.proofs.equality.SimulationLemmas.{SayTheSame, BothOf, fault_on}

-- ---- mapped lists

pub slice_get-mapped :
    {X Y : Type 0} (f : X → Y) (xs : List X) (i : ℕ) → slice_get (map f xs) i ≡ option_map f
    (slice_get xs i)
slice_get-mapped f [] zero = refl
slice_get-mapped f [] (suc i) = refl
slice_get-mapped f (x ∷ xs) zero = refl
slice_get-mapped f (x ∷ xs) (suc i) = slice_get-mapped f xs i

pub mapped_some :
    {X Y : Type 0} (f : X → Y) (found : Option X) (y : Y) → option_map f found ≡ Some y
    → (x : X) × (found ≡ Some x) × (f x ≡ y)
mapped_some f None y is = absurd (none-some y is)
mapped_some f (Some x) y is = (x, refl, same_Some (f x) y is)

-- ---- required fields at numbers and at types

module _ {T U V : Type 0} (f : T → V) (g : U → V) where
  abbrev At : T → U → Type 0
  At a b = f a ≡ g b

  abbrev one : ℕ × T → ℕ × V
  one n = (n.0, f n.1)

  abbrev other : ℕ × U → ℕ × V
  other m = (m.0, g m.1)

  needs_at : (ns : List (ℕ × T)) (ms : List (ℕ × U)) → map one ns ≡ map other ms
      → NeedsAgree At ns ms
  needs_at [] [] same = tt
  needs_at [] (m ∷ ms) same = absurd (no_more (other m) (map other ms) same) where
    no_more : (x : ℕ × V) (xs : List (ℕ × V)) → [] ≡ x ∷ xs → ⊥
    no_more x xs same = cc
  needs_at (n ∷ ns) [] same = absurd (no_less (one n) (map one ns) same) where
    no_less : (x : ℕ × V) (xs : List (ℕ × V)) → x ∷ xs ≡ [] → ⊥
    no_less x xs same = cc
  needs_at (n ∷ ns) (m ∷ ms) same =
      let first = heads_same (one n) (other m) (map one ns) (map other ms) same in (
        ap (λ (x : ℕ × V). x.0) first,
        ap (λ (x : ℕ × V). x.1) first,
        needs_at ns ms
            (rests_same (one n) (other m) (map one ns) (map other ms) same),
      ) where
        heads_same : (x y : ℕ × V) (xs ys : List (ℕ × V)) → x ∷ xs ≡ y ∷ ys → x ≡ y
        heads_same x y xs ys same = cc

        rests_same : (x y : ℕ × V) (xs ys : List (ℕ × V)) → x ∷ xs ≡ y ∷ ys → xs ≡ ys
        rests_same x y xs ys same = cc

  pub fields_at : (ns : Option (List (ℕ × T))) (ms : Option (List (ℕ × U)))
      → option_map (map one) ns ≡ option_map (map other) ms → FieldsAgree At ns ms
  fields_at None None same = tt
  fields_at (Some ns) (Some ms) same = needs_at ns ms (same_Some (map one ns) (map other ms) same)
  fields_at None (Some ms) same = absurd (none-some (map other ms) same)
  fields_at (Some ns) None same = absurd (none-some (map one ns) (sym same))

-- ---- fields by their numbers

needs_some : {T : Type 0} (needs : Option (List (ℕ × T))) (need : ℕ × T)
    → Contains (or_none needs) need → IsSome needs
needs_some None need has = absurd (Contains-none need has)
needs_some (Some needs) need has = refl

-- No value matches a variable.
object_of_variable :
    (object : Option Obj) → option_and_then (object_fields {T = ℕ} shapes.Variable) object ≡ None
object_of_variable None = refl
object_of_variable (Some (objects.Block tag values)) = refl
object_of_variable (Some object) = refl

variable_fits : (graph : List Obj) (v : Val) → IsSome (fields_of {T = ℕ} graph v shapes.Variable)
    → ⊥
variable_fits graph (vals.Int z) fits = none_is_not_some {X = List (ℕ × ℕ)} None refl fits
variable_fits graph (vals.Atom tag) fits = none_is_not_some {X = List (ℕ × ℕ)} None refl fits
variable_fits graph (vals.Ref o) fits =
    none_is_not_some (option_and_then (object_fields {T = ℕ} shapes.Variable) (slice_get graph o))
    (object_of_variable (slice_get graph o)) fits

module _ {T U : Type 0} (one : Shapes T) (other : Shapes U) (Of : T → U → Type 0) (graph : List Obj)
  where
    abbrev Both : Option T → Option U → Type 0
    Both a b = BothOf one other Of graph a b

    by_number : (test test' : Bool) (n : ℕ × T) (m : ℕ × U) (found : Option (ℕ × T))
        (found' : Option (ℕ × U)) → test ≡ test' → Of n.1 m.1
        → Both (option_map (λ (x : ℕ × T). x.1) found) (option_map (λ (x : ℕ × U). x.1) found')
        → Both (option_map (λ (x : ℕ × T). x.1) (cond test (Some n) found))
        (option_map (λ (x : ℕ × U). x.1) (cond test' (Some m) found'))
    by_number true true n m found found' same of later = of
    by_number false false n m found found' same of later = later
    by_number true false n m found found' same of later = absurd (false≢true (sym same))
    by_number false true n m found found' same of later = absurd (false≢true same)

    need_types : (ns : List (ℕ × T)) (ms : List (ℕ × U)) (k : ℕ) → NeedsAgree Of ns ms
        → Both (type_of_field ns k) (type_of_field ms k)
    need_types [] [] k agree = tt
    need_types [] (m ∷ ms) k agree = absurd agree
    need_types (n ∷ ns) [] k agree = absurd agree
    need_types (n ∷ ns) (m ∷ ms) k agree =
        by_number (n.0 == k) (m.0 == k) n m (find (λ need. need.0 == k) ns)
        (find (λ need. need.0 == k) ms) (ap (λ i. i == k) agree.0) agree.1
        (need_types ns ms k agree.2)

    module _ (own : T → ShapeOf T) (its : U → ShapeOf U)
        (similar : (t : T) (u : U) → Of t u → is_asked (own t) ≡ is_asked (its u)) where
      option_types : (ns : Option (List (ℕ × T))) (ms : Option (List (ℕ × U))) (k : ℕ)
          → FieldsAgree Of ns ms
          → Both (type_of_field (asked_of own (or_none ns)) k)
          (type_of_field (asked_of its (or_none ms)) k)
      option_types None None k agree = tt
      option_types (Some ns) (Some ms) k agree =
          need_types (asked_of own ns) (asked_of its ms) k
          (asked_agree Of own its similar ns ms agree)
      option_types None (Some ms) k agree = absurd agree
      option_types (Some ns) None k agree = absurd agree

-- ---- tables

module _ (decls : List Decl) (types : List Ty) (table : Table) (made : IsTableOf decls types table)
  where
    -- `i` is the number of the type `u`.
    abbrev pub Of : ℕ → Ty → Type 0
    Of i u = slice_get types i ≡ Some u

    abbrev pub node : ℕ → ShapeOf ℕ
    node i = node_or_none (slice_get table.nodes i)

    found : (i : ℕ) (u : Ty) → Of i u → (s : ShapeOf ℕ) × (slice_get table.nodes i ≡ Some s)
        × (with_parts (slice_get types) s ≡ with_parts Some (shape decls u))
    found i u of = mapped_some (with_parts (slice_get types)) (slice_get table.nodes i)
        (with_parts Some (shape decls u))
        (sym (slice_get-mapped (with_parts (slice_get types)) table.nodes i)
        ∙ ap (λ all. slice_get all i) made.nodes
        ∙ slice_get-mapped (λ t. with_parts Some (shape decls t)) types i
        ∙ ap (option_map (λ t. with_parts Some (shape decls t))) of)

    -- The shape at a number is the shape of the number's type, with numbers instead of types as
    -- parts.
    shape_is : (i : ℕ) (u : Ty) → Of i u → with_parts (slice_get types) (node i) ≡ with_parts Some
        (shape decls u)
    shape_is i u of =
        let s = found i u of in
        ap (λ o. with_parts (slice_get types) (node_or_none o)) s.1 ∙ s.2

    -- `is_asked` is the same for the shape at a number and for the shape of the number's type.
    pub asked_at : (i : ℕ) (u : Ty) → Of i u → is_asked (node i) ≡ is_asked (shape decls u)
    asked_at i u of =
        sym (asked_same (slice_get types) (node i)) ∙ ap is_asked (shape_is i u of)
        ∙ asked_same Some (shape decls u)

    -- If a number has a shape in the table, then the number is the number of a type.
    known : (i : ℕ) (s : ShapeOf ℕ) → slice_get table.nodes i ≡ Some s → (u : Ty) × Of i u
    known i s is =
        let at = mapped_some (λ t. with_parts Some (shape decls t)) (slice_get types i)
        (with_parts (slice_get types) s)
        (sym (slice_get-mapped (λ t. with_parts Some (shape decls t)) types i)
        ∙ ap (λ all. slice_get all i) (sym made.nodes)
        ∙ slice_get-mapped (with_parts (slice_get types)) table.nodes i
        ∙ ap (option_map (with_parts (slice_get types))) is) in
        (at.0, at.1)

    module _ (graph : List Obj) where
      abbrev pub numbers_at : Val → ℕ → Option (List (ℕ × ℕ))
      numbers_at v i = fields_of graph v (node i)

      abbrev pub types_at : Val → Ty → Option (List (ℕ × Ty))
      types_at v u = fields_of graph v (shape decls u)

      -- The typed fields of a value at a number agree with the typed fields of the value at the
      -- number's type.
      pub fields_same :
          (v : Val) (i : ℕ) (u : Ty) → Of i u → FieldsAgree Of (numbers_at v i) (types_at v u)
      fields_same v i u of = fields_at (slice_get types) Some (numbers_at v i) (types_at v u)
          (sym (fields_of_mapped (slice_get types) graph v (node i))
          ∙ ap (fields_of graph v) (shape_is i u of) ∙ fields_of_mapped Some graph v
          (shape decls u))

      mutable_at : (o i : ℕ) (u : Ty) → Of i u
          → is_mutable (node i) (slice_get graph o) ≡ is_mutable
          (shape decls u) (slice_get graph o)
      mutable_at o i u of =
          sym (mutable_same (slice_get types) (node i) (slice_get graph o))
          ∙ ap (λ s. is_mutable s (slice_get graph o)) (shape_is i u of)
          ∙ mutable_same Some (shape decls u) (slice_get graph o)

      -- If a value matches at a number, then the number is the number of a type.
      fit_found : (v : Val) (s : Option (ShapeOf ℕ)) (i : ℕ) → slice_get table.nodes i ≡ s
          → IsSome (fields_of graph v (node_or_none s)) → (u : Ty) × Of i u
      fit_found v (Some s) i is fits = known i s is
      fit_found v None i is fits = absurd (variable_fits graph v fits)

      pub fit_known : (v : Val) (i : ℕ) → IsSome (numbers_at v i) → (u : Ty) × Of i u
      fit_known v i fits = fit_found v (slice_get table.nodes i) i refl fits

      pub need_known :
          (v : Val) (i k j : ℕ) → Contains ((table_shapes table).needs graph v i) (k, j)
          → (u : Ty) × Of i u
      need_known v i k j has =
          fit_known v i (needs_some (numbers_at v i) (k, j)
          (asked_is node (or_none (numbers_at v i)) k j has).0)

      -- A field that is required at a number is required at the number's type.
      pub need_forth : (v : Val) (i : ℕ) (u : Ty) (k j : ℕ) → Of i u
          → Contains ((table_shapes table).needs graph v i) (k, j)
          → (a : Ty) × Contains ((declared_shapes decls).needs graph v u) (k, a) × Of j a
      need_forth v i u k j of has =
          let is = asked_is node (or_none (numbers_at v i)) k j has in
          let found = need_matched Of (numbers_at v i) (types_at v u) (fields_same v i u of) k j
          is.0 in
          let asked = subst IsTrue (asked_at j found.0 found.2) is.1 in (
            found.0,
            is_needed (shape decls) (or_none (types_at v u)) k found.0 found.1 asked,
            found.2,
          )

      pub need_back : (v : Val) (i : ℕ) (u : Ty) (k : ℕ) (a : Ty) → Of i u
          → Contains ((declared_shapes decls).needs graph v u) (k, a)
          → (j : ℕ) × Contains ((table_shapes table).needs graph v i) (k, j) × Of j a
      need_back v i u k a of has =
          let is = asked_is (shape decls) (or_none (types_at v u)) k a has in
          let found = need_matched (λ t n. Of n t) (types_at v u) (numbers_at v i)
          (turned_fields Of (numbers_at v i) (types_at v u) (fields_same v i u of)) k a is.0 in
          let asked = subst IsTrue (sym (asked_at found.0 a found.2)) is.1 in
          (found.0, is_needed node (or_none (numbers_at v i)) k found.0 found.1 asked, found.2)

      -- ---- the shapes agree

      abbrev pub Types : Val → Ty → Type 0
      Types v u = IsSome (types_at v u)

      field_types : (v : Val) (i : ℕ) (u : Ty) (k : ℕ) → Of i u → BothOf (table_shapes table)
          (declared_shapes decls) Of graph
          (type_of_field ((table_shapes table).needs graph v i) k)
          (type_of_field ((declared_shapes decls).needs graph v u) k)
      field_types v i u k of =
          option_types (table_shapes table) (declared_shapes decls) Of graph node (shape decls)
          asked_at (numbers_at v i) (types_at v u) k (fields_same v i u of)

      back_types : (v : Val) (i : ℕ) (u : Ty) (k : ℕ) → Of i u → BothOf (declared_shapes decls)
          (table_shapes table) (λ t j. Of j t) graph
          (type_of_field ((declared_shapes decls).needs graph v u) k)
          (type_of_field ((table_shapes table).needs graph v i) k)
      back_types v i u k of =
          option_types (declared_shapes decls) (table_shapes table) (λ t j. Of j t) graph
          (shape decls) node (λ t j of'. sym (asked_at j t of')) (types_at v u) (numbers_at v i) k
          (turned_fields Of (numbers_at v i) (types_at v u) (fields_same v i u of))

      abbrev pub Fits : Val → ℕ → Type 0
      Fits v i = IsSome (numbers_at v i)

      pub fits : (v : Val) (i : ℕ) (u : Ty) → Of i u → Fits v i → Types v u
      fits v i u of = both_some Of (numbers_at v i) (types_at v u) (fields_same v i u of)

      pub fits_back : (v : Val) (i : ℕ) (u : Ty) → Of i u → Types v u → Fits v i
      fits_back v i u of = both_some_back Of (numbers_at v i) (types_at v u) (fields_same v i u of)

      abbrev pub Mutable : ℕ → ℕ → Type 0
      Mutable o i = Fits (vals.Ref o) i × IsTrue (is_mutable (node i) (slice_get graph o))

      abbrev pub MutableType : ℕ → Ty → Type 0
      MutableType o u =
          Types (vals.Ref o) u × IsTrue (is_mutable (shape decls u) (slice_get graph o))

      pub mutable : (o i : ℕ) (u : Ty) → Of i u → Mutable o i → MutableType o u
      mutable o i u of may =
          (fits (vals.Ref o) i u of may.0, subst IsTrue (mutable_at o i u of) may.1)

      pub mutable_back : (o i : ℕ) (u : Ty) → Of i u → MutableType o u → Mutable o i
      mutable_back o i u of may =
          (fits_back (vals.Ref o) i u of may.0, subst IsTrue (sym (mutable_at o i u of)) may.1)

      pub table_says : SayTheSame (table_shapes table) (declared_shapes decls) Of graph
      table_says = record {
        fits = fits;
        fits_back = fits_back;
        fields = field_types;
        mutable = mutable;
        mutable_back = mutable_back;
        equal = λ i j t u of of' same. made.same_class i j t u of of' same;
        equal_back = λ i j t u of of' equal. made.equal_types i j t u of of' equal;
      }

      pub types_say : SayTheSame (declared_shapes decls) (table_shapes table) (λ t i. Of i t) graph
      types_say = record {
        fits = λ v t i of. fits_back v i t of;
        fits_back = λ v t i of. fits v i t of;
        fields = λ v t i k of. back_types v i t k of;
        mutable = λ o t i of. mutable_back o i t of;
        mutable_back = λ o t i of. mutable o i t of;
        equal = λ t u i j of of' equal. made.equal_types i j t u of of' equal;
        equal_back = λ t u i j of of' same. made.same_class i j t u of of' same;
      }

      -- ---- the same faults

      pub fault_forth :
          (v : Val) (i : ℕ) (u : Ty) → Of i u → (fault : Fault) → IsFault (table_shapes table) graph
          v
          i fault → IsFault (declared_shapes decls) graph v u fault
      fault_forth v i u of fault is =
          fault_on (table_shapes table) (declared_shapes decls) Of graph table_says v i u of fault
          is

      pub fault_back :
          (v : Val) (i : ℕ) (u : Ty) → Of i u → (fault : Fault) → IsFault (declared_shapes decls)
          graph v u fault → IsFault (table_shapes table) graph v i fault
      fault_back v i u of fault is =
          fault_on (declared_shapes decls) (table_shapes table) (λ t j. Of j t) graph types_say v u
          i
          of fault is

      pub least_forth :
          (v : Val) (i : ℕ) (u : Ty) → Of i u → (fault : Fault) → IsLeastFault (table_shapes table)
          graph v i fault → IsLeastFault (declared_shapes decls) graph v u fault
      least_forth v i u of fault least = record {
        is_fault = fault_forth v i u of fault least.is_fault;
        least = λ other is. least.least other (fault_back v i u of other is);
      }

      pub least_back :
          (v : Val) (i : ℕ) (u : Ty) → Of i u → (fault : Fault)
          → IsLeastFault (declared_shapes decls)
          graph v u fault → IsLeastFault (table_shapes table) graph v i fault
      least_back v i u of fault least = record {
        is_fault = fault_back v i u of fault least.is_fault;
        least = λ other is. least.least other (fault_forth v i u of other is);
      }

-- ---- lawful tables

-- If two lists have the same length, then each index of one list is an index of the other list.
same_length_known :
    {X Y : Type 0} (xs : List X) (ys : List Y) (i : ℕ) (x : X) → length ys ≡ length xs
    → slice_get xs i ≡ Some x → (y : Y) × (slice_get ys i ≡ Some y)
same_length_known [] ys i x same is = absurd (empty_get i is) where
  empty_get : (i : ℕ) → slice_get [] i ≡ Some x → ⊥
  empty_get zero is = none-some x is
  empty_get (suc i) is = none-some x is
same_length_known (x' ∷ xs) [] i x same is = absurd (omega (arith, same))
same_length_known (x' ∷ xs) (y ∷ ys) zero x same is = (y, refl)
same_length_known (x' ∷ xs) (y ∷ ys) (suc i) x same is =
    same_length_known xs ys i x (omega (arith, same)) is

module _ (decls : List Decl) (sound : AreSound decls) (root : Ty) (types : List Ty)
    (reached : IsReached decls root types) (hashed : AreKnownByHash decls types) (table : Table)
    (made : IsTableOf decls types table) where
  abbrev Is : ℕ → Ty → Type 0
  Is i u = Of decls types table made i u

  abbrev Class : ℕ → ℕ → Type 0
  Class i j = slice_get table.classes i ≡ slice_get table.classes j

  -- If a number has the class of a type's number, then the number is the number of a type.
  class_known : (i j : ℕ) (u : Ty) → Is i u → Class i j → (w : Ty) × Is j w
  class_known i j u is same =
      let class = same_length_known types table.classes i u made.many is in
      same_length_known table.classes types j class.0 (sym made.many) (sym same ∙ class.1)

  among : (i : ℕ) (u : Ty) → Is i u → Contains types u
  among i u is = slice_get-Contains types i u is

  lawful : AreLawful (declared_shapes decls) (λ u. Contains types u)
  lawful = reached_lawful decls sound root types reached hashed

  fits_too : (graph : List Obj) (v : Val) (i j : ℕ) → Class i j
      → IsSome (fields_of graph v (node decls types table made i))
      → IsSome (fields_of graph v (node decls types table made j))
  fits_too graph v i j same fit =
      let one = fit_known decls types table made graph v i fit in
      let other = class_known i j one.0 one.1 same in
      let equal = made.same_class i j one.0 other.0 one.1 other.1 same in
      fits_back decls types table made graph v j other.0 other.1
      (lawful.fits graph v one.0 other.0 (inl (among i one.0 one.1)) equal
      (fits decls types table made graph v i one.0 one.1 fit))

  needs_too : (graph : List Obj) (v : Val) (i j k a : ℕ) → Class i j
      → Contains ((table_shapes table).needs graph v i) (k, a) → (b : ℕ)
      × Contains ((table_shapes table).needs graph v j) (k, b) × Class a b
  needs_too graph v i j k a same has =
      let one = need_known decls types table made graph v i k a has in
      let other = class_known i j one.0 one.1 same in
      let equal = made.same_class i j one.0 other.0 one.1 other.1 same in
      let first = need_forth decls types table made graph v i one.0 k a one.1 has in
      let second = lawful.needs graph v one.0 other.0 k first.0 (inl (among i one.0 one.1)) equal
      first.1 in
      let third = need_back decls types table made graph v j other.0 k second.0 other.1 second.1 in
      (third.0, third.1, made.equal_types a third.0 first.0 second.0 first.2 third.2 second.2)

  mutable_too : (graph : List Obj) (o i j : ℕ) → Class i j → Mutable decls types table made graph o
      i → Mutable decls types table made graph o j
  mutable_too graph o i j same may =
      let one = fit_known decls types table made graph (vals.Ref o) i may.0 in
      let other = class_known i j one.0 one.1 same in
      let equal = made.same_class i j one.0 other.0 one.1 other.1 same in
      mutable_back decls types table made graph o j other.0 other.1
      (lawful.mutable graph o one.0 other.0 (inl (among i one.0 one.1)) equal
      (mutable decls types table made graph o i one.0 one.1 may))

  pub table_is_lawful : AreLawful (table_shapes table) Everything
  table_is_lawful = record {
    reflexive = λ i any. refl;
    symmetric = λ i j same. sym same;
    transitive = λ i j k first second. first ∙ second;
    closed = λ graph v i k a any has. tt;
    fits = λ graph v i j any same fit. fits_too graph v i j same fit;
    needs = λ graph v i j k a any same has. needs_too graph v i j k a same has;
    mutable = λ graph o i j any same may. mutable_too graph o i j same may;
  }
