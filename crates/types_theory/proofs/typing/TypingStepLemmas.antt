-- The bound on the number of steps of a check that visits each object at most once per class.
use Rattle.std.proofs.Common.{ℕ, zero, suc, ◌≡◌, ◌+◌, ◌*◌, ◌<◌, ◌≤◌, ◌==◌, ◌∙◌, ◌⊎◌, ⊎_elim, inl, inr, Bool, true, false, cond, List, [], ◌∷◌, length, Option, Some, None, refl, sym, ap, ap₂, subst, arith, eqb-true}
use Rattle.std.specs.Prelude.{slice_get, map, flat_map, sum_by, Contains, if◌then◌else◌, ◌&&◌, option_and_then, replicate}
use Rattle.std.specs.List.{list_any}
use Rattle.std.proofs.lemmas.Bool.{false≢true, or_cases, and_parts}
use Rattle.std.proofs.lemmas.List.{length-replicate}
use Rattle.std.proofs.lemmas.List.Sums.{sum_by-cons, sum_by-append}
use Rattle.base_data.proofs.model.Options.{Contains-first, Contains-later, Contains-none, Contains-cases, Contains-map, Contains-flat_map, slice_get-Contains, slice_get_there, map-Contains}
use Rattle.base_data.specs.declared.model.value.Val.{Val}
use Rattle.base_data.specs.declared.model.value.Val.TheVariants as vals
use Rattle.base_data.specs.declared.model.value.Obj.{Obj}
use Rattle.base_data.specs.declared.model.value.Obj.TheVariants as objects
use Rattle.base_data.proofs.model.Lists.{Contains-position}
use Rattle.types_spec.specs.types.StepBounds.{new_numbers, class_count, field_count, most_steps}
use Rattle.types_spec.specs.types.Table.{Table, table_shapes, node_or_none}
use Rattle.types_spec.specs.types.Typing.{values_of}
use Rattle.types_spec.specs.declared.types.shape.Constr.{Constr}
use Rattle.types_spec.specs.declared.types.shape.PolyTag.{PolyTag}
use Rattle.types_spec.specs.declared.types.shape.ShapeOf.{ShapeOf}
use Rattle.types_spec.specs.declared.types.shape.ShapeOf.TheVariants as shapes
use Rattle.types_spec.specs.types.Fitting.{numbered_from, fields_if, constr_fields, argument_field, tag_with, tag_fields, block_fields, object_fields, none_if, is_bytes, is_double, has_doubles, is_int32, is_int64, is_native, or_none}
use Rattle.types_spec.proofs.types.TypeAskedLemmas.{few_asked}
use Rattle.types_theory.specs.typing.StepLaws.{AreApart, key_of, AreEntries, steps_of}

-- ---- sums over lists of distinct elements

-- No element of the list occurs again after its position.
abbrev pub Distinct : {X : Type 0} → List X → Type 0
Distinct [] = Unit {0}
Distinct (x ∷ xs) = (¬ Contains xs x) × Distinct xs

pub distinct : {X : Type 0} (xs : List X) → AreApart xs → Distinct xs
distinct [] apart = tt
distinct (x ∷ xs) apart = (
  λ among. let p = Contains-position xs x among in let e : 0 ≡ suc p.0 = apart 0 (suc p.0) x refl p.1 in omega arith,
  distinct xs (λ j k y at_j at_k. let e : suc j ≡ suc k = apart (suc j) (suc k) y at_j at_k in omega arith),
)

module _ {X : Type 0} (f : X → ℕ) where
  -- The list `ys` without one occurrence of the element `x`.
  record Without (ys : List X) (x : X) : Type 0 where
    rest : List X
    total : sum_by f ys ≡ f x + sum_by f rest
    others : (y : X) → Contains ys y → (x ≡ y) ⊎ Contains rest y

  without : (ys : List X) (x : X) → Contains ys x → Without ys x
  without [] x among = absurd (Contains-none x among)
  without (z ∷ ys) x among = ⊎_elim
      (λ here. record {
        rest = ys;
        total = sum_by-cons f z ys ∙ ap (λ y. f y + sum_by f ys) here;
        others = λ y has. ⊎_elim (λ first. inl (sym here ∙ first)) (λ later. inr later) (Contains-cases z ys y has);
      })
      (λ later.
      let w = without ys x later in
      record {
        rest = z ∷ w.rest;
        total = omega (arith, sum_by-cons f z ys, sum_by-cons f z w.rest, w.total);
        others = λ y has. ⊎_elim
            (λ first. inr (subst (λ u. Contains (z ∷ w.rest) u) first (Contains-first z w.rest)))
            (λ more. ⊎_elim (λ same. inl same) (λ kept. inr (Contains-later z w.rest y kept)) (w.others y more))
            (Contains-cases z ys y has);
      })
      (Contains-cases z ys x among)

  -- If the elements of `xs` are distinct and all in `ys`, then the sum of `f` over `xs` is at most
  -- the sum of `f` over `ys`.
  sum_within : (xs ys : List X) → Distinct xs → ((x : X) → Contains xs x → Contains ys x) → sum_by f xs ≤ sum_by f ys
  sum_within [] ys apart within = omega arith
  sum_within (x ∷ xs) ys apart within =
      let w = without ys x (within x (Contains-first x xs)) in
      let less = sum_within xs w.rest apart.1 (λ y among. ⊎_elim
      (λ same. absurd (apart.0 (subst (λ u. Contains xs u) (sym same) among)))
      (λ kept. kept)
      (w.others y (within y (Contains-later x xs y among)))) in
      omega (arith, sum_by-cons f x xs, w.total, less)

  sum_of_map :
      {Y : Type 0} (g : Y → ℕ) (h : Y → X) (ys : List Y) → ((y : Y) → Contains ys y → g y ≤ f (h y))
      → sum_by g ys ≤ sum_by f (map h ys)
  sum_of_map g h [] less = omega arith
  sum_of_map g h (y ∷ ys) less =
      let rest = sum_of_map g h ys (λ z among. less z (Contains-later y ys z among)) in
      let first = less y (Contains-first y ys) in
      omega (arith, sum_by-cons g y ys, sum_by-cons f (h y) (map h ys), rest, first)

-- ---- all objects at all classes

-- The numbers of the objects, counted from `k`.
abbrev positions : ℕ → List Obj → List ℕ
positions k [] = []
positions k (object ∷ rest) = k ∷ positions (suc k) rest

in_positions : (k i : ℕ) (graph : List Obj) → i < length graph → Contains (positions k graph) (k + i)
in_positions k i [] less = absurd (omega arith)
in_positions k zero (object ∷ rest) less =
    let e : k + 0 ≡ k = omega arith in subst (λ n. Contains (k ∷ positions (suc k) rest) n) (sym e) (Contains-first k (positions (suc k) rest))
in_positions k (suc i) (object ∷ rest) less =
    let e : suc k + i ≡ k + suc i = omega arith in
    subst (λ n. Contains (k ∷ positions (suc k) rest) n) e (Contains-later k (positions (suc k) rest) (suc k + i) (in_positions (suc k) i rest (omega arith)))

abbrev weight : Option Obj → ℕ
weight None = 0
weight (Some object) = 1 + length (values_of object)

-- If each object's weight is one plus the number of its fields, then the weights sum to the number
-- of objects plus the number of fields.
sum_of_positions :
    (w : ℕ → ℕ) (k : ℕ) (graph : List Obj) → ((i : ℕ) (object : Obj) → slice_get graph i ≡ Some object → w (k + i) ≡ weight (Some object))
    → sum_by w (positions k graph) ≡ length graph + field_count graph
sum_of_positions w k [] each = omega arith
sum_of_positions w k (object ∷ rest) each =
    let first : w (k + 0) ≡ weight (Some object) = each 0 object refl in
    let at_k : k + 0 ≡ k = omega arith in
    let here : w k ≡ weight (Some object) = subst (λ n. w n ≡ weight (Some object)) at_k first in
    let others = sum_of_positions w (suc k) rest (λ i other is.
    let e : k + suc i ≡ suc k + i = omega arith in subst (λ n. w n ≡ weight (Some other)) e (each (suc i) other is)) in
    omega (arith, sum_by-cons w k (positions (suc k) rest), sum_by-cons (λ o. length (values_of o)) object rest, here, others)

-- All objects of a graph, each paired with the class `class`.
abbrev at_class : List Obj → ℕ → List (ℕ × Option ℕ)
at_class graph class = map (λ o. (o, Some class)) (positions 0 graph)

abbrev key_weight : List Obj → ℕ × Option ℕ → ℕ
key_weight graph key = weight (slice_get graph key.0)

sum_of_mapped : {X Y : Type 0} (f : X → ℕ) (h : Y → X) (ys : List Y) → sum_by f (map h ys) ≡ sum_by (λ y. f (h y)) ys
sum_of_mapped f h [] = refl
sum_of_mapped f h (y ∷ ys) =
    sum_by-cons f (h y) (map h ys) ∙ ap (λ n. f (h y) + n) (sum_of_mapped f h ys) ∙ sym (sum_by-cons (λ z. f (h z)) y ys)

sum_at_class : (graph : List Obj) (class : ℕ) → sum_by (key_weight graph) (at_class graph class) ≡ length graph + field_count graph
sum_at_class graph class =
    sum_of_mapped (key_weight graph) (λ o. (o, Some class)) (positions 0 graph)
    ∙ sum_of_positions (λ o. weight (slice_get graph o)) 0 graph (λ i object is. let e : 0 + i ≡ i = omega arith in ap (λ n. weight (slice_get graph n)) e ∙ ap weight is)

abbrev at_classes : List Obj → List ℕ → List (ℕ × Option ℕ)
at_classes graph classes = flat_map (at_class graph) classes

sum_at_classes :
    (graph : List Obj) (classes : List ℕ)
    → sum_by (key_weight graph) (at_classes graph classes) ≡ length classes * (length graph + field_count graph)
sum_at_classes graph [] = omega arith
sum_at_classes graph (class ∷ classes) =
    let n = length graph + field_count graph in
    let both = sum_by-append (key_weight graph) (at_class graph class) (at_classes graph classes) in
    let first = sum_at_class graph class in
    let rest = sum_at_classes graph classes in
    let more : suc (length classes) * n ≡ n + length classes * n = omega arith in
    both ∙ ap₂ (λ a b. a + b) first rest ∙ sym more

-- ---- the classes

-- The numbers of the list that are not in `seen`, each number once.
abbrev firsts : List ℕ → List ℕ → List ℕ
firsts seen [] = []
firsts seen (n ∷ ns) = if list_any (λ other. other == n) seen then firsts seen ns else n ∷ firsts (n ∷ seen) ns

firsts_at :
    (test : Bool) (seen : List ℕ) (n : ℕ) (ns : List ℕ) → length (firsts seen ns) ≡ new_numbers seen ns
    → length (firsts (n ∷ seen) ns) ≡ new_numbers (n ∷ seen) ns
    → length (cond test (firsts seen ns) (n ∷ firsts (n ∷ seen) ns)) ≡ cond test (new_numbers seen ns) (suc (new_numbers (n ∷ seen) ns))
firsts_at true seen n ns kept added = kept
firsts_at false seen n ns kept added = ap suc added

length-firsts : (seen ns : List ℕ) → length (firsts seen ns) ≡ new_numbers seen ns
length-firsts seen [] = refl
length-firsts seen (n ∷ ns) =
    firsts_at (list_any (λ other. other == n) seen) seen n ns (length-firsts seen ns) (length-firsts (n ∷ seen) ns)

seen_test : (seen : List ℕ) (n : ℕ) → list_any (λ other. other == n) seen ≡ true → Contains seen n
seen_test [] n test = absurd (false≢true test)
seen_test (m ∷ seen) n test = elim (or_cases (m == n) (list_any (λ other. other == n) seen) test) [
  | inl same ↦ subst (λ k. Contains (m ∷ seen) k) (eqb-true m n same) (Contains-first m seen)
  | inr later ↦ Contains-later m seen n (seen_test seen n later)
]

in_firsts_at :
    (test : Bool) (seen : List ℕ) (m : ℕ) (ns : List ℕ) (n : ℕ) → (test ≡ true → Contains seen m)
    → (m ≡ n) ⊎ Contains ns n → (Contains ns n → Contains seen n ⊎ Contains (firsts seen ns) n)
    → (Contains ns n → Contains (m ∷ seen) n ⊎ Contains (firsts (m ∷ seen) ns) n)
    → Contains seen n ⊎ Contains (cond test (firsts seen ns) (m ∷ firsts (m ∷ seen) ns)) n
in_firsts_at true seen m ns n was (inl here) kept added = inl (subst (λ k. Contains seen k) here (was refl))
in_firsts_at true seen m ns n was (inr later) kept added = kept later
in_firsts_at false seen m ns n was (inl here) kept added =
    inr (subst (λ k. Contains (m ∷ firsts (m ∷ seen) ns) k) here (Contains-first m (firsts (m ∷ seen) ns)))
in_firsts_at false seen m ns n was (inr later) kept added = ⊎_elim
    (λ before. ⊎_elim
    (λ here. inr (subst (λ k. Contains (m ∷ firsts (m ∷ seen) ns) k) here (Contains-first m (firsts (m ∷ seen) ns))))
    (λ earlier. inl earlier)
    (Contains-cases m seen n before))
    (λ after. inr (Contains-later m (firsts (m ∷ seen) ns) n after))
    (added later)

in_firsts : (seen ns : List ℕ) (n : ℕ) → Contains ns n → Contains seen n ⊎ Contains (firsts seen ns) n
in_firsts seen [] n among = absurd (Contains-none n among)
in_firsts seen (m ∷ ns) n among =
    in_firsts_at (list_any (λ other. other == m) seen) seen m ns n (seen_test seen m) (Contains-cases m ns n among)
    (in_firsts seen ns n) (in_firsts (m ∷ seen) ns n)

-- ---- the required fields of an object

pub length-numbered_from : {T : Type 0} (i : ℕ) (ts : List T) → length (numbered_from i ts) ≡ length ts
length-numbered_from i [] = refl
length-numbered_from i (t ∷ ts) = ap suc (length-numbered_from (suc i) ts)

few_if : {T : Type 0} (test : Bool) (ts : List T) (n : ℕ) → (test ≡ true → length ts ≤ n) → length (or_none (fields_if test ts)) ≤ n
few_if true ts n few = omega (arith, length-numbered_from 0 ts, few refl)
few_if false ts n few = omega arith

few_of_constr : {T : Type 0} (n : ℕ) (constr : Option (Constr T)) → length (or_none (constr_fields n constr)) ≤ n
few_of_constr n None = omega arith
few_of_constr n (Some constr) = few_if (length constr.fields == n) constr.fields n (λ same. omega (arith, eqb-true (length constr.fields) n same))

few_of_argument : {T : Type 0} (arg : Option T) → length (or_none (argument_field arg)) ≤ 1
few_of_argument None = omega arith
few_of_argument (Some t) = omega arith

few_of_tag : {T : Type 0} (tag : Option (PolyTag T)) → length (or_none (option_and_then (λ (tag : PolyTag T). argument_field tag.arg) tag)) ≤ 1
few_of_tag None = omega arith
few_of_tag (Some tag) = few_of_argument tag.arg

few_of_tags : {T : Type 0} (tags : List (PolyTag T)) (values : List Val) → length (or_none (tag_fields tags values)) ≤ length values
few_of_tags tags [] = omega arith
few_of_tags tags (vals.Int z ∷ []) = omega arith
few_of_tags tags (vals.Int z ∷ argument ∷ []) = omega (arith, few_of_tag (tag_with tags z))
few_of_tags tags (vals.Int z ∷ argument ∷ v ∷ vs) = omega arith
few_of_tags tags (vals.Atom tag ∷ vs) = omega arith
few_of_tags tags (vals.Ref o ∷ vs) = omega arith

few_where : {T : Type 0} (test : Bool) (fields : Option (List (ℕ × T))) (n : ℕ) → length (or_none fields) ≤ n → length (or_none (cond test fields None)) ≤ n
few_where true fields n few = few
few_where false fields n few = omega arith

few_none : (T : Type 0) (test : Bool) (n : ℕ) → length (or_none {T = T} (none_if test)) ≤ n
few_none T true n = omega arith
few_none T false n = omega arith

few_of_block : {T : Type 0} (shape : ShapeOf T) (tag : ℕ) (values : List Val) → length (or_none (block_fields shape tag values)) ≤ length values
few_of_block (shapes.Sum constants blocks) tag values = few_of_constr (length values) (slice_get blocks tag)
few_of_block (shapes.Product mutable ts) tag values =
    few_if ((tag == 0) && (length ts == length values)) ts (length values) (λ both.
    omega (arith, eqb-true (length ts) (length values) (and_parts (tag == 0) (length ts == length values) both).1))
few_of_block (shapes.ArrayOf t) tag values = few_if (tag == 0) (replicate (length values) t) (length values) (λ is. omega (arith, length-replicate (length values) t))
few_of_block (shapes.ArrayOfAnything t) tag values = few_if (tag == 0) (replicate (length values) t) (length values) (λ is. omega (arith, length-replicate (length values) t))
few_of_block (shapes.Poly tags) tag values = few_where (tag == 0) (tag_fields tags values) (length values) (few_of_tags tags values)
few_of_block shape tag values = omega arith

few_of_object : {T : Type 0} (shape : ShapeOf T) (object : Obj) → length (or_none (object_fields shape object)) ≤ length (values_of object)
few_of_object {T} shape (objects.Block tag values) = few_of_block shape tag values
few_of_object {T} shape (objects.Bytes bytes) = few_none T (is_bytes shape) 0
few_of_object {T} shape (objects.Double bits) = few_none T (is_double shape) 0
few_of_object {T} shape (objects.Doubles all) = few_none T (has_doubles shape (length all)) 0
few_of_object {T} shape (objects.I32 z) = few_none T (is_int32 shape) 0
few_of_object {T} shape (objects.I64 z) = few_none T (is_int64 shape) 0
few_of_object {T} shape (objects.Native z) = few_none T (is_native shape) 0

-- ---- the law

module _ (table : Table) (graph : List Obj) (entries : List (ℕ × ℕ)) (all : AreEntries table graph entries) where
  abbrev classes : List ℕ
  classes = firsts [] table.classes

  -- The steps of an entry are at most the weight of the entry's object: one step for the object and
  -- one step for each field.
  weighed :
      (entry : ℕ × ℕ) → Contains entries entry
      → 1 + length ((table_shapes table).needs graph (vals.Ref entry.0) entry.1) ≤ key_weight graph (key_of table entry)
  weighed entry among =
      let object = slice_get_there graph entry.0 (all.objects entry.0 entry.1 among) in
      let few = few_of_object (node_or_none (slice_get table.nodes entry.1)) object.0 in
      let asked = few_asked (λ i. node_or_none (slice_get table.nodes i))
      (or_none (object_fields (node_or_none (slice_get table.nodes entry.1)) object.0)) in
      rw object.1 (omega (arith, few, asked))

  -- The key of each entry is one of the pairs of an object and a class.
  among_all : (key : ℕ × Option ℕ) → Contains (map (key_of table) entries) key → Contains (at_classes graph classes) key
  among_all key among =
      let e = map-Contains (key_of table) entries key among in
      let class = slice_get_there table.classes e.0.1 (all.types e.0.0 e.0.1 e.1) in
      let listed : Contains classes class.0 = ⊎_elim
      (λ before. absurd (Contains-none class.0 before))
      (λ after. after)
      (in_firsts [] table.classes class.0 (slice_get-Contains table.classes e.0.1 class.0 class.1)) in
      let placed : Contains (positions 0 graph) e.0.0 =
      let n : 0 + e.0.0 ≡ e.0.0 = omega arith in
      subst (λ k. Contains (positions 0 graph) k) n (in_positions 0 e.0.0 graph (all.objects e.0.0 e.0.1 e.1)) in
      let is : ◌≡◌ {A = ℕ × Option ℕ} (e.0.0, Some class.0) key = ap (λ (c : Option ℕ). (e.0.0, c)) (sym class.1) ∙ e.2 in
      subst (λ k. Contains (at_classes graph classes) k) is
      (Contains-flat_map (at_class graph) classes class.0 (e.0.0, Some class.0) listed
      (Contains-map (λ o. (o, Some class.0)) (positions 0 graph) e.0.0 placed))

  pub steps_are_few : steps_of table graph entries ≤ most_steps table graph
  steps_are_few =
      let own = sum_of_map (key_weight graph) (λ (entry : ℕ × ℕ). 1 + length ((table_shapes table).needs graph (vals.Ref entry.0) entry.1))
      (key_of table) entries weighed in
      let within = sum_within (key_weight graph) (map (key_of table) entries) (at_classes graph classes)
      (distinct (map (key_of table) entries) all.apart) among_all in
      let total = sum_at_classes graph classes in
      let many : length classes ≡ class_count table = length-firsts [] table.classes in
      let bound : sum_by (key_weight graph) (at_classes graph classes) ≡ class_count table * (length graph + field_count graph) =
      total ∙ ap (λ n. n * (length graph + field_count graph)) many in
      omega (arith, own, within, bound)
