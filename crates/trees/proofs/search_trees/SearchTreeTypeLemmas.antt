-- Types of sets and maps in a table.
use Rattle.std.proofs.Common.{ℕ, ◌≡◌, ◌∙◌, ◌⊎◌, ⊎_elim, inl, inr, Bool, false, List, [], ◌∷◌, length, get_or, Option, Some, None, refl, sym, ap, subst, arith, ◌<◌, ◌≤◌, ◌+◌, ◌++◌, length-append, zero, suc}
use Rattle.std.specs.Prelude.{IsTrue, ◌↔◌, slice_get, All}
use Rattle.std.proofs.lemmas.Bool.{false≢true, cases_lt}
use Rattle.types_spec.specs.declared.types.shape.Constr.{Constr}
use Rattle.types_spec.specs.declared.types.shape.ShapeOf.{ShapeOf}
use Rattle.types_spec.specs.declared.types.shape.ShapeOf.TheVariants as shapes
use Rattle.std.proofs.Math.ListN.{get_or-eq_default}
use Rattle.std.proofs.lemmas.List.Elements.{All-contains, Contains-append_left}
use Rattle.std.proofs.lemmas.Option.{slice_get-get_or, slice_get_within}
use Rattle.base_data.proofs.model.Options.{slice_get-Contains, none_or_some}
use Rattle.types_spec.specs.types.Reached.{named_in}
use Rattle.types_spec.specs.types.Table.{node_or_none}
use Rattle.types_table.specs.declared.type_table.tabled.Tabled.{Tabled}
use Rattle.trees.specs.declared.search_trees.set_and_map_types.NodeRepresentation.TheVariants as layouts
use Rattle.trees.specs.search_trees.TreeType.{layout_of, fields_in, tree_shape, shape_in, IsTreeNumber}
use Rattle.trees.specs.search_trees.NodeType.{AreParts, IsNamed, IsNodeType}

-- ---- the fields of a node

five_fields : (xs : List ℕ) → length xs ≡ 5 → xs ≡ get_or xs 0 0 ∷ get_or xs 1 0 ∷ get_or xs 2 0 ∷ get_or xs 3 0 ∷ get_or xs 4 0 ∷ []
five_fields [] many = absurd (omega (arith, many))
five_fields (a ∷ []) many = absurd (omega (arith, many))
five_fields (a ∷ b ∷ []) many = absurd (omega (arith, many))
five_fields (a ∷ b ∷ c ∷ []) many = absurd (omega (arith, many))
five_fields (a ∷ b ∷ c ∷ d ∷ []) many = absurd (omega (arith, many))
five_fields (a ∷ b ∷ c ∷ d ∷ e ∷ []) many = refl
five_fields (a ∷ b ∷ c ∷ d ∷ e ∷ f ∷ more) many = absurd (omega (arith, many))

module _ (table : Tabled) (t : ℕ) (constr : Constr ℕ) where
  constr_is : constr.mutable ≡ false → (xs : List ℕ) → constr.fields ≡ xs → constr ≡ record { mutable = false; fields = xs }
  constr_is fixed xs is = ap (λ (m : Bool). record constr { mutable = m }) fixed ∙ ap (λ (ys : List ℕ). record { mutable = false; fields = ys }) is

  abbrev MapParts : List ℕ → Type 0
  MapParts xs = IsNamed table t layouts.Map × AreParts table t (get_or xs 0 0) (get_or xs 1 0) (get_or xs 3 0) (get_or xs 4 0)

  map_type : constr.mutable ≡ false → length constr.fields ≡ 5 → MapParts constr.fields ↔ IsNodeType table t constr
  map_type fixed many = (
    λ is. record {
      left = get_or constr.fields 0 0;
      element = get_or constr.fields 1 0;
      kept = Some (get_or constr.fields 2 0);
      right = get_or constr.fields 3 0;
      height = get_or constr.fields 4 0;
      named = is.0;
      shaped = constr_is fixed (get_or constr.fields 0 0 ∷ get_or constr.fields 1 0 ∷ get_or constr.fields 2 0 ∷ get_or constr.fields 3 0 ∷ get_or constr.fields 4 0 ∷ []) (five_fields constr.fields many);
      parts = is.1;
    },
    λ node. by_kept node.left node.element node.kept node.right node.height (ap (λ (c : Constr ℕ). c.fields) node.shaped) node.named node.parts,
  ) where
    by_kept : (left element : ℕ) (kept : Option ℕ) (right height : ℕ) → constr.fields ≡ fields_in left element kept right height → IsNamed table t (layout_of kept)
        → AreParts table t left element right height → MapParts constr.fields
    by_kept left element None right height is named parts = absurd (let four = ap length is in omega (arith, many, four))
    by_kept left element (Some d) right height is named parts = (named, subst (λ xs. AreParts table t (get_or xs 0 0) (get_or xs 1 0) (get_or xs 3 0) (get_or xs 4 0)) (sym is) parts)

-- ---- the shape of the type of a tree

module _ (table : Tabled) (t : ℕ) where
  shape_is : (s : ShapeOf ℕ) → slice_get table.nodes t ≡ Some s → shape_in table t ≡ s
  shape_is s at = ap node_or_none at

  pub node_tree : (constr : Constr ℕ) → slice_get table.nodes t ≡ Some (shapes.Sum 1 (constr ∷ [])) → IsNodeType table t constr ↔ IsTreeNumber table t
  node_tree constr at = (
    λ node. record {
      left = node.left;
      element = node.element;
      kept = node.kept;
      right = node.right;
      height = node.height;
      named = node.named;
      shaped = shape_is (shapes.Sum 1 (constr ∷ [])) at ∙ ap (λ (c : Constr ℕ). shapes.Sum 1 (c ∷ [])) node.shaped;
      left_same = node.parts.left_same;
      right_same = node.parts.right_same;
      ordered = node.parts.ordered;
      counted = node.parts.counted;
    },
    λ tree. record {
      left = tree.left;
      element = tree.element;
      kept = tree.kept;
      right = tree.right;
      height = tree.height;
      named = tree.named;
      shaped = only_constr constr (record { mutable = false; fields = fields_in tree.left tree.element tree.kept tree.right tree.height })
          (sym (shape_is (shapes.Sum 1 (constr ∷ [])) at) ∙ tree.shaped);
      parts = record { left_same = tree.left_same; right_same = tree.right_same; ordered = tree.ordered; counted = tree.counted };
    },
  ) where
    only_constr : (c d : Constr ℕ) → shapes.Sum 1 (c ∷ []) ≡ shapes.Sum 1 (d ∷ []) → c ≡ d
    only_constr c d is = cc

-- ---- what the code reads

pub alone : {X : Type 0} (xs : List X) (x : X) → length xs ≡ 1 → x ≡ get_or xs 0 x → xs ≡ x ∷ []
alone [] x many is = absurd (omega (arith, many))
alone (y ∷ []) x many is = ap (λ z. z ∷ []) (sym is)
alone (y ∷ z ∷ more) x many is = absurd (omega (arith, many))

pub map_type_of :
    (table : Tabled) (t : ℕ) (constr : Constr ℕ) (xs : List ℕ) (r : Bool) → constr.mutable ≡ false → xs ≡ constr.fields → length xs ≡ 5
    → (IsTrue r ↔ (IsNamed table t layouts.Map × AreParts table t (get_or xs 0 0) (get_or xs 1 0) (get_or xs 3 0) (get_or xs 4 0)))
    → IsTrue r ↔ IsNodeType table t constr
map_type_of table t constr xs r fixed are many test =
    let type = map_type table t constr fixed (sym (ap length are) ∙ many) in
    let own = subst (λ ys. IsTrue r ↔ (IsNamed table t layouts.Map × AreParts table t (get_or ys 0 0) (get_or ys 1 0) (get_or ys 3 0) (get_or ys 4 0))) are test in
    (λ is. type.0 (own.0 is), λ node. own.1 (type.1 node))

pub fields_inside :
    (n : ℕ) (nodes : List (ShapeOf ℕ)) (t constants : ℕ) (constr : Constr ℕ) → All (λ node. All (λ i. i < n) (named_in node)) nodes
    → slice_get nodes t ≡ Some (shapes.Sum constants (constr ∷ [])) → All (λ i. i < n) constr.fields
fields_inside n nodes t constants constr closed at k d below =
    let here : All (λ i. i < n) (constr.fields ++ []) =
    All-contains (λ node. All (λ i. i < n) (named_in node)) nodes (shapes.Sum constants (constr ∷ [])) closed (slice_get-Contains nodes t (shapes.Sum constants (constr ∷ [])) at) in
    All-contains (λ i. i < n) (constr.fields ++ []) (get_or constr.fields k d) here
    (Contains-append_left constr.fields [] (get_or constr.fields k d) (slice_get-Contains constr.fields k (get_or constr.fields k d) (slice_get-get_or constr.fields k d below)))

pub sum_at : (nodes : List (ShapeOf ℕ)) (t constants : ℕ) (blocks : List (Constr ℕ)) (constr : Constr ℕ) → slice_get nodes t ≡ Some (shapes.Sum constants blocks) → length blocks ≡ 1
    → constr ≡ get_or blocks 0 constr → slice_get nodes t ≡ Some (shapes.Sum constants (constr ∷ []))
sum_at nodes t constants blocks constr at many is = at ∙ ap (λ bs. Some (shapes.Sum constants bs)) (alone blocks constr many is)

-- ---- types in order

at_prefix : (xs : List Bool) (y : Bool) (t : ℕ) → t < length xs → get_or (xs ++ y ∷ []) t false ≡ get_or xs t false
at_prefix [] y t below = absurd (omega (arith, below))
at_prefix (x ∷ xs) y zero below = refl
at_prefix (x ∷ xs) y (suc t) below = at_prefix xs y t (omega (arith, below))

at_back : (xs : List Bool) (y : Bool) → get_or (xs ++ y ∷ []) (length xs) false ≡ y
at_back [] y = refl
at_back (x ∷ xs) y = at_back xs y

pub found_more :
    (P : ℕ → Type 0) (found new : List Bool) (n : ℕ) (b : Bool) → length found ≡ n → ((t : ℕ) → t < n → IsTrue (get_or found t false) ↔ P t) → new ≡ found ++ b ∷ [] → (IsTrue b ↔ P n)
    → (length new ≡ n + 1) × ((t : ℕ) → t < n + 1 → IsTrue (get_or new t false) ↔ P t)
found_more P found new n b many so_far is test = (ap length is ∙ length-append found (b ∷ []) ∙ ap (λ k. k + 1) many, all) where
  all : (t : ℕ) → t < n + 1 → IsTrue (get_or new t false) ↔ P t
  all t below = ⊎_elim
      (λ before.
      let same : get_or new t false ≡ get_or found t false = ap (λ xs. get_or xs t false) is ∙ at_prefix found b t (omega (arith, before, many)) in
      subst (λ x. IsTrue x ↔ P t) (sym same) (so_far t before))
      (λ last.
      let here : t ≡ n = omega (arith, below, last) in
      let same : get_or new t false ≡ b =
      ap (λ xs. get_or xs t false) is ∙ ap (λ k. get_or (found ++ b ∷ []) k false) (here ∙ sym many) ∙ at_back found b in
      subst (λ x. IsTrue x ↔ P t) (sym same) (subst (λ k. IsTrue b ↔ P k) (sym here) test))
      (cases_lt t n)

none_beyond : (table : Tabled) (t : ℕ) → length table.nodes ≤ t → IsTreeNumber table t → ⊥
none_beyond table t beyond tree = by_node (none_or_some (slice_get table.nodes t)) where
  by_node : (slice_get table.nodes t ≡ None) ⊎ ((s : ShapeOf ℕ) × (slice_get table.nodes t ≡ Some s)) → ⊥
  by_node (inl none) = no_shape (sym (ap node_or_none none) ∙ tree.shaped) where
    no_shape : shapes.Variable ≡ tree_shape tree.left tree.element tree.kept tree.right tree.height → ⊥
    no_shape same = cc
  by_node (inr some) = let within = slice_get_within table.nodes t some.0 some.1 in omega (arith, beyond, within)

pub all_found :
    (table : Tabled) (found : List Bool) → length found ≡ length table.nodes → ((t : ℕ) → t < length table.nodes → IsTrue (get_or found t false) ↔ IsTreeNumber table t)
    → (t : ℕ) → IsTrue (get_or found t false) ↔ IsTreeNumber table t
all_found table found many all t = ⊎_elim
    (λ below. all t below)
    (λ beyond. (
      λ is. absurd (false≢true (sym (get_or-eq_default found false (omega (arith, beyond, many))) ∙ is)),
      λ tree. absurd (none_beyond table t beyond tree),
    ))
    (cases_lt t (length table.nodes))
