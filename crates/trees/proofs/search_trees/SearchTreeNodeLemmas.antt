-- The values at the type of a tree.
use Rattle.std.proofs.Common.{ℕ, zero, suc, ◌≡◌, ◌==◌, ◌∙◌, ◌⊎◌, inl, inr, Bool, true, false, cond, List, [], ◌∷◌, length, Option, Some, None, refl, sym, ap, subst, arith}
use Rattle.std.specs.Prelude.{slice_get, nat_lt, find, IsSome, IsTrue, option_and_then, option_map, pos, negsuc}
use Rattle.std.proofs.lemmas.Bool.{false≢true, ltb-true, eq-eqb}
use Rattle.std.proofs.lemmas.Bool.Decides.{Decides-eqb}
use Rattle.std.proofs.lemmas.Option.{get_or_from_slice_get}
use Rattle.base_data.proofs.model.Options.{none_or_some}
use Rattle.base_data.specs.declared.model.value.Val.{Val}
use Rattle.base_data.specs.declared.model.value.Val.TheVariants as vals
use Rattle.base_data.specs.declared.model.value.Obj.{Obj}
use Rattle.base_data.specs.declared.model.value.Obj.TheVariants as objects
use Rattle.types_spec.specs.declared.types.names.Names.{Names}
use Rattle.types_spec.specs.declared.types.shape.ShapeOf.{ShapeOf}
use Rattle.types_spec.specs.types.Typing.{values_of}
use Rattle.types_spec.specs.types.Fault.{type_of_field, step}
use Rattle.types_spec.specs.types.Fitting.{shaped, object_fields, fields_of, or_none, is_asked, asked_of}
use Rattle.trees.specs.declared.search_trees.tree_node.TreeNode.{TreeNode}
use Rattle.trees.specs.search_trees.TreeType.{IsTreeType, tree_shape}
use Rattle.marshal_heap.specs.heap.Heap.{fields_of as block_fields}
use Rattle.trees.specs.search_trees.NodeParts.{empty_value, node_of, node_at, number_in}

-- The values of a node, by its type.
abbrev pub node_values : {T : Type 0} → Option T → Val → Val → Val → Val → Val → List Val
node_values None l e d r h = l ∷ e ∷ r ∷ h ∷ []
node_values (Some t) l e d r h = l ∷ e ∷ d ∷ r ∷ h ∷ []

-- The index of the field with the right subtree.
abbrev pub position_of_right : {T : Type 0} → Option T → ℕ
position_of_right None = 2
position_of_right (Some t) = 3

-- The object is a block that stores a node of a set or of a map.
pub record IsBlock {T : Type 0} (kept : Option T) (object : Obj) : Type 0 where
  pub l : Val
  pub e : Val
  pub d : Val
  pub r : Val
  pub h : Val
  pub is : object ≡ objects.Block 0 (node_values kept l e d r h)

abbrev none_of : (T : Type 0) → List (ℕ × T)
none_of T = []

if_true : {A : Type 0} (b : Bool) (x : A) → IsSome (cond b (Some x) None) → b ≡ true
if_true true x holds = refl
if_true false x holds = holds

module _ {T : Type 0} where
  four_values : (values : List Val) → 4 ≡ length values → IsBlock {T = T} None (objects.Block 0 values)
  four_values [] many = absurd (omega (arith, many))
  four_values (a ∷ []) many = absurd (omega (arith, many))
  four_values (a ∷ b ∷ []) many = absurd (omega (arith, many))
  four_values (a ∷ b ∷ c ∷ []) many = absurd (omega (arith, many))
  four_values (a ∷ b ∷ c ∷ d ∷ []) many = record { l = a; e = b; d = b; r = c; h = d; is = refl }
  four_values (a ∷ b ∷ c ∷ d ∷ e ∷ more) many = absurd (omega (arith, many))

  five_values : (t : T) (values : List Val) → 5 ≡ length values → IsBlock (Some t) (objects.Block 0 values)
  five_values t [] many = absurd (omega (arith, many))
  five_values t (a ∷ []) many = absurd (omega (arith, many))
  five_values t (a ∷ b ∷ []) many = absurd (omega (arith, many))
  five_values t (a ∷ b ∷ c ∷ []) many = absurd (omega (arith, many))
  five_values t (a ∷ b ∷ c ∷ d ∷ []) many = absurd (omega (arith, many))
  five_values t (a ∷ b ∷ c ∷ d ∷ e ∷ []) many = record { l = a; e = b; d = c; r = d; h = e; is = refl }
  five_values t (a ∷ b ∷ c ∷ d ∷ e ∷ f ∷ more) many = absurd (omega (arith, many))

module _ {T : Type 0} (left element : T) where
  node_block : (kept : Option T) (right height : T) (values : List Val)
      → IsSome (object_fields (tree_shape left element kept right height) (objects.Block 0 values)) → IsBlock kept (objects.Block 0 values)
  node_block None right height values fits =
      four_values values ((Decides-eqb 4 (length values)).0 (if_true (4 == length values) ((0, left) ∷ (1, element) ∷ (2, right) ∷ (3, height) ∷ []) fits))
  node_block (Some t) right height values fits =
      five_values t values ((Decides-eqb 5 (length values)).0 (if_true (5 == length values) ((0, left) ∷ (1, element) ∷ (2, t) ∷ (3, right) ∷ (4, height) ∷ []) fits))

  fitting_block : (kept : Option T) (right height : T) (object : Obj) → IsSome (object_fields (tree_shape left element kept right height) object) → IsBlock kept object
  fitting_block kept right height (objects.Block zero values) fits = node_block kept right height values fits
  fitting_block kept right height (objects.Block (suc tag) values) fits = absurd (false≢true fits)
  fitting_block kept right height (objects.Bytes bytes) fits = absurd (false≢true fits)
  fitting_block kept right height (objects.Double bits) fits = absurd (false≢true fits)
  fitting_block kept right height (objects.Doubles all) fits = absurd (false≢true fits)
  fitting_block kept right height (objects.I32 z) fits = absurd (false≢true fits)
  fitting_block kept right height (objects.I64 z) fits = absurd (false≢true fits)
  fitting_block kept right height (objects.Native z) fits = absurd (false≢true fits)

-- The object `o` of the graph is a block that stores a node.
pub record IsNodeObject {T : Type 0} (kept : Option T) (graph : List Obj) (o : ℕ) : Type 0 where
  pub object : Obj
  pub at : slice_get graph o ≡ Some object
  pub block : IsBlock kept object

-- The target of a step, by the shape and the object.
abbrev step_by : {T : Type 0} → (T → ShapeOf T) → ShapeOf T → Option Obj → ℕ → Option (Val × T)
step_by shape s found i =
    option_and_then (λ w. option_map (λ u. (w, u)) (type_of_field (asked_of shape (or_none (option_and_then (object_fields s) found))) i))
    (option_and_then (λ object. slice_get (values_of object) i) found)

-- The type of a field, if the field is the first required field or a later field.
module _ {T : Type 0} (shape : T → ShapeOf T) (k : ℕ) (u : T) (fields : List (ℕ × T)) where
  first_type : IsTrue (is_asked (shape u)) → type_of_field (asked_of shape ((k, u) ∷ fields)) k ≡ Some u
  first_type asked =
      ap (λ b. type_of_field (cond b ((k, u) ∷ asked_of shape fields) (asked_of shape fields)) k) asked
      ∙ ap (λ b. option_map (λ (need : ℕ × T). need.1) (cond b (Some (k, u)) (find (λ need. need.0 == k) (asked_of shape fields)))) (eq-eqb k k refl)

  later_type : (i : ℕ) → (k == i) ≡ false → type_of_field (asked_of shape ((k, u) ∷ fields)) i ≡ type_of_field (asked_of shape fields) i
  later_type i other = by (is_asked (shape u)) where
    by : (test : Bool) → type_of_field (cond test ((k, u) ∷ asked_of shape fields) (asked_of shape fields)) i ≡ type_of_field (asked_of shape fields) i
    by true = ap (λ b. option_map (λ (need : ℕ × T). need.1) (cond b (Some (k, u)) (find (λ need. need.0 == i) (asked_of shape fields)))) other
    by false = refl

module _ {T : Type 0} (shape : T → ShapeOf T) (left element right height : T) (l e d r h : Val) where
  left_by : IsTrue (is_asked (shape left)) → (kept : Option T) → step_by shape (tree_shape left element kept right height) (Some (objects.Block 0 (node_values kept l e d r h))) 0 ≡ Some (l, left)
  left_by asked None = ap (option_map (λ u. (l, u))) (first_type shape 0 left ((1, element) ∷ (2, right) ∷ (3, height) ∷ []) asked)
  left_by asked (Some t) = ap (option_map (λ u. (l, u))) (first_type shape 0 left ((1, element) ∷ (2, t) ∷ (3, right) ∷ (4, height) ∷ []) asked)

  right_by : IsTrue (is_asked (shape right)) → (kept : Option T) → step_by shape (tree_shape left element kept right height) (Some (objects.Block 0 (node_values kept l e d r h))) (position_of_right kept) ≡ Some (r, right)
  right_by asked None = ap (option_map (λ u. (r, u)))
      (later_type shape 0 left ((1, element) ∷ (2, right) ∷ (3, height) ∷ []) 2 refl
      ∙ later_type shape 1 element ((2, right) ∷ (3, height) ∷ []) 2 refl
      ∙ first_type shape 2 right ((3, height) ∷ []) asked)
  right_by asked (Some t) = ap (option_map (λ u. (r, u)))
      (later_type shape 0 left ((1, element) ∷ (2, t) ∷ (3, right) ∷ (4, height) ∷ []) 3 refl
      ∙ later_type shape 1 element ((2, t) ∷ (3, right) ∷ (4, height) ∷ []) 3 refl
      ∙ later_type shape 2 t ((3, right) ∷ (4, height) ∷ []) 3 refl
      ∙ first_type shape 3 right ((4, height) ∷ []) asked)

node_by : {T : Type 0} (kept : Option T) (l e d r h : Val)
    → node_of (node_values kept l e d r h) ≡ record { left = l; element = e; right = r; height = number_in h }
node_by None l e d r h = refl
node_by (Some t) l e d r h = refl

module _ {T : Type 0} (shape : T → ShapeOf T) (names : T → Names) (Equal : T → T → Type 0) (graph : List Obj) where
  pub node_object : (o : ℕ) (u : T) (tree : IsTreeType shape names Equal u) → IsSome (fields_of graph (vals.Ref o) (shape u)) → IsNodeObject tree.kept graph o
  node_object o u tree fits = by_object (none_or_some (slice_get graph o)) where
    own : ShapeOf T
    own = tree_shape tree.left tree.element tree.kept tree.right tree.height

    fits_own : IsSome (option_and_then (object_fields (tree_shape tree.left tree.element tree.kept tree.right tree.height)) (slice_get graph o))
    fits_own = subst (λ s. IsSome (fields_of graph (vals.Ref o) s)) tree.shaped fits

    by_object : (slice_get graph o ≡ None) ⊎ ((x : Obj) × (slice_get graph o ≡ Some x)) → IsNodeObject tree.kept graph o
    by_object (inl none) =
        absurd (false≢true (subst (λ found. IsSome (option_and_then (object_fields (tree_shape tree.left tree.element tree.kept tree.right tree.height)) found)) none fits_own))
    by_object (inr (x, at)) = record {
      object = x;
      at = at;
      block =
          fitting_block tree.left tree.element tree.kept tree.right tree.height x
          (subst (λ found. IsSome (option_and_then (object_fields (tree_shape tree.left tree.element tree.kept tree.right tree.height)) found)) at fits_own);
    }

  -- The type of a tree is not a wildcard.
  pub tree_asked : (u : T) → IsTreeType shape names Equal u → IsTrue (is_asked (shape u))
  tree_asked u tree = ap is_asked tree.shaped

  -- ---- steps

  step_at :
      (o : ℕ) (u : T) (i : ℕ) (tree : IsTreeType shape names Equal u) (its : IsNodeObject tree.kept graph o) (next : Val × T)
      → step_by shape (tree_shape tree.left tree.element tree.kept tree.right tree.height)
      (Some (objects.Block 0 (node_values tree.kept its.block.l its.block.e its.block.d its.block.r its.block.h))) i ≡ Some next
      → step (shaped shape Equal) graph (vals.Ref o) u i ≡ Some next
  step_at o u i tree its next is =
      let block : Obj = objects.Block 0 (node_values tree.kept its.block.l its.block.e its.block.d its.block.r its.block.h) in
      let found : slice_get graph o ≡ Some block = its.at ∙ ap Some its.block.is in
      subst (λ f. step_by shape (shape u) f i ≡ Some next) (sym found) (subst (λ s. step_by shape s (Some block) i ≡ Some next) (sym tree.shaped) is)

  node_is : (kept : Option T) (o : ℕ) (its : IsNodeObject kept graph o)
      → node_at graph o ≡ record { left = its.block.l; element = its.block.e; right = its.block.r; height = number_in its.block.h }
  node_is kept o its =
      ap (λ x. node_of (block_fields x)) (get_or_from_slice_get graph o its.object (objects.I32 (pos 0)) its.at ∙ its.block.is)
      ∙ node_by kept its.block.l its.block.e its.block.d its.block.r its.block.h

  pub left_step :
      (o : ℕ) (u : T) (tree : IsTreeType shape names Equal u) (its : IsNodeObject tree.kept graph o) → IsTrue (is_asked (shape tree.left))
      → step (shaped shape Equal) graph (vals.Ref o) u 0 ≡ Some ((node_at graph o).left, tree.left)
  left_step o u tree its asked =
      step_at o u 0 tree its (its.block.l, tree.left)
      (left_by shape tree.left tree.element tree.right tree.height its.block.l its.block.e its.block.d its.block.r its.block.h asked tree.kept)
      ∙ ap (λ (n : TreeNode). Some (n.left, tree.left)) (sym (node_is tree.kept o its))

  pub right_step :
      (o : ℕ) (u : T) (tree : IsTreeType shape names Equal u) (its : IsNodeObject tree.kept graph o) → IsTrue (is_asked (shape tree.right))
      → step (shaped shape Equal) graph (vals.Ref o) u (position_of_right tree.kept) ≡ Some ((node_at graph o).right, tree.right)
  right_step o u tree its asked =
      step_at o u (position_of_right tree.kept) tree its (its.block.r, tree.right)
      (right_by shape tree.left tree.element tree.right tree.height its.block.l its.block.e its.block.d its.block.r its.block.h asked tree.kept)
      ∙ ap (λ (n : TreeNode). Some (n.right, tree.right)) (sym (node_is tree.kept o its))

  -- ---- values

  -- A value at the type of a tree is `Empty` or a node.
  pub tree_value : (v : Val) (u : T) → IsTreeType shape names Equal u → IsSome (fields_of graph v (shape u)) → (v ≡ empty_value) ⊎ ((o : ℕ) × (v ≡ vals.Ref o))
  tree_value v u tree fits = by_value v (subst (λ s. IsSome (fields_of graph v s)) tree.shaped fits) where
    by_value :
        (v : Val) → IsSome (fields_of graph v (tree_shape tree.left tree.element tree.kept tree.right tree.height)) → (v ≡ empty_value) ⊎ ((o : ℕ) × (v ≡ vals.Ref o))
    by_value (vals.Int (pos zero)) fits = inl refl
    by_value (vals.Int (pos (suc n))) fits = absurd (let less = ltb-true (suc n) 1 (if_true (nat_lt (suc n) 1) (none_of T) fits) in omega (arith, less))
    by_value (vals.Int (negsuc n)) fits = absurd (false≢true fits)
    by_value (vals.Atom tag) fits = absurd (false≢true fits)
    by_value (vals.Ref o) fits = inr (o, refl)
