-- No tree in a value has a fault if and only if each tree in the value is a search tree.
use Rattle.std.proofs.Common.{ℕ, zero, suc, ◌≡◌, ◌<◌, ◌∙◌, ⊎_elim, inl, inr, List, [], ◌∷◌, ◌++◌, map, Option, Some, refl, sym, ap, subst, arith}
use Rattle.std.specs.Prelude.{Contains, IsTrue, option_map, slice_get, ℤ, pos, ◌+ℤ◌, ◌<ℤ◌, ◌≤ℤ◌}
use Rattle.std.specs.Int.{int_max}
use Rattle.std.proofs.lemmas.Int.{ints, clamps, by_lt_z}
use Rattle.std.proofs.lemmas.Option.{slice_get-map, get_or_from_slice_get}
use Rattle.std.proofs.lemmas.List.Elements.{Contains-append_cases}
use Rattle.base_data.proofs.model.Options.{Contains-none, Contains-cases, true_or_not}
use Rattle.base_data.specs.declared.model.value.Val.{Val}
use Rattle.base_data.specs.declared.model.value.Val.TheVariants as vals
use Rattle.base_data.specs.declared.model.value.Obj.{Obj}
use Rattle.base_data.specs.declared.model.value.Obj.TheVariants as objects
use Rattle.marshal_heap.specs.heap.Heap.{fields_of}
use Rattle.types_spec.specs.declared.types.names.Names.{Names}
use Rattle.types_spec.specs.declared.types.shape.ShapeOf.{ShapeOf}
use Rattle.types_spec.specs.types.LawfulShapes.{AreLawful}
use Rattle.types_spec.specs.types.Typing.{HasType}
use Rattle.types_spec.specs.types.Fault.{value_at}
use Rattle.types_spec.specs.types.Fitting.{shaped}
use Rattle.types_spec.proofs.types.TypeFaultLemmas.{held_by_some, position_is_held}
use Rattle.types_theory.proofs.typing.TypingPathLemmas.{value_at-push}
use Rattle.trees.specs.declared.search_trees.tree_node.TreeKind.{TreeKind}
use Rattle.trees.specs.declared.search_trees.tree_node.TreeKind.TheVariants as kinds
use Rattle.trees.specs.search_trees.TreeType.{IsTreeType}
use Rattle.trees.specs.search_trees.NodeParts.{node_of, node_at, height_of, is_less, IsAtOrBelow}
use Rattle.trees.specs.search_trees.TreeFault.{left_height, right_height, IsMiscounted, IsUnbalanced, IsElementLess, IsNodeWith, IsTreeFault, HasNoTreeFault}
use Rattle.trees.specs.search_trees.SearchTree.{SearchTree, empty, node, IsTree, elements, height, AreIncreasing, StateHeights, IsBalanced, IsSearchTree}
use Rattle.trees.proofs.search_trees.BelowLemmas.{at_itself, below_left, below_right}
use Rattle.trees.proofs.search_trees.SearchTreeFewLemmas.{lower, lower_less}
use Rattle.trees.proofs.search_trees.LessLemmas.{AllLess, AllMore, increasing_joined}
use Rattle.trees.proofs.search_trees.SearchTreeNodeLemmas.{IsNodeObject, position_of_right, node_object, tree_asked, left_step, right_step, tree_value}
use Rattle.trees.proofs.search_trees.SearchTreeLemmas.{counted_up, near, height_is, sound_node}

-- ---- numbers

-- If two numbers cannot differ, then they are equal.
pub same_number : (x y : ℤ) → (¬ ¬ (x ≡ y)) → x ≡ y
same_number x y never = by_lt_z x y
    (λ less. absurd (never (λ same. not_less x y same less)))
    (λ more. by_lt_z y x (λ less. absurd (never (λ same. not_less y x (sym same) less))) (λ most. both x y more most)) where
      not_less : (a b : ℤ) → a ≡ b → a <ℤ b → ⊥
      not_less a b same less = omega (arith, ints, same, less)

      both : (a b : ℤ) → b ≤ℤ a → a ≤ℤ b → a ≡ b
      both a b one two = omega (arith, ints, one, two)

pub left_is_lower : (h l r : ℤ) → h ≡ pos 1 +ℤ int_max l r → l <ℤ h
left_is_lower h l r is = omega (arith, ints, clamps, is)

pub right_is_lower : (h l r : ℤ) → h ≡ pos 1 +ℤ int_max l r → r <ℤ h
right_is_lower h l r is = omega (arith, ints, clamps, is)

-- ---- the stored heights of objects

abbrev stated : Obj → ℤ
stated object = (node_of (fields_of object)).height

abbrev all_stated : List Obj → List ℤ
all_stated graph = map stated graph

stated_at : {T : Type 0} (graph : List Obj) (kept : Option T) (o : ℕ) → IsNodeObject kept graph o → slice_get (all_stated graph) o ≡ Some (node_at graph o).height
stated_at graph kept o its =
    slice_get-map stated graph o ∙ ap (option_map stated) its.at
    ∙ ap (λ x. Some (stated x)) (sym (get_or_from_slice_get graph o its.object (objects.I32 (pos 0)) its.at))

-- ---- the tree of a value

-- The value is a search tree, and each element of the tree is the element of an object at or below
-- the value.
record IsUnfolded (graph : List Obj) (v : Val) : Type 0 where
  tree : SearchTree
  is : IsTree graph v tree
  increasing : AreIncreasing graph (elements graph tree)
  stated : StateHeights graph tree
  balanced : IsBalanced tree
  below : (x : Val) → Contains (elements graph tree) x → (m : ℕ) × IsAtOrBelow graph v m × ((node_at graph m).element ≡ x)

module _ {T : Type 0} (shape : T → ShapeOf T) (names : T → Names) (Equal : T → T → Type 0) (InQuestion : T → Type 0)
    (lawful : AreLawful (shaped shape Equal) InQuestion)
    (agree : (t u : T) → InQuestion u → Equal t u → IsTreeType shape names Equal u → IsTreeType shape names Equal t)
    (graph : List Obj) (root : Val) (t : T) (in_question : InQuestion t) where
  abbrev Leads : List ℕ → Val → T → Type 0
  Leads path v u = value_at (shaped shape Equal) graph root t path ≡ Some (v, u)

  abbrev IsTreeHere : T → Type 0
  IsTreeHere u = IsTreeType shape names Equal u

  -- ---- search trees have no faults

  pub ordered_is_sound :
      ((path : List ℕ) (v : Val) (u : T) → Leads path v u → IsTreeHere u → IsSearchTree graph v)
      → HasNoTreeFault shape names Equal graph root t
  ordered_is_sound each kind path fault = by_kind kind fault where
    by_kind : (kind : TreeKind) → IsTreeFault shape names Equal graph root t kind path → ⊥
    by_kind kinds.Height fault = (sound_node graph fault.0 (each path (vals.Ref fault.0) fault.1 fault.2.leads fault.2.tree)).0 fault.3
    by_kind kinds.Balance fault = (sound_node graph fault.0 (each path (vals.Ref fault.0) fault.1 fault.2.leads fault.2.tree)).1 fault.3
    by_kind kinds.Order fault = (sound_node graph fault.0.0 (each path (vals.Ref fault.0.0) fault.0.1 fault.0.2.leads fault.0.2.tree)).2 fault.0.3

  module _ (has : HasType (shaped shape Equal) graph root t) where
    -- If a path leads to a value, then the value's type is in question, and the value matches the
    -- type's representation.
    pub placed : (path : List ℕ) (v : Val) (u : T) → Leads path v u → InQuestion u × (shaped shape Equal).fits graph v u
    placed path v u leads =
        let held =
        held_by_some (shaped shape Equal) InQuestion lawful graph root t in_question has in
        let position = position_is_held (shaped shape Equal) InQuestion lawful graph held.0 held.1 path root t v u in_question held.2 leads in
        (position.0, position.1.fits)

    pub object_of : (path : List ℕ) (o : ℕ) (u : T) → Leads path (vals.Ref o) u → (tree : IsTreeHere u) → IsNodeObject tree.kept graph o
    object_of path o u leads tree = node_object shape names Equal graph o u tree (placed path (vals.Ref o) u leads).1

    pub left_leads : (path : List ℕ) (o : ℕ) (u : T) → Leads path (vals.Ref o) u → (tree : IsTreeHere u) → IsNodeObject tree.kept graph o
        → Leads (path ++ 0 ∷ []) (node_at graph o).left tree.left
    left_leads path o u leads tree its =
        value_at-push (shaped shape Equal) graph path root t 0 (vals.Ref o, u) ((node_at graph o).left, tree.left) leads
        (left_step shape names Equal graph o u tree its
        (tree_asked shape names Equal graph tree.left (agree tree.left u (placed path (vals.Ref o) u leads).0 tree.left_same tree)))

    pub right_leads : (path : List ℕ) (o : ℕ) (u : T) → Leads path (vals.Ref o) u → (tree : IsTreeHere u) → IsNodeObject tree.kept graph o
        → Leads (path ++ position_of_right tree.kept ∷ []) (node_at graph o).right tree.right
    right_leads path o u leads tree its =
        value_at-push (shaped shape Equal) graph path root t (position_of_right tree.kept) (vals.Ref o, u) ((node_at graph o).right, tree.right) leads
        (right_step shape names Equal graph o u tree its
        (tree_asked shape names Equal graph tree.right (agree tree.right u (placed path (vals.Ref o) u leads).0 tree.right_same tree)))

    module _ (none : HasNoTreeFault shape names Equal graph root t) where
      -- ---- one node

      counted : (path : List ℕ) (o : ℕ) (u : T) → Leads path (vals.Ref o) u → IsTreeHere u
          → (node_at graph o).height ≡ pos 1 +ℤ int_max (left_height graph o) (right_height graph o)
      counted path o u leads tree =
          same_number (node_at graph o).height (pos 1 +ℤ int_max (left_height graph o) (right_height graph o))
          (λ wrong. none kinds.Height path (o, u, record { leads = leads; tree = tree }, wrong))

      level : (path : List ℕ) (o : ℕ) (u : T) → Leads path (vals.Ref o) u → IsTreeHere u → ¬ IsUnbalanced graph o
      level path o u leads tree wrong = none kinds.Balance path (o, u, record { leads = leads; tree = tree }, wrong)

      no_miscount : (path : List ℕ) → ¬ IsNodeWith shape names Equal graph root t IsMiscounted path
      no_miscount path wrong = none kinds.Height path wrong

      left_less : (path : List ℕ) (o : ℕ) (u : T) → Leads path (vals.Ref o) u → IsTreeHere u → (p : ℕ) → IsAtOrBelow graph (node_at graph o).left p
          → IsElementLess graph p o
      left_less path o u leads tree p below = ⊎_elim
          (λ less. less)
          (λ not_less. absurd (none kinds.Order path ((o, u, record { leads = leads; tree = tree }, inl (p, below, not_less)), no_miscount)))
          (true_or_not (is_less graph (node_at graph p).element (node_at graph o).element))

      right_more : (path : List ℕ) (o : ℕ) (u : T) → Leads path (vals.Ref o) u → IsTreeHere u → (p : ℕ) → IsAtOrBelow graph (node_at graph o).right p
          → IsElementLess graph o p
      right_more path o u leads tree p below = ⊎_elim
          (λ less. less)
          (λ not_less. absurd (none kinds.Order path ((o, u, record { leads = leads; tree = tree }, inr (p, below, not_less)), no_miscount)))
          (true_or_not (is_less graph (node_at graph o).element (node_at graph p).element))

      -- ---- trees

      joined : (path : List ℕ) (o : ℕ) (u : T) → Leads path (vals.Ref o) u → IsTreeHere u
          → IsUnfolded graph (node_at graph o).left → IsUnfolded graph (node_at graph o).right → IsUnfolded graph (vals.Ref o)
      joined path o u leads type left right = record {
        tree = node left.tree o right.tree;
        is = (refl, left.is, right.is);
        increasing = increasing_joined graph (elements graph left.tree) (node_at graph o).element (elements graph right.tree) left.increasing less right.increasing more;
        stated = (
          counted_up (node_at graph o).height (left_height graph o) (right_height graph o) (height left.tree) (height right.tree) left_is right_is (counted path o u leads type),
          left.stated,
          right.stated,
        );
        balanced = (
          near (right_height graph o) (left_height graph o) (height right.tree) (height left.tree) right_is left_is (λ wrong. level path o u leads type (inr wrong)),
          near (left_height graph o) (right_height graph o) (height left.tree) (height right.tree) left_is right_is (λ wrong. level path o u leads type (inl wrong)),
          left.balanced,
          right.balanced,
        );
        below = found;
      } where
        left_is : left_height graph o ≡ pos (height left.tree)
        left_is = height_is graph (node_at graph o).left left.tree left.is left.stated

        right_is : right_height graph o ≡ pos (height right.tree)
        right_is = height_is graph (node_at graph o).right right.tree right.is right.stated

        less : AllLess graph (elements graph left.tree) (node_at graph o).element
        less x among =
            let m = left.below x among in
            subst (λ y. IsTrue (is_less graph y (node_at graph o).element)) m.2 (left_less path o u leads type m.0 m.1)

        more : AllMore graph (elements graph right.tree) (node_at graph o).element
        more x among =
            let m = right.below x among in
            subst (λ y. IsTrue (is_less graph (node_at graph o).element y)) m.2 (right_more path o u leads type m.0 m.1)

        found :
            (x : Val) → Contains (elements graph left.tree ++ (node_at graph o).element ∷ elements graph right.tree) x
            → (m : ℕ) × IsAtOrBelow graph (vals.Ref o) m × ((node_at graph m).element ≡ x)
        found x among = ⊎_elim
            (λ first. let m = left.below x first in (m.0, below_left graph o m.0 m.1, m.2))
            (λ rest. ⊎_elim
            (λ here. (o, at_itself graph o, here))
            (λ last. let m = right.below x last in (m.0, below_right graph o m.0 m.1, m.2))
            (Contains-cases (node_at graph o).element (elements graph right.tree) x rest))
            (Contains-append_cases (elements graph left.tree) ((node_at graph o).element ∷ elements graph right.tree) x among)

      -- If each node below a height is a search tree, then each value of a tree type below the
      -- height is a search tree.
      part :
          (z : ℤ) → ((path : List ℕ) (o : ℕ) (u : T) → Leads path (vals.Ref o) u → IsTreeHere u → height_of graph (vals.Ref o) <ℤ z → IsUnfolded graph (vals.Ref o))
          → (path : List ℕ) (v : Val) (u : T) → Leads path v u → IsTreeHere u → height_of graph v <ℤ z → IsUnfolded graph v
      part z each path v u leads tree less = ⊎_elim
          (λ is. record { tree = empty; is = is; increasing = tt; stated = tt; balanced = tt; below = λ x among. absurd (Contains-none x among) })
          (λ at. subst (λ w. IsUnfolded graph w) (sym at.1)
          (each path at.0 u (subst (λ w. Leads path w u) at.1 leads) tree (subst (λ w. height_of graph w <ℤ z) at.1 less)))
          (tree_value shape names Equal graph v u tree (placed path v u leads).1)

      unfolded : (n : ℕ) (path : List ℕ) (o : ℕ) (u : T) → Leads path (vals.Ref o) u → IsTreeHere u → lower (all_stated graph) (node_at graph o).height < n
          → IsUnfolded graph (vals.Ref o)
      unfolded zero path o u leads tree few = absurd (omega (arith, few))
      unfolded (suc n) path o u leads tree few =
          let object = object_of path o u leads tree in
          let height = counted path o u leads tree in
          let each : (path' : List ℕ) (m : ℕ) (w : T) → Leads path' (vals.Ref m) w → IsTreeHere w → height_of graph (vals.Ref m) <ℤ (node_at graph o).height → IsUnfolded graph (vals.Ref m) =
          λ path' m w leads' tree' less.
          let fewer = lower_less (all_stated graph) m (node_at graph m).height (node_at graph o).height (stated_at graph tree'.kept m (object_of path' m w leads' tree')) less in
          unfolded n path' m w leads' tree' (omega (arith, few, fewer)) in
          let among = (placed path (vals.Ref o) u leads).0 in
          let left = part (node_at graph o).height each (path ++ 0 ∷ []) (node_at graph o).left tree.left (left_leads path o u leads tree object)
          (agree tree.left u among tree.left_same tree)
          (left_is_lower (node_at graph o).height (left_height graph o) (right_height graph o) height) in
          let right = part (node_at graph o).height each (path ++ position_of_right tree.kept ∷ []) (node_at graph o).right tree.right (right_leads path o u leads tree object)
          (agree tree.right u among tree.right_same tree)
          (right_is_lower (node_at graph o).height (left_height graph o) (right_height graph o) height) in
          joined path o u leads tree left right

      whole : (v : Val) → IsUnfolded graph v → IsSearchTree graph v
      whole v its = record { tree = its.tree; is = its.is; increasing = its.increasing; stated = its.stated; balanced = its.balanced }

      pub sound_is_ordered : (path : List ℕ) (v : Val) (u : T) → Leads path v u → IsTreeHere u → IsSearchTree graph v
      sound_is_ordered path v u leads tree = ⊎_elim
          (λ is. record { tree = empty; is = is; increasing = tt; stated = tt; balanced = tt })
          (λ at. subst (λ w. IsSearchTree graph w) (sym at.1)
          (whole (vals.Ref at.0) (unfolded (suc (lower (all_stated graph) (node_at graph at.0).height)) path at.0 u (subst (λ w. Leads path w u) at.1 leads) tree (omega arith))))
          (tree_value shape names Equal graph v u tree (placed path v u leads).1)
