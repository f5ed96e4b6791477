-- Search trees have no faults: lemmas on the stored heights and on the nodes below a value.
use Rattle.std.proofs.Common.{ℕ, suc, ◌≡◌, ◌<◌, ◌≤◌, ◌+◌, ◌∙◌, ⊎_elim, inl, inr, List, ◌∷◌, ◌++◌, max, sym, ap, subst, arith}
use Rattle.std.specs.Prelude.{Contains, ℤ, pos, ◌+ℤ◌, ◌<ℤ◌}
use Rattle.std.specs.Int.{int_max}
use Rattle.std.proofs.lemmas.Bool.{cases_lt}
use Rattle.std.proofs.lemmas.Int.{ints, clamps}
use Rattle.std.proofs.lemmas.List.Elements.{Contains-append_left, Contains-append_right}
use Rattle.base_data.proofs.model.Options.{Contains-first, Contains-later}
use Rattle.base_data.specs.declared.model.value.Val.{Val}
use Rattle.base_data.specs.declared.model.value.Val.TheVariants as vals
use Rattle.base_data.specs.declared.model.value.Obj.{Obj}
use Rattle.trees.specs.search_trees.NodeParts.{node_at, height_of, IsAtOrBelow}
use Rattle.trees.specs.search_trees.SearchTree.{SearchTree, empty, node, IsTree, elements, height, AreIncreasing, IsBalanced, StateHeights, IsSearchTree}
use Rattle.trees.specs.search_trees.TreeFault.{left_height, right_height, IsMiscounted, IsUnbalanced, IsDisordered}
use Rattle.trees.proofs.search_trees.BelowLemmas.{AtNode, itself, on_left, on_right, at_node, none_below_int}
use Rattle.trees.proofs.search_trees.LessLemmas.{increasing_less, increasing_more}

-- ---- numbers

pub counted_up : (h l r : ℤ) (a b : ℕ) → l ≡ pos a → r ≡ pos b → h ≡ pos 1 +ℤ int_max l r → h ≡ pos (suc (max a b))
counted_up h l r a b left right is = omega (arith, ints, clamps, left, right, is)

counted_back : (h l r : ℤ) (a b : ℕ) → l ≡ pos a → r ≡ pos b → h ≡ pos (suc (max a b)) → h ≡ pos 1 +ℤ int_max l r
counted_back h l r a b left right is = omega (arith, ints, clamps, left, right, is)

far : (l r : ℤ) (a b : ℕ) → l ≡ pos a → r ≡ pos b → a + 2 < b → (l +ℤ pos 2) <ℤ r
far l r a b left right is = omega (arith, ints, left, right, is)

pub near : (l r : ℤ) (a b : ℕ) → l ≡ pos a → r ≡ pos b → (¬ ((l +ℤ pos 2) <ℤ r)) → b ≤ a + 2
near l r a b left right never = ⊎_elim
    (λ is. absurd (never (far l r a b left right is)))
    (λ is. is)
    (cases_lt (a + 2) b)

not_far : (l r : ℤ) (a b : ℕ) → l ≡ pos a → r ≡ pos b → b ≤ a + 2 → (l +ℤ pos 2) <ℤ r → ⊥
not_far l r a b left right near is = omega (arith, ints, left, right, near, is)

module _ (graph : List Obj) where
  pub height_is : (v : Val) (tree : SearchTree) → IsTree graph v tree → StateHeights graph tree → height_of graph v ≡ pos (height tree)
  height_is v empty is stated = ap (height_of graph) is
  height_is v (node left o right) is stated = ap (height_of graph) is.0 ∙ stated.0

  -- If an object is at or below the value of a tree, then the object's element is an element of the
  -- tree.
  pub below_listed : (v : Val) (tree : SearchTree) → IsTree graph v tree → (p : ℕ) → IsAtOrBelow graph v p → Contains (elements graph tree) (node_at graph p).element
  below_listed v empty is p below = absurd (none_below_int graph (pos 0) p (subst (λ w. IsAtOrBelow graph w p) is below))
  below_listed v (node left o right) is p below =
      by_position (below_listed (node_at graph o).left left is.1 p) (below_listed (node_at graph o).right right is.2 p)
      (at_node graph o p (subst (λ w. IsAtOrBelow graph w p) is.0 below)) where
        by_position : (IsAtOrBelow graph (node_at graph o).left p → Contains (elements graph left) (node_at graph p).element)
            → (IsAtOrBelow graph (node_at graph o).right p → Contains (elements graph right) (node_at graph p).element)
            → AtNode graph o p → Contains (elements graph left ++ (node_at graph o).element ∷ elements graph right) (node_at graph p).element
        by_position in_left in_right (itself same) =
            Contains-append_right (elements graph left) ((node_at graph o).element ∷ elements graph right) (node_at graph p).element
            (subst (λ q. Contains ((node_at graph o).element ∷ elements graph right) (node_at graph q).element) same (Contains-first (node_at graph o).element (elements graph right)))
        by_position in_left in_right (on_left there) =
            Contains-append_left (elements graph left) ((node_at graph o).element ∷ elements graph right) (node_at graph p).element (in_left there)
        by_position in_left in_right (on_right there) =
            Contains-append_right (elements graph left) ((node_at graph o).element ∷ elements graph right) (node_at graph p).element
            (Contains-later (node_at graph o).element (elements graph right) (node_at graph p).element (in_right there))

  -- ---- a node of a search tree

  abbrev HasNoFault : ℕ → Type 0
  HasNoFault o = (¬ IsMiscounted graph o) × (¬ IsUnbalanced graph o) × (¬ IsDisordered graph o)

  pub sound_node : (o : ℕ) → IsSearchTree graph (vals.Ref o) → HasNoFault o
  sound_node o whole = by_tree whole.tree whole.is whole.increasing whole.stated whole.balanced where
    by_tree : (tree : SearchTree) → IsTree graph (vals.Ref o) tree → AreIncreasing graph (elements graph tree) → StateHeights graph tree → IsBalanced tree → HasNoFault o
    by_tree empty is increasing stated balanced = absurd (cc)
    by_tree (node left m right) is increasing stated balanced =
        subst (λ q. HasNoFault q) (sym same) (counted, level, ordered) where
          same : o ≡ m
          same = let known = is.0 in cc

          left_is : left_height graph m ≡ pos (height left)
          left_is = height_is (node_at graph m).left left is.1 stated.1

          right_is : right_height graph m ≡ pos (height right)
          right_is = height_is (node_at graph m).right right is.2 stated.2

          counted : ¬ IsMiscounted graph m
          counted wrong = wrong (counted_back (node_at graph m).height (left_height graph m) (right_height graph m) (height left) (height right) left_is right_is stated.0)

          level : ¬ IsUnbalanced graph m
          level (inl wrong) = not_far (left_height graph m) (right_height graph m) (height left) (height right) left_is right_is balanced.1 wrong
          level (inr wrong) = not_far (right_height graph m) (left_height graph m) (height right) (height left) right_is left_is balanced.0 wrong

          ordered : ¬ IsDisordered graph m
          ordered (inl wrong) = wrong.2 (increasing_less graph (elements graph left) (node_at graph m).element (elements graph right) increasing
              (node_at graph wrong.0).element (below_listed (node_at graph m).left left is.1 wrong.0 wrong.1))
          ordered (inr wrong) = wrong.2 (increasing_more graph (elements graph left) (node_at graph m).element (elements graph right) increasing
              (node_at graph wrong.0).element (below_listed (node_at graph m).right right is.2 wrong.0 wrong.1))
