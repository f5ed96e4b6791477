-- The tokens of a tree determine the tree.
use Rattle.std.proofs.Common.{◌≡◌, List, [], ◌∷◌, ◌++◌, refl, ap, ap₂, sym, ◌∙◌, arith, append_assoc, append-nil}
use Rattle.marshal_spec.specs.format.Words.{of_object, fields}
use Rattle.marshal_spec.specs.format.Token.{Token, measure_of}
use Rattle.marshal_spec.specs.format.Tree.{Tree, Forest, node, none, more, trees_in, IsTree, AreTrees, tokens, forest_tokens}

-- If two nonempty lists are equal, then the heads of the lists are equal.
same_head : {X : Type 0} (x y : X) (xs ys : List X) → x ∷ xs ≡ y ∷ ys → x ≡ y
same_head x y xs ys e = cc

same_tail : {X : Type 0} (x y : X) (xs ys : List X) → x ∷ xs ≡ y ∷ ys → xs ≡ ys
same_tail x y xs ys e = cc

-- If the tokens of two trees begin the same list of tokens, then the two trees are equal.
mutual
  pub same_tree : (tree other : Tree) (xs ys : List Token) → IsTree tree → IsTree other → tokens tree ++ xs ≡ tokens other ++ ys → (tree ≡ other) × (xs ≡ ys)
  same_tree (node t f) (node u g) xs ys h k e =
      let e₀ : t ≡ u = same_head t u (forest_tokens f ++ xs) (forest_tokens g ++ ys) e in
      let r : (f ≡ g) × (xs ≡ ys) =
      same_forest f g xs ys h.2 k.2 (h.1 ∙ ap (λ w. of_object fields (measure_of w)) e₀ ∙ sym k.1)
      (same_tail t u (forest_tokens f ++ xs) (forest_tokens g ++ ys) e) in
      (ap₂ node e₀ r.0, r.1)

  pub same_forest : (f g : Forest) (xs ys : List Token) → AreTrees f → AreTrees g → trees_in f ≡ trees_in g → forest_tokens f ++ xs ≡ forest_tokens g ++ ys → (f ≡ g) × (xs ≡ ys)
  same_forest none none xs ys h k n e = (refl, e)
  same_forest none (more other g) xs ys h k n e = absurd (omega arith)
  same_forest (more tree f) none xs ys h k n e = absurd (omega arith)
  same_forest (more tree f) (more other g) xs ys h k n e =
      let r : (tree ≡ other) × (forest_tokens f ++ xs ≡ forest_tokens g ++ ys) =
      same_tree tree other (forest_tokens f ++ xs) (forest_tokens g ++ ys) h.0 k.0
      (sym (append_assoc (tokens tree) (forest_tokens f) xs) ∙ e ∙ append_assoc (tokens other) (forest_tokens g) ys) in
      let s : (f ≡ g) × (xs ≡ ys) = same_forest f g xs ys h.1 k.1 (omega arith) r.1 in
      (ap₂ more r.0 s.0, s.1)

-- If two trees have the same tokens, then the two trees are equal.
pub tokens_injective : (tree other : Tree) → IsTree tree → IsTree other → tokens tree ≡ tokens other → tree ≡ other
tokens_injective tree other h k e = (same_tree tree other [] [] h k (append-nil (tokens tree) ∙ e ∙ sym (append-nil (tokens other)))).0
