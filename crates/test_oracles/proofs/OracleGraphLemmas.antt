-- The graph that tokens build, from the last token to the first.
use Rattle.std.proofs.Common.{ℕ, ◌≡◌, ◌+◌, List, [], ◌∷◌, ◌++◌, length, take, drop, map, sym, ◌∙◌, ap, ap₂, arith, append_assoc, append-nil, take_at}
use Rattle.std.proofs.lemmas.List.{drop_at}
use Rattle.base_data.specs.declared.model.value.Val.{Val}
use Rattle.base_data.specs.declared.model.value.Obj.{Obj}
use Rattle.marshal_spec.specs.format.Token.{Token as Encoded}
use Rattle.marshal_spec.specs.format.Tree.{Tree, node, Forest, none, more, IsTree, AreTrees, tokens, forest_tokens, value_of, root, made_by, made, all_made as forest_made, roots, object_of, objects_of, all_objects}
use Rattle.marshal_spec.proofs.format.Counts.{length-roots}
use Rattle.test_oracles.specs.declared.token.Token.{Token}
use Rattle.test_oracles.specs.Token.{token_of}
use Rattle.test_oracles.specs.Graph.{size_of, all_made}

-- The values of the trees with these tokens, after `c` objects.
abbrev pub values_from : List Encoded → ℕ → List Val
values_from [] c = []
values_from (t ∷ ts) c = value_of t c ∷ drop (size_of t) (values_from ts (c + made_by t))

-- The objects of the trees with these tokens.
abbrev pub objects_from : List Encoded → ℕ → List Obj
objects_from [] c = []
objects_from (t ∷ ts) c = object_of t (take (size_of t) (values_from ts (c + made_by t))) ++ objects_from ts (c + made_by t)

-- ---- trees

mutual
  values-tree : (tree : Tree) (rest : List Encoded) (c : ℕ) → IsTree tree → values_from (tokens tree ++ rest) c ≡ root tree c ∷ values_from rest (c + made tree)
  values-tree (node t forest) rest c h =
      let e : c + made_by t + forest_made forest ≡ c + (made_by t + forest_made forest) = omega arith in
      let first = roots forest (c + made_by t) in
      let skip = values_from rest (c + made_by t + forest_made forest) in
      ap (λ vs. value_of t c ∷ vs)
      (ap (λ vs. drop (size_of t) vs) (values-forest forest rest (c + made_by t) h.2)
      ∙ (drop_at first skip (size_of t) (length-roots forest (c + made_by t) ∙ h.1)
      ∙ ap (λ n. values_from rest n) e))

  values-forest : (forest : Forest) (rest : List Encoded) (c : ℕ) → AreTrees forest → values_from (forest_tokens forest ++ rest) c ≡ roots forest c ++ values_from rest (c + forest_made forest)
  values-forest none rest c h = let e : c ≡ c + 0 = omega arith in ap (λ n. values_from rest n) e
  values-forest (more tree forest) rest c h =
      let e : c + made tree + forest_made forest ≡ c + (made tree + forest_made forest) = omega arith in
      ap (λ ts. values_from ts c) (append_assoc (tokens tree) (forest_tokens forest) rest)
      ∙ (values-tree tree (forest_tokens forest ++ rest) c h.0
      ∙ ap (λ vs. root tree c ∷ vs)
      (values-forest forest rest (c + made tree) h.1 ∙ ap (λ n. roots forest (c + made tree) ++ values_from rest n) e))

mutual
  objects-tree : (tree : Tree) (rest : List Encoded) (c : ℕ) → IsTree tree → objects_from (tokens tree ++ rest) c ≡ objects_of tree c ++ objects_from rest (c + made tree)
  objects-tree (node t forest) rest c h =
      let e : c + made_by t + forest_made forest ≡ c + (made_by t + forest_made forest) = omega arith in
      let first = roots forest (c + made_by t) in
      let skip = values_from rest (c + made_by t + forest_made forest) in
      let fields : take (size_of t) (values_from (forest_tokens forest ++ rest) (c + made_by t)) ≡ first =
      ap (λ vs. take (size_of t) vs) (values-forest forest rest (c + made_by t) h.2)
      ∙ take_at first skip (size_of t) (length-roots forest (c + made_by t) ∙ h.1) in
      ap₂ (λ vs os. object_of t vs ++ os) fields
      (objects-forest forest rest (c + made_by t) h.2 ∙ ap (λ n. all_objects forest (c + made_by t) ++ objects_from rest n) e)
      ∙ sym (append_assoc (object_of t first) (all_objects forest (c + made_by t)) (objects_from rest (c + (made_by t + forest_made forest))))

  objects-forest : (forest : Forest) (rest : List Encoded) (c : ℕ) → AreTrees forest → objects_from (forest_tokens forest ++ rest) c ≡ all_objects forest c ++ objects_from rest (c + forest_made forest)
  objects-forest none rest c h = let e : c ≡ c + 0 = omega arith in ap (λ n. objects_from rest n) e
  objects-forest (more tree forest) rest c h =
      let e : c + made tree + forest_made forest ≡ c + (made tree + forest_made forest) = omega arith in
      ap (λ ts. objects_from ts c) (append_assoc (tokens tree) (forest_tokens forest) rest)
      ∙ (objects-tree tree (forest_tokens forest ++ rest) c h.0
      ∙ (ap (λ os. objects_of tree c ++ os)
      (objects-forest forest rest (c + made tree) h.1 ∙ ap (λ n. all_objects forest (c + made tree) ++ objects_from rest n) e)
      ∙ sym (append_assoc (objects_of tree c) (all_objects forest (c + made tree)) (objects_from rest (c + (made tree + forest_made forest))))))

-- The tokens of one tree have one value, the root of the tree.
pub values-all : (tree : Tree) → IsTree tree → values_from (tokens tree) 0 ≡ root tree 0 ∷ []
values-all tree h = ap (λ ts. values_from ts 0) (sym (append-nil (tokens tree))) ∙ values-tree tree [] 0 h

pub objects-all : (tree : Tree) → IsTree tree → objects_from (tokens tree) 0 ≡ objects_of tree 0
objects-all tree h = ap (λ ts. objects_from ts 0) (sym (append-nil (tokens tree))) ∙ (objects-tree tree [] 0 h ∙ append-nil (objects_of tree 0))

-- ---- token by token

-- The values and objects that are built when the tokens `left` remain.
pub record After (all left : List Token) (values : List Val) (objects : List Obj) : Type 0 where
  pub rest : List Token
  pub tokens_are : all ≡ left ++ rest
  pub values_are : values ≡ values_from (map token_of rest) (all_made (map token_of left))
  pub objects_are : objects ≡ objects_from (map token_of rest) (all_made (map token_of left))

-- If all tokens are processed, and the tokens are those of a tree, then the only value is the root
-- of the tree.
pub After-values : (all : List Token) (values : List Val) (objects : List Obj) (tree : Tree) → After all [] values objects → IsTree tree
    → map token_of all ≡ tokens tree → values ≡ root tree 0 ∷ []
After-values all values objects tree h is e =
    h.values_are ∙ (ap (λ ts. values_from (map token_of ts) 0) (sym h.tokens_are) ∙ (ap (λ ts. values_from ts 0) e ∙ values-all tree is))

pub After-objects : (all : List Token) (values : List Val) (objects : List Obj) (tree : Tree) → After all [] values objects → IsTree tree
    → map token_of all ≡ tokens tree → objects ≡ objects_of tree 0
After-objects all values objects tree h is e =
    h.objects_are ∙ (ap (λ ts. objects_from (map token_of ts) 0) (sym h.tokens_are) ∙ (ap (λ ts. objects_from ts 0) e ∙ objects-all tree is))
