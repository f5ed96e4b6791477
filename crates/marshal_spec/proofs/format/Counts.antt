-- The number of objects that the tokens of a tree make.
use Rattle.std.proofs.Common.{◌≡◌, ℕ, suc, ◌+◌, ◌≤◌, List, [], ◌∷◌, ◌++◌, length, map, Option, refl, sym, ap, ap₂, ◌∙◌, length-append, arith}
use Rattle.std.proofs.lemmas.List.{map-append}
use Rattle.std.proofs.lemmas.List.Sums.{sum_by-append, sum_by-cons}
use Rattle.base_data.specs.declared.model.code.Measure.{Measure}
use Rattle.base_data.specs.declared.model.value.Obj.{Obj}
use Rattle.base_data.specs.declared.model.value.Obj.TheVariants as objs
use Rattle.base_data.specs.declared.model.value.Val.{Val}
use Rattle.marshal_spec.specs.format.Words.{of_object, fields, objects}
use Rattle.marshal_spec.specs.format.Token.{Token, integer, atom, shared, block, leaf, IsToken, IsLeaf, measure_of, leaf_measure}
use Rattle.marshal_spec.specs.format.Tree.{Tree, Forest, node, none, more, trees_in, IsTree, AreTrees, tokens, forest_tokens, made, made_by, all_made, object_of, objects_of, all_objects, roots}

-- The number of objects of two lists of tokens is the sum of the two numbers.

pub objects-append : (ms ns : List (Option Measure)) → objects (ms ++ ns) ≡ objects ms + objects ns
objects-append ms ns = sum_by-append (of_object (λ _. 1)) ms ns

pub objects-tokens-cons : (t : Token) (ts : List Token) → objects (map measure_of (t ∷ ts)) ≡ made_by t + objects (map measure_of ts)
objects-tokens-cons t ts = sum_by-cons (of_object (λ _. 1)) (measure_of t) (map measure_of ts)

pub objects-tokens-append : (xs ys : List Token) → objects (map measure_of (xs ++ ys)) ≡ objects (map measure_of xs) + objects (map measure_of ys)
objects-tokens-append xs ys = ap objects (map-append measure_of xs ys) ∙ objects-append (map measure_of xs) (map measure_of ys)

-- A tree makes as many objects as all its tokens together.
mutual
  pub objects-tokens : (tree : Tree) → objects (map measure_of (tokens tree)) ≡ made tree
  objects-tokens (node t f) = objects-tokens-cons t (forest_tokens f) ∙ ap (λ n. made_by t + n) (objects-forest_tokens f)

  pub objects-forest_tokens : (f : Forest) → objects (map measure_of (forest_tokens f)) ≡ all_made f
  objects-forest_tokens none = refl
  objects-forest_tokens (more tree f) = objects-tokens-append (tokens tree) (forest_tokens f) ∙ ap₂ ◌+◌ (objects-tokens tree) (objects-forest_tokens f)

-- An object without fields has no fields in its measure.
pub leaf_fields : (o : Obj) → of_object fields (leaf_measure o) ≡ 0
leaf_fields (objs.Block tag values) = refl
leaf_fields (objs.Bytes bytes) = refl
leaf_fields (objs.Double bits) = refl
leaf_fields (objs.Doubles all) = refl
leaf_fields (objs.I32 z) = refl
leaf_fields (objs.I64 z) = refl
leaf_fields (objs.Native z) = refl

-- A token makes one object if the token has a measure, and no object if it has none.
pub length-object_of : (t : Token) (values : List Val) → IsToken t → length (object_of t values) ≡ made_by t
length-object_of (integer z) values h = refl
length-object_of (atom tag) values h = refl
length-object_of (shared offset) values h = refl
length-object_of (block tag size) values h = refl
length-object_of (leaf (objs.Block tag vs)) values h = absurd h
length-object_of (leaf (objs.Bytes bytes)) values h = refl
length-object_of (leaf (objs.Double bits)) values h = refl
length-object_of (leaf (objs.Doubles all)) values h = refl
length-object_of (leaf (objs.I32 z)) values h = refl
length-object_of (leaf (objs.I64 z)) values h = refl
length-object_of (leaf (objs.Native z)) values h = refl

pub made_by_leaf : (o : Obj) → IsLeaf o → made_by (leaf o) ≡ 1
made_by_leaf o h = sym (length-object_of (leaf o) [] h)

-- The list of a tree's objects has as many objects as the tree makes.
mutual
  pub length-objects_of : (tree : Tree) (c : ℕ) → IsTree tree → length (objects_of tree c) ≡ made tree
  length-objects_of (node t f) c h =
      length-append (object_of t (roots f (c + made_by t))) (all_objects f (c + made_by t))
      ∙ ap₂ ◌+◌ (length-object_of t (roots f (c + made_by t)) h.0) (length-all_objects f (c + made_by t) h.2)

  pub length-all_objects : (f : Forest) (c : ℕ) → AreTrees f → length (all_objects f c) ≡ all_made f
  length-all_objects none c h = refl
  length-all_objects (more tree f) c h =
      length-append (objects_of tree c) (all_objects f (c + made tree))
      ∙ ap₂ ◌+◌ (length-objects_of tree c h.0) (length-all_objects f (c + made tree) h.1)

-- A forest has one root value for each tree.
pub length-roots : (f : Forest) (c : ℕ) → length (roots f c) ≡ trees_in f
length-roots none c = refl
length-roots (more tree f) c = ap suc (length-roots f (c + made tree))

-- Every tree has at least one token.
pub some_tokens : (tree : Tree) → 1 ≤ length (tokens tree)
some_tokens (node t f) = omega arith

pub trees_in-le : (f : Forest) → trees_in f ≤ length (forest_tokens f)
trees_in-le none = omega arith
trees_in-le (more tree f) = omega (arith, some_tokens tree, trees_in-le f, length-append (tokens tree) (forest_tokens f))
