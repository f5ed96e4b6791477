-- The objects of a tree form a graph. The root of a tree is a value of the tree's graph. The root
-- of a tree is isomorphic to itself.
use Rattle.std.proofs.Common.{ℕ, ◌+◌, ◌≤◌, length, arith}
use Rattle.std.specs.List.{AllByRecursion}
use Rattle.std.proofs.lemmas.List.Elements.{All-from_recursion}
use Rattle.base_data.specs.declared.model.value.Obj.{Obj}
use Rattle.base_data.specs.declared.model.value.Obj.TheVariants as objects
use Rattle.base_data.specs.model.Graph.{IsValue, IsObject, IsGraph}
use Rattle.base_data.proofs.model.Lists.{AllByRecursion-append}
use Rattle.marshal_spec.specs.format.Token.{Token, integer, atom, shared, block, leaf, IsLeaf}
use Rattle.marshal_spec.specs.format.Tree.{Tree, Forest, node, none, more, IsTree, AreTrees, root, roots, made, made_by, all_made, object_of, objects_of, all_objects, ReferBack, AllReferBack}
use Rattle.marshal_spec.specs.format.Isomorphism.{Isomorphism, IsTreeOf}
use Rattle.marshal_spec.proofs.format.Counts.{length-objects_of, length-roots}
use Rattle.marshal_spec.proofs.format.FormatRootLemmas.{root_is_value}
use Rattle.marshal_spec.proofs.canonical.IsomorphismLemmas.{same_reflexive}
use Rattle.marshal_spec.proofs.canonical.SameTree.{made_by_leaf}

root_valid : (tree : Tree) (c n : ℕ) → IsTree tree → ReferBack tree c → c + made tree ≤ n → IsValue n (root tree c)
root_valid (node (integer z) f) c n h back fits = h.0
root_valid (node (atom tag) f) c n h back fits = h.0
root_valid (node (shared offset) f) c n h back fits = let first = back.0.0 in let second = back.0.1 in omega (arith, first, second, fits)
root_valid (node (block tag size) f) c n h back fits = omega (arith, fits)
root_valid (node (leaf object) f) c n h back fits = let one = made_by_leaf object h.0 in omega (arith, fits, one)

roots_valid : (f : Forest) (c n : ℕ) → AreTrees f → AllReferBack f c → c + all_made f ≤ n → AllByRecursion (IsValue n) (roots f c)
roots_valid none c n h back fits = tt
roots_valid (more tree f) c n h back fits = (root_valid tree c n h.0 back.0 (omega (arith, fits)), roots_valid f (c + made tree) n h.1 back.1 (omega (arith, fits)))

leaf_valid : (o : Obj) (n : ℕ) → IsLeaf o → IsObject n o
leaf_valid (objects.Block tag values) n h = absurd h
leaf_valid (objects.Bytes bytes) n h = h
leaf_valid (objects.Double bits) n h = h
leaf_valid (objects.Doubles all) n h = h
leaf_valid (objects.I32 z) n h = h
leaf_valid (objects.I64 z) n h = h
leaf_valid (objects.Native z) n h = h

object_valid : (t : Token) (f : Forest) (c n : ℕ) → IsTree (node t f) → ReferBack (node t f) c → c + made (node t f) ≤ n → AllByRecursion (IsObject n) (object_of t (roots f (c + made_by t)))
object_valid (integer z) f c n h back fits = tt
object_valid (atom tag) f c n h back fits = tt
object_valid (shared offset) f c n h back fits = tt
object_valid (leaf object) f c n h back fits = (leaf_valid object n h.0, tt)
object_valid (block tag size) f c n h back fits =
    let count = length-roots f (c + 1) in
    let fields = h.1 in
    let some = h.0.1 in
    ((h.0.0, omega (arith, count, fields, some), All-from_recursion (IsValue n) (roots f (c + 1)) (roots_valid f (c + 1) n h.2 back.1 (omega (arith, fits)))), tt)

mutual
  objects_valid : (tree : Tree) (c n : ℕ) → IsTree tree → ReferBack tree c → c + made tree ≤ n → AllByRecursion (IsObject n) (objects_of tree c)
  objects_valid (node t f) c n h back fits =
      AllByRecursion-append (IsObject n) (object_of t (roots f (c + made_by t))) (all_objects f (c + made_by t)) (object_valid t f c n h back fits)
      (forest_valid f (c + made_by t) n h.2 back.1 (omega (arith, fits)))

  forest_valid : (f : Forest) (c n : ℕ) → AreTrees f → AllReferBack f c → c + all_made f ≤ n → AllByRecursion (IsObject n) (all_objects f c)
  forest_valid none c n h back fits = tt
  forest_valid (more tree f) c n h back fits =
      AllByRecursion-append (IsObject n) (objects_of tree c) (all_objects f (c + made tree)) (objects_valid tree c n h.0 back.0 (omega (arith, fits)))
      (forest_valid f (c + made tree) n h.1 back.1 (omega (arith, fits)))

-- ---- a tree is the tree of its own value

pub is_graph : (tree : Tree) → IsTree tree → ReferBack tree 0 → IsGraph (objects_of tree 0)
is_graph tree is back =
    let count = length-objects_of tree 0 is in
    All-from_recursion (IsObject (length (objects_of tree 0))) (objects_of tree 0)
    (objects_valid tree 0 (length (objects_of tree 0)) is back (omega (arith, count)))

pub self_same : (tree : Tree) → IsTree tree → ReferBack tree 0 → Isomorphism (objects_of tree 0) (root tree 0) (objects_of tree 0) (root tree 0)
self_same tree is back = same_reflexive (objects_of tree 0) (root tree 0) (is_graph tree is back) (root_is_value tree is back)

pub own_tree : (tree : Tree) → IsTree tree → ReferBack tree 0 → IsTreeOf (objects_of tree 0) (root tree 0) tree
own_tree tree is back = record { is_tree = is; refers_back = back; same = self_same tree is back }
