-- Lemmas on the types of a list of nodes.
use Rattle.std.proofs.Common.{ℕ, zero, suc, ◌+◌, ◌-◌, ◌<◌, ◌≡◌, ◌∙◌, ⊎_elim, List, [], ◌∷◌, ◌++◌}
use Rattle.std.proofs.Common.{length, Some, ◌≤◌, take, drop}
use Rattle.std.proofs.Common.{refl, sym, ap, subst, arith}
use Rattle.std.specs.Prelude.{fold, slice_get}
use Rattle.std.proofs.lemmas.List.{append_assoc, take-append-drop, length-take, length-take-le, length_push}
use Rattle.std.proofs.Math.Seq.{take-append_seam}
use Rattle.std.proofs.lemmas.Option.{none-some, same_Some, slice_get_within}
use Rattle.base_data.proofs.model.Lists.{slice_get-last}
use Rattle.base_data.proofs.model.Options.{same_or_not}
use Rattle.types_spec.specs.types.Ty.{Ty, part, tag, tag_of, including}
use Rattle.types_spec.specs.declared.types.ty.TypeTreeNode.{TypeTreeNode}
use Rattle.types_spec.specs.declared.types.ty.TypeTreeNode.TheVariants as nodes
use Rattle.types_spec.specs.types.TypeNodes.{type_at, type_of_node, types_of, type_of, IsBelow, AreOrdered}

abbrev grown : List Ty → List TypeTreeNode → List Ty
grown types all = fold (λ ts node. ts ++ type_of_node ts node ∷ []) types all

grown_append : (types : List Ty) (all more : List TypeTreeNode) → grown types (all ++ more) ≡ grown
    (grown types all) more
grown_append types [] more = refl
grown_append types (node ∷ all) more = grown_append (types ++ type_of_node types node ∷ []) all more

pub types_of-push :
    (all : List TypeTreeNode) (node : TypeTreeNode) → types_of (all ++ node ∷ []) ≡ types_of all ++ type_of_node
    (types_of all) node ∷ []
unfolding types_of
types_of-push all node = grown_append [] all (node ∷ [])

grown_length : (types : List Ty) (all : List TypeTreeNode) → length (grown types all) ≡ length types +
    length all
grown_length types [] = omega arith
grown_length types (node ∷ all) =
    omega (
      arith,
      grown_length (types ++ type_of_node types node ∷ []) all,
      length_push types
          (type_of_node types node),
    )

pub types_of-length : (all : List TypeTreeNode) → length (types_of all) ≡ length all
unfolding types_of
types_of-length all =
    let none : 0 + length all ≡ length all = omega arith in grown_length [] all ∙ none

with_none : (types : List Ty) → types ++ [] ≡ types
with_none [] = refl
with_none (t ∷ types) = ap (λ ts. t ∷ ts) (with_none types)

-- If nodes are appended to a list, then the list of the nodes' types only gains types at its end.
grown_keeps : (types : List Ty) (all : List TypeTreeNode) → (added : List Ty)
    × (grown types all ≡ types ++ added)
grown_keeps types [] = ([], sym (with_none types))
grown_keeps types (node ∷ all) =
    let more = grown_keeps (types ++ type_of_node types node ∷ []) all in (
      type_of_node types node ∷ more.0,
      more.1 ∙ append_assoc types (type_of_node types node ∷ [])
          more.0,
    )

-- If types are appended to a list, then the type at each earlier index stays the same.
pub at_kept : (types added : List Ty) (i : ℕ) → i < length types → type_at (types ++ added) i ≡ type_at
    types i
at_kept [] added i below = absurd (omega arith)
at_kept (t ∷ types) added zero below = refl
at_kept (t ∷ types) added (suc i) below = at_kept types added i (omega arith)

at_last : (types : List Ty) (t : Ty) → type_at (types ++ t ∷ []) (length types) ≡ t
at_last [] t = refl
at_last (u ∷ types) t = at_last types t

at_end : (types : List Ty) (t : Ty) (more : List Ty) → slice_get (types ++ t ∷ more)
    (length types) ≡ Some t
at_end [] t more = refl
at_end (u ∷ types) t more = at_end types t more

-- If types are appended to a list, then a node that refers to earlier types denotes the same type.
pub node_kept : (types added : List Ty) (node : TypeTreeNode) → IsBelow (length types) node
    → type_of_node (types ++ added) node ≡ type_of_node types node
node_kept types added (nodes.Variable x) below = refl
node_kept types added (nodes.Named n) below = refl
node_kept types added nodes.Tuple below = refl
node_kept types added nodes.Bracket below = refl
node_kept types added (nodes.Part whole added') below =
    ap (λ w. part w (type_at (types ++ added) added')) (at_kept types added whole below.0)
    ∙ ap (λ a. part (type_at types whole) a) (at_kept types added added' below.1)
node_kept types added (nodes.Tag whole x) below =
    ap (λ w. tag w x) (at_kept types added whole below)
node_kept types added (nodes.TagOf whole x argument) below =
    ap (λ w. tag_of w x (type_at (types ++ added) argument)) (at_kept types added whole below.0)
    ∙ ap (λ a. tag_of (type_at types whole) x a) (at_kept types added argument below.1)
node_kept types added (nodes.Including whole included) below =
    ap (λ w. including w (type_at (types ++ added) included)) (at_kept types added whole below.0)
    ∙ ap (λ a. including (type_at types whole) a) (at_kept types added included below.1)

grown_at : (types : List Ty) (all : List TypeTreeNode) (i : ℕ) (node : TypeTreeNode) → slice_get all i ≡ Some node
    → IsBelow (length types + i) node → slice_get (grown types all) (length types + i) ≡ Some
    (type_of_node (grown types all) node)
grown_at types [] i node is below = absurd (none-some node is)
grown_at types (first ∷ all) zero node is below =
    let kept = grown_keeps (types ++ type_of_node types first ∷ []) all in
    let same : first ≡ node = same_Some first node is in
    let whole : grown types (first ∷ all) ≡ types ++ (type_of_node types first ∷ kept.0) = kept.1
    ∙ append_assoc types (type_of_node types first ∷ []) kept.0 in
    let here : length types + 0 ≡ length types = omega arith in
    let below' = subst (λ n. IsBelow n first) here (subst (λ k. IsBelow (length types + 0) k)
    (sym same) below) in
    ap (λ ts. slice_get ts (length types + 0)) whole
    ∙ ap (slice_get (types ++ (type_of_node types first ∷ kept.0))) here
    ∙ at_end types (type_of_node types first) kept.0
    ∙ ap Some (sym (node_kept types (type_of_node types first ∷ kept.0) first below')
    ∙ ap (λ ts. type_of_node ts first) (sym whole)
    ∙ ap (type_of_node (grown types (first ∷ all))) same)
grown_at types (first ∷ all) (suc i) node is below =
    let here : length (types ++ type_of_node types first ∷ []) + i ≡ length types + suc i =
    omega (arith, length_push types (type_of_node types first)) in
    ap (slice_get (grown types (first ∷ all))) (sym here)
    ∙ grown_at (types ++ type_of_node types first ∷ []) all i node is
    (subst (λ n. IsBelow n node) (sym here) below)

-- The type at an index is the type that the node at the index denotes.
pub types_of-at :
    (all : List TypeTreeNode) (i : ℕ) (node : TypeTreeNode) → AreOrdered all → slice_get all i ≡ Some node
    → slice_get (types_of all) i ≡ Some (type_of_node (types_of all) node)
unfolding types_of
types_of-at all i node ordered is =
    let here : i ≡ 0 + i = omega arith in
    ap (slice_get (types_of all)) here
    ∙ grown_at [] all i node is (subst (λ n. IsBelow n node) here (ordered i node is))

-- ---- one more node

length-node : (all : List TypeTreeNode) (node : TypeTreeNode) → length (all ++ node ∷ []) ≡ suc (length all)
length-node [] node = refl
length-node (first ∷ all) node = ap suc (length-node all node)

get-before : (all more : List TypeTreeNode) (i : ℕ) → i < length all → slice_get (all ++ more) i ≡ slice_get
    all i
get-before [] more i below = absurd (omega arith)
get-before (first ∷ all) more zero below = refl
get-before (first ∷ all) more (suc i) below = get-before all more i (omega arith)

pub AreOrdered-none : AreOrdered []
AreOrdered-none zero node is = absurd (none-some node is)
AreOrdered-none (suc i) node is = absurd (none-some node is)

-- If a node refers to earlier nodes only, then appending the node keeps the list ordered.
pub AreOrdered-push :
    (all : List TypeTreeNode) (node : TypeTreeNode) → AreOrdered all → IsBelow (length all) node
    → AreOrdered (all ++ node ∷ [])
AreOrdered-push all node ordered below i other is = ⊎_elim
    (λ last. let same = same_Some node other (sym (slice_get-last all node)
    ∙ ap (slice_get (all ++ node ∷ [])) (sym last) ∙ is) in subst (λ n. IsBelow i n) same
    (subst (λ k. IsBelow k node) (sym last) below))
    (λ before. ordered i other (sym (get-before all (node ∷ []) i (earlier before)) ∙ is))
    (same_or_not i (length all)) where
      earlier : (i ≡ length all → ⊥) → i < length all
      earlier before =
          omega (
            arith,
            before,
            slice_get_within (all ++ node ∷ []) i other is,
            length-node all
                node,
          )

-- If nodes are appended to a list, then the type of each earlier node stays the same.
pub type_at-more :
    (all more : List TypeTreeNode) (i : ℕ) → i < length all
    → type_at (types_of (all ++ more)) i ≡ type_at (types_of all) i
unfolding types_of
type_at-more all more i below =
    let kept = grown_keeps (grown [] all) more in
    ap (λ types. type_at types i) (grown_append [] all more ∙ kept.1)
    ∙ at_kept (grown [] all) kept.0 i (omega (arith, below, types_of-length all))

-- The type at the index of an appended node is the type that the node denotes.
pub type_at-last :
    (all : List TypeTreeNode) (node : TypeTreeNode)
    → type_at (types_of (all ++ node ∷ [])) (length all) ≡ type_of_node (types_of all) node
type_at-last all node =
    subst (λ n. type_at (types_of (all ++ node ∷ [])) n ≡ type_of_node (types_of all) node)
    (types_of-length all)
    (ap (λ types. type_at types (length (types_of all))) (types_of-push all node)
    ∙ at_last (types_of all) (type_of_node (types_of all) node))

-- The type of a list of nodes is the type that the last node denotes.
pub type_of-push :
    (all : List TypeTreeNode) (node : TypeTreeNode) → type_of (all ++ node ∷ []) ≡ type_of_node (types_of all) node
unfolding type_of
type_of-push all node =
    let last : length (all ++ node ∷ []) - 1 ≡ length (types_of all) =
    omega (arith, length-node all node, types_of-length all) in
    ap (λ ts. type_at ts (length (all ++ node ∷ []) - 1)) (types_of-push all node)
    ∙ ap (type_at (types_of all ++ type_of_node (types_of all) node ∷ [])) last
    ∙ at_last (types_of all) (type_of_node (types_of all) node)

-- ---- the first nodes

-- The types of the first `n` nodes are the first `n` types of all nodes.
pub types_of-take :
    (n : ℕ) (all : List TypeTreeNode) → n ≤ length all → types_of (take n all) ≡ take n (types_of all)
unfolding types_of
types_of-take n all within =
    let prefix = types_of (take n all) in
    let kept = grown_keeps prefix (drop n all) in
    let whole : types_of all ≡ prefix ++ kept.0 =
    ap (grown []) (sym (take-append-drop n all)) ∙ grown_append [] (take n all) (drop n all)
    ∙ kept.1 in
    let many : length prefix ≡ n = types_of-length (take n all) ∙ length-take-le n all within in
    sym (ap (take n) whole ∙ ap (λ k. take k (prefix ++ kept.0)) (sym many)
    ∙ take-append_seam prefix kept.0)

-- If the first `n` elements of a list have an element at an index, then the list has the same
-- element at the same index.
pub from_prefix :
    {A : Type 0} (n : ℕ) (xs : List A) (i : ℕ) (x : A) → slice_get (take n xs) i ≡ Some x
    → slice_get xs i ≡ Some x
from_prefix zero xs i x is = absurd (omega (arith, slice_get_within (take zero xs) i x is, length-take zero xs))
from_prefix (suc n) [] i x is = is
from_prefix (suc n) (y ∷ xs) zero x is = is
from_prefix (suc n) (y ∷ xs) (suc i) x is = from_prefix n xs i x is

-- If a list of nodes is ordered, then the first `n` nodes are ordered.
pub AreOrdered-take : (n : ℕ) (all : List TypeTreeNode) → AreOrdered all → AreOrdered (take n all)
AreOrdered-take n all ordered i node is = ordered i node (from_prefix n all i node is)
