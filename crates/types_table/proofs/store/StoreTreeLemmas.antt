-- The first nodes of a store, as a separate type.
use Rattle.std.proofs.Common.{ℕ, suc, ◌+◌, ◌<◌, ◌≤◌, ◌≡◌, ◌∙◌, List, [], ◌∷◌, ◌++◌, length, take, drop, Some, refl, sym, ap, subst, arith}
use Rattle.std.specs.Prelude.{slice_get}
use Rattle.std.proofs.Math.Seq.{take-suc}
use Rattle.std.proofs.lemmas.List.{length-take-le, take-append-drop}
use Rattle.std.proofs.lemmas.Option.{slice_get_within, get_or_from_slice_get}
use Rattle.types_spec.specs.types.Ty.{Ty, tuple}
use Rattle.types_spec.specs.declared.types.ty.TypeTreeNode.{TypeTreeNode}
use Rattle.types_spec.specs.types.TypeNodes.{type_at, type_of_node, types_of, type_of, IsBelow, AreOrdered}
use Rattle.types_spec.proofs.types.TypeNodeLemmas.{types_of-push, types_of-length, type_of-push, node_kept, AreOrdered-push}

-- The nodes are ordered, and the types of the nodes are the first `k` types of the store.
pub record AreFirst (types : List Ty) (k : ℕ) (nodes : List TypeTreeNode) : Type 0 where
  pub ordered : AreOrdered nodes
  pub are : types_of nodes ≡ take k types

module _ (types : List Ty) (k : ℕ) (nodes : List TypeTreeNode) (first : AreFirst types k nodes)
    (node : TypeTreeNode) (is : slice_get types k ≡ Some (type_of_node types node)) (below : IsBelow k node) where
  within : k < length types
  within = slice_get_within types k (type_of_node types node) is

  many : length nodes ≡ k
  many = sym (types_of-length nodes) ∙ ap length first.are ∙ length-take-le k types (let le : k ≤ length types = omega (arith, within) in le)

  below_many : IsBelow (length (take k types)) node
  below_many =
      subst (λ n. IsBelow n node) (sym (length-take-le k types (let le : k ≤ length types = omega (arith, within) in le))) below

  stands : type_of_node (types_of nodes) node ≡ type_of_node types node
  stands =
      ap (λ ts. type_of_node ts node) first.are
      ∙ sym (node_kept (take k types) (drop k types) node below_many)
      ∙ ap (λ ts. type_of_node ts node) (take-append-drop k types)

  pub now_ordered : AreOrdered (nodes ++ node ∷ [])
  now_ordered = AreOrdered-push nodes node first.ordered (subst (λ n. IsBelow n node) (sym many) below)

  pub first_more : AreFirst types (k + 1) (nodes ++ node ∷ [])
  first_more =
      let next : suc k ≡ k + 1 = omega arith in record {
        ordered = now_ordered;
        are = types_of-push nodes node
            ∙ (λ j. first.are j ++ stands j ∷ [])
            ∙ ap (λ t. take k types ++ t ∷ []) (sym (get_or_from_slice_get types k (type_of_node types node) tuple is))
            ∙ sym (take-suc types k tuple within)
            ∙ ap (λ n. take n types) next;
      }

  pub last_of_all : type_of (nodes ++ node ∷ []) ≡ type_at types k
  last_of_all =
      type_of-push nodes node ∙ stands ∙ sym (get_or_from_slice_get types k (type_of_node types node) tuple is)

pub first_none : (types : List Ty) → AreOrdered [] → AreFirst types 0 []
unfolding types_of
first_none types none = record { ordered = none; are = refl }
