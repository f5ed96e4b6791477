-- Lemmas about appending nodes.
use Rattle.std.proofs.Common.{ℕ, suc, ◌≡◌, ◌∙◌, List, [], ◌∷◌, ◌++◌, length, refl, sym, ap, subst, arith, length-append, append-nil, append_assoc, ◌-◌}
use Rattle.types_parse.specs.grammar.Grammar.{Name, Texprs}
use Rattle.types_parse.specs.grammar.Grammar as trees
use Rattle.types_spec.specs.types.Ty.{Ty, named, part}
use Rattle.types_spec.specs.types.TypeNodes.{type_at, types_of, type_of, type_of_node, AreOrdered}
use Rattle.types_spec.proofs.types.TypeNodeLemmas.{type_at-more, type_at-last, AreOrdered-push}
use Rattle.types_spec.specs.declared.types.ty.TypeTreeNode.{TypeTreeNode}
use Rattle.types_spec.specs.declared.types.ty.TypeTreeNode.TheVariants as nodes
use Rattle.types_parse.specs.parse.WrittenTrees.{type_of_texpr, applied_to}
use Rattle.types_parse.specs.parse.TypeCode.{parts_nodes, parts_node}
use Rattle.types_parse.specs.parse.TypeShown.{IsAt, AreAt, types_of_texprs}

pub at_more : {ns : List TypeTreeNode} {n : ℕ} {t : Ty} (extra : List TypeTreeNode) → IsAt ns n t →
    IsAt (ns ++ extra) n t
at_more {ns} {n} extra a = record {
  below = omega (arith, a.below, length-append ns extra);
  is =
      type_at-more ns extra n a.below ∙ a.is;
}

pub all_at_more : (ns : List TypeTreeNode) (all : List ℕ) (ts : List Ty) (extra : List TypeTreeNode) →
    AreAt ns all ts → AreAt (ns ++ extra) all ts
all_at_more ns [] [] extra a = tt
all_at_more ns (n ∷ all) (t ∷ ts) extra a = (at_more extra a.0, all_at_more ns all ts extra a.1)
all_at_more ns all ts extra a = absurd a

pub all_at_end : (ns : List TypeTreeNode) {n : ℕ} {t : Ty} (all : List ℕ) (ts : List Ty) → AreAt ns all ts →
    IsAt ns n t → AreAt ns (all ++ n ∷ []) (ts ++ t ∷ [])
all_at_end ns [] [] a b = (b, tt)
all_at_end ns (m ∷ all) (u ∷ ts) a b = (a.0, all_at_end ns all ts a.1 b)
all_at_end ns all ts a b = absurd a

-- After a node is appended, the node with the last index has the type of the appended node.
pub at_last : (ns : List TypeTreeNode) (node : TypeTreeNode) → IsAt (ns ++ node ∷ []) (length ns)
    (type_of_node (types_of ns) node)
at_last ns node = record {
  below = omega (arith, length-append ns (node ∷ []));
  is =
      type_at-last ns node;
}

pub at_last_as : (ns : List TypeTreeNode) (node : TypeTreeNode) (t : Ty) → type_of_node (types_of ns) node ≡ t →
    IsAt (ns ++ node ∷ []) (length ns) t
at_last_as ns node t e = subst (IsAt (ns ++ node ∷ []) (length ns)) e (at_last ns node)

pub is_last : (ns : List TypeTreeNode) (node : TypeTreeNode) → suc (length ns) ≡ length (ns ++ node ∷ [])
is_last ns node = omega (arith, length-append ns (node ∷ []))

-- If a part is added to the type `t` in a new node, then the new node has the type `part t u`.
pub part_last : {ns : List TypeTreeNode} {n m : ℕ} {t u : Ty} → IsAt ns n t → IsAt ns m u →
    IsAt (ns ++ nodes.Part n m ∷ []) (length ns) (part t u)
part_last {ns} {n} {m} {t} {u} a b = at_last_as ns (nodes.Part n m) (part t u)
    (ap (λ x. part x (type_at (types_of ns) m)) a.is ∙ ap (λ x. part t x) b.is)

pub part_ordered : {ns : List TypeTreeNode} {n m : ℕ} {t u : Ty} → IsAt ns n t → IsAt ns m u →
    AreOrdered ns → AreOrdered (ns ++ nodes.Part n m ∷ [])
part_ordered {ns} {n} {m} a b o = AreOrdered-push ns (nodes.Part n m) o (a.below, b.below)

-- ---- several parts

abbrev pub parts_with : Ty → List Ty → Ty
parts_with t [] = t
parts_with t (u ∷ us) = parts_with (part t u) us

parts_with-end : (t : Ty) (us : List Ty) (u : Ty) → parts_with t (us ++ u ∷ [])
    ≡ part (parts_with t us) u
parts_with-end t [] u = refl
parts_with-end t (v ∷ us) u = parts_with-end (part t v) us u

pub applied_as : (name : Name) (ts : Texprs) → parts_with (named name) (types_of_texprs ts)
    ≡ applied_to name ts
applied_as name (trees.first t) = refl
applied_as name (trees.further ts t) = parts_with-end (named name) (types_of_texprs ts)
    (type_of_texpr t) ∙ ap (λ x. part x (type_of_texpr t)) (applied_as name ts)

pub arguments_as : (name : Name) (ts : Texprs) (u : Ty) → parts_with (named name)
    (types_of_texprs ts ++ u ∷ []) ≡ part (applied_to name ts) u
arguments_as name ts u = parts_with-end (named name) (types_of_texprs ts) u ∙ ap (λ x. part x u)
    (applied_as name ts)

-- The nodes after a list of parts was added to node `n`, which makes the type `t`.
pub record Added (ns : List TypeTreeNode) (all : List ℕ) (t : Ty) (n : ℕ) : Type 0 where
  pub extra : List TypeTreeNode
  pub nodes_are : parts_nodes ns n all ≡ ns ++ extra
  pub at : IsAt (parts_nodes ns n all) (parts_node ns n all) t
  pub last : suc (parts_node ns n all) ≡ length (parts_nodes ns n all)
  pub ordered : AreOrdered (parts_nodes ns n all)

pub adds_parts : (all : List ℕ) (us : List Ty) (ns : List TypeTreeNode) (n : ℕ) (t : Ty) → AreAt ns all us →
    IsAt ns n t → suc n ≡ length ns → AreOrdered ns → Added ns all (parts_with t us) n
adds_parts [] [] ns n t their a l o = record {
  extra = [];
  nodes_are = sym (append-nil ns);
  at = a;
  last = l;
  ordered = o;
}
adds_parts (m ∷ all) (u ∷ us) ns n t their a l o =
    let more = adds_parts all us (ns ++ nodes.Part n m ∷ []) (length ns) (part t u)
    (all_at_more ns all us (nodes.Part n m ∷ []) their.1) (part_last a their.0)
    (is_last ns (nodes.Part n m)) (part_ordered a their.0 o) in
    record {
      extra = nodes.Part n m ∷ more.extra;
      nodes_are = more.nodes_are
          ∙ append_assoc ns (nodes.Part n m ∷ []) more.extra;
      at = more.at;
      last = more.last;
      ordered = more.ordered;
    }
adds_parts all us ns n t their a l o = absurd their

-- If node `n` is the last node and has the type `t`, then the type of the nodes is `t`.
pub last_type : (ns : List TypeTreeNode) (n : ℕ) (t : Ty) → IsAt ns n t → suc n ≡ length ns → type_of ns ≡ t
unfolding type_of
last_type ns n t a l = let e : length ns - 1 ≡ n = omega arith in ap (type_at (types_of ns)) e
    ∙ a.is
