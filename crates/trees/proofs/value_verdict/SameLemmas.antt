-- If the types of two tables or declarations agree about values and trees, then values have the
-- same verdicts.
use Rattle.std.proofs.Common.{ℕ, zero, suc, ◌≡◌, ◌∙◌, List, [], ◌∷◌, length, Option, Some, None, refl, sym, ap, subst}
use Rattle.std.specs.Prelude.{slice_get, Contains}
use Rattle.std.proofs.lemmas.Option.{same_Some, none-some}
use Rattle.base_data.proofs.model.Options.{Contains-first, Contains-later, slice_get-Contains}
use Rattle.base_data.specs.declared.model.value.Val.{Val}
use Rattle.base_data.specs.declared.model.value.Val.TheVariants as vals
use Rattle.base_data.specs.declared.model.value.Obj.{Obj}
use Rattle.base_data.proofs.model.Lists.{Contains-position}
use Rattle.types_spec.specs.declared.types.names.Names.{Names}
use Rattle.types_spec.specs.declared.types.shape.ShapeOf.{ShapeOf}
use Rattle.types_spec.specs.types.Fault.{value_at}
use Rattle.types_spec.specs.types.Fitting.{shaped}
use Rattle.types_theory.proofs.equality.SimulationLemmas.{SayTheSame, SamePosition, position_same}
use Rattle.trees.specs.declared.search_trees.tree_node.TreeKind.{TreeKind}
use Rattle.trees.specs.declared.search_trees.tree_node.TreeKind.TheVariants as kinds
use Rattle.trees.specs.declared.search_trees.tree_verdict.TreeVerdict.{TreeVerdict}
use Rattle.trees.specs.declared.search_trees.tree_verdict.TreeVerdict.TheVariants.{Sound, Faulty}
use Rattle.trees.specs.search_trees.TreeType.{IsTreeType}
use Rattle.trees.specs.search_trees.TreeFault.{IsMiscounted, IsUnbalanced, IsDisordered, IsNode, IsNodeWith, IsTreeFault}
use Rattle.trees.specs.search_trees.TreeVerdict.{AreNodes, IsTreeVerdict}

-- ---- nodes

module _ {T U : Type 0} (shape : T → ShapeOf T) (names : T → Names) (Equal : T → T → Type 0)
    (shape' : U → ShapeOf U) (names' : U → Names) (Equal' : U → U → Type 0)
    (Of : T → U → Type 0) (graph : List Obj) where
  abbrev Same : Option (Val × T) → Option (Val × U) → Type 0
  Same p q = SamePosition (shaped shape Equal) (shaped shape' Equal') Of graph p q

  -- If a path leads to a value at a type of `T`, then the path leads to the value at a
  -- corresponding type of `U`.
  there : (p : Option (Val × T)) (q : Option (Val × U)) → Same p q → (w : Val) (i : T)
      → p ≡ Some (w, i) → (t : U) × (q ≡ Some (w, t)) × Of i t
  there None q positions w i at = absurd (none-some (w, i) at)
  there (Some p) None positions w i at = absurd positions
  there (Some p) (Some q) positions w i at =
      let pair = same_Some p (w, i) at in (
        q.1,
        ap (λ v. Some (v, q.1)) (sym positions.0 ∙ ap (λ (x : Val × T). x.0) pair),
        subst (λ j. Of j q.1) (ap (λ (x : Val × T). x.1) pair) positions.1,
      )

  -- Each node at a type of `T` is a node at the corresponding type of `U`.
  abbrev pub NodesGo : Val → T → U → Type 0
  NodesGo root r s =
      (path : List ℕ) (o : ℕ) (i : T) → IsNode shape names Equal graph root r path o i
      → (t : U) × Of i t × IsNode shape' names' Equal' graph root s path o t

  pub nodes_go :
      SayTheSame (shaped shape Equal) (shaped shape' Equal') Of graph
      → ((i : T) (t : U) → Of i t → IsTreeType shape names Equal i → IsTreeType shape' names'
      Equal' t)
      → (root : Val) (r : T) (s : U) → Of r s → NodesGo root r s
  nodes_go says trees root r s of path o i node =
      let t = there (value_at (shaped shape Equal) graph root r path)
      (value_at (shaped shape' Equal') graph root s path)
      (position_same (shaped shape Equal) (shaped shape' Equal') Of graph says path root r s of)
      (vals.Ref o) i node.leads in
      (t.0, t.2, record { leads = t.1; tree = trees i t.0 t.2 node.tree })

-- ---- lists of nodes

-- The lists `xs` and `ys` have the same objects at corresponding types.
record ArePaired {T U : Type 0} (Goes : ℕ → T → U → Type 0) (xs : List (ℕ × T))
    (ys : List (ℕ × U)) : Type 0 where
  many : length xs ≡ length ys
  forth : (j o : ℕ) (i : T) → slice_get xs j ≡ Some (o, i)
      → (t : U) × (slice_get ys j ≡ Some (o, t)) × Goes o i t
  back : (j o : ℕ) (t : U) → slice_get ys j ≡ Some (o, t)
      → (i : T) × (slice_get xs j ≡ Some (o, i)) × Goes o i t

module _ {T U : Type 0} (Goes : ℕ → T → U → Type 0) where
  one_more :
      (o : ℕ) (i : T) (t : U) (xs : List (ℕ × T)) (ys : List (ℕ × U)) → Goes o i t
      → ArePaired Goes xs ys → ArePaired Goes ((o, i) ∷ xs) ((o, t) ∷ ys)
  one_more o i t xs ys goes are = record {
    many = ap suc are.many;
    forth = forth;
    back = back;
  } where
    forth : (j p : ℕ) (k : T) → slice_get ((o, i) ∷ xs) j ≡ Some (p, k)
        → (u : U) × (slice_get ((o, t) ∷ ys) j ≡ Some (p, u)) × Goes p k u
    forth zero p k at =
        let pair : ◌≡◌ {A = ℕ × T} (o, i) (p, k) = same_Some (o, i) (p, k) at in
        let object : o ≡ p = ap (λ (x : ℕ × T). x.0) pair in
        let type : i ≡ k = ap (λ (x : ℕ × T). x.1) pair in (
          t,
          ap (λ q. Some (q, t)) object,
          subst (λ q. Goes q k t) object (subst (λ x. Goes o x t) type goes),
        )
    forth (suc j) p k at = are.forth j p k at

    back : (j p : ℕ) (u : U) → slice_get ((o, t) ∷ ys) j ≡ Some (p, u)
        → (k : T) × (slice_get ((o, i) ∷ xs) j ≡ Some (p, k)) × Goes p k u
    back zero p u at =
        let pair : ◌≡◌ {A = ℕ × U} (o, t) (p, u) = same_Some (o, t) (p, u) at in
        let object : o ≡ p = ap (λ (x : ℕ × U). x.0) pair in
        let type : t ≡ u = ap (λ (x : ℕ × U). x.1) pair in (
          i,
          ap (λ q. Some (q, i)) object,
          subst (λ q. Goes q i u) object (subst (λ x. Goes o i x) type goes),
        )
    back (suc j) p u at = are.back j p u at

  paired : (xs : List (ℕ × T))
      → ((o : ℕ) (i : T) → Contains xs (o, i) → (t : U) × Goes o i t)
      → (ys : List (ℕ × U)) × ArePaired Goes xs ys
  paired [] each = (
    [],
    record {
      many = refl;
      forth = λ j o i at. absurd (none-some (o, i) at);
      back = λ j o t at. absurd (none-some (o, t) at);
    },
  )
  paired ((o, i) ∷ xs) each =
      let t = each o i (Contains-first (o, i) xs) in
      let rest = paired xs (λ p k among. each p k (Contains-later (o, i) xs (p, k) among)) in
      ((o, t.0) ∷ rest.0, one_more o i t.0 xs rest.0 t.1 rest.1)

-- ---- verdicts

module _ {T U : Type 0} (shape : T → ShapeOf T) (names : T → Names) (Equal : T → T → Type 0)
    (shape' : U → ShapeOf U) (names' : U → Names) (Equal' : U → U → Type 0)
    (Of : T → U → Type 0) (graph : List Obj) (root : Val) (r : T) (s : U)
    (forth : NodesGo shape names Equal shape' names' Equal' Of graph root r s)
    (back : NodesGo shape' names' Equal' shape names Equal (λ t i. Of i t) graph root s r)
    (equal : (i j : T) (t u : U) → Of i t → Of j u → Equal i j → Equal' t u)
    (equal_back : (i j : T) (t u : U) → Of i t → Of j u → Equal' t u → Equal i j) where
  abbrev IsNodeHere : List ℕ → ℕ → T → Type 0
  IsNodeHere path o i = IsNode shape names Equal graph root r path o i

  abbrev IsOtherNode : List ℕ → ℕ → U → Type 0
  IsOtherNode path o t = IsNode shape' names' Equal' graph root s path o t

  node_with : (Has : List Obj → ℕ → Type 0) (path : List ℕ)
      → IsNodeWith shape names Equal graph root r Has path
      → IsNodeWith shape' names' Equal' graph root s Has path
  node_with Has path (o, i, node, wrong) =
      let t = forth path o i node in (o, t.0, t.2, wrong)

  node_with_back : (Has : List Obj → ℕ → Type 0) (path : List ℕ)
      → IsNodeWith shape' names' Equal' graph root s Has path
      → IsNodeWith shape names Equal graph root r Has path
  node_with_back Has path (o, t, node, wrong) =
      let i = back path o t node in (o, i.0, i.2, wrong)

  fault_on : (kind : TreeKind) (path : List ℕ)
      → IsTreeFault shape names Equal graph root r kind path
      → IsTreeFault shape' names' Equal' graph root s kind path
  fault_on kinds.Height path fault = node_with IsMiscounted path fault
  fault_on kinds.Balance path fault = node_with IsUnbalanced path fault
  fault_on kinds.Order path fault = (
    node_with IsDisordered path fault.0,
    λ other wrong. fault.1 other (node_with_back IsMiscounted other wrong),
  )

  fault_back : (kind : TreeKind) (path : List ℕ)
      → IsTreeFault shape' names' Equal' graph root s kind path
      → IsTreeFault shape names Equal graph root r kind path
  fault_back kinds.Height path fault = node_with_back IsMiscounted path fault
  fault_back kinds.Balance path fault = node_with_back IsUnbalanced path fault
  fault_back kinds.Order path fault = (
    node_with_back IsDisordered path fault.0,
    λ other wrong. fault.1 other (node_with IsMiscounted other wrong),
  )

  -- The types `i` and `t` correspond, and some path leads to the object at the type `t`.
  abbrev Goes : ℕ → T → U → Type 0
  Goes o i t = Of i t × (path : List ℕ) × IsOtherNode path o t

  nodes_on : (xs : List (ℕ × T)) → AreNodes shape names Equal graph root r xs
      → (ys : List (ℕ × U)) × AreNodes shape' names' Equal' graph root s ys ×
      (length xs ≡ length ys)
  nodes_on xs are = (others.0, are_others, others.1.many) where
    others : (ys : List (ℕ × U)) × ArePaired Goes xs ys
    others = paired Goes xs (λ o i among.
        let led = are.led o i among in
        let t = forth led.0 o i led.1 in
        (t.0, (t.1, led.0, t.2)))

    are_others : AreNodes shape' names' Equal' graph root s others.0
    are_others = record {
      led = λ o t among.
          let j = Contains-position others.0 (o, t) among in
          let i = others.1.back j.0 o t j.1 in
          (i.2.1, i.2.2);
      all = λ path o t node.
          let i = back path o t node in
          let w = are.all path o i.0 i.2 in
          let j = Contains-position xs (o, w.0) w.1 in
          let u = others.1.forth j.0 o w.0 j.1 in (
            u.0,
            slice_get-Contains others.0 j.0 (o, u.0) u.1,
            equal w.0 i.0 u.0 t u.2.0 i.1 w.2,
          );
      apart = λ j k o t u at_j at_k same.
          let a = others.1.back j o t at_j in
          let b = others.1.back k o u at_k in
          are.apart j k o a.0 b.0 a.1 b.1 (equal_back a.0 b.0 t u a.2.0 b.2.0 same);
    }

  pub verdict_on : (verdict : TreeVerdict) → IsTreeVerdict shape names Equal graph root r verdict
      → IsTreeVerdict shape' names' Equal' graph root s verdict
  verdict_on (Sound n) (none, nodes, are, many) =
      let others = nodes_on nodes are in (
        λ kind path fault. none kind path (fault_back kind path fault),
        others.0,
        others.1,
        many ∙ others.2,
      )
  verdict_on (Faulty kind path) (fault, least) = (
    fault_on kind path fault,
    λ other second is. least other second (fault_back other second is),
  )
