-- The verdict on the nodes among the visits is the verdict on the value.
use Rattle.std.proofs.Common.{ℕ, ◌<◌, ◌≤◌, ◌≡◌, ◌∙◌, inl, inr, ⊎_elim, ◌++◌, List, [], ◌∷◌, length, map, get_or, Option, Some, None, refl, sym, ap, subst, arith}
use Rattle.std.specs.Prelude.{slice_get, All, option_map}
use Rattle.std.proofs.lemmas.Bool.{cases_lt}
use Rattle.std.proofs.lemmas.List.{length-map}
use Rattle.std.proofs.lemmas.Option.{same_Some, none-some, slice_get_within, slice_get-get_or, slice_get-map}
use Rattle.base_data.proofs.model.Options.{Contains-none, IsSomeAnd-at, IsSomeAnd-some, slice_get-Contains, slice_get_there}
use Rattle.base_data.specs.declared.model.value.Val.{Val}
use Rattle.base_data.specs.declared.model.value.Val.TheVariants as vals
use Rattle.base_data.specs.declared.model.value.Obj.{Obj}
use Rattle.base_data.proofs.model.Lists.{Contains-position}
use Rattle.types_spec.specs.types.Fault.{IsBefore, value_at}
use Rattle.types_spec.specs.types.LawfulShapes.{Everything}
use Rattle.types_spec.specs.types.SearchedPaths.{Entry}
use Rattle.types_spec.specs.types.Table.{table_shapes}
use Rattle.types_spec.specs.types.Typing.{HasType}
use Rattle.types_theory.proofs.typing.SearchedLemmas.{before_transitive}
use Rattle.types_theory.proofs.equality.EqualityTableLemmas.{mapped_some}
use Rattle.types_table.specs.declared.type_table.tabled.Tabled.{Tabled}
use Rattle.types_table.specs.type_table.Made.{table_of, IsLawful}
use Rattle.check_heap.specs.declared.check.visits.Visit.{Visit}
use Rattle.check_heap.specs.check.KnownVisits.{IsPathOf}
use Rattle.check_heap.specs.check.Met.{AreAllMet}
use Rattle.trees.specs.declared.search_trees.tree_node.TreeKind.{TreeKind}
use Rattle.trees.specs.declared.search_trees.tree_node.TreeKind.TheVariants as kinds
use Rattle.trees.specs.declared.search_trees.judging.NodesVerdict.TheVariants as judgements
use Rattle.trees.specs.declared.search_trees.tree_verdict.TreeVerdict.{TreeVerdict}
use Rattle.trees.specs.declared.search_trees.tree_verdict.TreeVerdict.TheVariants.{Sound, Faulty}
use Rattle.trees.specs.search_trees.TreeType.{shape_in, names_in, SameClass, IsTreeNumber}
use Rattle.trees.specs.search_trees.NodeParts.{node_at}
use Rattle.trees.specs.search_trees.TreeFault.{IsMiscounted, IsUnbalanced, IsDisordered, IsNode, IsNodeWith, IsTreeFault, HasNoTreeFault}
use Rattle.trees.specs.search_trees.NodeJudgement.{IsAmong, AreClosed, HasAt, IsFaultAt, IsJudgement}
use Rattle.trees.specs.search_trees.TreeVerdict.{IsLessFault, AreNodes}
use Rattle.trees.proofs.search_trees.SearchTreeNodeLemmas.{position_of_right}
use Rattle.trees.proofs.search_trees.SearchTreeSoundLemmas.{object_of, left_leads, right_leads}
use Rattle.trees.specs.declared.value_verdict.tree_nodes.TreeNodes.{TreeNodes}
use Rattle.trees.specs.value_verdict.NodeVisits.{AreNodeVisits, IsVerdictAmong}
use Rattle.trees.specs.value_verdict.TreeTable.{IsTreeTable, IsTableVerdict}

pub all_are : {X : Type 0} (P : X → Type 0) (xs : List X)
    → ((i : ℕ) (x : X) → slice_get xs i ≡ Some x → P x) → All P xs
all_are P xs each k d below = each k (get_or xs k d) (slice_get-get_or xs k d below)

-- The object and the type of an entry, or two zeros if there is no entry.
abbrev pair_of : Option (Entry ℕ) → ℕ × ℕ
pair_of None = (0, 0)
pair_of (Some e) = (e.object, e.type)

module _ (table : Tabled) (graph : List Obj) (root : Val)
    (lawful : IsLawful (table_of table)) (its : IsTreeTable table)
    (has : HasType (table_shapes (table_of table)) graph root 0)
    (all : List Visit) (met : AreAllMet (table_of table) graph root all)
    (nodes : TreeNodes) (among : AreNodeVisits (IsTreeNumber table) all (length all) nodes) where
  abbrev objects : List ℕ
  objects = nodes.objects.items

  abbrev Leads : List ℕ → Val → ℕ → Type 0
  Leads path v u = value_at (table_shapes (table_of table)) graph root 0 path ≡ Some (v, u)

  abbrev IsNodeHere : List ℕ → ℕ → ℕ → Type 0
  IsNodeHere path o u = IsNode (shape_in table) (names_in table) (SameClass table) graph root 0
      path o u

  abbrev HasNodeWith : (List Obj → ℕ → Type 0) → List ℕ → Type 0
  HasNodeWith Has path = IsNodeWith (shape_in table) (names_in table) (SameClass table) graph root
      0 Has path

  abbrev IsFaultHere : TreeKind → List ℕ → Type 0
  IsFaultHere kind path = IsTreeFault (shape_in table) (names_in table) (SameClass table) graph
      root 0 kind path

  -- ---- node i and its visit

  record IsNodeAt (i o : ℕ) : Type 0 where
    number : ℕ
    entry : Entry ℕ
    listed : slice_get objects i ≡ Some o
    visit : slice_get nodes.visits.items i ≡ Some number
    known : slice_get met.known number ≡ Some entry
    object : entry.object ≡ o
    tree : IsTreeNumber table entry.type

  node_there : (i o : ℕ) → slice_get objects i ≡ Some o → IsNodeAt i o
  node_there i o at =
      let inside = slice_get_within objects i o at in
      let many = among.many in
      let k = slice_get_there nodes.visits.items i (omega (arith, inside, many)) in
      let visit = among.at i k.0 o k.1 at in
      let within = slice_get_within all k.0 visit.visit visit.at in
      let known = met.are_known.many in
      let e = slice_get_there met.known k.0 (omega (arith, within, known)) in
      record {
        number = k.0;
        entry = e.0;
        listed = at;
        visit = k.1;
        known = e.1;
        object = met.are_known.objects k.0 visit.visit e.0 visit.at e.1 ∙ visit.object;
        tree = subst (IsTreeNumber table) (sym
            (met.are_known.types k.0 visit.visit e.0 visit.at e.1)) visit.tree;
      }

  leads_there : (i o : ℕ) (n : IsNodeAt i o) → IsNodeHere n.entry.path o n.entry.type
  leads_there i o n = record {
    leads = met.leads n.number n.entry n.known ∙ ap (λ p. Some (vals.Ref p, n.entry.type)) n.object;
    tree = n.tree;
  }

  -- The visited node that a path to a node leads to.
  record IsMetAt (path : List ℕ) (o u : ℕ) : Type 0 where
    position : ℕ
    node : IsNodeAt position o
    equal : SameClass table u node.entry.type
    not_later : ¬ IsBefore path node.entry.path

  met_at : (path : List ℕ) (o u : ℕ) → IsNodeHere path o u → IsMetAt path o u
  met_at path o u node =
      let entered = met.least path o u node.leads in
      let e = entered.0 in
      let tree = its e.type u (sym entered.3) node.tree in
      let k = Contains-position met.known e entered.1 in
      let inside = slice_get_within met.known k.0 e k.1 in
      let known = met.are_known.many in
      let v = slice_get_there all k.0 (omega (arith, inside, known)) in
      let type = met.are_known.types k.0 v.0 e v.1 k.1 in
      let i = among.each k.0 v.0 (omega (arith, inside, known)) v.1
      (subst (IsTreeNumber table) type tree) in
      let within = slice_get_within nodes.visits.items i.0 k.0 i.1 in
      let many = among.many in
      let p = slice_get_there objects i.0 (omega (arith, within, many)) in
      let visit = among.at i.0 k.0 p.0 i.1 p.1 in
      let same : v.0 ≡ visit.visit = same_Some v.0 visit.visit (sym v.1 ∙ visit.at) in
      let object : p.0 ≡ o =
      sym visit.object ∙ sym (ap (λ (x : Visit). x.object) same)
      ∙ sym (met.are_known.objects k.0 v.0 e v.1 k.1) ∙ entered.2 in
      record {
        position = i.0;
        node = record {
          number = k.0;
          entry = e;
          listed = p.1 ∙ ap Some object;
          visit = i.1;
          known = k.1;
          object = entered.2;
          tree = tree;
        };
        equal = entered.3;
        not_later = entered.4;
      }

  -- ---- the nodes contain their parts

  part_among : (v : Val) (path : List ℕ) (u : ℕ) → Leads path v u → IsTreeNumber table u → IsAmong
      objects v
  part_among (vals.Int z) path u leads tree = tt
  part_among (vals.Atom tag) path u leads tree = tt
  part_among (vals.Ref m) path u leads tree =
      let at = met_at path m u (record { leads = leads; tree = tree }) in
      slice_get-Contains objects at.position m at.node.listed

  agree : (i j : ℕ) → Unit {0} → SameClass table i j → IsTreeNumber table j → IsTreeNumber table i
  agree i j any same tree = its i j same tree

  pub closed : AreClosed graph objects
  closed = record {
    inside = all_are (λ o. o < length graph) objects (λ i o at.
        let n = node_there i o at in
        let node = leads_there i o n in
        let object = object_of (shape_in table) (names_in table) (SameClass table) Everything
        lawful.lawful agree graph root 0 tt has
        n.entry.path o n.entry.type node.leads node.tree in
        slice_get_within graph o object.object object.at);
    left = λ o listed.
        let i = Contains-position objects o listed in
        let n = node_there i.0 o i.1 in
        let node = leads_there i.0 o n in
        let object = object_of (shape_in table) (names_in table) (SameClass table) Everything
        lawful.lawful agree graph root 0 tt has
        n.entry.path o n.entry.type node.leads node.tree in
        part_among (node_at graph o).left (n.entry.path ++ 0 ∷ []) node.tree.left
        (left_leads (shape_in table) (names_in table) (SameClass table) Everything
        lawful.lawful agree graph root 0 tt has
        n.entry.path o n.entry.type node.leads node.tree object)
        (its node.tree.left n.entry.type node.tree.left_same node.tree);
    right = λ o listed.
        let i = Contains-position objects o listed in
        let n = node_there i.0 o i.1 in
        let node = leads_there i.0 o n in
        let object = object_of (shape_in table) (names_in table) (SameClass table) Everything
        lawful.lawful agree graph root 0 tt has
        n.entry.path o n.entry.type node.leads node.tree in
        part_among (node_at graph o).right (n.entry.path ++ position_of_right node.tree.kept ∷ [])
        node.tree.right
        (right_leads (shape_in table) (names_in table) (SameClass table) Everything
        lawful.lawful agree graph root 0 tt has
        n.entry.path o n.entry.type node.leads node.tree object)
        (its node.tree.right n.entry.type node.tree.right_same node.tree);
  }

  -- ---- faults

  -- If some path leads to a node with a property, then a visited node has the property.
  has_at : (Has : List Obj → ℕ → Type 0) (path : List ℕ) → HasNodeWith Has path → (i : ℕ) × HasAt
      (Has graph) objects i
  has_at Has path (o, u, node, wrong) =
      let at = met_at path o u node in
      (at.position, IsSomeAnd-at (slice_get objects at.position) o (Has graph) at.node.listed wrong)

  has_node : (Has : List Obj → ℕ → Type 0) (i : ℕ) → HasAt (Has graph) objects i → (path : List ℕ)
      × HasNodeWith Has path
  has_node Has i wrong =
      let o = IsSomeAnd-some (slice_get objects i) (Has graph) wrong in
      let n = node_there i o.0 o.1 in
      (n.entry.path, (o.0, n.entry.type, leads_there i o.0 n, o.2))

  none_at : (Has : List Obj → ℕ → Type 0) → ((path : List ℕ) → ¬ HasNodeWith Has path) → (i : ℕ) →
      ¬ HasAt (Has graph) objects i
  none_at Has none i wrong = let node = has_node Has i wrong in none node.0 node.1

  no_node : (Has : List Obj → ℕ → Type 0) → ((i : ℕ) → ¬ HasAt (Has graph) objects i) →
      (path : List ℕ) → ¬ HasNodeWith Has path
  no_node Has none path node = let at = has_at Has path node in none at.0 at.1

  -- The fault at a path is the fault of a visited node.
  record IsFaultMet (kind : TreeKind) (path : List ℕ) : Type 0 where
    position : ℕ
    object : ℕ
    node : IsNodeAt position object
    fault : IsFaultAt graph objects kind position
    not_later : ¬ IsBefore path node.entry.path

  fault_met : (kind : TreeKind) (path : List ℕ) → IsFaultHere kind path → IsFaultMet kind path
  fault_met kinds.Height path (o, u, node, wrong) =
      let at = met_at path o u node in
      record {
        position = at.position;
        object = o;
        node = at.node;
        fault = IsSomeAnd-at (slice_get objects at.position) o (IsMiscounted graph) at.node.listed
            wrong;
        not_later = at.not_later;
      }
  fault_met kinds.Balance path (o, u, node, wrong) =
      let at = met_at path o u node in
      record {
        position = at.position;
        object = o;
        node = at.node;
        fault = IsSomeAnd-at (slice_get objects at.position) o (IsUnbalanced graph) at.node.listed
            wrong;
        not_later = at.not_later;
      }
  fault_met kinds.Order path ((o, u, node, wrong), none) =
      let at = met_at path o u node in
      record {
        position = at.position;
        object = o;
        node = at.node;
        fault = (
          IsSomeAnd-at (slice_get objects at.position) o (IsDisordered graph) at.node.listed
              wrong,
          none_at IsMiscounted none,
        );
        not_later = at.not_later;
      }

  -- The fault of node `i` is the fault at the path of node `i`.
  record IsFaultKnown (kind : TreeKind) (i : ℕ) : Type 0 where
    object : ℕ
    node : IsNodeAt i object
    fault : IsFaultHere kind node.entry.path

  fault_known : (kind : TreeKind) (i : ℕ) → IsFaultAt graph objects kind i → IsFaultKnown kind i
  fault_known kinds.Height i wrong =
      let o = IsSomeAnd-some (slice_get objects i) (IsMiscounted graph) wrong in
      let n = node_there i o.0 o.1 in
      record { object = o.0; node = n; fault = (o.0, n.entry.type, leads_there i o.0 n, o.2) }
  fault_known kinds.Balance i wrong =
      let o = IsSomeAnd-some (slice_get objects i) (IsUnbalanced graph) wrong in
      let n = node_there i o.0 o.1 in
      record { object = o.0; node = n; fault = (o.0, n.entry.type, leads_there i o.0 n, o.2) }
  fault_known kinds.Order i (wrong, none) =
      let o = IsSomeAnd-some (slice_get objects i) (IsDisordered graph) wrong in
      let n = node_there i o.0 o.1 in
      record {
        object = o.0;
        node = n;
        fault = ((o.0, n.entry.type, leads_there i o.0 n, o.2), no_node IsMiscounted none);
      }

  -- ---- the number of nodes

  abbrev pairs : List (ℕ × ℕ)
  pairs = map (λ k. pair_of (slice_get met.known k)) nodes.visits.items

  record IsPairAt (i o u : ℕ) : Type 0 where
    number : ℕ
    entry : Entry ℕ
    visit : slice_get nodes.visits.items i ≡ Some number
    known : slice_get met.known number ≡ Some entry
    object : entry.object ≡ o
    type : entry.type ≡ u
    tree : IsTreeNumber table entry.type

  pair_there : (i o u : ℕ) → slice_get pairs i ≡ Some (o, u) → IsPairAt i o u
  pair_there i o u at =
      let k = mapped_some (λ k. pair_of (slice_get met.known k)) (slice_get nodes.visits.items i)
      (o, u)
      (sym (slice_get-map (λ k. pair_of (slice_get met.known k)) nodes.visits.items i) ∙ at) in
      let within = slice_get_within nodes.visits.items i k.0 k.1 in
      let many = among.many in
      let p = slice_get_there objects i (omega (arith, within, many)) in
      let n = node_there i p.0 p.1 in
      let same : n.number ≡ k.0 = same_Some n.number k.0 (sym n.visit ∙ k.1) in
      let known : slice_get met.known k.0 ≡ Some n.entry = subst
      (λ m. slice_get met.known m ≡ Some n.entry) same n.known in
      let pair : ◌≡◌ {A = ℕ × ℕ} (n.entry.object, n.entry.type) (o, u) = sym (ap pair_of known) ∙
      k.2 in
      record {
        number = n.number;
        entry = n.entry;
        visit = n.visit;
        known = n.known;
        object = ap (λ (x : ℕ × ℕ). x.0) pair;
        type = ap (λ (x : ℕ × ℕ). x.1) pair;
        tree = n.tree;
      }

  pair_listed : (i o : ℕ) (n : IsNodeAt i o) → slice_get pairs i ≡ Some (o, n.entry.type)
  pair_listed i o n =
      slice_get-map (λ k. pair_of (slice_get met.known k)) nodes.visits.items i
      ∙ ap (λ (found : Option ℕ). option_map (λ k. pair_of (slice_get met.known k)) found) n.visit
      ∙ ap (λ (found : Option (Entry ℕ)). Some (pair_of found)) n.known
      ∙ ap (λ (p : ℕ). Some (p, n.entry.type)) n.object

  same_position : (i j k : ℕ) → slice_get nodes.visits.items i ≡ Some k → slice_get nodes.visits.items
      j ≡ Some k → i ≡ j
  same_position i j k at_i at_j = ⊎_elim
      (λ less. absurd (let rising = among.rising i j k k less at_i at_j in omega (arith, rising)))
      (λ not_less. ⊎_elim
      (λ more. absurd (let rising = among.rising j i k k more at_j at_i in omega (arith, rising)))
      (λ not_more. omega (arith, not_less, not_more))
      (cases_lt j i))
      (cases_lt i j)

  are_nodes : AreNodes (shape_in table) (names_in table) (SameClass table) graph root 0 pairs
  are_nodes = record {
    led = λ o u listed.
        let i = Contains-position pairs (o, u) listed in
        let p = pair_there i.0 o u i.1 in (
          p.entry.path,
          record {
            leads = met.leads p.number p.entry p.known ∙ ap (λ q. Some (vals.Ref q, p.entry.type))
                p.object ∙ ap (λ w. Some (vals.Ref o, w)) p.type;
            tree = subst (IsTreeNumber table) p.type p.tree;
          },
        );
    all = λ path o u node.
        let at = met_at path o u node in (
          at.node.entry.type,
          slice_get-Contains pairs at.position (o, at.node.entry.type)
              (pair_listed at.position o at.node),
          sym at.equal,
        );
    apart = λ j k o u w at_j at_k equal.
        let a = pair_there j o u at_j in
        let b = pair_there k o w at_k in
        let same : a.number ≡ b.number =
        met.apart a.number b.number a.entry b.entry a.known b.known (a.object ∙ sym b.object)
        (subst (λ x. SameClass table x b.entry.type) (sym a.type)
        (subst (λ x. SameClass table u x) (sym b.type) equal)) in
        same_position j k b.number (a.visit ∙ ap Some same) b.visit;
  }

  -- ---- the verdict

  is_sound : (n : ℕ) → IsJudgement graph objects judgements.Sound → n ≡ length objects →
      IsTableVerdict table graph root (Sound n)
  is_sound n none many = (
    λ kind path fault. let at = fault_met kind path fault in none kind at.position at.fault,
    pairs,
    are_nodes,
    many ∙ sym among.many ∙ sym (length-map nodes.visits.items
        (λ k. pair_of (slice_get met.known k))),
  )

  is_least :
      (kind : TreeKind) (i k : ℕ) (path : List ℕ) → IsJudgement graph objects
      (judgements.Faulty kind i)
      → slice_get nodes.visits.items i ≡ Some k → IsPathOf all k path → IsTableVerdict table graph
      root (Faulty kind path)
  is_least kind i k path judged at_i is_path = (
    subst (IsFaultHere kind) (sym path_is) known.fault,
    λ other second fault less. by_order other second (fault_met other second fault) less,
  ) where
    known : IsFaultKnown kind i
    known = fault_known kind i judged.0

    number_is : known.node.number ≡ k
    number_is = same_Some known.node.number k (sym known.node.visit ∙ at_i)

    path_is : path ≡ known.node.entry.path
    path_is = is_path met.known known.node.entry met.are_known
        (subst (λ m. slice_get met.known m ≡ Some known.node.entry) number_is known.node.known)

    -- If node `i` is not later than node `j`, then the path of `j` is not before the path of `i`.
    not_before : (second : List ℕ) (j o : ℕ) (n : IsNodeAt j o) → i ≤ j → IsBefore second path →
        (¬ IsBefore second n.entry.path) → ⊥
    not_before second j o n later before not_later =
        let own : IsBefore second known.node.entry.path = subst (IsBefore second) path_is before in
        ⊎_elim
        (λ after.
        let rising = among.rising i j known.node.number n.number after known.node.visit n.visit in
        not_later (before_transitive second known.node.entry.path n.entry.path own
        (met.increasing known.node.number n.number known.node.entry n.entry rising known.node.known
        n.known)))
        (λ not_after.
        let here : i ≡ j = omega (arith, later, not_after) in
        let same : known.node.number ≡ n.number =
        same_Some known.node.number n.number (sym known.node.visit ∙ ap
        (slice_get nodes.visits.items) here ∙ n.visit) in
        let entry : known.node.entry ≡ n.entry =
        same_Some known.node.entry n.entry (sym known.node.known ∙ ap (slice_get met.known) same ∙
        n.known) in
        not_later (subst (λ (e : Entry ℕ). IsBefore second e.path) entry own))
        (cases_lt i j)

    by_order : (other : TreeKind) (second : List ℕ) → IsFaultMet other second → IsLessFault other
        second kind path → ⊥
    by_order other second at (inl more_severe) = judged.1 other at.position at.fault (inl more_severe)
    by_order other second at (inr (same, before)) = ⊎_elim
        (λ earlier. judged.1 other at.position at.fault (inr (same, earlier)))
        (λ later. not_before second at.position at.object at.node later before at.not_later)
        (cases_lt at.position i)

  pub verdict_is : (verdict : TreeVerdict) → IsVerdictAmong graph all nodes verdict →
      IsTableVerdict table graph root verdict
  verdict_is (Sound n) (none, many) = is_sound n none many
  verdict_is (Faulty kind path) (i, k, judged, at_i, is_path) = is_least kind i k path judged at_i
      is_path

-- ---- no type of a set or a map

module _ (table : Tabled) (graph : List Obj) (root : Val)
    (none : (t : ℕ) → ¬ IsTreeNumber table t) where
  no_node_at : (Has : List Obj → ℕ → Type 0) (path : List ℕ) → ¬ IsNodeWith (shape_in table)
      (names_in table) (SameClass table) graph root 0 Has path
  no_node_at Has path node = none node.1 node.2.tree

  no_fault : HasNoTreeFault (shape_in table) (names_in table) (SameClass table) graph root 0
  no_fault kinds.Height path fault = no_node_at IsMiscounted path fault
  no_fault kinds.Balance path fault = no_node_at IsUnbalanced path fault
  no_fault kinds.Order path fault = no_node_at IsDisordered path fault.0

  nothing : AreNodes (shape_in table) (names_in table) (SameClass table) graph root 0 []
  nothing = record {
    led = λ o u listed. absurd (Contains-none (o, u) listed);
    all = λ path o u node. absurd (none u node.tree);
    apart = λ j k o u w at_j. absurd (none-some (o, u) at_j);
  }

  pub none_there : IsTableVerdict table graph root (Sound 0)
  none_there = (no_fault, [], nothing, refl)

-- ---- what the code reads

-- A node with a fault is among the nodes.
pub fault_inside :
    (graph : List Obj) (objects : List ℕ) (kind : TreeKind) (i : ℕ) → IsFaultAt graph objects kind
    i → i < length objects
fault_inside graph objects kinds.Height i wrong =
    let o = IsSomeAnd-some (slice_get objects i) (IsMiscounted graph) wrong in slice_get_within
    objects i o.0 o.1
fault_inside graph objects kinds.Balance i wrong =
    let o = IsSomeAnd-some (slice_get objects i) (IsUnbalanced graph) wrong in slice_get_within
    objects i o.0 o.1
fault_inside graph objects kinds.Order i wrong =
    let o = IsSomeAnd-some (slice_get objects i) (IsDisordered graph) wrong.0 in slice_get_within
    objects i o.0 o.1
