-- The pairs of a check at types of sets and maps are the nodes. If the verdict needs no path except
-- the root's path, then the verdict follows from the objects of the pairs.
use Rattle.std.proofs.Common.{ℕ, zero, suc, ◌<◌, ◌≡◌, ◌∙◌, ◌⊎◌, inl, ⊎_elim, ◌++◌, Bool, true, false, ◌+◌, List, [], ◌∷◌, cond, get_or, length, map, take, Option, Some, refl, sym, ap, subst}
use Rattle.std.specs.Prelude.{slice_get, slice_index_or, Contains, filter, option_map}
use Rattle.std.proofs.lemmas.List.Elements.{filter_more}
use Rattle.std.proofs.lemmas.List.{length-map, map-append}
use Rattle.std.proofs.lemmas.Option.{same_Some, none-some, slice_get_within, slice_get-map}
use Rattle.base_data.proofs.model.Options.{Contains-map, map-Contains, IsSomeAnd-at, IsSomeAnd-some, slice_get-Contains}
use Rattle.base_data.specs.declared.model.value.Val.{Val}
use Rattle.base_data.specs.declared.model.value.Val.TheVariants as vals
use Rattle.base_data.specs.declared.model.value.Obj.{Obj}
use Rattle.base_data.proofs.model.Lists.{Contains-position, Contains-filter}
use Rattle.types_spec.specs.types.Fault.{value_at}
use Rattle.types_spec.specs.types.LawfulShapes.{Everything}
use Rattle.types_spec.specs.types.Table.{table_shapes}
use Rattle.types_spec.specs.types.Typing.{IsHeld, HasType}
use Rattle.types_spec.proofs.types.TypeFaultLemmas.{position_is_held}
use Rattle.types_spec.proofs.types.TypeListLemmas.{filtered-Contains}
use Rattle.types_theory.specs.typing.StepLaws.{AreApart, key_of}
use Rattle.types_theory.proofs.typing.SearchedLemmas.{never_before_root}
use Rattle.types_theory.proofs.typing.TypingStepLemmas.{Distinct, distinct}
use Rattle.types_table.specs.declared.type_table.tabled.Tabled.{Tabled}
use Rattle.types_table.specs.type_table.Made.{table_of, IsLawful}
use Rattle.check_heap.specs.scan.Paths.{HasPath}
use Rattle.check_heap.specs.check.Verdict.{IsYes}
use Rattle.trees.specs.declared.search_trees.tree_node.TreeKind.{TreeKind}
use Rattle.trees.specs.declared.search_trees.tree_node.TreeKind.TheVariants as kinds
use Rattle.trees.specs.declared.search_trees.judging.NodesVerdict.TheVariants as judgements
use Rattle.trees.specs.declared.search_trees.tree_verdict.TreeVerdict.TheVariants.{Sound, Faulty}
use Rattle.trees.specs.search_trees.TreeType.{shape_in, names_in, SameClass, IsTreeNumber}
use Rattle.trees.specs.search_trees.NodeParts.{node_at}
use Rattle.trees.specs.search_trees.TreeFault.{IsMiscounted, IsUnbalanced, IsDisordered, IsNode, IsNodeWith, IsTreeFault}
use Rattle.trees.specs.search_trees.NodeJudgement.{IsAmong, AreClosed, HasAt, IsFaultAt, IsJudgement}
use Rattle.trees.specs.search_trees.TreeVerdict.{AreNodes}
use Rattle.trees.proofs.search_trees.SearchTreeNodeLemmas.{position_of_right}
use Rattle.trees.proofs.search_trees.SearchTreeSoundLemmas.{object_of, left_leads, right_leads}
use Rattle.trees.specs.value_verdict.NodePairs.{is_node_pair, objects_of, marked_objects, AreNodeObjects}
use Rattle.trees.specs.value_verdict.TreeTable.{IsTreeTable, AreMarked, IsTableVerdict}
use Rattle.trees.proofs.value_verdict.AmongLemmas.{all_are}

-- ---- filters

-- ---- distinct elements

apart_again : {X : Type 0} (xs : List X) → Distinct xs → AreApart xs
apart_again [] distinct j k y at_j at_k = absurd (none-some y at_j)
apart_again (x ∷ xs) distinct zero zero y at_j at_k = refl
apart_again (x ∷ xs) distinct zero (suc k) y at_j at_k =
    absurd (distinct.0 (subst (Contains xs) (sym (same_Some x y at_j))
    (slice_get-Contains xs k y at_k)))
apart_again (x ∷ xs) distinct (suc j) zero y at_j at_k =
    absurd (distinct.0 (subst (Contains xs) (sym (same_Some x y at_k))
    (slice_get-Contains xs j y at_j)))
apart_again (x ∷ xs) distinct (suc j) (suc k) y at_j at_k =
    ap suc (apart_again xs distinct.1 j k y at_j at_k)

distinct_kept : {X Y : Type 0} (f : X → Y) (p : X → Bool) (xs : List X) → Distinct (map f xs)
    → Distinct (map f (filter p xs))
distinct_kept f p [] apart = tt
distinct_kept {X} {Y} f p (z ∷ xs) apart = by_test (p z) (distinct_kept f p xs apart.1) where
  by_test : (b : Bool) → Distinct (map f (filter p xs))
      → Distinct (map f (cond b (z ∷ filter p xs) (filter p xs)))
  by_test true rest = (
    λ among.
        let m = map-Contains f (filter p xs) (f z) among in
        apart.0 (subst (Contains (map f xs)) m.2
        (Contains-map f xs m.0 (filtered-Contains p xs m.0 m.1).0)),
    rest,
  )
  by_test false rest = rest

module _ (table : Tabled) (graph : List Obj) (root : Val)
    (lawful : IsLawful (table_of table)) (its : IsTreeTable table)
    (has : HasType (table_shapes (table_of table)) graph root 0) where
  abbrev IsNodeHere : List ℕ → ℕ → ℕ → Type 0
  IsNodeHere path o u = IsNode (shape_in table) (names_in table) (SameClass table) graph root 0
      path o u

  abbrev HasNodeWith : (List Obj → ℕ → Type 0) → List ℕ → Type 0
  HasNodeWith Has path = IsNodeWith (shape_in table) (names_in table) (SameClass table) graph root
      0 Has path

  abbrev IsFaultHere : TreeKind → List ℕ → Type 0
  IsFaultHere kind path = IsTreeFault (shape_in table) (names_in table) (SameClass table) graph
      root 0 kind path

  -- ---- the pairs are the nodes

  module _ (typing : List (ℕ × ℕ)) (yes : IsYes (table_of table) graph root typing)
      (paths : (o t : ℕ) → Contains typing (o, t) → HasPath (table_of table) graph root o t)
      (found : List Bool) (marked : AreMarked table found) where
    root_held : IsHeld (table_shapes (table_of table)) graph typing root 0
    root_held = record { fits = has.fits; listed = yes.rooted }

    pairs_are_nodes : AreNodes (shape_in table) (names_in table) (SameClass table) graph root 0
        (filter (is_node_pair found) typing)
    pairs_are_nodes = record {
      led = λ o u among.
          let k = filtered-Contains (is_node_pair found) typing (o, u) among in
          let p = paths o u k.0 in
          (p.0, record { leads = p.1; tree = (marked u).0 k.1 });
      all = λ path o u node.
          let held = position_is_held (table_shapes (table_of table)) Everything lawful.lawful
          graph typing yes.typing path root 0 (vals.Ref o) u tt root_held node.leads in
          let other = held.1.listed in (
            other.0,
            Contains-filter (is_node_pair found) typing (o, other.0) other.1
                ((marked other.0).1 (its other.0 u other.2 node.tree)),
            other.2,
          );
      apart = λ j k o u w at_j at_k same.
          let f = key_of (table_of table) in
          let pairs = filter (is_node_pair found) typing in
          apart_again (map f pairs)
          (distinct_kept f (is_node_pair found) typing (distinct (map f typing) yes.apart)) j k
          (f (o, w))
          (slice_get-map f pairs j ∙ ap (option_map f) at_j
          ∙ ap (λ (c : Option ℕ). Some (o, c)) same)
          (slice_get-map f pairs k ∙ ap (option_map f) at_k);
    }

    pub are_found : (objects : List ℕ) → objects ≡ marked_objects found typing → AreNodeObjects
        table graph root objects
    are_found objects is = record {
      pairs = filter (is_node_pair found) typing;
      nodes = pairs_are_nodes;
      all = is;
    }

  -- ---- the objects of the nodes

  module _ (objects : List ℕ) (are : AreNodeObjects table graph root objects) where
    among_objects : (path : List ℕ) (o u : ℕ) → IsNodeHere path o u → Contains objects o
    among_objects path o u node =
        let a = are.nodes.all path o u node in
        subst (λ xs. Contains xs o) (sym are.all)
        (Contains-map (λ (pair : ℕ × ℕ). pair.0) are.pairs (o, a.0) a.1)

    node_of : (o : ℕ) → Contains objects o → (path : List ℕ) × (u : ℕ) × IsNodeHere path o u
    node_of o among =
        let p = map-Contains (λ (pair : ℕ × ℕ). pair.0) are.pairs o
        (subst (λ xs. Contains xs o) are.all among) in
        let led = are.nodes.led p.0.0 p.0.1 p.1 in
        (led.0, p.0.1, subst (λ q. IsNodeHere led.0 q p.0.1) p.2 led.1)

    agree : (i j : ℕ) → Unit {0} → SameClass table i j → IsTreeNumber table j → IsTreeNumber table
        i
    agree i j any same tree = its i j same tree

    part_among : (v : Val) (path : List ℕ) (u : ℕ)
        → value_at (table_shapes (table_of table)) graph root 0 path ≡ Some (v, u)
        → IsTreeNumber table u → IsAmong objects v
    part_among (vals.Int z) path u leads tree = tt
    part_among (vals.Atom tag) path u leads tree = tt
    part_among (vals.Ref m) path u leads tree =
        among_objects path m u (record { leads = leads; tree = tree })

    pub found_closed : AreClosed graph objects
    found_closed = record {
      inside = all_are (λ o. o < length graph) objects (λ i o at.
          let n = node_of o (slice_get-Contains objects i o at) in
          let object = object_of (shape_in table) (names_in table) (SameClass table) Everything
          lawful.lawful agree graph root 0 tt has n.0 o n.1 n.2.leads n.2.tree in
          slice_get_within graph o object.object object.at);
      left = λ o listed.
          let n = node_of o listed in
          let object = object_of (shape_in table) (names_in table) (SameClass table) Everything
          lawful.lawful agree graph root 0 tt has n.0 o n.1 n.2.leads n.2.tree in
          part_among (node_at graph o).left (n.0 ++ 0 ∷ []) n.2.tree.left
          (left_leads (shape_in table) (names_in table) (SameClass table) Everything
          lawful.lawful agree graph root 0 tt has n.0 o n.1 n.2.leads n.2.tree object)
          (its n.2.tree.left n.1 n.2.tree.left_same n.2.tree);
      right = λ o listed.
          let n = node_of o listed in
          let object = object_of (shape_in table) (names_in table) (SameClass table) Everything
          lawful.lawful agree graph root 0 tt has n.0 o n.1 n.2.leads n.2.tree in
          part_among (node_at graph o).right (n.0 ++ position_of_right n.2.tree.kept ∷ [])
          n.2.tree.right
          (right_leads (shape_in table) (names_in table) (SameClass table) Everything
          lawful.lawful agree graph root 0 tt has n.0 o n.1 n.2.leads n.2.tree object)
          (its n.2.tree.right n.1 n.2.tree.right_same n.2.tree);
    }

    -- ---- faults

    has_at : (Has : List Obj → ℕ → Type 0) (path : List ℕ) → HasNodeWith Has path
        → (i : ℕ) × HasAt (Has graph) objects i
    has_at Has path (o, u, node, wrong) =
        let at = Contains-position objects o (among_objects path o u node) in
        (at.0, IsSomeAnd-at (slice_get objects at.0) o (Has graph) at.1 wrong)

    has_node : (Has : List Obj → ℕ → Type 0) (i : ℕ) → HasAt (Has graph) objects i
        → (path : List ℕ) × HasNodeWith Has path
    has_node Has i wrong =
        let o = IsSomeAnd-some (slice_get objects i) (Has graph) wrong in
        let n = node_of o.0 (slice_get-Contains objects i o.0 o.1) in
        (n.0, (o.0, n.1, n.2, o.2))

    none_at : (Has : List Obj → ℕ → Type 0) → ((path : List ℕ) → ¬ HasNodeWith Has path)
        → (i : ℕ) → ¬ HasAt (Has graph) objects i
    none_at Has none i wrong = let node = has_node Has i wrong in none node.0 node.1

    no_node : (Has : List Obj → ℕ → Type 0) → ((i : ℕ) → ¬ HasAt (Has graph) objects i)
        → (path : List ℕ) → ¬ HasNodeWith Has path
    no_node Has none path node = let at = has_at Has path node in none at.0 at.1

    -- If there is a fault at a path, then some object of the list has the fault.
    fault_at : (kind : TreeKind) (path : List ℕ) → IsFaultHere kind path
        → (i : ℕ) × IsFaultAt graph objects kind i
    fault_at kinds.Height path fault = has_at IsMiscounted path fault
    fault_at kinds.Balance path fault = has_at IsUnbalanced path fault
    fault_at kinds.Order path fault =
        let at = has_at IsDisordered path fault.0 in
        (at.0, (at.1, none_at IsMiscounted fault.1))

    -- If an object of the list has a property, then the property holds for the object's number.
    own : (Has : ℕ → Type 0) (i o : ℕ) → slice_get objects i ≡ Some o → HasAt Has objects i → Has o
    own Has i o at wrong =
        let some = IsSomeAnd-some (slice_get objects i) Has wrong in
        subst Has (same_Some some.0 o (sym some.1 ∙ at)) some.2

    fault_here : (kind : TreeKind) (i o : ℕ) → slice_get objects i ≡ Some o
        → IsFaultAt graph objects kind i → (path : List ℕ) (u : ℕ) → IsNodeHere path o u
        → IsFaultHere kind path
    fault_here kinds.Height i o at wrong path u node =
        (o, u, node, own (IsMiscounted graph) i o at wrong)
    fault_here kinds.Balance i o at wrong path u node =
        (o, u, node, own (IsUnbalanced graph) i o at wrong)
    fault_here kinds.Order i o at wrong path u node =
        ((o, u, node, own (IsDisordered graph) i o at wrong.0), no_node IsMiscounted wrong.1)

    -- ---- the verdict

    pub found_sound : (n : ℕ) → IsJudgement graph objects judgements.Sound → n ≡ length objects
        → IsTableVerdict table graph root (Sound n)
    found_sound n none many = (
      λ kind path fault. let at = fault_at kind path fault in none kind at.0 at.1,
      are.pairs,
      are.nodes,
      many ∙ ap length are.all ∙ length-map are.pairs (λ (pair : ℕ × ℕ). pair.0),
    )

    pub found_at_root : (kind : TreeKind) (i o : ℕ) → IsJudgement graph objects
        (judgements.Faulty kind i)
        → slice_get objects i ≡ Some o → root ≡ vals.Ref o → IsTreeNumber table 0
        → IsTableVerdict table graph root (Faulty kind [])
    found_at_root kind i o judged at root_is tree = (
      fault_here kind i o at judged.0 [] 0
          (record { leads = ap (λ v. Some (v, 0)) root_is; tree = tree }),
      λ other second fault less.
          let found = fault_at other second fault in
          ⊎_elim
          (λ more_severe. judged.1 other found.0 found.1 (inl more_severe))
          (λ same. never_before_root second same.1)
          less,
    )

-- ---- what the code reads

get_or-at : {X : Type 0} (xs : List X) (i : ℕ) (d x : X) → slice_get xs i ≡ Some x
    → get_or xs i d ≡ x
get_or-at [] i d x is = absurd (none-some x is)
get_or-at (y ∷ xs) zero d x is = same_Some y x is
get_or-at (y ∷ xs) (suc i) d x is = get_or-at xs i d x is

-- If one more pair is read, then the marked objects gain the pair's object if the pair's type is
-- marked.
pub marked_more : (found : List Bool) (pairs : List (ℕ × ℕ)) (k o t : ℕ)
    → slice_get pairs k ≡ Some (o, t)
    → marked_objects found (take (k + 1) pairs)
    ≡ marked_objects found (take k pairs)
    ++ cond (slice_index_or found t false) (o ∷ []) []
marked_more found pairs k o t at =
    ap objects_of (filter_more (is_node_pair found) pairs k (o, t) (slice_get_within pairs k (o, t) at)
    ∙ ap (λ (x : ℕ × ℕ). filter (is_node_pair found) (take k pairs) ++ cond (slice_index_or found x.1 false) (x ∷ []) [])
    (get_or-at pairs k (o, t) (o, t) at))
    ∙ map-append (λ (pair : ℕ × ℕ). pair.0) (filter (is_node_pair found) (take k pairs)) (cond (slice_index_or found t false) ((o, t) ∷ []) [])
    ∙ ap (λ xs. marked_objects found (take k pairs) ++ xs) (by_test (slice_index_or found t false)) where
      by_test : (b : Bool) → objects_of (cond b ((o, t) ∷ []) []) ≡ cond b (o ∷ []) []
      by_test true = refl
      by_test false = refl
