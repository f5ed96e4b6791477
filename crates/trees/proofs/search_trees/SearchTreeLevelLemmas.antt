-- If nodes are closed and no height is wrong, then no height is negative, and the parts of a node
-- are lower than the node.
use Rattle.std.proofs.Common.{ℕ, zero, suc, ◌≡◌, ◌<◌, List, length, max, map, refl, arith}
use Rattle.std.specs.Prelude.{Contains, slice_get, ℤ, pos, ◌+ℤ◌, ◌<ℤ◌}
use Rattle.std.specs.Int.{int_max}
use Rattle.std.specs.Global.{Vec}
use Rattle.std.proofs.lemmas.Int.{ints}
use Rattle.std.proofs.lemmas.List.Elements.{All-contains}
use Rattle.base_data.proofs.model.Options.{Contains-map, IsSomeAnd-at}
use Rattle.base_data.specs.declared.model.value.Val.{Val}
use Rattle.base_data.specs.declared.model.value.Val.TheVariants as vals
use Rattle.base_data.specs.declared.model.value.Obj.{Obj}
use Rattle.base_data.proofs.model.Lists.{Contains-position}
use Rattle.trees.specs.search_trees.NodeParts.{node_at, height_of}
use Rattle.trees.specs.search_trees.TreeFault.{left_height, right_height, IsMiscounted}
use Rattle.trees.specs.search_trees.NodeJudgement.{IsAmong, AreClosed, HasAt}
use Rattle.trees.specs.search_trees.TreeLevels.{AreLevels, HasLevel, IsEarlier, AreRising}
use Rattle.trees.proofs.search_trees.SearchTreeFewLemmas.{lower, lower_less}
use Rattle.trees.proofs.search_trees.SearchTreeLemmas.{counted_up}
use Rattle.trees.proofs.search_trees.SearchTreeSoundLemmas.{same_number, left_is_lower, right_is_lower}

lower_level : (y z : ℤ) (g h : ℕ) → y ≡ pos g → z ≡ pos h → y <ℤ z → g < h
lower_level y z g h first second less = omega (arith, ints, first, second, less)

module _ (graph : List Obj) (nodes : List ℕ) (closed : AreClosed graph nodes)
    (counted : (i : ℕ) → ¬ HasAt (IsMiscounted graph) nodes i) where
  right_height_is : (o : ℕ) → Contains nodes o → (node_at graph o).height ≡ pos 1 +ℤ int_max (left_height graph o) (right_height graph o)
  right_height_is o among =
      let position = Contains-position nodes o among in
      same_number (node_at graph o).height (pos 1 +ℤ int_max (left_height graph o) (right_height graph o))
      (λ wrong. counted position.0 (IsSomeAnd-at (slice_get nodes position.0) o (IsMiscounted graph) position.1 wrong))

  abbrev heights : List ℤ
  heights = map (λ o. (node_at graph o).height) nodes

  fewer : (o : ℕ) → Contains nodes o → (z : ℤ) → (node_at graph o).height <ℤ z → lower heights (node_at graph o).height < lower heights z
  fewer o among z less =
      let position = Contains-position heights (node_at graph o).height (Contains-map (λ p. (node_at graph p).height) nodes o among) in
      lower_less heights position.0 (node_at graph o).height z position.1 less

  -- If each node below a height has a level, then a part below the height has a level.
  part_level :
      (z : ℤ) → ((p : ℕ) → Contains nodes p → (node_at graph p).height <ℤ z → HasLevel graph p)
      → (v : Val) → IsAmong nodes v → height_of graph v <ℤ z → (h : ℕ) × (height_of graph v ≡ pos h)
  part_level z each (vals.Int y) among less = (0, refl)
  part_level z each (vals.Atom tag) among less = (0, refl)
  part_level z each (vals.Ref p) among less = each p among less

  level_by : (n o : ℕ) → Contains nodes o → lower heights (node_at graph o).height < n → HasLevel graph o
  level_by zero o among few = absurd (omega (arith, few))
  level_by (suc n) o among few =
      let is = right_height_is o among in
      let each : (p : ℕ) → Contains nodes p → (node_at graph p).height <ℤ (node_at graph o).height → HasLevel graph p =
      λ p there less. let fewer' = fewer p there (node_at graph o).height less in level_by n p there (omega (arith, few, fewer')) in
      let left = part_level (node_at graph o).height each (node_at graph o).left (closed.left o among)
      (left_is_lower (node_at graph o).height (left_height graph o) (right_height graph o) is) in
      let right = part_level (node_at graph o).height each (node_at graph o).right (closed.right o among)
      (right_is_lower (node_at graph o).height (left_height graph o) (right_height graph o) is) in (
        suc (max left.0 right.0),
        counted_up (node_at graph o).height (left_height graph o) (right_height graph o) left.0 right.0 left.1 right.1 is,
      )

  pub has_level : (o : ℕ) → Contains nodes o → HasLevel graph o
  has_level o among = level_by (suc (lower heights (node_at graph o).height)) o among (omega arith)

  module _ (levels : List (Vec ℕ)) (are : AreLevels graph nodes levels) where
    earlier : (z : ℤ) (h : ℕ) → z ≡ pos h → (v : Val) → IsAmong nodes v → height_of graph v <ℤ z → IsEarlier levels h v
    earlier z h is (vals.Int y) among less = tt
    earlier z h is (vals.Atom tag) among less = tt
    earlier z h is (vals.Ref p) among less =
        let level = has_level p among in
        (level.0, lower_level (node_at graph p).height z level.0 h level.1 is less, are.has level.0 p among level.1)

    pub rising : AreRising graph levels
    rising = record {
      inside = λ h o has. All-contains (λ p. p < length graph) nodes o closed.inside (are.only h o has).0;
      left = λ h o has.
          let at = are.only h o has in
          earlier (node_at graph o).height h at.1 (node_at graph o).left (closed.left o at.0)
          (left_is_lower (node_at graph o).height (left_height graph o) (right_height graph o) (right_height_is o at.0));
      right = λ h o has.
          let at = are.only h o has in
          earlier (node_at graph o).height h at.1 (node_at graph o).right (closed.right o at.0)
          (right_is_lower (node_at graph o).height (left_height graph o) (right_height graph o) (right_height_is o at.0));
    }
