-- The state of the table that nodes, frames and a phase represent.
use Rattle.std.specs.Prelude.{ℕ, suc, ◌≡◌, ◌<◌, min, max, Bool, true, false, List, [], ◌∷◌, ◌++◌}
use Rattle.std.specs.Prelude.{length, ⊤}
use Rattle.types_parse.specs.grammar.Grammar.{Texprs, Items}
use Rattle.types_parse.specs.grammar.Grammar as trees
use Rattle.types_parse.specs.grammar.Depths.{texpr_depth, part_depth, app_depth, texprs_depth}
use Rattle.types_parse.specs.grammar.Depths.{items_depth}
use Rattle.types_parse.specs.grammar.Holes.{TypeHole, PartHole, ItemHole, HoleState, whole, group}
use Rattle.types_parse.specs.grammar.Holes.{argument}
use Rattle.types_parse.specs.grammar.Holes.{of_tag, first_part, next_part, inclusion, alone}
use Rattle.types_parse.specs.grammar.Holes.{first_item}
use Rattle.types_parse.specs.grammar.Holes.{next_item, due, read, name_due, tag_read}
use Rattle.types_spec.specs.types.Ty.{Ty, bracket}
use Rattle.types_spec.specs.types.TypeNodes.{type_at, types_of}
use Rattle.types_spec.specs.declared.types.ty.TypeTreeNode.{TypeTreeNode}
use Rattle.types_parse.specs.parse.WrittenTrees.{type_of_texpr, tuple_of, type_of_app}
use Rattle.types_parse.specs.parse.WrittenTrees.{type_of_items}
use Rattle.types_parse.specs.declared.parse.open.OpenPart.{OpenPart}
use Rattle.types_parse.specs.declared.parse.open.OpenConstruct.{OpenConstruct}
use Rattle.types_parse.specs.declared.parse.open.OpenConstruct.TheVariants as frames
use Rattle.types_parse.specs.declared.parse.open.ParsePhase.{ParsePhase}
use Rattle.types_parse.specs.declared.parse.open.ParsePhase.TheVariants as phases

-- ---- indices of nodes

-- The type of node `n` is `t`.
pub record IsAt (ns : List TypeTreeNode) (n : ℕ) (t : Ty) : Type 0 where
  pub below : n < length ns
  pub is : type_at (types_of ns) n ≡ t

-- The nodes with these indices have these types, in order.
abbrev pub AreAt : List TypeTreeNode → List ℕ → List Ty → Type 0
AreAt ns [] [] = ⊤
AreAt ns (n ∷ all) (t ∷ ts) = IsAt ns n t × AreAt ns all ts
AreAt ns all ts = ⊥

-- The part `r` represents a type of depth `depth` that was read so far.
pub record Has (ns : List TypeTreeNode) (t : Ty) (depth : ℕ) (r : OpenPart) : Type 0 where
  pub at : IsAt ns r.node t
  pub capped : r.depth ≡ min 201 depth

-- The indices `all` and the depth `d` represent the arguments read so far, whose greatest depth is
-- `depth`.
pub record HasAll (ns : List TypeTreeNode) (ts : List Ty) (depth : ℕ) (all : List ℕ)
    (d : ℕ) : Type 0 where
  pub at : AreAt ns all ts
  pub capped : d ≡ min 201 depth

-- The part `r` represents the type `t`, and the part's node is the last node.
pub record HasLast (ns : List TypeTreeNode) (t : Ty) (depth : ℕ) (r : OpenPart) : Type 0 where
  pub has : Has ns t depth r
  pub last : suc r.node ≡ length ns

abbrev pub types_of_texprs : Texprs → List Ty
types_of_texprs (trees.first t) = type_of_texpr t ∷ []
types_of_texprs (trees.further ts t) = types_of_texprs ts ++ type_of_texpr t ∷ []

-- ---- the frames represent the context of a type

-- The context of the outermost type, or of an outermost component that cannot begin a tuple.
pub data Bottom (W P : Type 0) : Type 0 where
  at_type : W → Bottom W P
  at_part : P → Bottom W P

module _ {W P : Type 0} where
  abbrev pub is_alone : Bottom W P → Bool
  is_alone (at_type w) = false
  is_alone (at_part q) = true

  module _ (b : Bottom W P) where
    abbrev mutual
      pub type_frames : TypeHole W P → List TypeTreeNode → List OpenConstruct → Type 0
      type_frames (whole w) ns [] = b ≡ at_type w
      type_frames (group p) ns (frames.Group ∷ fs) = part_frames p ns fs
      type_frames (argument p ts) ns (frames.Arguments all d ∷ fs) =
          HasAll ns (types_of_texprs ts) (texprs_depth ts) all d × part_frames p ns fs
      type_frames (of_tag h x) ns (frames.TagArgument y ∷ fs) = (y ≡ x) × item_frames h ns fs
      type_frames h ns fs = ⊥

      pub part_frames : PartHole W P → List TypeTreeNode → List OpenConstruct → Type 0
      part_frames (first_part h) ns fs = type_frames h ns fs
      part_frames (next_part h t) ns (frames.Component r ∷ fs) =
          Has ns (tuple_of t) (part_depth t) r × type_frames h ns fs
      part_frames (inclusion h) ns fs = item_frames h ns fs
      part_frames (alone q) ns [] = b ≡ at_part q
      part_frames p ns fs = ⊥

      pub item_frames : ItemHole W P → List TypeTreeNode → List OpenConstruct → Type 0
      item_frames (first_item p false) ns (frames.Opened false n ∷ fs) = IsAt ns n bracket
          × part_frames p ns fs
      item_frames (first_item p true) ns (frames.Opened true n ∷ fs) = IsAt ns n bracket
          × part_frames p ns fs
      item_frames (next_item p bar before) ns (frames.Items r ∷ fs) =
          Has ns (type_of_items before) (items_depth before) r × part_frames p ns fs
      item_frames h ns fs = ⊥

module _ {W P O : Type 0} (b : Bottom W P) where
  abbrev pub type_shown : List TypeTreeNode → List OpenConstruct → ParsePhase → HoleState W P O
      → Type 0
  type_shown ns fs phases.Due (due p) = part_frames b p ns fs
  type_shown ns fs (phases.Read r) (read p a) = HasLast ns (type_of_app a) (app_depth a) r
      × part_frames b p ns fs
  type_shown ns fs (phases.NameDue all d) (name_due p ts t) =
      HasAll ns (types_of_texprs ts ++ type_of_texpr t ∷ []) (max (texprs_depth ts) (texpr_depth t))
      all d
      × part_frames b p ns fs
  type_shown ns fs (phases.TagRead y) (tag_read h x) = (y ≡ x) × item_frames b h ns fs
  type_shown ns fs phase s = ⊥
