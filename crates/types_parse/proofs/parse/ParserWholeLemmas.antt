-- Complete types, in the table and in the code.
use Rattle.std.proofs.Common.{◌≡◌, Bool, true, false, List, [], ◌∷◌, ◌++◌, length, Option, Some, None, refl, subst, sym}
use Rattle.types_parse.specs.grammar.Grammar.{Texpr, App, single, starred}
use Rattle.types_parse.specs.grammar.Depths.{app_depth}
use Rattle.types_parse.specs.grammar.Holes.{PartHole, HoleState, whole, group, argument, of_tag, first_part, next_part, inclusion, alone, first_item, next_item, due, read, name_due, tag_read, outside}
use Rattle.types_parse.proofs.grammar.HolesLead.{type_read}
use Rattle.types_spec.specs.types.TypeNodes.{type_of, AreOrdered}
use Rattle.types_spec.specs.declared.types.ty.TypeTreeNode.{TypeTreeNode}
use Rattle.types_spec.specs.declared.types.ty.TypeTreeNode.TheVariants as nodes
use Rattle.types_parse.specs.parse.WrittenTrees.{type_of_texpr, type_of_app}
use Rattle.types_parse.specs.declared.parse.open.OpenPart.{OpenPart}
use Rattle.types_parse.specs.declared.parse.open.OpenConstruct.{OpenConstruct}
use Rattle.types_parse.specs.declared.parse.open.OpenConstruct.TheVariants as frames
use Rattle.types_parse.specs.declared.parse.open.ParsePhase.{ParsePhase}
use Rattle.types_parse.specs.declared.parse.open.ParsePhase.TheVariants as phases
use Rattle.types_parse.specs.parse.TypeCode.{whole_part_code, whole_code, WholeIs}
use Rattle.types_parse.specs.parse.TypeShown.{HasLast, Bottom, at_type, at_part, part_frames, type_shown}
use Rattle.types_parse.proofs.parse.ParserNodeLemmas.{is_last, part_last, part_ordered, last_type}
use Rattle.types_parse.proofs.parse.ParserTypeLemmas.{none_outside}

module _ {W P O : Type 0} where
  -- The states in which a table may accept.
  abbrev pub may_end : HoleState W P O → Bool
  may_end (read (first_part (whole w)) a) = true
  may_end (read (next_part (whole w) t) a) = true
  may_end (read (alone q) a) = true
  may_end (outside q) = true
  may_end s = false

  pub record IsWhole (w : W) (s : HoleState W P O) (ns : List TypeTreeNode) : Type 0 where
    pub type : Texpr
    pub state_is : s ≡ type_read (whole w) type
    pub type_is : type_of ns ≡ type_of_texpr type
    pub ordered : AreOrdered ns

  pub record IsPart (q : P) (s : HoleState W P O) (ns : List TypeTreeNode) : Type 0 where
    pub type : App
    pub state_is : s ≡ read (alone q) type
    pub type_is : type_of ns ≡ type_of_app type
    pub ordered : AreOrdered ns

  abbrev pub IsAllAt : Bottom W P → HoleState W P O → List TypeTreeNode → Type 0
  IsAllAt (at_type w) s ns = IsWhole w s ns
  IsAllAt (at_part q) s ns = IsPart q s ns

  abbrev pub Ends : Bottom W P → HoleState W P O → Option (List TypeTreeNode) → Type 0
  Ends b s (Some ns) = IsAllAt b s ns
  Ends b s None = may_end s ≡ false

module _ {W P : Type 0} (O : Type 0) (b : Bottom W P) where
  part_ends : (p : PartHole W P) (a : App) (ns : List TypeTreeNode) (fs : List OpenConstruct) (q : OpenPart) →
      HasLast ns (type_of_app a) (app_depth a) q → AreOrdered ns → part_frames b p ns fs →
      Ends {O = O} b (read p a) (whole_part_code ns fs q)
  part_ends (first_part (whole w)) a ns [] q s i r =
      subst (λ c. IsAllAt {O = O} c (read (first_part (whole w)) a) ns) (sym r)
      (record {
        type = single a;
        state_is = refl;
        type_is = last_type ns q.node _ s.has.at s.last;
        ordered = i;
      })
  part_ends (first_part (group p)) a ns (frames.Group ∷ fs) q s i r = refl
  part_ends (first_part (argument p ts)) a ns (frames.Arguments all d ∷ fs) q s i r = refl
  part_ends (first_part (of_tag h x)) a ns (frames.TagArgument y ∷ fs) q s i r = refl
  part_ends (next_part (whole w) t) a ns (frames.Component v ∷ []) q s i r =
      subst (λ c. IsAllAt {O = O} c (read (next_part (whole w) t) a)
      (ns ++ nodes.Part v.node q.node ∷ [])) (sym r.1)
      (record {
        type = starred t a;
        state_is = refl;
        type_is = last_type (ns ++ nodes.Part v.node q.node ∷ []) (length ns) _
            (part_last r.0.at s.has.at) (is_last ns (nodes.Part v.node q.node));
        ordered = part_ordered r.0.at s.has.at i;
      })
  part_ends (next_part (group p) t) a ns (frames.Component v ∷ frames.Group ∷ fs) q s i r = refl
  part_ends (next_part (argument p ts) t) a ns (frames.Component v ∷ frames.Arguments all d ∷ fs) q
      s i r = refl
  part_ends (next_part (of_tag h x) t) a ns (frames.Component v ∷ frames.TagArgument y ∷ fs) q s i
      r = refl
  part_ends (inclusion (first_item p false)) a ns (frames.Opened false n ∷ fs) q s i r = refl
  part_ends (inclusion (first_item p true)) a ns (frames.Opened true n ∷ fs) q s i r = refl
  part_ends (inclusion (next_item p bar before)) a ns (frames.Items v ∷ fs) q s i r = refl
  part_ends (alone p) a ns [] q s i r = subst (λ c. IsAllAt {O = O} c (read (alone p) a) ns) (sym r)
      (record {
        type = a;
        state_is = refl;
        type_is = last_type ns q.node _ s.has.at s.last;
        ordered = i;
      })
  part_ends (next_part h t) a ns (frames.Component v ∷ fs) q s i r = absurd r.1
  part_ends p a ns fs q s i r = absurd r

module _ {W P O : Type 0} (b : Bottom W P) where
  pub whole_ends : (s : HoleState W P O) (ns : List TypeTreeNode) (fs : List OpenConstruct) (phase : ParsePhase) →
      AreOrdered ns → type_shown b ns fs phase s → Ends b s (whole_code ns fs phase)
  whole_ends (due p) ns fs phases.Due i r = refl
  whole_ends (read p a) ns fs (phases.Read q) i r = part_ends O b p a ns fs q r.0 i r.1
  whole_ends (name_due p ts t) ns fs (phases.NameDue all d) i r = refl
  whole_ends (tag_read h x) ns fs (phases.TagRead y) i r = refl
  whole_ends (outside q) ns fs phase i r = absurd (none_outside b q ns fs phase r)
  whole_ends s ns fs phase i r = absurd r

-- ---- the result of the code

pub whole_found : (all : Bool) (ns : List TypeTreeNode) (found : Option (List TypeTreeNode)) →
    WholeIs all ns found → all ≡ true → found ≡ Some ns
whole_found all ns found h e = subst (λ w. WholeIs w ns found) e h

pub not_found : (all : Bool) (ns : List TypeTreeNode) (found : Option (List TypeTreeNode)) → WholeIs all ns found →
    all ≡ false → found ≡ None
not_found all ns found h e = subst (λ w. WholeIs w ns found) e h
