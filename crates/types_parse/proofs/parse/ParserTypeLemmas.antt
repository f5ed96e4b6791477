-- The code's step on indices of nodes agrees with the table's step on trees.
use Rattle.std.proofs.Common.{ℕ, suc, ◌≡◌, ◌∙◌, min, max, Bool, true, false, List, [], ◌∷◌, ◌++◌, length, Option, Some, None, refl, sym, ap, subst, arith}
use Rattle.types_parse.specs.declared.parse.open.OpenItem.{OpenItem as ItemRead}
use Rattle.types_lex.specs.declared.lexeme.LexemeKind.{LexemeKind}
use Rattle.types_lex.specs.declared.lexeme.LexemeKind.TheVariants as kinds
use Rattle.types_lex.specs.declared.lexeme.Keyword.TheVariants as keywords
use Rattle.types_lex.specs.declared.lexeme.Symbol.TheVariants as symbols
use Rattle.types_parse.specs.grammar.Grammar.{Name, Texpr, App, Texprs, Items, ItemTree, single, starred, simple, applied, variable, named, grouped, arguments, bracket, first, further, one, more, tag, tag_of, included}
use Rattle.types_parse.specs.grammar.Depths.{texpr_depth, part_depth, app_depth, texprs_depth, items_depth, item_depth}
use Rattle.types_parse.specs.grammar.Holes.{Outer, TypeHole, PartHole, ItemHole, HoleState, whole, group, argument, of_tag, first_part, next_part, inclusion, alone, first_item, next_item, due, read, name_due, tag_read, outside, begin_item, begin, after_items, after_item, close_type, after_type, close_part, after_part, take_name, after_tag, step, part_ended, ended as table_ended}
use Rattle.types_spec.specs.types.Ty.{Ty}
use Rattle.types_spec.specs.types.Ty as tys
use Rattle.types_spec.specs.types.TypeNodes.{type_at, types_of, type_of, AreOrdered}
use Rattle.types_spec.proofs.types.TypeNodeLemmas.{AreOrdered-push}
use Rattle.types_spec.specs.declared.types.ty.TypeTreeNode.{TypeTreeNode}
use Rattle.types_spec.specs.declared.types.ty.TypeTreeNode.TheVariants as nodes
use Rattle.types_parse.specs.parse.WrittenTrees.{type_of_texpr, tuple_of, type_of_app, type_of_items, with_item}
use Rattle.types_parse.specs.declared.parse.open.OpenPart.{OpenPart}
use Rattle.types_parse.specs.declared.parse.open.OpenConstruct.{OpenConstruct}
use Rattle.types_parse.specs.declared.parse.open.OpenConstruct.TheVariants as frames
use Rattle.types_parse.specs.declared.parse.open.ParsePhase.{ParsePhase}
use Rattle.types_parse.specs.declared.parse.open.ParsePhase.TheVariants as phases
use Rattle.types_parse.specs.declared.parse.open.OpenItem.TheVariants as read_items
use Rattle.types_parse.specs.parse.TypeCode.{StepCode, goes, ended, stops, deeper, part, begin_item_code, begin_code, item_node, item_depth_code, after_items_code, after_item_code, after_group_code, after_argument_code, close_type_code, after_single_code, after_tuple_code, outermost_code, close_part_code, after_part_code, parts_nodes, parts_node, take_name_code, after_tag_code, step_code, part_depth_code, depth_code}
use Rattle.types_parse.specs.parse.TypeShown.{IsAt, Has, HasAll, HasLast, types_of_texprs, Bottom, at_type, at_part, is_alone, type_frames, part_frames, item_frames, type_shown}
use Rattle.types_parse.proofs.parse.ParserNodeLemmas.{at_more, all_at_more, all_at_end, at_last, at_last_as, is_last, part_last, part_ordered, parts_with, arguments_as, Added, adds_parts, last_type}

-- ---- further nodes change nothing

has_more : {ns : List TypeTreeNode} {t : Ty} {depth : ℕ} {r : OpenPart} (extra : List TypeTreeNode) → Has ns t depth r →
    Has (ns ++ extra) t depth r
has_more extra h = record { at = at_more extra h.at; capped = h.capped }

all_more : {ns : List TypeTreeNode} {ts : List Ty} {depth : ℕ} {all : List ℕ} {d : ℕ} (extra : List TypeTreeNode) →
    HasAll ns ts depth all d → HasAll (ns ++ extra) ts depth all d
all_more {ns} {ts} {all = all} extra h = record {
  at = all_at_more ns all ts extra h.at;
  capped =
      h.capped;
}

module _ {W P : Type 0} (b : Bottom W P) where
  mutual
    type_frames_more : (h : TypeHole W P) (ns extra : List TypeTreeNode) (fs : List OpenConstruct) →
        type_frames b h ns fs → type_frames b h (ns ++ extra) fs
    type_frames_more (whole w) ns extra [] r = r
    type_frames_more (group p) ns extra (frames.Group ∷ fs) r = part_frames_more p ns extra fs r
    type_frames_more (argument p ts) ns extra (frames.Arguments all d ∷ fs) r =
        (all_more extra r.0, part_frames_more p ns extra fs r.1)
    type_frames_more (of_tag h x) ns extra (frames.TagArgument y ∷ fs) r =
        (r.0, item_frames_more h ns extra fs r.1)
    type_frames_more h ns extra fs r = absurd r

    part_frames_more : (p : PartHole W P) (ns extra : List TypeTreeNode) (fs : List OpenConstruct) →
        part_frames b p ns fs → part_frames b p (ns ++ extra) fs
    part_frames_more (first_part h) ns extra fs r = type_frames_more h ns extra fs r
    part_frames_more (next_part h t) ns extra (frames.Component q ∷ fs) r =
        (has_more extra r.0, type_frames_more h ns extra fs r.1)
    part_frames_more (inclusion h) ns extra fs r = item_frames_more h ns extra fs r
    part_frames_more (alone q) ns extra [] r = r
    part_frames_more p ns extra fs r = absurd r

    item_frames_more : (h : ItemHole W P) (ns extra : List TypeTreeNode) (fs : List OpenConstruct) →
        item_frames b h ns fs → item_frames b h (ns ++ extra) fs
    item_frames_more (first_item p false) ns extra (frames.Opened false n ∷ fs) r =
        (at_more extra r.0, part_frames_more p ns extra fs r.1)
    item_frames_more (first_item p true) ns extra (frames.Opened true n ∷ fs) r =
        (at_more extra r.0, part_frames_more p ns extra fs r.1)
    item_frames_more (next_item p bar before) ns extra (frames.Items q ∷ fs) r =
        (has_more extra r.0, part_frames_more p ns extra fs r.1)
    item_frames_more h ns extra fs r = absurd r

deeper_capped : (d n : ℕ) → d ≡ min 201 n → deeper d ≡ min 201 (suc n)
deeper_capped d n h = omega arith

max_capped : (d e m n : ℕ) → d ≡ min 201 m → e ≡ min 201 n → max d e ≡ min 201 (max m n)
max_capped d e m n h i = omega arith

module _ {W P O : Type 0} (b : Bottom W P) where
  pub none_outside : (q : O) (ns : List TypeTreeNode) (fs : List OpenConstruct) (phase : ParsePhase) →
      type_shown b ns fs phase (outside q) → ⊥
  none_outside q ns fs phases.Due r = r
  none_outside q ns fs (phases.Read a) r = r
  none_outside q ns fs (phases.NameDue all d) r = r
  none_outside q ns fs (phases.TagRead x) r = r

-- ---- the code's steps beside the table's steps

module _ {W P O Text : Type 0} (o : Outer W P O Text) where
  pub record WholeEnds (w : W) (next : Option (HoleState W P O)) (kind : LexemeKind)
      (ns : List TypeTreeNode) : Type 0 where
    pub type : Texpr
    pub next_is : next ≡ o.type_step w type kind
    pub type_is : type_of ns ≡ type_of_texpr type
    pub ordered : AreOrdered ns

  pub record PartEnds (q : P) (next : Option (HoleState W P O)) (kind : LexemeKind)
      (ns : List TypeTreeNode) : Type 0 where
    pub type : App
    pub next_is : next ≡ o.part_step q type kind
    pub type_is : type_of ns ≡ type_of_app type
    pub ordered : AreOrdered ns

  abbrev pub EndsAt : Bottom W P → Option (HoleState W P O) → LexemeKind → List TypeTreeNode → Type 0
  EndsAt (at_type w) next kind ns = WholeEnds w next kind ns
  EndsAt (at_part q) next kind ns = PartEnds q next kind ns

module _ {W P O Text : Type 0} (o : Outer W P O Text) (b : Bottom W P) where
  pub record Goes (next : Option (HoleState W P O)) (ns : List TypeTreeNode) (fs : List OpenConstruct)
      (phase : ParsePhase) : Type 0 where
    pub state : HoleState W P O
    pub goes_to : next ≡ Some state
    pub shown : type_shown b ns fs phase state
    pub ordered : AreOrdered ns

  abbrev pub Follows : Option (HoleState W P O) → LexemeKind → StepCode → Type 0
  Follows next kind (goes ns fs phase) = Goes next ns fs phase
  Follows next kind (ended ns fs) = EndsAt o b next kind ns × (fs ≡ [])
  Follows next kind stops = next ≡ None

  -- ---- steps

  no_item_here : (h : TypeHole W P) (ns : List TypeTreeNode) (fs : List OpenConstruct) (kind : LexemeKind) →
      type_frames b h ns fs → Follows None kind (begin_item_code ns fs kind)
  no_item_here (whole w) ns [] kind r = refl
  no_item_here (group p) ns (frames.Group ∷ fs) kind r = refl
  no_item_here (argument p ts) ns (frames.Arguments all d ∷ fs) kind r = refl
  no_item_here (of_tag h x) ns (frames.TagArgument y ∷ fs) kind r = refl
  no_item_here h ns fs kind r = absurd r

  begin_item_follows : (p : PartHole W P) (ns : List TypeTreeNode) (fs : List OpenConstruct) (kind : LexemeKind) →
      AreOrdered ns → part_frames b p ns fs → Follows (begin_item p kind) kind
      (begin_item_code ns fs kind)
  begin_item_follows (first_part h) ns fs kind i r = no_item_here h ns fs kind r
  begin_item_follows (next_part h t) ns (frames.Component q ∷ fs) kind i r = refl
  begin_item_follows (inclusion (first_item p false)) ns (frames.Opened false n ∷ fs)
      (kinds.Symbol symbols.Bar) i r = record {
        state = due (inclusion (first_item p true));
        goes_to = refl;
        shown = r;
        ordered = i;
      }
  begin_item_follows (inclusion (first_item p false)) ns (frames.Opened false n ∷ fs) (kinds.Tag x)
      i r = record {
        state = tag_read (first_item p false) x;
        goes_to = refl;
        shown = (refl, r);
        ordered = i;
      }
  begin_item_follows (inclusion (first_item p false)) ns (frames.Opened false n ∷ fs) kind i r =
      refl
  begin_item_follows (inclusion (first_item p true)) ns (frames.Opened true n ∷ fs) (kinds.Tag x) i
      r = record {
        state = tag_read (first_item p true) x;
        goes_to = refl;
        shown = (refl, r);
        ordered = i;
      }
  begin_item_follows (inclusion (first_item p true)) ns (frames.Opened true n ∷ fs) kind i r = refl
  begin_item_follows (inclusion (next_item p bar before)) ns (frames.Items q ∷ fs) (kinds.Tag x) i
      r = record {
        state = tag_read (next_item p bar before) x;
        goes_to = refl;
        shown = (refl, r);
        ordered = i;
      }
  begin_item_follows (inclusion (next_item p bar before)) ns (frames.Items q ∷ fs) kind i r = refl
  begin_item_follows (alone q) ns [] kind i r = refl
  begin_item_follows p ns fs kind i r = absurd r

  -- If a new node is the part read last, then the code's step agrees with the table's step.
  reads_new : (p : PartHole W P) (a : App) (ns : List TypeTreeNode) (fs : List OpenConstruct) (node : TypeTreeNode)
      (d : ℕ) → IsAt (ns ++ node ∷ []) (length ns) (type_of_app a) → d ≡ min 201 (app_depth a) →
      AreOrdered (ns ++ node ∷ []) → part_frames b p ns fs →
      Goes (Some (read p a)) (ns ++ node ∷ []) fs (phases.Read (part (length ns) d))
  reads_new p a ns fs node d h e i r = record {
    state = read p a;
    goes_to = refl;
    shown = (
      record { has = record { at = h; capped = e }; last = is_last ns node },
      part_frames_more b p ns (node ∷ []) fs r,
    );
    ordered = i;
  }

  pub begin_follows : (p : PartHole W P) (ns : List TypeTreeNode) (fs : List OpenConstruct) (kind : LexemeKind) →
      AreOrdered ns → part_frames b p ns fs → Follows (begin p kind) kind (begin_code ns fs kind)
  begin_follows p ns fs (kinds.Variable x) i r = reads_new p (simple (variable x)) ns fs
      (nodes.Variable x) 1 (at_last ns (nodes.Variable x)) refl (AreOrdered-push ns (nodes.Variable x)
      i tt) r
  begin_follows p ns fs (kinds.Lower x) i r = reads_new p (simple (named x)) ns fs (nodes.Named x) 1
      (at_last ns (nodes.Named x)) refl (AreOrdered-push ns (nodes.Named x) i tt) r
  begin_follows p ns fs (kinds.Symbol symbols.OpenParen) i r =
      record { state = due (first_part (group p)); goes_to = refl; shown = r; ordered = i }
  begin_follows p ns fs (kinds.Symbol symbols.OpenBracket) i r =
      record {
        state = due (inclusion (first_item p false));
        goes_to = refl;
        shown =
            (at_last ns nodes.Bracket, part_frames_more b p ns (nodes.Bracket ∷ []) fs r);
        ordered =
            AreOrdered-push ns nodes.Bracket i tt;
      }
  begin_follows p ns fs kind i r = begin_item_follows p ns fs kind i r

  after_items_follows : (p : PartHole W P) (bar : Bool) (all : Items) (ns : List TypeTreeNode)
      (fs : List OpenConstruct) (q : OpenPart) (kind : LexemeKind) → HasLast ns (type_of_items all)
      (items_depth all) q → AreOrdered ns → part_frames b p ns fs →
      Follows (after_items p bar all kind) kind (after_items_code ns fs q kind)
  after_items_follows p bar all ns fs q (kinds.Symbol symbols.Bar) s i r =
      record {
        state = due (inclusion (next_item p bar all));
        goes_to = refl;
        shown = (s.has, r);
        ordered = i;
      }
  after_items_follows p bar all ns fs q (kinds.Symbol symbols.CloseBracket) s i r =
      record {
        state = read p (simple (bracket bar all));
        goes_to = refl;
        shown = (
          record {
            has = record {
              at = s.has.at;
              capped = deeper_capped q.depth (items_depth all)
                  s.has.capped;
            };
            last = s.last;
          },
          r,
        );
        ordered = i;
      }
  after_items_follows p bar all ns fs q kind s i r = refl

  -- ---- items

  abbrev ItemHas : List TypeTreeNode → ItemTree → ItemRead → Type 0
  ItemHas ns (tag x) (read_items.Tag y) = y ≡ x
  ItemHas ns (tag_of x t) (read_items.TagOf y q) = (y ≡ x) × Has ns (type_of_texpr t)
      (texpr_depth t) q
  ItemHas ns (included a) (read_items.Included q) = Has ns (type_of_app a) (app_depth a) q
  ItemHas ns i q = ⊥

  item_depth_is : (i : ItemTree) (q : ItemRead) (ns : List TypeTreeNode) → ItemHas ns i q → item_depth_code q
      ≡ min 201 (item_depth i)
  item_depth_is (tag x) (read_items.Tag y) ns h = refl
  item_depth_is (tag_of x t) (read_items.TagOf y q) ns h = h.1.capped
  item_depth_is (included a) (read_items.Included q) ns h = h.capped
  item_depth_is i q ns h = absurd h

  item_added : (i : ItemTree) (q : ItemRead) (ns : List TypeTreeNode) (n : ℕ) (t : Ty) → IsAt ns n t →
      ItemHas ns i q → IsAt (ns ++ item_node n q ∷ []) (length ns) (with_item t i)
  item_added (tag x) (read_items.Tag y) ns n t a h = at_last_as ns (nodes.Tag n y) _
      (ap (λ w. tys.tag w y) a.is ∙ ap (λ z. tys.tag t z) h)
  item_added (tag_of x u) (read_items.TagOf y q) ns n t a h = at_last_as ns (nodes.TagOf n y q.node)
      _ (ap (λ w. tys.tag_of w y (type_at (types_of ns) q.node)) a.is
      ∙ ap (λ z. tys.tag_of t z (type_at (types_of ns) q.node)) h.0 ∙ ap (λ v. tys.tag_of t x v)
      h.1.at.is)
  item_added (included u) (read_items.Included q) ns n t a h =
      at_last_as ns (nodes.Including n q.node) _
      (ap (λ w. tys.including w (type_at (types_of ns) q.node)) a.is ∙ ap (λ v. tys.including t v)
      h.at.is)
  item_added i q ns n t a h = absurd h

  item_ordered : (i : ItemTree) (q : ItemRead) (ns : List TypeTreeNode) (n : ℕ) (t : Ty) → IsAt ns n t →
      ItemHas ns i q → AreOrdered ns → AreOrdered (ns ++ item_node n q ∷ [])
  item_ordered (tag x) (read_items.Tag y) ns n t a h o = AreOrdered-push ns (nodes.Tag n y) o a.below
  item_ordered (tag_of x u) (read_items.TagOf y q) ns n t a h o =
      AreOrdered-push ns (nodes.TagOf n y q.node) o (a.below, h.1.at.below)
  item_ordered (included u) (read_items.Included q) ns n t a h o =
      AreOrdered-push ns (nodes.Including n q.node) o (a.below, h.at.below)
  item_ordered i q ns n t a h o = absurd h

  first_follows : (p : PartHole W P) (bar : Bool) (i : ItemTree) (ns : List TypeTreeNode) (fs : List OpenConstruct)
      (n : ℕ) (q : ItemRead) (kind : LexemeKind) → ItemHas ns i q → IsAt ns n tys.bracket →
      AreOrdered ns → part_frames b p ns fs → Follows (after_items p bar (one i) kind) kind
      (after_items_code (ns ++ item_node n q ∷ []) fs (part (length ns) (item_depth_code q)) kind)
  first_follows p bar i ns fs n q kind s a o r = after_items_follows p bar (one i)
      (ns ++ item_node n q ∷ []) fs (part (length ns) (item_depth_code q)) kind
      (record {
        has = record {
          at = item_added i q ns n tys.bracket a s;
          capped =
              item_depth_is i q ns s;
        };
        last = is_last ns (item_node n q);
      })
      (item_ordered i q ns n tys.bracket a s o) (part_frames_more b p ns (item_node n q ∷ []) fs r)

  after_item_follows : (h : ItemHole W P) (i : ItemTree) (ns : List TypeTreeNode) (fs : List OpenConstruct)
      (q : ItemRead) (kind : LexemeKind) → ItemHas ns i q → AreOrdered ns → item_frames b h ns fs →
      Follows (after_item h i kind) kind (after_item_code ns fs q kind)
  after_item_follows (first_item p false) i ns (frames.Opened false n ∷ fs) q kind s o r =
      first_follows p false i ns fs n q kind s r.0 o r.1
  after_item_follows (first_item p true) i ns (frames.Opened true n ∷ fs) q kind s o r =
      first_follows p true i ns fs n q kind s r.0 o r.1
  after_item_follows (next_item p bar before) i ns (frames.Items w ∷ fs) q kind s o r =
      after_items_follows p bar (more before i) (ns ++ item_node w.node q ∷ []) fs
      (part (length ns) (max w.depth (item_depth_code q))) kind
      (record {
        has = record {
          at = item_added i q ns w.node (type_of_items before) r.0.at s;
          capped = max_capped w.depth (item_depth_code q) (items_depth before) (item_depth i)
              r.0.capped (item_depth_is i q ns s);
        };
        last = is_last ns (item_node w.node q);
      })
      (item_ordered i q ns w.node (type_of_items before) r.0.at s o)
      (part_frames_more b p ns (item_node w.node q ∷ []) fs r.1)
  after_item_follows h i ns fs q kind s o r = absurd r

  -- ---- types

  close_group_follows : (p : PartHole W P) (t : Texpr) (ns : List TypeTreeNode) (fs : List OpenConstruct) (q : OpenPart)
      (kind : LexemeKind) → HasLast ns (type_of_texpr t) (texpr_depth t) q → AreOrdered ns →
      part_frames b p ns fs → Follows (close_type o (group p) t kind) kind
      (after_group_code ns fs q kind)
  close_group_follows p t ns fs q (kinds.Symbol symbols.CloseParen) s i r =
      record {
        state = read p (simple (grouped t));
        goes_to = refl;
        shown = (
          record {
            has = record {
              at = s.has.at;
              capped = deeper_capped q.depth (texpr_depth t)
                  s.has.capped;
            };
            last = s.last;
          },
          r,
        );
        ordered = i;
      }
  close_group_follows p t ns fs q (kinds.Symbol symbols.Comma) s i r =
      record {
        state = due (first_part (argument p (first t)));
        goes_to = refl;
        shown =
            (record { at = (s.has.at, tt); capped = s.has.capped }, r);
        ordered = i;
      }
  close_group_follows p t ns fs q kind s i r = refl

  close_argument_follows : (p : PartHole W P) (ts : Texprs) (t : Texpr) (ns : List TypeTreeNode)
      (fs : List OpenConstruct) (all : List ℕ) (d : ℕ) (q : OpenPart) (kind : LexemeKind) →
      HasAll ns (types_of_texprs ts) (texprs_depth ts) all d → Has ns (type_of_texpr t)
      (texpr_depth t) q → AreOrdered ns → part_frames b p ns fs →
      Follows (close_type o (argument p ts) t kind) kind (after_argument_code ns fs all d q kind)
  close_argument_follows p ts t ns fs all d q (kinds.Symbol symbols.CloseParen) v s i r =
      record {
        state = name_due p ts t;
        goes_to = refl;
        shown = (
          record {
            at = all_at_end ns all (types_of_texprs ts) v.at s.at;
            capped =
                max_capped d q.depth (texprs_depth ts) (texpr_depth t) v.capped s.capped;
          },
          r,
        );
        ordered = i;
      }
  close_argument_follows p ts t ns fs all d q (kinds.Symbol symbols.Comma) v s i r =
      record {
        state = due (first_part (argument p (further ts t)));
        goes_to = refl;
        shown = (
          record {
            at = all_at_end ns all (types_of_texprs ts) v.at s.at;
            capped =
                max_capped d q.depth (texprs_depth ts) (texpr_depth t) v.capped s.capped;
          },
          r,
        );
        ordered = i;
      }
  close_argument_follows p ts t ns fs all d q kind v s i r = refl

  close_type_follows : (h : TypeHole W P) (t : Texpr) (ns : List TypeTreeNode) (fs : List OpenConstruct) (q : OpenPart)
      (kind : LexemeKind) → HasLast ns (type_of_texpr t) (texpr_depth t) q → AreOrdered ns →
      type_frames b h ns fs → Follows (close_type o h t kind) kind (close_type_code ns fs q kind)
  close_type_follows (whole w) t ns [] q kind s i r = (
    subst (λ c. EndsAt o c (o.type_step w t kind) kind ns) (sym r)
        (record {
          type = t;
          next_is = refl;
          type_is = last_type ns q.node _ s.has.at s.last;
          ordered = i;
        }),
    refl,
  )
  close_type_follows (group p) t ns (frames.Group ∷ fs) q kind s i r = close_group_follows p t ns fs
      q kind s i r
  close_type_follows (argument p ts) t ns (frames.Arguments all d ∷ fs) q kind s i r =
      close_argument_follows p ts t ns fs all d q kind r.0 s.has i r.1
  close_type_follows (of_tag h x) t ns (frames.TagArgument y ∷ fs) q kind s i r =
      after_item_follows h (tag_of x t) ns fs (read_items.TagOf y q) kind (r.0, s.has) i r.1
  close_type_follows h t ns fs q kind s i r = absurd r

  single_follows : (h : TypeHole W P) (a : App) (ns : List TypeTreeNode) (fs : List OpenConstruct) (q : OpenPart)
      (kind : LexemeKind) → HasLast ns (type_of_app a) (app_depth a) q → AreOrdered ns →
      type_frames b h ns fs → Follows (after_type o h (single a) kind) kind
      (after_single_code ns fs q kind)
  single_follows h a ns fs q (kinds.Symbol symbols.Star) s i r =
      let tuple_at : IsAt (ns ++ nodes.Tuple ∷ []) (length ns) tys.tuple = at_last ns nodes.Tuple in
      let there = at_more (nodes.Tuple ∷ []) s.has.at in
      record {
        state = due (next_part h (single a));
        goes_to = refl;
        shown = (
          record { at = part_last tuple_at there; capped = s.has.capped },
          type_frames_more b h (ns ++ nodes.Tuple ∷ []) (nodes.Part (length ns) q.node ∷ []) fs
              (type_frames_more b h ns (nodes.Tuple ∷ []) fs r),
        );
        ordered = part_ordered tuple_at there (AreOrdered-push ns nodes.Tuple i tt);
      }
  single_follows h a ns fs q kind s i r = close_type_follows h (single a) ns fs q kind
      (record { has = record { at = s.has.at; capped = s.has.capped }; last = s.last }) i r

  tuple_follows : (h : TypeHole W P) (t : Texpr) (a : App) (ns : List TypeTreeNode) (fs : List OpenConstruct)
      (w q : OpenPart) (kind : LexemeKind) → Has ns (tuple_of t) (part_depth t) w →
      Has ns (type_of_app a) (app_depth a) q → AreOrdered ns → type_frames b h ns fs →
      Follows (after_type o h (starred t a) kind) kind (after_tuple_code ns fs w q kind)
  tuple_follows h t a ns fs w q (kinds.Symbol symbols.Star) v s i r =
      record {
        state = due (next_part h (starred t a));
        goes_to = refl;
        shown = (
          record {
            at = part_last v.at s.at;
            capped = max_capped w.depth q.depth (part_depth t)
                (app_depth a) v.capped s.capped;
          },
          type_frames_more b h ns (nodes.Part w.node q.node ∷ []) fs
              r,
        );
        ordered = part_ordered v.at s.at i;
      }
  tuple_follows h t a ns fs w q kind v s i r =
      close_type_follows h (starred t a) (ns ++ nodes.Part w.node q.node ∷ []) fs
      (part (length ns) (deeper (max w.depth q.depth))) kind
      (record {
        has = record {
          at = part_last v.at s.at;
          capped =
              deeper_capped (max w.depth q.depth) (max (part_depth t) (app_depth a))
              (max_capped w.depth q.depth (part_depth t) (app_depth a) v.capped s.capped);
        };
        last =
            is_last ns (nodes.Part w.node q.node);
      })
      (part_ordered v.at s.at i) (type_frames_more b h ns (nodes.Part w.node q.node ∷ []) fs r)

  -- After an outermost component, the code's step agrees with the table's step.
  type_outermost : (w : W) (a : App) (ns : List TypeTreeNode) (q : OpenPart) (kind : LexemeKind) →
      b ≡ at_type w → HasLast ns (type_of_app a) (app_depth a) q → AreOrdered ns →
      Follows (after_type o (whole w) (single a) kind) kind (outermost_code (is_alone b) ns q kind)
  type_outermost w a ns q kind e s i = subst (λ c. Follows (after_type o (whole w) (single a) kind)
      kind (outermost_code (is_alone c) ns q kind)) (sym e) (single_follows (whole w) a ns [] q kind
      s i e)

  part_outermost : (p : P) (a : App) (ns : List TypeTreeNode) (q : OpenPart) (kind : LexemeKind) →
      b ≡ at_part p → HasLast ns (type_of_app a) (app_depth a) q → AreOrdered ns →
      Follows (o.part_step p a kind) kind (outermost_code (is_alone b) ns q kind)
  part_outermost p a ns q kind e s i =
      let here : EndsAt o (at_part p) (o.part_step p a kind) kind ns =
      record {
        type = a;
        next_is = refl;
        type_is = last_type ns q.node _ s.has.at s.last;
        ordered = i;
      } in
      subst (λ c. Follows (o.part_step p a kind) kind (outermost_code (is_alone c) ns q kind))
      (sym e) (subst (λ c. EndsAt o c (o.part_step p a kind) kind ns) (sym e) here, refl)

  close_part_follows : (p : PartHole W P) (a : App) (ns : List TypeTreeNode) (fs : List OpenConstruct) (q : OpenPart)
      (kind : LexemeKind) → HasLast ns (type_of_app a) (app_depth a) q → AreOrdered ns →
      part_frames b p ns fs → Follows (close_part o p a kind) kind
      (close_part_code (is_alone b) ns fs q kind)
  close_part_follows (first_part (whole w)) a ns [] q kind s i r = type_outermost w a ns q kind r s
      i
  close_part_follows (first_part (group p)) a ns (frames.Group ∷ fs) q kind s i r =
      single_follows (group p) a ns (frames.Group ∷ fs) q kind s i r
  close_part_follows (first_part (argument p ts)) a ns (frames.Arguments all d ∷ fs) q kind s i r =
      single_follows (argument p ts) a ns (frames.Arguments all d ∷ fs) q kind s i r
  close_part_follows (first_part (of_tag h x)) a ns (frames.TagArgument y ∷ fs) q kind s i r =
      single_follows (of_tag h x) a ns (frames.TagArgument y ∷ fs) q kind s i r
  close_part_follows (next_part h t) a ns (frames.Component w ∷ fs) q kind s i r =
      tuple_follows h t a ns fs w q kind r.0 s.has i r.1
  close_part_follows (inclusion (first_item p false)) a ns (frames.Opened false n ∷ fs) q kind s i
      r = after_item_follows (first_item p false) (included a) ns (frames.Opened false n ∷ fs)
      (read_items.Included q) kind s.has i r
  close_part_follows (inclusion (first_item p true)) a ns (frames.Opened true n ∷ fs) q kind s i r =
      after_item_follows (first_item p true) (included a) ns (frames.Opened true n ∷ fs)
      (read_items.Included q) kind s.has i r
  close_part_follows (inclusion (next_item p bar before)) a ns (frames.Items w ∷ fs) q kind s i r =
      after_item_follows (next_item p bar before) (included a) ns (frames.Items w ∷ fs)
      (read_items.Included q) kind s.has i r
  close_part_follows (alone p) a ns [] q kind s i r = part_outermost p a ns q kind r s i
  close_part_follows p a ns fs q kind s i r = absurd r

  after_part_follows : (p : PartHole W P) (a : App) (ns : List TypeTreeNode) (fs : List OpenConstruct) (q : OpenPart)
      (kind : LexemeKind) → HasLast ns (type_of_app a) (app_depth a) q → AreOrdered ns →
      part_frames b p ns fs → Follows (after_part o p a kind) kind
      (after_part_code (is_alone b) ns fs q kind)
  after_part_follows p a ns fs q (kinds.Lower x) s i r =
      let name_at : IsAt (ns ++ nodes.Named x ∷ []) (length ns) (tys.named x) =
      at_last ns (nodes.Named x) in
      let there = at_more (nodes.Named x ∷ []) s.has.at in
      reads_new p (applied a x) (ns ++ nodes.Named x ∷ []) fs (nodes.Part (length ns) q.node)
      (deeper q.depth) (part_last name_at there) (deeper_capped q.depth (app_depth a)
      s.has.capped)
      (part_ordered name_at there (AreOrdered-push ns (nodes.Named x) i tt))
      (part_frames_more b p ns (nodes.Named x ∷ []) fs r)
  after_part_follows p a ns fs q kind s i r = close_part_follows p a ns fs q kind s i r

  take_name_follows : (p : PartHole W P) (ts : Texprs) (t : Texpr) (ns : List TypeTreeNode)
      (fs : List OpenConstruct) (all : List ℕ) (d : ℕ) (kind : LexemeKind) →
      HasAll ns (types_of_texprs ts ++ type_of_texpr t ∷ []) (max (texprs_depth ts) (texpr_depth t))
      all d → AreOrdered ns → part_frames b p ns fs → Follows (take_name o p ts t kind) kind
      (take_name_code ns fs all d kind)
  take_name_follows p ts t ns fs all d (kinds.Lower x) s i r =
      let named_ns = ns ++ nodes.Named x ∷ [] in
      let us = types_of_texprs ts ++ type_of_texpr t ∷ [] in
      let added : Added named_ns all (parts_with (tys.named x) us) (length ns) =
      adds_parts all us named_ns (length ns) (tys.named x)
      (all_at_more ns all us (nodes.Named x ∷ []) s.at) (at_last ns (nodes.Named x))
      (is_last ns (nodes.Named x)) (AreOrdered-push ns (nodes.Named x) i tt) in
      let round : part_frames b p (named_ns ++ added.extra) fs = part_frames_more b p named_ns
      added.extra fs (part_frames_more b p ns (nodes.Named x ∷ []) fs r) in
      record {
        state = read p (simple (arguments ts t x));
        goes_to = refl;
        shown = (
          record {
            has = record {
              at = subst (IsAt (parts_nodes named_ns (length ns) all)
                  (parts_node named_ns (length ns) all)) (arguments_as x ts (type_of_texpr t))
                  added.at;
              capped = deeper_capped d (max (texprs_depth ts) (texpr_depth t)) s.capped;
            };
            last = added.last;
          },
          subst (λ all_ns. part_frames b p all_ns fs) (sym added.nodes_are) round,
        );
        ordered = added.ordered;
      }
  take_name_follows p ts t ns fs all d kind s i r = refl

  after_tag_follows : (h : ItemHole W P) (x : Name) (ns : List TypeTreeNode) (fs : List OpenConstruct) (y : Name)
      (kind : LexemeKind) → y ≡ x → AreOrdered ns → item_frames b h ns fs →
      Follows (after_tag o h x kind) kind (after_tag_code ns fs y kind)
  after_tag_follows h x ns fs y (kinds.Keyword keywords.Of) e i r =
      record { state = due (first_part (of_tag h x)); goes_to = refl; shown = (e, r); ordered = i }
  after_tag_follows h x ns fs y kind e i r = after_item_follows h (tag x) ns fs (read_items.Tag y)
      kind e i r

  pub step_follows : (s : HoleState W P O) (ns : List TypeTreeNode) (fs : List OpenConstruct) (phase : ParsePhase)
      (kind : LexemeKind) → AreOrdered ns → type_shown b ns fs phase s →
      Follows (step o s kind) kind (step_code (is_alone b) ns fs phase kind)
  step_follows (due p) ns fs phases.Due kind i r = begin_follows p ns fs kind i r
  step_follows (read p a) ns fs (phases.Read q) kind i r = after_part_follows p a ns fs q kind r.0 i
      r.1
  step_follows (name_due p ts t) ns fs (phases.NameDue all d) kind i r = take_name_follows p ts t ns
      fs all d kind r.0 i r.1
  step_follows (tag_read h x) ns fs (phases.TagRead y) kind i r = after_tag_follows h x ns fs y kind
      r.0 i r.1
  step_follows (outside q) ns fs phase kind i r = absurd (none_outside b q ns fs phase r)
  step_follows s ns fs phase kind i r = absurd r

  -- ---- depths of a state

  part_depth_follows : (p : PartHole W P) (a : App) (ns : List TypeTreeNode) (fs : List OpenConstruct) (q : OpenPart) →
      Has ns (type_of_app a) (app_depth a) q → part_frames b p ns fs → part_depth_code fs q
      ≡ min 201 (part_ended p a)
  part_depth_follows (first_part (whole w)) a ns [] q s r = s.capped
  part_depth_follows (first_part (group p)) a ns (frames.Group ∷ fs) q s r = s.capped
  part_depth_follows (first_part (argument p ts)) a ns (frames.Arguments all d ∷ fs) q s r =
      s.capped
  part_depth_follows (first_part (of_tag h x)) a ns (frames.TagArgument y ∷ fs) q s r = s.capped
  part_depth_follows (next_part h t) a ns (frames.Component w ∷ fs) q s r =
      deeper_capped (max w.depth q.depth) (max (part_depth t) (app_depth a))
      (max_capped w.depth q.depth (part_depth t) (app_depth a) r.0.capped s.capped)
  part_depth_follows (inclusion (first_item p false)) a ns (frames.Opened false n ∷ fs) q s r =
      s.capped
  part_depth_follows (inclusion (first_item p true)) a ns (frames.Opened true n ∷ fs) q s r =
      s.capped
  part_depth_follows (inclusion (next_item p bar before)) a ns (frames.Items w ∷ fs) q s r =
      s.capped
  part_depth_follows (alone p) a ns [] q s r = s.capped
  part_depth_follows p a ns fs q s r = absurd r

  pub depth_follows : (s : HoleState W P O) (ns : List TypeTreeNode) (fs : List OpenConstruct) (phase : ParsePhase) →
      type_shown b ns fs phase s → depth_code fs phase ≡ min 201 (table_ended s)
  depth_follows (due p) ns fs phases.Due r = omega arith
  depth_follows (read p a) ns fs (phases.Read q) r = part_depth_follows p a ns fs q r.0.has r.1
  depth_follows (name_due p ts t) ns fs (phases.NameDue all d) r = omega arith
  depth_follows (tag_read h x) ns fs (phases.TagRead y) r = omega arith
  depth_follows (outside q) ns fs phase r = absurd (none_outside b q ns fs phase r)
  depth_follows s ns fs phase r = absurd r
