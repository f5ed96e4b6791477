-- If the objects of a value are renumbered in the order of their first visit, then the objects form
-- a copy of the value.
use Rattle.std.proofs.Common.{ℕ, ◌+◌, ◌-◌, ◌≡◌, ◌∙◌, List, [], ◌∷◌, length, refl, sym, ap, ap₂, arith}
use Rattle.std.specs.Prelude.{map, slice_get, slice_index, pos}
use Rattle.std.specs.List.{AllZip}
use Rattle.std.proofs.lemmas.Option.{slice_get_within, get_or_from_slice_get}
use Rattle.base_data.proofs.model.Options.{IsSomeAnd-some}
use Rattle.base_data.specs.declared.model.value.Val.{Val}
use Rattle.base_data.specs.declared.model.value.Val.TheVariants as vals
use Rattle.base_data.specs.declared.model.value.Obj.{Obj}
use Rattle.base_data.specs.declared.model.value.Obj.TheVariants as objects
use Rattle.marshal_spec.specs.format.Tree.{Tree, root, objects_of}
use Rattle.marshal_spec.specs.format.Isomorphism.{Agree, AgreeObjects, IsTreeOf}
use Rattle.marshal_heap.specs.heap.Heap.{object_at}
use Rattle.marshal_spec.specs.canonical.Numbering.{numbered, Shows, IsNumbering}
use Rattle.marshal_spec.proofs.canonical.Walk.{at_numbered}
use Rattle.marshal_write.specs.write.WriteWalk.{AreMarked}
use Rattle.marshal_write.specs.graft.Copies.{IsCopy}
use Rattle.marshal_write.specs.graft.Renamed.{renamed_value, renamed_object, renamed}
use Rattle.marshal_write.proofs.graft.ShiftLemmas.{later_value, later_object, root_later, objects_later}

module _ (g : List Obj) (ks marks : List ℕ) (marked : AreMarked g ks (length ks) marks) (base : ℕ) where
  value_renamed : (v w : Val) → Agree (numbered ks) v w → later_value base w ≡ renamed_value base marks v
  value_renamed (vals.Int x) (vals.Int y) agree = ap (λ z. vals.Int z) (sym agree)
  value_renamed (vals.Atom x) (vals.Atom y) agree = ap (λ t. vals.Atom t) (sym agree)
  value_renamed (vals.Ref k) (vals.Ref l) agree =
      let at = at_numbered ks k l agree in
      let mark = marked.found l k (slice_get_within ks l k at) at in
      let same : base + l ≡ base + (slice_index marks k - 1) = omega (arith, mark) in
      ap (λ n. vals.Ref n) same
  value_renamed (vals.Int x) (vals.Atom y) agree = absurd agree
  value_renamed (vals.Int x) (vals.Ref l) agree = absurd agree
  value_renamed (vals.Atom x) (vals.Int y) agree = absurd agree
  value_renamed (vals.Atom x) (vals.Ref l) agree = absurd agree
  value_renamed (vals.Ref k) (vals.Int y) agree = absurd agree
  value_renamed (vals.Ref k) (vals.Atom y) agree = absurd agree

  values_renamed : (vs ws : List Val) → AllZip (Agree (numbered ks)) vs ws → map (later_value base) ws ≡ map (renamed_value base marks) vs
  values_renamed [] [] all = refl
  values_renamed (v ∷ vs) (w ∷ ws) all = ap₂ ◌∷◌ (value_renamed v w all.0) (values_renamed vs ws all.1)
  values_renamed [] (w ∷ ws) all = absurd all
  values_renamed (v ∷ vs) [] all = absurd all

  object_renamed : (a b : Obj) → AgreeObjects (numbered ks) a b → later_object base b ≡ renamed_object base marks a
  object_renamed (objects.Block tag values) (objects.Block tag' values') agree =
      ap₂ (λ t vs. objects.Block t vs) (sym agree.0) (values_renamed values values' agree.1)
  object_renamed (objects.Block tag values) (objects.Bytes bytes) agree = absurd agree
  object_renamed (objects.Block tag values) (objects.Double bits) agree = absurd agree
  object_renamed (objects.Block tag values) (objects.Doubles all) agree = absurd agree
  object_renamed (objects.Block tag values) (objects.I32 z) agree = absurd agree
  object_renamed (objects.Block tag values) (objects.I64 z) agree = absurd agree
  object_renamed (objects.Block tag values) (objects.Native z) agree = absurd agree
  object_renamed (objects.Bytes bytes) b agree = ap (later_object base) (sym agree)
  object_renamed (objects.Double bits) b agree = ap (later_object base) (sym agree)
  object_renamed (objects.Doubles all) b agree = ap (later_object base) (sym agree)
  object_renamed (objects.I32 z) b agree = ap (later_object base) (sym agree)
  object_renamed (objects.I64 z) b agree = ap (later_object base) (sym agree)
  object_renamed (objects.Native z) b agree = ap (later_object base) (sym agree)

  shown_renamed : (k : ℕ) (b : Obj) → Shows g ks k b → later_object base b ≡ renamed_object base marks (object_at g k)
  shown_renamed k b shows =
      let found = IsSomeAnd-some (slice_get g k) (λ a. AgreeObjects (numbered ks) a b) shows in
      object_renamed found.0 b found.2
      ∙ ap (renamed_object base marks) (sym (get_or_from_slice_get g k found.0 (objects.I32 (pos 0)) found.1))

  all_renamed : (ls : List ℕ) (bs : List Obj) → AllZip (Shows g ks) ls bs → map (later_object base) bs ≡ renamed base marks g ls
  all_renamed [] [] all = refl
  all_renamed (l ∷ ls) (b ∷ bs) all = ap₂ ◌∷◌ (shown_renamed l b all.0) (all_renamed ls bs all.1)
  all_renamed [] (b ∷ bs) all = absurd all
  all_renamed (l ∷ ls) [] all = absurd all

behind : (c : ℕ) → c + 0 ≡ c
behind c = omega arith

-- If the marks follow the numbering of a value's tree, then renumbering the objects by the marks
-- gives a copy.
pub renamed_copy : (g : List Obj) (v : Val) (tree : Tree) (ks marks : List ℕ) (base : ℕ) → IsTreeOf g v tree → IsNumbering g v tree ks
    → AreMarked g ks (length ks) marks → IsCopy g v base (renamed base marks g ks) (renamed_value base marks v)
renamed_copy g v tree ks marks base is numbering marked = record {
  tree = tree;
  is = is;
  all = sym (ap (objects_of tree) (sym (behind base)) ∙ objects_later base tree 0 is.is_tree is.refers_back
      ∙ all_renamed g ks marks marked base ks (objects_of tree 0) numbering.objects);
  top = sym (ap (root tree) (sym (behind base)) ∙ root_later base tree 0 is.refers_back
      ∙ value_renamed g ks marks marked base v (root tree 0) numbering.value);
}
