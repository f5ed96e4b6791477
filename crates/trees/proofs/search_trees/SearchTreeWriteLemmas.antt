-- Levels with one more node.
use Rattle.std.proofs.Common.{ℕ, zero, suc, ◌<◌, ◌+◌, ◌≡◌, ◌∙◌, ⊎_elim, ◌⊎◌, inl, inr, List, [], ◌∷◌, ◌++◌, Some, sym, ap, subst, length, length-append, get_or, set, arith}
use Rattle.std.specs.Prelude.{Contains, slice_get, pos}
use Rattle.std.specs.Global.{Vec}
use Rattle.std.proofs.lemmas.List.Elements.{Contains-append_left, Contains-push, Contains-push_cases}
use Rattle.std.proofs.lemmas.Option.{same_Some}
use Rattle.base_data.proofs.model.Options.{Contains-none, same_or_not}
use Rattle.base_data.specs.declared.model.value.Obj.{Obj}
use Rattle.base_data.proofs.model.Lists.{slice_get-append_left, slice_get-set_other, slice_get-set_here, slice_get-read}
use Rattle.trees.specs.search_trees.NodeParts.{node_at}
use Rattle.trees.specs.search_trees.TreeLevels.{Has, HasRooms, IsWritten, AreLevels}

-- ---- empty levels

-- An element of `xs ++ y ∷ []` is an element of `xs`, or the element `y`.
pushed_cases : {X : Type 0} (xs : List X) (y : X) (i : ℕ) (x : X) → slice_get (xs ++ y ∷ []) i ≡ Some x
    → (slice_get xs i ≡ Some x) ⊎ (y ≡ x)
pushed_cases [] y zero x is = inr (same_Some y x is)
pushed_cases [] y (suc i) x is = cc
pushed_cases (z ∷ xs) y zero x is = inl is
pushed_cases (z ∷ xs) y (suc i) x is = pushed_cases xs y i x is

pub rooms_now : (levels : List (Vec ℕ)) → HasRooms levels (length levels) levels
rooms_now levels = record { enough = omega arith; kept = λ h o has. has; back = λ h o has. has }

pub room_more : (old now new : List (Vec ℕ)) (w : Vec ℕ) (many : ℕ) → HasRooms old many now → w.items ≡ [] → new ≡ now ++ w ∷ [] → HasRooms old (many + 1) new
room_more old now new w many held none is = record {
  enough = let before = held.enough in omega (arith, before, ap length is, length-append now (w ∷ []));
  kept = λ h o has. let before = held.kept h o has in
      (before.0, ap (λ l. slice_get l h) is ∙ slice_get-append_left now (w ∷ []) h before.0 before.1, before.2);
  back = λ h o has. held.back h o (by_position h o has (pushed_cases now w h has.0 (ap (λ l. slice_get l h) (sym is) ∙ has.1)));
} where
  by_position : (h o : ℕ) (has : Has new h o) → (slice_get now h ≡ Some has.0) ⊎ (w ≡ has.0) → Has now h o
  by_position h o has (inl at) = (has.0, at, has.2)
  by_position h o has (inr same) =
      absurd (Contains-none o (subst (λ l. Contains l o) none (subst (λ (v : Vec ℕ). Contains v.items o) (sym same) has.2)))

-- ---- one more node

module _ (levels : List (Vec ℕ)) (at : ℕ) (v w : Vec ℕ) (below : at < length levels) (is : v ≡ get_or levels at v)
    (o : ℕ) (more : w.items ≡ v.items ++ o ∷ []) where
  at_read : slice_get levels at ≡ Some v
  at_read = slice_get-read levels at v below is

  pub write_is : IsWritten levels at o (set levels at w)
  write_is = record {
    there = (w, slice_get-set_here levels at w below, subst (λ l. Contains l o) (sym more) (Contains-push v.items o));
    kept = kept;
    back = back;
  } where
    kept : (h p : ℕ) → Has levels h p → Has (set levels at w) h p
    kept h p has = ⊎_elim
        (λ here.
        let same : has.0 ≡ v = same_Some has.0 v (sym has.1 ∙ ap (slice_get levels) here ∙ at_read) in (
          w,
          ap (slice_get (set levels at w)) here ∙ slice_get-set_here levels at w below,
          subst (λ l. Contains l p) (sym more) (Contains-append_left v.items (o ∷ []) p
              (subst (λ (u : Vec ℕ). Contains u.items p) same has.2)),
        ))
        (λ other. (has.0, slice_get-set_other levels at h w other ∙ has.1, has.2))
        (same_or_not h at)

    back : (h p : ℕ) → Has (set levels at w) h p → Has levels h p ⊎ ((h ≡ at) × (p ≡ o))
    back h p has = ⊎_elim
        (λ here.
        let same : has.0 ≡ w = same_Some has.0 w (sym has.1 ∙ ap (slice_get (set levels at w)) here ∙ slice_get-set_here levels at w below) in
        let among : Contains (v.items ++ o ∷ []) p = subst (λ l. Contains l p) more (subst (λ (u : Vec ℕ). Contains u.items p) same has.2) in
        ⊎_elim
        (λ before. inl (v, ap (slice_get levels) here ∙ at_read, before))
        (λ last. inr (here, sym last))
        (Contains-push_cases v.items o p among))
        (λ other. inl (has.0, sym (slice_get-set_other levels at h w other) ∙ has.1, has.2))
        (same_or_not h at)

pub rooms_written :
    (old rooms new : List (Vec ℕ)) (many at o : ℕ) → HasRooms old many rooms → IsWritten rooms at o new → IsWritten old at o new
rooms_written old rooms new many at o made write = record {
  there = write.there;
  kept = λ h p has. write.kept h p (made.kept h p has);
  back = λ h p has. ⊎_elim (λ before. inl (made.back h p before)) (λ last. inr last) (write.back h p has);
}

-- If a node is written to the level of its height, then the levels are those of the nodes and the
-- new node.
pub levels_more :
    (graph : List Obj) (nodes : List ℕ) (o : ℕ) (old new : List (Vec ℕ)) (h : ℕ) → AreLevels graph nodes old
    → (node_at graph o).height ≡ pos h → IsWritten old h o new → AreLevels graph (nodes ++ o ∷ []) new
levels_more graph nodes o old new h are is write = record { has = has; only = only } where
  same_level : (g p : ℕ) → o ≡ p → (node_at graph p).height ≡ pos g → g ≡ h
  same_level g p last level = let here : (node_at graph o).height ≡ (node_at graph p).height = ap (λ q. (node_at graph q).height) last in cc

  has : (g p : ℕ) → Contains (nodes ++ o ∷ []) p → (node_at graph p).height ≡ pos g → Has new g p
  has g p among level = ⊎_elim
      (λ before. write.kept g p (are.has g p before level))
      (λ last. subst (λ q. Has new g q) last (subst (λ j. Has new j o) (sym (same_level g p last level)) write.there))
      (Contains-push_cases nodes o p among)

  only : (g p : ℕ) → Has new g p → Contains (nodes ++ o ∷ []) p × ((node_at graph p).height ≡ pos g)
  only g p there = ⊎_elim
      (λ before. let earlier = are.only g p before in (Contains-append_left nodes (o ∷ []) p earlier.0, earlier.1))
      (λ last. (
        subst (λ q. Contains (nodes ++ o ∷ []) q) (sym last.1) (Contains-push nodes o),
        ap (λ q. (node_at graph q).height) last.1 ∙ is ∙ ap pos (sym last.0),
      ))
      (write.back g p there)
