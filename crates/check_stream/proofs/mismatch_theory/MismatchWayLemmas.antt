-- Each path passes through a hole, or leads by the only trail to a value that is held.
use Rattle.std.proofs.Common.{ℕ, ◌≡◌, ◌∙◌, ◌⊎◌, ⊎_elim, inl, inr, List, [], ◌∷◌, ◌++◌}
use Rattle.std.proofs.Common.{Some, refl, sym, ap, subst, arith}
use Rattle.std.specs.Prelude.{Contains, IsSomeAnd, option_map}
use Rattle.std.proofs.lemmas.Option.{option_and_then_some, same_Some, none-some}
use Rattle.std.proofs.lemmas.List.{append_assoc, append-nil, length-append}
use Rattle.base_data.proofs.model.Options.{IsSomeAnd-some, Contains-cases, Contains-none}
use Rattle.base_data.specs.declared.model.value.Val.{Val}
use Rattle.base_data.specs.declared.model.value.Val.TheVariants as vals
use Rattle.base_data.specs.declared.model.value.Obj.{Obj}
use Rattle.types_spec.specs.declared.types.fault.Fault.TheVariants.{Mismatch}
use Rattle.types_spec.specs.types.Shapes.{Shapes}
use Rattle.types_spec.specs.types.LawfulShapes.{Everything, AreLawful}
use Rattle.types_spec.specs.types.Typing.{field_at, IsListed, IsHeld}
use Rattle.types_spec.specs.types.Fault.{IsBefore, IsMismatch, type_of_field, step, value_at}
use Rattle.types_spec.specs.types.LeastFault.{IsLeastFault}
use Rattle.types_spec.proofs.types.TypeFaultLemmas.{named_is_needed, paired}
use Rattle.types_theory.proofs.typing.TypingLeastLemmas.{least_mismatch}
use Rattle.types_theory.proofs.typing.TypingPathLemmas.{value_at-push}
use Rattle.types_theory.proofs.typing.SearchedLemmas.{never_before_itself, never_before_root}
use Rattle.check_stream.specs.mismatch_theory.OnlyWay.{AreHeldBut, IsNeededOf, path_of, IsWay, IsOnlyWay, HasOnlyWay}

-- If a prefix of a path does not come before `path`, then the whole path does not come before
-- `path`.
pub prefix_not_before : (prefix more path : List ℕ) → (IsBefore prefix path → ⊥) → IsBefore (prefix ++ more) path → ⊥
prefix_not_before prefix [] path not before = not (subst (λ p. IsBefore p path) (append-nil prefix) before)
prefix_not_before prefix (i ∷ more) path not (inl shorter) = not (inl (omega (arith, shorter, length-append prefix (i ∷ more))))
prefix_not_before prefix (i ∷ more) path not (inr equal) = not (inl (omega (arith, equal.0, length-append prefix (i ∷ more))))

module _ {T : Type 0} (shapes : Shapes T) (graph : List Obj) (root : Val) (t : T) where
  pub root_mismatch : (shapes.fits graph root t → ⊥) → IsLeastFault shapes graph root t (Mismatch [])
  root_mismatch not =
      least_mismatch shapes graph root t [] not (λ other is before. never_before_root other before)

  -- The path of a trail leads to the trail's object.
  pub way_leads : (trail : List (ℕ × ℕ)) (o : ℕ) (u : T) → IsWay shapes graph root t trail o u → value_at shapes graph root t (path_of trail) ≡ Some (vals.Ref o, u)
  way_leads [] o u way = cc (way.0, way.1)
  way_leads (link ∷ trail) o u way =
      value_at-push shapes graph (path_of trail) root t link.1 (vals.Ref link.0, way.0) (vals.Ref o, u) (way_leads trail link.0 way.0 way.1) way.2

module _ {T : Type 0} (shapes : Shapes T) (lawful : AreLawful shapes Everything) (graph : List Obj)
    (pairs : List (ℕ × T)) (holes : List (ℕ × ℕ)) (root : Val) (t : T)
    (are : AreHeldBut shapes graph pairs holes root t) where
  -- If only one trail leads to the value, then the path of the trail is `path`.
  abbrev Tracked : List ℕ → Val → Type 0
  Tracked path v = (o : ℕ) (trail : List (ℕ × ℕ)) → v ≡ vals.Ref o → IsOnlyWay shapes graph pairs root trail o → path_of trail ≡ path

  -- The path passes through a hole. If only one trail leads to the hole, then the path of the trail
  -- is a prefix of the path.
  pub record IsThrough (path : List ℕ) : Type 0 where
    pub object : ℕ
    pub field : ℕ
    pub is_hole : Contains holes (object, field)
    pub prefix : List ℕ
    pub more : List ℕ
    pub path_is : path ≡ (prefix ++ field ∷ []) ++ more
    pub only : (trail : List (ℕ × ℕ)) → IsOnlyWay shapes graph pairs root trail object → path_of trail ≡ prefix

  held_at_equal : (v : Val) (u b : T) → shapes.equal b u → IsHeld shapes graph pairs v b → IsHeld shapes graph pairs v u
  held_at_equal v u b equal held = record { fits = lawful.fits graph v b u (inl tt) equal held.fits; listed = listed_at v held.listed } where
    listed_at : (w : Val) → IsListed shapes pairs w b → IsListed shapes pairs w u
    listed_at (vals.Int z) is = tt
    listed_at (vals.Atom tag) is = tt
    listed_at (vals.Ref o) is = (is.0, is.1, lawful.transitive is.0 b u is.2 equal)

  root_tracked : Tracked [] root
  root_tracked o [] is only = refl
  root_tracked o (link ∷ trail) is only = absurd (only.0 is)

  field_tracked : (path : List ℕ) (o i : ℕ) (w : Val) → Tracked path (vals.Ref o) → IsNeededOf shapes graph pairs o i w → Tracked (path ++ i ∷ []) w
  field_tracked path o i w tracked needed p [] is only = absurd (only o i (subst (λ v. IsNeededOf shapes graph pairs o i v) is needed))
  field_tracked path o i w tracked needed p (link ∷ trail) is only =
      let same = only.1 o i (subst (λ v. IsNeededOf shapes graph pairs o i v) is needed) in
      let only' = subst (λ q. IsOnlyWay shapes graph pairs root trail q) (sym same.0) only.2 in
      let prefix = tracked o trail refl only' in
      subst (λ j. path_of trail ++ j ∷ [] ≡ path ++ i ∷ []) same.1 (ap (λ q. q ++ i ∷ []) prefix)

  -- The invariant after a step from object `o` to its field `i`.
  record IsStep (path : List ℕ) (o i : ℕ) (w : Val) (a : T) : Type 0 where
    tracked : Tracked (path ++ i ∷ []) w
    next : Contains holes (o, i) ⊎ IsHeld shapes graph pairs w a

  from_object : (path : List ℕ) (o i : ℕ) (u : T) (w : Val) (a : T) → IsListed shapes pairs (vals.Ref o) u → Tracked path (vals.Ref o) → field_at graph o i ≡ Some w → Contains (shapes.needs graph (vals.Ref o) u) (i, a) → IsStep path o i w a
  from_object path o i u w a listed tracked field need =
      let other = lawful.needs graph (vals.Ref o) u listed.0 i a (inl tt) (lawful.symmetric listed.0 u listed.2) need in
      record {
        tracked = field_tracked path o i w tracked record { type = listed.0; among = listed.1; asked = other.0; needed = other.1; field = field };
        next = ⊎_elim
            (λ hole. inl hole)
            (λ held.
            let found = IsSomeAnd-some (field_at graph o i) (λ v. IsHeld shapes graph pairs v other.0) held in
            let same = same_Some found.0 w (sym found.1 ∙ field) in
            inr (held_at_equal w a other.0 (lawful.symmetric a other.0 other.2) (subst (λ v. IsHeld shapes graph pairs v other.0) same found.2)))
            (are.held o listed.0 i other.0 listed.1 other.1);
      }

  abbrev Walked : List ℕ → Val × T → Type 0
  Walked path position = shapes.fits graph position.0 position.1 ⊎ IsThrough path

  pub walk : (prefix path : List ℕ) (v : Val) (u : T) (position : Val × T) → IsHeld shapes graph pairs v u → Tracked prefix v → value_at shapes graph v u path ≡ Some position → Walked (prefix ++ path) position
  walk prefix [] v u position held tracked found =
      inl (subst (λ (p : Val × T). shapes.fits graph p.0 p.1) (same_Some (v, u) position found) held.fits)
  walk prefix (i ∷ path) (vals.Int z) u position held tracked found = absurd (none-some position found)
  walk prefix (i ∷ path) (vals.Atom tag) u position held tracked found = absurd (none-some position found)
  walk prefix (i ∷ path) (vals.Ref o) u position held tracked found =
      option_and_then_some (λ p. value_at shapes graph p.0 p.1 path) (step shapes graph (vals.Ref o) u i) position found (λ next stepped rest.
      option_and_then_some (λ x. option_map (λ b. (x, b)) (type_of_field (shapes.needs graph (vals.Ref o) u) i)) (field_at graph o i) next stepped (λ x field typed.
      let parts = paired x (type_of_field (shapes.needs graph (vals.Ref o) u) i) next typed in
      let one = from_object prefix o i u next.0 next.1 held.listed tracked (subst (λ y. field_at graph o i ≡ Some y) parts.1 field) (named_is_needed (shapes.needs graph (vals.Ref o) u) i next.1 parts.0) in
      ⊎_elim
      (λ hole. inr record { object = o; field = i; is_hole = hole; prefix = prefix; more = path; path_is = sym (append_assoc prefix (i ∷ []) path); only = λ trail only. tracked o trail refl only })
      (λ held'. subst (λ p. Walked p position) (append_assoc prefix (i ∷ []) path) (walk (prefix ++ i ∷ []) path next.0 next.1 position held' one.tracked rest))
      one.next))

  pub only_ways : (path : List ℕ) → IsMismatch shapes graph root t path → ((o i : ℕ) → Contains holes (o, i) → HasOnlyWay shapes graph pairs root o i path) → IsLeastFault shapes graph root t (Mismatch path)
  only_ways path mismatch each = least_mismatch shapes graph root t path mismatch first where
    through : (other : List ℕ) → IsThrough other → IsBefore other path → ⊥
    through other h before =
        let way = each h.object h.field h.is_hole in
        let prefix = h.only way.trail way.only in
        let not = subst (λ p. IsBefore (p ++ h.field ∷ []) path → ⊥) prefix way.not_before in
        prefix_not_before (h.prefix ++ h.field ∷ []) h.more path not (subst (λ p. IsBefore p path) h.path_is before)

    first : (other : List ℕ) → IsMismatch shapes graph root t other → IsBefore other path → ⊥
    first other is before =
        let found = IsSomeAnd-some (value_at shapes graph root t other) (λ position. shapes.fits graph position.0 position.1 → ⊥) is in
        ⊎_elim (λ fits. found.2 fits) (λ h. through other h before) (walk [] other root t found.0 are.root_held root_tracked found.1)

-- The law for a value with exactly one hole.
module _ {T : Type 0} (shapes : Shapes T) (lawful : AreLawful shapes Everything) (graph : List Obj)
    (pairs : List (ℕ × T)) (root : Val) (t : T) (trail : List (ℕ × ℕ)) (o i : ℕ) (u a : T) (w : Val)
    (are : AreHeldBut shapes graph pairs ((o, i) ∷ []) root t)
    (way : IsWay shapes graph root t trail o u) (only : IsOnlyWay shapes graph pairs root trail o)
    (stepped : step shapes graph (vals.Ref o) u i ≡ Some (w, a)) where
  pub hole_at : value_at shapes graph root t (path_of ((o, i) ∷ trail)) ≡ Some (w, a)
  hole_at = value_at-push shapes graph (path_of trail) root t i (vals.Ref o, u) (w, a) (way_leads shapes graph root t trail o u way) stepped

  its_way : (p j : ℕ) → ◌≡◌ {A = ℕ × ℕ} (o, i) (p, j) → HasOnlyWay shapes graph pairs root p j (path_of ((o, i) ∷ trail))
  its_way p j same = subst (λ (hole : ℕ × ℕ). HasOnlyWay shapes graph pairs root hole.0 hole.1 (path_of ((o, i) ∷ trail))) same
      record { trail = trail; only = only; not_before = never_before_itself (path_of ((o, i) ∷ trail)) }

  pub only_mismatch : (shapes.fits graph w a → ⊥) → IsLeastFault shapes graph root t (Mismatch (path_of ((o, i) ∷ trail)))
  only_mismatch not = only_ways shapes lawful graph pairs ((o, i) ∷ []) root t are (path_of ((o, i) ∷ trail))
      (subst (λ position. IsSomeAnd position (λ position. shapes.fits graph position.0 position.1 → ⊥)) (sym hole_at) not)
      (λ p j among. ⊎_elim (λ same. its_way p j same) (λ none. absurd (Contains-none (p, j) none)) (Contains-cases (o, i) [] (p, j) among))
