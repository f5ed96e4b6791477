-- Transports a typing of a graph, and the faults of a value, along the pairs of objects of an
-- isomorphism.
use Rattle.std.proofs.Common.{ℕ, ◌≡◌, ◌==◌, ◌∙◌, ⊎_elim, inl, inr, List, [], ◌∷◌, length, cond, Option, Some, None, refl, sym, ap, subst, eqb-true, eq-eqb}
use Rattle.std.specs.Prelude.{slice_get, flat_map, Contains, IsSomeAnd, IsSome, option_and_then, option_map, ◌&&◌, if◌then◌else◌, replicate}
use Rattle.std.specs.List.{AllZip}
use Rattle.std.proofs.lemmas.Option.{same_Some, none-some, option_and_then_some}
use Rattle.base_data.proofs.model.Options.{IsSomeAnd-some, IsSomeAnd-at, Contains-flat_map, flat_map-Contains}
use Rattle.base_data.specs.declared.model.value.Val.{Val}
use Rattle.base_data.specs.declared.model.value.Val.TheVariants as vals
use Rattle.base_data.specs.declared.model.value.Obj.{Obj}
use Rattle.base_data.specs.declared.model.value.Obj.TheVariants as objects
use Rattle.base_data.proofs.model.Lists.{AllZip-length}
use Rattle.marshal_spec.specs.format.Isomorphism.{Agree, AgreeObjects, IsPairing, Isomorphism}
use Rattle.marshal_spec.proofs.canonical.CanonicalListLemmas.{Contains-cond, cond-Contains, AllZip-at}
use Rattle.marshal_spec.proofs.canonical.IsomorphismLemmas.{objects_of_pair, same_symmetric}
use Rattle.types_spec.specs.declared.types.shape.PolyTag.{PolyTag}
use Rattle.types_spec.specs.declared.types.shape.ShapeOf.{ShapeOf}
use Rattle.types_spec.specs.declared.types.shape.ShapeOf.TheVariants as shapes
use Rattle.types_spec.specs.types.Shapes.{Shapes}
use Rattle.types_spec.specs.types.Fitting.{tag_of_block, tag_fields, block_fields, constr_fields, fields_if, object_fields, fields_of, is_mutable, or_none, asked_of, shaped}
use Rattle.types_spec.specs.declared.types.fault.Fault.{Fault}
use Rattle.types_spec.specs.declared.types.fault.Fault.TheVariants.{Mismatch, Conflict}
use Rattle.types_spec.specs.types.LeastFault.{IsLeastFault}
use Rattle.types_spec.specs.types.Fault.{type_of_field, step, value_at, IsMismatch, IsConflict, IsFault}
use Rattle.types_spec.specs.types.Typing.{values_of, field_at, IsListed, IsHeld, IsTyping, IsTyped, HasType}
use Rattle.types_spec.proofs.types.TypeFaultLemmas.{paired}

-- ---- representations and paired values

values_agree : (pairs : List (ℕ × ℕ)) (a b : Obj) → AgreeObjects pairs a b → AllZip (Agree pairs) (values_of a) (values_of b)
values_agree pairs (objects.Block tag values) (objects.Block tag' values') agree = agree.1
values_agree pairs (objects.Block tag values) b agree = absurd agree
values_agree pairs (objects.Bytes bytes) b agree = subst (λ o. AllZip (Agree pairs) [] (values_of o)) agree tt
values_agree pairs (objects.Double bits) b agree = subst (λ o. AllZip (Agree pairs) [] (values_of o)) agree tt
values_agree pairs (objects.Doubles all) b agree = subst (λ o. AllZip (Agree pairs) [] (values_of o)) agree tt
values_agree pairs (objects.I32 z) b agree = subst (λ o. AllZip (Agree pairs) [] (values_of o)) agree tt
values_agree pairs (objects.I64 z) b agree = subst (λ o. AllZip (Agree pairs) [] (values_of o)) agree tt
values_agree pairs (objects.Native z) b agree = subst (λ o. AllZip (Agree pairs) [] (values_of o)) agree tt

agree_tag : (pairs : List (ℕ × ℕ)) (a b : Obj) → AgreeObjects pairs a b → tag_of_block (Some a) ≡ tag_of_block (Some b)
agree_tag pairs (objects.Block tag values) (objects.Block tag' values') agree = agree.0
agree_tag pairs (objects.Block tag values) b agree = absurd agree
agree_tag pairs (objects.Bytes bytes) b agree = ap (λ o. tag_of_block (Some o)) agree
agree_tag pairs (objects.Double bits) b agree = ap (λ o. tag_of_block (Some o)) agree
agree_tag pairs (objects.Doubles all) b agree = ap (λ o. tag_of_block (Some o)) agree
agree_tag pairs (objects.I32 z) b agree = ap (λ o. tag_of_block (Some o)) agree
agree_tag pairs (objects.I64 z) b agree = ap (λ o. tag_of_block (Some o)) agree
agree_tag pairs (objects.Native z) b agree = ap (λ o. tag_of_block (Some o)) agree

same_tag_mutable : {T : Type 0} (shape : ShapeOf T) (one other : Option Obj) → tag_of_block one ≡ tag_of_block other → is_mutable shape one ≡ is_mutable shape other
same_tag_mutable (shapes.Sum constants blocks) one other same = ap (λ tag. is_mutable (shapes.Sum constants blocks) (Some (objects.Block tag []))) same
same_tag_mutable shape one other same = refl

module _ {T : Type 0} (pairs : List (ℕ × ℕ)) where
  agree_tag_fields :
      (tags : List (PolyTag T)) (values others : List Val) → AllZip (Agree pairs) values others
      → tag_fields tags values ≡ tag_fields tags others
  agree_tag_fields tags [] [] all = refl
  agree_tag_fields tags [] (w ∷ ws) all = absurd all
  agree_tag_fields tags (v ∷ vs) [] all = absurd all
  agree_tag_fields tags (vals.Int x ∷ a ∷ []) (vals.Int y ∷ b ∷ []) all = ap (λ z. tag_fields tags (vals.Int z ∷ a ∷ [])) all.0
  agree_tag_fields tags (vals.Int x ∷ []) (vals.Int y ∷ []) all = refl
  agree_tag_fields tags (vals.Int x ∷ []) (vals.Int y ∷ b ∷ ws) all = absurd all.1
  agree_tag_fields tags (vals.Int x ∷ a ∷ vs) (vals.Int y ∷ []) all = absurd all.1
  agree_tag_fields tags (vals.Int x ∷ a ∷ []) (vals.Int y ∷ b ∷ w ∷ ws) all = absurd all.1.1
  agree_tag_fields tags (vals.Int x ∷ a ∷ v ∷ vs) (vals.Int y ∷ b ∷ []) all = absurd all.1.1
  agree_tag_fields tags (vals.Int x ∷ a ∷ v ∷ vs) (vals.Int y ∷ b ∷ w ∷ ws) all = refl
  agree_tag_fields tags (vals.Int x ∷ vs) (vals.Atom tag ∷ ws) all = absurd all.0
  agree_tag_fields tags (vals.Int x ∷ vs) (vals.Ref l ∷ ws) all = absurd all.0
  agree_tag_fields tags (vals.Atom tag ∷ vs) (vals.Int y ∷ ws) all = absurd all.0
  agree_tag_fields tags (vals.Atom tag ∷ vs) (vals.Atom other ∷ ws) all = refl
  agree_tag_fields tags (vals.Atom tag ∷ vs) (vals.Ref l ∷ ws) all = absurd all.0
  agree_tag_fields tags (vals.Ref k ∷ vs) (vals.Int y ∷ ws) all = absurd all.0
  agree_tag_fields tags (vals.Ref k ∷ vs) (vals.Atom other ∷ ws) all = absurd all.0
  agree_tag_fields tags (vals.Ref k ∷ vs) (vals.Ref l ∷ ws) all = refl

  agree_block_fields :
      (shape : ShapeOf T) (tag : ℕ) (values others : List Val) → AllZip (Agree pairs) values others
      → block_fields shape tag values ≡ block_fields shape tag others
  agree_block_fields (shapes.Sum constants blocks) tag values others all =
      ap (λ n. constr_fields n (slice_get blocks tag)) (AllZip-length (Agree pairs) values others all)
  agree_block_fields (shapes.Product mutable ts) tag values others all =
      ap (λ n. fields_if ((tag == 0) && (length ts == n)) ts) (AllZip-length (Agree pairs) values others all)
  agree_block_fields (shapes.ArrayOf t) tag values others all =
      ap (λ n. fields_if (tag == 0) (replicate n t)) (AllZip-length (Agree pairs) values others all)
  agree_block_fields (shapes.ArrayOfAnything t) tag values others all =
      ap (λ n. fields_if (tag == 0) (replicate n t)) (AllZip-length (Agree pairs) values others all)
  agree_block_fields (shapes.Poly tags) tag values others all =
      ap (λ fields. if tag == 0 then fields else None) (agree_tag_fields tags values others all)
  agree_block_fields shape tag values others all = refl

  pub agree_object_fields :
      (shape : ShapeOf T) (a b : Obj) → AgreeObjects pairs a b → object_fields shape a ≡ object_fields shape b
  agree_object_fields shape (objects.Block tag values) (objects.Block tag' values') agree =
      ap (λ n. block_fields shape n values) agree.0 ∙ agree_block_fields shape tag' values values' agree.1
  agree_object_fields shape (objects.Block tag values) b agree = absurd agree
  agree_object_fields shape (objects.Bytes bytes) b agree = ap (object_fields shape) agree
  agree_object_fields shape (objects.Double bits) b agree = ap (object_fields shape) agree
  agree_object_fields shape (objects.Doubles all) b agree = ap (object_fields shape) agree
  agree_object_fields shape (objects.I32 z) b agree = ap (object_fields shape) agree
  agree_object_fields shape (objects.I64 z) b agree = ap (object_fields shape) agree
  agree_object_fields shape (objects.Native z) b agree = ap (object_fields shape) agree

-- ---- objects at types, transported along the pairs

module _ {T : Type 0} where
  abbrev carried_entry : ℕ × T → ℕ × ℕ → List (ℕ × T)
  carried_entry entry pair = cond (pair.0 == entry.0) ((pair.1, entry.1) ∷ []) []

  -- If an object has a type in `entries`, then each object paired with the object has the type in
  -- `carried`.
  abbrev carried : List (ℕ × ℕ) → List (ℕ × T) → List (ℕ × T)
  carried pairs entries = flat_map (λ entry. flat_map (carried_entry entry) pairs) entries

  carried_has :
      (pairs : List (ℕ × ℕ)) (entries : List (ℕ × T)) (k l : ℕ) (t : T) → Contains entries (k, t) → Contains pairs (k, l)
      → Contains (carried pairs entries) (l, t)
  carried_has pairs entries k l t entered paired =
      Contains-flat_map (λ entry. flat_map (carried_entry entry) pairs) entries (k, t) (l, t) entered
      (Contains-flat_map (carried_entry (k, t)) pairs (k, l) (l, t) paired (cond-Contains (k == k) (l, t) (eq-eqb k k refl)))

  -- The object and type from which an entry was transported.
  record Source (pairs : List (ℕ × ℕ)) (entries : List (ℕ × T)) (l : ℕ) (t : T) : Type 0 where
    object : ℕ
    entered : Contains entries (object, t)
    paired : Contains pairs (object, l)

  has_carried :
      (pairs : List (ℕ × ℕ)) (entries : List (ℕ × T)) (l : ℕ) (t : T) → Contains (carried pairs entries) (l, t)
      → Source pairs entries l t
  has_carried pairs entries l t among =
      let e = flat_map-Contains (λ entry. flat_map (carried_entry entry) pairs) entries (l, t) among in
      let p = flat_map-Contains (carried_entry e.0) pairs (l, t) e.2 in
      let both = Contains-cond (p.0.0 == e.0.0) (p.0.1, e.0.1) (l, t) p.2 in
      let at_l : p.0.1 ≡ l = ap (λ (r : ℕ × T). r.0) both.1 in
      let at_t : e.0.1 ≡ t = ap (λ (r : ℕ × T). r.1) both.1 in
      let meets : p.0.0 ≡ e.0.0 = eqb-true p.0.0 e.0.0 both.0 in
      record {
        object = e.0.0;
        entered = subst (λ u. Contains entries (e.0.0, u)) at_t e.1;
        paired = subst (λ n. Contains pairs (e.0.0, n)) at_l (subst (λ n. Contains pairs (n, p.0.1)) meets p.1);
      }

module _ {T : Type 0} (shape : T → ShapeOf T) (Equal : T → T → Type 0) (g h : List Obj) (pairs : List (ℕ × ℕ))
    (pairing : IsPairing g h pairs) where
  agree_fields : (v w : Val) (s : ShapeOf T) → Agree pairs v w → fields_of g v s ≡ fields_of h w s
  agree_fields (vals.Int x) (vals.Int y) s agree = ap (λ z. fields_of h (vals.Int z) s) agree
  agree_fields (vals.Atom x) (vals.Atom y) s agree = ap (λ tag. fields_of h (vals.Atom tag) s) agree
  agree_fields (vals.Ref k) (vals.Ref l) s agree =
      let o = objects_of_pair g h pairs k l pairing agree in
      ap (option_and_then (object_fields s)) o.left_is ∙ agree_object_fields pairs s o.left o.right o.agree
      ∙ sym (ap (option_and_then (object_fields s)) o.right_is)
  agree_fields (vals.Int x) (vals.Atom y) s agree = absurd agree
  agree_fields (vals.Int x) (vals.Ref l) s agree = absurd agree
  agree_fields (vals.Atom x) (vals.Int y) s agree = absurd agree
  agree_fields (vals.Atom x) (vals.Ref l) s agree = absurd agree
  agree_fields (vals.Ref k) (vals.Int y) s agree = absurd agree
  agree_fields (vals.Ref k) (vals.Atom y) s agree = absurd agree

  fits_kept : (v w : Val) (t : T) → Agree pairs v w → IsSome (fields_of g v (shape t)) → IsSome (fields_of h w (shape t))
  fits_kept v w t agree fits = subst IsSome (agree_fields v w (shape t) agree) fits

  -- If an object is mutable at a type, then the object from which it was transported is mutable at
  -- the type.
  mutable_back :
      (k l : ℕ) (t : T) → Contains pairs (k, l) → (shaped shape Equal).mutable h l t → (shaped shape Equal).mutable g k t
  mutable_back k l t paired mutable =
      let o = objects_of_pair g h pairs k l pairing paired in
      let same_tag : tag_of_block (slice_get g k) ≡ tag_of_block (slice_get h l) =
      ap tag_of_block o.left_is ∙ agree_tag pairs o.left o.right o.agree ∙ sym (ap tag_of_block o.right_is) in (
        subst IsSome (sym (agree_fields (vals.Ref k) (vals.Ref l) (shape t) paired)) mutable.0,
        same_tag_mutable (shape t) (slice_get g k) (slice_get h l) same_tag ∙ mutable.1,
      )

  module _ (entries : List (ℕ × T)) (typing : IsTyping (shaped shape Equal) g entries) where
    listed_kept : (v w : Val) (t : T) → Agree pairs v w → IsListed (shaped shape Equal) entries v t → IsListed (shaped shape Equal) (carried pairs entries) w t
    listed_kept (vals.Int x) (vals.Int y) t agree listed = tt
    listed_kept (vals.Atom x) (vals.Atom y) t agree listed = tt
    listed_kept (vals.Ref k) (vals.Ref l) t agree listed = (listed.0, carried_has pairs entries k l listed.0 listed.1 agree, listed.2)
    listed_kept (vals.Int x) (vals.Atom y) t agree listed = tt
    listed_kept (vals.Int x) (vals.Ref l) t agree listed = absurd agree
    listed_kept (vals.Atom x) (vals.Int y) t agree listed = tt
    listed_kept (vals.Atom x) (vals.Ref l) t agree listed = absurd agree
    listed_kept (vals.Ref k) (vals.Int y) t agree listed = tt
    listed_kept (vals.Ref k) (vals.Atom y) t agree listed = tt

    held_kept : (v w : Val) (t : T) → Agree pairs v w → IsHeld (shaped shape Equal) g entries v t → IsHeld (shaped shape Equal) h (carried pairs entries) w t
    held_kept v w t agree held = record { fits = fits_kept v w t agree held.fits; listed = listed_kept v w t agree held.listed }

    -- If two objects are paired and a typing holds for a field of one object, then the transported
    -- typing holds for the field of the paired object.
    field_kept :
        (k l i : ℕ) (u : T) → Contains pairs (k, l) → IsSomeAnd (field_at g k i) (λ v. IsHeld (shaped shape Equal) g entries v u)
        → IsSomeAnd (field_at h l i) (λ w. IsHeld (shaped shape Equal) h (carried pairs entries) w u)
    field_kept k l i u paired held =
        let o = objects_of_pair g h pairs k l pairing paired in
        let left : field_at g k i ≡ slice_get (values_of o.left) i = ap (option_and_then (λ object. slice_get (values_of object) i)) o.left_is in
        let right : field_at h l i ≡ slice_get (values_of o.right) i = ap (option_and_then (λ object. slice_get (values_of object) i)) o.right_is in
        let v = IsSomeAnd-some (slice_get (values_of o.left) i) (λ v. IsHeld (shaped shape Equal) g entries v u) (rw left at held) in
        let w = IsSomeAnd-some (slice_get (values_of o.right) i) (λ w. Agree pairs v.0 w)
        (AllZip-at (Agree pairs) (values_of o.left) (values_of o.right) i v.0 (values_agree pairs o.left o.right o.agree) v.1) in
        IsSomeAnd-at (field_at h l i) w.0 (λ w. IsHeld (shaped shape Equal) h (carried pairs entries) w u) (right ∙ w.1)
        (held_kept v.0 w.0 u w.2 v.2)

    typing_kept : IsTyping (shaped shape Equal) h (carried pairs entries)
    typing_kept = record {
      fits = λ l t among.
          let s = has_carried pairs entries l t among in
          fits_kept (vals.Ref s.object) (vals.Ref l) t s.paired (typing.fits s.object t s.entered);
      held = λ l t i u among need.
          let s = has_carried pairs entries l t among in
          let before : Contains ((shaped shape Equal).needs g (vals.Ref s.object) t) (i, u) =
          subst (λ fields. Contains (asked_of shape (or_none fields)) (i, u)) (sym (agree_fields (vals.Ref s.object) (vals.Ref l) (shape t) s.paired)) need in
          field_kept s.object l i u s.paired (typing.held s.object t i u s.entered before);
      one_type = λ l t u first second mutable.
          let a = has_carried pairs entries l t first in
          let b = has_carried pairs entries l u second in
          let same : b.object ≡ a.object = sym ((pairing.one_to_one a.object l b.object l a.paired b.paired).1 refl) in
          typing.one_type a.object t u a.entered (subst (λ n. Contains entries (n, u)) same b.entered) (mutable_back a.object l t a.paired mutable);
    }

  typed_kept : (v w : Val) (t : T) → Agree pairs v w → IsTyped (shaped shape Equal) g v t → IsTyped (shaped shape Equal) h w t
  typed_kept (vals.Int x) (vals.Int y) t agree typed = tt
  typed_kept (vals.Atom x) (vals.Atom y) t agree typed = tt
  typed_kept (vals.Ref k) (vals.Ref l) t agree (entries, typing, entered) =
      (carried pairs entries, typing_kept entries typing, carried_has pairs entries k l t entered agree)
  typed_kept (vals.Int x) (vals.Atom y) t agree typed = tt
  typed_kept (vals.Int x) (vals.Ref l) t agree typed = absurd agree
  typed_kept (vals.Atom x) (vals.Int y) t agree typed = tt
  typed_kept (vals.Atom x) (vals.Ref l) t agree typed = absurd agree
  typed_kept (vals.Ref k) (vals.Int y) t agree typed = tt
  typed_kept (vals.Ref k) (vals.Atom y) t agree typed = tt

-- If a value has a type, then each isomorphic value has the type. Representations of types depend
-- only on tags, sizes, integers and contents.
pub type_is_kept :
    {T : Type 0} (shape : T → ShapeOf T) (Equal : T → T → Type 0) (g h : List Obj) (v w : Val) (t : T) → Isomorphism g v h w
    → HasType (shaped shape Equal) g v t → HasType (shaped shape Equal) h w t
type_is_kept shape Equal g h v w t (pairs, pairing, agree) has =
    record {
      fits = fits_kept shape Equal g h pairs pairing v w t agree has.fits;
      typed = typed_kept shape Equal g h pairs pairing v w t agree has.typed;
    }

-- ---- faults

-- The end of a path in one graph, and the paired value at the end of the path in the isomorphic
-- graph.
pub record OtherPosition {T : Type 0} (shapes : Shapes T) (h : List Obj) (pairs : List (ℕ × ℕ)) (position : Option (Val × T)) (v : Val) (t : T) : Type 0 where
  pub value : Val
  pub is : position ≡ Some (value, t)
  pub agree : Agree pairs v value

module _ {T : Type 0} (shape : T → ShapeOf T) (Equal : T → T → Type 0) (g h : List Obj) (pairs : List (ℕ × ℕ))
    (pairing : IsPairing g h pairs) where
  same_needs : (v w : Val) (t : T) → Agree pairs v w → (shaped shape Equal).needs g v t ≡ (shaped shape Equal).needs h w t
  same_needs v w t agree = ap (λ fields. asked_of shape (or_none fields)) (agree_fields shape Equal g h pairs pairing v w (shape t) agree)

  field_of_other : (k l i : ℕ) (v : Val) → Contains pairs (k, l) → field_at g k i ≡ Some v → (w : Val) × (field_at h l i ≡ Some w) × Agree pairs v w
  field_of_other k l i v paired is =
      let o = objects_of_pair g h pairs k l pairing paired in
      let left : field_at g k i ≡ slice_get (values_of o.left) i = ap (option_and_then (λ object. slice_get (values_of object) i)) o.left_is in
      let right : field_at h l i ≡ slice_get (values_of o.right) i = ap (option_and_then (λ object. slice_get (values_of object) i)) o.right_is in
      let w = IsSomeAnd-some (slice_get (values_of o.right) i) (λ w. Agree pairs v w)
      (AllZip-at (Agree pairs) (values_of o.left) (values_of o.right) i v (values_agree pairs o.left o.right o.agree) (sym left ∙ is)) in
      (w.0, right ∙ w.1, w.2)

  step_of_other :
      (v w : Val) (t : T) (i : ℕ) (next : Val × T) → Agree pairs v w → step (shaped shape Equal) g v t i ≡ Some next
      → OtherPosition (shaped shape Equal) h pairs (step (shaped shape Equal) h w t i) next.0 next.1
  step_of_other (vals.Int x) w t i next agree stepped = absurd (none-some next stepped)
  step_of_other (vals.Atom x) w t i next agree stepped = absurd (none-some next stepped)
  step_of_other (vals.Ref k) (vals.Int y) t i next agree stepped = absurd agree
  step_of_other (vals.Ref k) (vals.Atom y) t i next agree stepped = absurd agree
  step_of_other (vals.Ref k) (vals.Ref l) t i next agree stepped =
      option_and_then_some
      (λ w. option_map (λ u. (w, u)) (type_of_field ((shaped shape Equal).needs g (vals.Ref k) t) i))
      (field_at g k i) next stepped (λ v field typed.
      let parts = paired v (type_of_field ((shaped shape Equal).needs g (vals.Ref k) t) i) next typed in
      let other = field_of_other k l i v agree field in
      let named : type_of_field ((shaped shape Equal).needs h (vals.Ref l) t) i ≡ Some next.1 =
      ap (λ needs. type_of_field needs i) (sym (same_needs (vals.Ref k) (vals.Ref l) t agree)) ∙ parts.0 in
      record {
        value = other.0;
        is = ap (option_and_then (λ w. option_map (λ u. (w, u)) (type_of_field ((shaped shape Equal).needs h (vals.Ref l) t) i))) other.1
            ∙ ap (option_map (λ u. (other.0, u))) named;
        agree = subst (λ x. Agree pairs x other.0) parts.1 other.2;
      })

  pub position_of_other :
      (path : List ℕ) (v w : Val) (t : T) (x : Val) (u : T) → Agree pairs v w → value_at (shaped shape Equal) g v t path ≡ Some (x, u)
      → OtherPosition (shaped shape Equal) h pairs (value_at (shaped shape Equal) h w t path) x u
  position_of_other [] v w t x u agree found =
      let same = same_Some (v, t) (x, u) found in
      record {
        value = w;
        is = ap (λ (p : Val × T). Some (w, p.1)) same;
        agree = subst (λ (p : Val × T). Agree pairs p.0 w) same agree;
      }
  position_of_other (i ∷ path) v w t x u agree found =
      option_and_then_some (λ next. value_at (shaped shape Equal) g next.0 next.1 path) (step (shaped shape Equal) g v t i) (x, u) found (λ next stepped rest.
      let one = step_of_other v w t i next agree stepped in
      let more = position_of_other path next.0 one.value next.1 x u one.agree rest in
      record {
        value = more.value;
        is = ap (option_and_then (λ n. value_at (shaped shape Equal) h n.0 n.1 path)) one.is ∙ more.is;
        agree = more.agree;
      })

  ref_of_other : (k : ℕ) (w : Val) → Agree pairs (vals.Ref k) w → (l : ℕ) × (w ≡ vals.Ref l) × Contains pairs (k, l)
  ref_of_other k (vals.Int y) agree = absurd agree
  ref_of_other k (vals.Atom y) agree = absurd agree
  ref_of_other k (vals.Ref l) agree = (l, refl, agree)

  mutable_forth :
      (k l : ℕ) (t : T) → Contains pairs (k, l) → (shaped shape Equal).mutable g k t → (shaped shape Equal).mutable h l t
  mutable_forth k l t paired mutable =
      let o = objects_of_pair g h pairs k l pairing paired in
      let same_tag : tag_of_block (slice_get h l) ≡ tag_of_block (slice_get g k) =
      ap tag_of_block o.right_is ∙ sym (agree_tag pairs o.left o.right o.agree) ∙ sym (ap tag_of_block o.left_is) in (
        fits_kept shape Equal g h pairs pairing (vals.Ref k) (vals.Ref l) t paired mutable.0,
        same_tag_mutable (shape t) (slice_get h l) (slice_get g k) same_tag ∙ mutable.1,
      )

  mismatch_kept : (v w : Val) (t : T) (path : List ℕ) → Agree pairs v w → IsMismatch (shaped shape Equal) g v t path → IsMismatch (shaped shape Equal) h w t path
  mismatch_kept v w t path agree mismatch =
      let p = IsSomeAnd-some (value_at (shaped shape Equal) g v t path) (λ position. ¬ (shaped shape Equal).fits g position.0 position.1) mismatch in
      let o = position_of_other path v w t p.0.0 p.0.1 agree p.1 in
      IsSomeAnd-at (value_at (shaped shape Equal) h w t path) (o.value, p.0.1) (λ position. ¬ (shaped shape Equal).fits h position.0 position.1) o.is
      (λ fits. p.2 (subst IsSome (sym (agree_fields shape Equal g h pairs pairing p.0.0 o.value (shape p.0.1) o.agree)) fits))

  conflict_kept :
      (v w : Val) (t : T) (first second : List ℕ) → Agree pairs v w → IsConflict (shaped shape Equal) g v t first second
      → IsConflict (shaped shape Equal) h w t first second
  conflict_kept v w t first second agree conflict =
      let a = position_of_other first v w t (vals.Ref conflict.object) conflict.one agree conflict.at_first in
      let b = position_of_other second v w t (vals.Ref conflict.object) conflict.other agree conflict.at_second in
      let x = ref_of_other conflict.object a.value a.agree in
      let y = ref_of_other conflict.object b.value b.agree in
      let same : y.0 ≡ x.0 = sym ((pairing.one_to_one conflict.object x.0 conflict.object y.0 x.2 y.2).0 refl) in
      record {
        object = x.0;
        one = conflict.one;
        other = conflict.other;
        before = conflict.before;
        at_first = a.is ∙ ap (λ value. Some (value, conflict.one)) x.1;
        at_second = b.is ∙ ap (λ value. Some (value, conflict.other)) y.1 ∙ ap (λ n. Some (vals.Ref n, conflict.other)) same;
        unequal = conflict.unequal;
        mutable = ⊎_elim
            (λ mutable. inl (mutable_forth conflict.object x.0 conflict.one x.2 mutable))
            (λ mutable. inr (mutable_forth conflict.object x.0 conflict.other x.2 mutable))
            conflict.mutable;
      }

module _ {T : Type 0} (shape : T → ShapeOf T) (Equal : T → T → Type 0) where
  pub fault_is_kept :
      (g h : List Obj) (v w : Val) (t : T) (fault : Fault) → Isomorphism g v h w → IsFault (shaped shape Equal) g v t fault
      → IsFault (shaped shape Equal) h w t fault
  fault_is_kept g h v w t (Mismatch path) (pairs, pairing, agree) mismatch = mismatch_kept shape Equal g h pairs pairing v w t path agree mismatch
  fault_is_kept g h v w t (Conflict first second) (pairs, pairing, agree) conflict = conflict_kept shape Equal g h pairs pairing v w t first second agree conflict

  pub least_fault_is_kept :
      (g h : List Obj) (v w : Val) (t : T) (fault : Fault) → Isomorphism g v h w → IsLeastFault (shaped shape Equal) g v t fault
      → IsLeastFault (shaped shape Equal) h w t fault
  least_fault_is_kept g h v w t fault same least =
      record {
        is_fault = fault_is_kept g h v w t fault same least.is_fault;
        least = λ other is before. least.least other (fault_is_kept h g w v t other (same_symmetric g h v w same) is) before;
      }
