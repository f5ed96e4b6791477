-- A graft writes an isomorphic value of new objects at its location.
use Rattle.std.proofs.Common.{ℕ, zero, suc, ◌+◌, ◌-◌, ◌<◌, ◌≤◌, ◌≡◌, ◌∙◌, List, [], ◌∷◌, ◌++◌, length, length-append, set, Option, Some, None, Result, Ok, Err, refl, ap, sym, subst, arith}
use Rattle.std.specs.Prelude.{slice_get, option_map, option_and_then, pos, All}
use Rattle.std.proofs.lemmas.Option.{option_and_then_some, slice_get_within, get_or_from_slice_get, none-some}
use Rattle.std.proofs.lemmas.List.Elements.{All-contains}
use Rattle.base_data.specs.declared.model.value.Val.{Val}
use Rattle.base_data.specs.declared.model.value.Val.TheVariants as vals
use Rattle.base_data.specs.declared.model.value.Obj.{Obj}
use Rattle.base_data.specs.declared.model.value.Obj.TheVariants as objects
use Rattle.base_data.proofs.model.Options.{slice_get-Contains}
use Rattle.types_spec.specs.declared.types.shape.ShapeOf.{ShapeOf}
use Rattle.types_spec.specs.types.Fault.{step, field_of, type_of_field}
use Rattle.types_spec.specs.types.Fitting.{shaped}
use Rattle.types_spec.specs.types.Shapes.{Shapes}
use Rattle.types_spec.specs.types.Typing.{values_of, field_at, HasType}
use Rattle.marshal_heap.specs.heap.Heap.{object_at, with_field, set_field}
use Rattle.marshal_spec.proofs.canonical.CanonicalListLemmas.{slice_get_right}
use Rattle.edit_values.specs.declared.spots.TypedLocation.{TypedLocation}
use Rattle.edit_values.specs.declared.spots.Location.{Location}
use Rattle.edit_values.specs.declared.spots.Location.TheVariants as spots
use Rattle.edit_values.specs.EditedValues.{write_at}
use Rattle.edit_values.specs.EditPositions.{position_at, position_from, or_step, spot_after, StandsAt}
use Rattle.edit_values.proofs.EditWriteLemmas.{as_many, stands_behind}
use Rattle.marshal_write.specs.graft.Copies.{StandFrom, IsWithin, AreWithin}
use Rattle.marshal_write.proofs.graft.GraftCopyLemmas.{copy_same, copies_are_closed}
use Rattle.edit_values.specs.Grafts.{Other, IsGraftAt, IsGraft, IsGraftAnswer}
use Rattle.edit_values.specs.GraftLaws.{HasGraft}

-- ---- a location has its value

module _ {T : Type 0} (shapes : Shapes T) (graph : List Obj) (root : Val) where
  -- If a step leads to a field of an object, then the field has the value at the next location.
  field_stands : (v : Val) (i : ℕ) (w : Val) → field_of graph v i ≡ Some w → StandsAt graph root (spot_after v i) w
  field_stands (vals.Int z) i w is = absurd (none-some w is)
  field_stands (vals.Atom tag) i w is = absurd (none-some w is)
  field_stands (vals.Ref o) i w is = is

  step_stands : (v : Val) (t : T) (i : ℕ) (next : Val × T) → step shapes graph v t i ≡ Some next → StandsAt graph root (spot_after v i) next.0
  step_stands v t i next is =
      option_and_then_some (λ w. option_map (λ u. (w, u)) (type_of_field (shapes.needs graph v t) i)) (field_of graph v i) next is
      (λ w there typed. subst (StandsAt graph root (spot_after v i)) (same (type_of_field (shapes.needs graph v t) i) w typed) (field_stands v i w there))
    where
      same : (o : Option T) (w : Val) → option_map (λ (u : T). (w, u)) o ≡ Some next → w ≡ next.0
      same None w is = absurd (none-some next is)
      same (Some u) w is = ap (λ (p : Val × T). p.0) (inside (w, u) next is) where
        inside : (a b : Val × T) → Some a ≡ Some b → a ≡ b
        inside a b is = cc

  -- If a step leads to a next location, then that location has its value.
  on_stands : (v : Val) (i n : ℕ) (q : TypedLocation T) (go : TypedLocation T → Result (TypedLocation T) ℕ)
      → ((p : TypedLocation T) → StandsAt graph root p.spot p.value → go p ≡ Ok q → StandsAt graph root q.spot q.value)
      → (o : Option (Val × T)) → ((next : Val × T) → o ≡ Some next → StandsAt graph root (spot_after v i) next.0)
      → or_step n go (option_map (λ (next : Val × T). record { spot = spot_after v i; value = next.0; ty = next.1 }) o) ≡ Ok q
      → StandsAt graph root q.spot q.value
  on_stands v i n q go rest None found is = absurd (never n q is) where
    never : (n : ℕ) (q : TypedLocation T) → ◌≡◌ {A = Result (TypedLocation T) ℕ} (Err n) (Ok q) → ⊥
    never n q is = cc
  on_stands v i n q go rest (Some next) found is = rest _ (found next refl) is

  from_stands : (path : List ℕ) (n : ℕ) (p q : TypedLocation T) → StandsAt graph root p.spot p.value → position_from shapes graph n p path ≡ Ok q
      → StandsAt graph root q.spot q.value
  from_stands [] n p q stands is = subst (λ (x : TypedLocation T). StandsAt graph root x.spot x.value) (inside p q is) stands where
    inside : (a b : TypedLocation T) → ◌≡◌ {A = Result (TypedLocation T) ℕ} (Ok a) (Ok b) → a ≡ b
    inside a b is = cc
  from_stands (i ∷ path) n p q stands is =
      on_stands p.value i n q (λ next. position_from shapes graph (suc n) next path) (λ next here there. from_stands path (suc n) next q here there)
      (step shapes graph p.value p.ty i) (step_stands p.value p.ty i) is

  pub position_stands : (t : T) (path : List ℕ) (p : TypedLocation T) → position_at shapes graph root t path ≡ Ok p → StandsAt graph root p.spot p.value
  position_stands t path p is = from_stands path 0 _ p refl is

-- ---- objects beyond a changed location

set_other : (graph : List Obj) (o k : ℕ) (new : Obj) → o < k → slice_get (set graph o new) k ≡ slice_get graph k
set_other [] o k new less = refl
set_other (x ∷ graph) zero zero new less = absurd (omega (arith, less))
set_other (x ∷ graph) zero (suc k) new less = refl
set_other (x ∷ graph) (suc o) zero new less = absurd (omega (arith, less))
set_other (x ∷ graph) (suc o) (suc k) new less = set_other graph o k new (omega (arith, less))

-- If an object has a field, then the object is in the graph.
owner_inside : (graph : List Obj) (o i : ℕ) (w : Val) → field_at graph o i ≡ Some w → o < length graph
owner_inside graph o i w at =
    option_and_then_some (λ object. slice_get (values_of object) i) (slice_get graph o) w at
    (λ object is field. slice_get_within graph o object is)

write_later : (graph copied : List Obj) (root : Val) (spot : Location) (v w : Val) (k : ℕ) → StandsAt graph root spot w → length graph ≤ k
    → slice_get (write_at spot v (graph ++ copied) root).0 k ≡ slice_get (graph ++ copied) k
write_later graph copied root spots.Root v w k at later = refl
write_later graph copied root (spots.Field o i) v w k at later =
    let inside = owner_inside graph o i w at in
    set_other (graph ++ copied) o k (with_field (object_at (graph ++ copied) o) i v) (omega (arith, inside, later))

write_stand : (graph copied : List Obj) (root : Val) (spot : Location) (v w : Val) → StandsAt graph root spot w
    → StandFrom (write_at spot v (graph ++ copied) root).0 (length graph) copied
write_stand graph copied root spot v w at i o is =
    write_later graph copied root spot v w (length graph + i) at (omega arith) ∙ slice_get_right graph copied i ∙ is

-- An object after the objects of the graph is an object of the copy.
behind_is : (graph copied : List Obj) (k : ℕ) → length graph ≤ k → slice_get (graph ++ copied) k ≡ slice_get copied (k - length graph)
behind_is graph copied k later =
    let same : k ≡ length graph + (k - length graph) = omega (arith, later) in
    ap (slice_get (graph ++ copied)) same ∙ slice_get_right graph copied (k - length graph)

-- ---- the location has the new value

set_here : (values : List Val) (i : ℕ) (v w : Val) → slice_get values i ≡ Some w → slice_get (set values i v) i ≡ Some v
set_here [] zero v w is = absurd (none-some w is)
set_here [] (suc i) v w is = absurd (none-some w is)
set_here (x ∷ values) zero v w is = refl
set_here (x ∷ values) (suc i) v w is = set_here values i v w is

nothing_at : (i : ℕ) (w : Val) → slice_get {X = Val} [] i ≡ Some w → ⊥
nothing_at zero w is = none-some w is
nothing_at (suc i) w is = none-some w is

with_here : (object : Obj) (i : ℕ) (v w : Val) → slice_get (values_of object) i ≡ Some w → slice_get (values_of (with_field object i v)) i ≡ Some v
with_here (objects.Block tag values) i v w is = set_here values i v w is
with_here (objects.Bytes bytes) i v w is = absurd (nothing_at i w is)
with_here (objects.Double bits) i v w is = absurd (nothing_at i w is)
with_here (objects.Doubles all) i v w is = absurd (nothing_at i w is)
with_here (objects.I32 z) i v w is = absurd (nothing_at i w is)
with_here (objects.I64 z) i v w is = absurd (nothing_at i w is)
with_here (objects.Native z) i v w is = absurd (nothing_at i w is)

object_set : (graph : List Obj) (o : ℕ) (new object : Obj) → slice_get graph o ≡ Some object → slice_get (set graph o new) o ≡ Some new
object_set [] zero new object is = absurd (none-some object is)
object_set [] (suc o) new object is = absurd (none-some object is)
object_set (x ∷ graph) zero new object is = refl
object_set (x ∷ graph) (suc o) new object is = object_set graph o new object is

is_object : (graph : List Obj) (o : ℕ) (object : Obj) → slice_get graph o ≡ Some object → object_at graph o ≡ object
is_object graph o object is = get_or_from_slice_get graph o object (objects.I32 (pos 0)) is

field_set : (graph : List Obj) (o i : ℕ) (v w : Val) → field_at graph o i ≡ Some w → field_at (set_field graph o i v) o i ≡ Some v
field_set graph o i v w at =
    option_and_then_some (λ object. slice_get (values_of object) i) (slice_get graph o) w at
    (λ object is field.
    let whole = is_object graph o object is in
    ap (option_and_then (λ object. slice_get (values_of object) i)) (object_set graph o (with_field (object_at graph o) i v) object is)
    ∙ with_here (object_at graph o) i v w (ap (λ x. slice_get (values_of x) i) whole ∙ field))

write_here : (graph : List Obj) (root : Val) (spot : Location) (v w : Val) → StandsAt graph root spot w
    → StandsAt (write_at spot v graph root).0 (write_at spot v graph root).1 spot v
write_here graph root spots.Root v w at = refl
write_here graph root (spots.Field o i) v w at = field_set graph o i v w at

-- ---- a graft writes an isomorphic value

module _ {T : Type 0} (graph : List Obj) (root : Val) (p : TypedLocation T) (h : List Obj) (part : TypedLocation T) (made : List Obj × Val) where
  pub at_positions : (left right : Result (TypedLocation T) ℕ) → left ≡ Ok p → right ≡ Ok part → IsGraft graph root left h right (Ok made)
      → IsGraftAt graph root p h part (Ok made)
  at_positions left right first second is =
      subst (λ r. IsGraft graph root (Ok p) h r (Ok made)) second (subst (λ l. IsGraft graph root l h right (Ok made)) first is)

module _ {T : Type 0} (shape : T → ShapeOf T) (Equal : T → T → Type 0) (t : T) (path : List ℕ) (other : Other) (source : List ℕ) (graph : List Obj) (root : Val) where
  abbrev shapes : Shapes T
  shapes = shaped shape Equal

  pub has_graft : (made : List Obj × Val) → IsGraftAnswer shape Equal t path other source graph root (Ok made) → (p part : TypedLocation T)
      → position_at shapes graph root t path ≡ Ok p → position_at shapes other.0 other.1 t source ≡ Ok part → HasGraft shapes t p part other graph made
  has_graft made (is, typed) p part first second =
      let stands = position_stands shapes graph root t path p first in
      let at = at_positions graph root p other.0 part made (position_at shapes graph root t path) (position_at shapes other.0 other.1 t source) first second is in
      let copied : List Obj = at.0 in
      let value : Val = at.1 in
      let new : List Obj × Val = write_at p.spot value (graph ++ copied) root in
      let many : length graph + length copied ≡ length new.0 = sym (as_many p.spot value (graph ++ copied) root ∙ length-append graph copied) in
      let closed = copies_are_closed other.0 part.value (length graph) copied value at.2 in
      let all : All (AreWithin (length graph) (length new.0)) copied = subst (λ n. All (AreWithin (length graph) n) copied) many closed.1 in
      let whole : HasGraft shapes t p part other graph new = record {
        value = value;
        stands = write_here (graph ++ copied) root p.spot value p.value (stands_behind graph copied root p.spot p.value stands);
        same = copy_same other.0 part.value (length graph) copied value at.2 new.0 (write_stand graph copied root p.spot value p.value stands);
        is_new = subst (λ n. IsWithin (length graph) n value) many closed.0;
        all_are_new = λ k object later there.
            All-contains (AreWithin (length graph) (length new.0)) copied object all
            (slice_get-Contains copied (k - length graph) object
            (sym (behind_is graph copied k later) ∙ sym (write_later graph copied root p.spot value p.value k stands later) ∙ there));
        typed = subst (λ (m : List Obj × Val). HasType shapes m.0 m.1 t) at.3 typed;
      } in
      subst (HasGraft shapes t p part other graph) (sym at.3) whole
