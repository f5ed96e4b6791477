-- If a value has every closed instance of a type, then the value has the type.
use Rattle.std.proofs.Common.{ℕ, ◌≡◌, ⊎_elim, inl, inr, List, Option, Some, None, refl, subst, sym}
use Rattle.std.specs.Prelude.{Contains, IsSome, IsSomeAnd, IsTrue}
use Rattle.base_data.proofs.model.Options.{IsSomeAnd-some, none_is_not_some}
use Rattle.base_data.specs.declared.model.value.Val.{Val}
use Rattle.base_data.specs.declared.model.value.Val.TheVariants as vals
use Rattle.base_data.specs.declared.model.value.Obj.{Obj}
use Rattle.types_spec.specs.declared.types.decl.Decl.{Decl}
use Rattle.types_spec.specs.declared.types.fault.Fault.{Fault}
use Rattle.types_spec.specs.declared.types.fault.Fault.TheVariants.{Mismatch, Conflict}
use Rattle.types_spec.specs.types.Ty.{Ty, instance}
use Rattle.types_spec.specs.types.Shape.{shape}
use Rattle.types_spec.specs.types.Fitting.{fields_of}
use Rattle.types_spec.specs.types.Fault.{value_at, IsMismatch, IsConflict, IsFault}
use Rattle.types_spec.specs.types.WellFormed.{IsSoundType, AreWellFormed}
use Rattle.types_spec.specs.types.Equal.{declared_shapes}
use Rattle.types_spec.specs.types.Reached.{reached_from, IsReached}
use Rattle.types_spec.specs.types.Typing.{HasType}
use Rattle.types_spec.specs.types.Table.{Table}
use Rattle.types_spec.proofs.types.TypeFaultLemmas.{fault_excludes_type}
use Rattle.types_theory.proofs.equality.EqualityReachedLemmas.{root_listed, reached_listed}
use Rattle.types_theory.proofs.equality.EqualitySoundLemmas.{all_reached_sound}
use Rattle.types_theory.specs.table.TableDecides.{IsMadeFor}
use Rattle.types_theory.proofs.table.TableDecideLemmas.{root_is_first, type_or_fault_lem}
use Rattle.types_theory.specs.type_variables.TypeVariables.{AreClosed, HasEachInstance}
use Rattle.types_theory.proofs.type_variables.VariableApartLemmas.{apart, apart_closed, apart_asked, kept_apart}
use Rattle.types_theory.proofs.type_variables.ClosedTypes.{some_is_away, away_asked, stays_away}
use Rattle.types_theory.proofs.type_variables.InstanceFields.{fits_become, mutable_becomes}
use Rattle.types_theory.proofs.type_variables.PositionInstances.{position_becomes}
use Rattle.types_theory.proofs.type_variables.ReachedInstances.{all, all_lawful, new_among}

none_is : {X : Type 0} (found : Option X) → (IsSome found → ⊥) → found ≡ None
none_is None never = refl
none_is (Some x) never = absurd (never refl)

module _ (decls : List Decl) (t : Ty) (types : List Ty) (well : AreWellFormed decls) (sound_root : IsSoundType decls t)
    (reached : IsReached decls t types) (graph : List Obj) (v : Val) (each : HasEachInstance decls graph v t) where
  abbrev sound : (u : Ty) → Contains types u → IsSoundType decls u
  sound u among = all_reached_sound decls well t sound_root types reached u among

  abbrev listed : (u a : Ty) → Contains types u → Contains (reached_from decls u) a → Contains types a
  listed u a among has = reached_listed decls t types reached u a among has

  abbrev own : Contains types t
  own = root_listed decls t types reached

  -- If a value has every closed instance of a type, then the value has no fault at any closed
  -- instance.
  no_fault : (value : List ℕ → Ty) → AreClosed decls value → (fault : Fault)
      → IsFault (declared_shapes decls) graph v (instance value t) fault → ⊥
  no_fault value closed fault is =
      fault_excludes_type (declared_shapes decls) (λ u. Contains (all decls well value closed types sound listed) u)
      (all_lawful decls well value closed types sound listed) graph v (instance value t) fault
      (new_among decls well value closed types sound listed t own) is (each value closed)

  no_mismatch : (path : List ℕ) → IsMismatch (declared_shapes decls) graph v t path → ⊥
  no_mismatch path mismatch =
      let position = IsSomeAnd-some (value_at (declared_shapes decls) graph v t path)
      (λ p. (declared_shapes decls).fits graph p.0 p.1 → ⊥) mismatch in
      let w : Val = position.0.0 in
      let u : Ty = position.0.1 in
      let at = some_is_away decls well graph w in
      let value : List ℕ → Ty = λ x. at.closed_type in
      let after = position_becomes decls well value graph types sound listed (λ x. away_asked decls well graph w at) path v t w u own position.1 in
      let away = stays_away decls well graph w at u (sound u after.0)
      (none_is (fields_of graph w (shape decls u)) position.2) in
      no_fault value (λ x. at.closed) (Mismatch path)
      (subst (λ (p : Option (Val × Ty)). IsSomeAnd p (λ q. (declared_shapes decls).fits graph q.0 q.1 → ⊥)) (sym after.1)
      (none_is_not_some (fields_of graph w (shape decls (instance value u))) away))

  abbrev value' : List ℕ → Ty
  value' = apart decls well types sound listed

  mutable_there : (o : ℕ) (u : Ty) → Contains types u → (declared_shapes decls).mutable graph o u
      → (declared_shapes decls).mutable graph o (instance value' u)
  mutable_there o u among mutable = (
    fits_become decls well value' graph (vals.Ref o) u (sound u among) mutable.0,
    subst IsTrue (sym (mutable_becomes decls well value' graph o u (sound u among) mutable.0)) mutable.1,
  )

  no_conflict : (first second : List ℕ) → IsConflict (declared_shapes decls) graph v t first second → ⊥
  no_conflict first second c =
      let stand = apart_asked decls well types sound listed in
      let one = position_becomes decls well value' graph types sound listed stand first v t (vals.Ref c.object) c.one own c.at_first in
      let other = position_becomes decls well value' graph types sound listed stand second v t (vals.Ref c.object) c.other own c.at_second in
      no_fault value' (apart_closed decls well types sound listed) (Conflict first second) (record {
        object = c.object;
        one = instance value' c.one;
        other = instance value' c.other;
        before = c.before;
        at_first = one.1;
        at_second = other.1;
        unequal = λ equal. c.unequal (kept_apart decls well types sound listed c.one c.other one.0 other.0 equal);
        mutable = ⊎_elim (λ m. inl (mutable_there c.object c.one one.0 m)) (λ m. inr (mutable_there c.object c.other other.0 m)) c.mutable;
      })

  pub none : (fault : Fault) → IsFault (declared_shapes decls) graph v t fault → ⊥
  none (Mismatch path) is = no_mismatch path is
  none (Conflict first second) is = no_conflict first second is

pub has_type : (decls : List Decl) (t : Ty) (types : List Ty) (table : Table) → IsMadeFor decls t types table → (graph : List Obj)
    (v : Val) → HasEachInstance decls graph v t → HasType (declared_shapes decls) graph v t
has_type decls t types table made graph v each = ⊎_elim
    (λ has. has)
    (λ fault. absurd (none decls t types made.well made.sound made.reached graph v each fault.0 fault.1))
    (type_or_fault_lem decls t types table made graph v 0 t (root_is_first decls t types made.reached))
