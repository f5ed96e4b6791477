-- If the shapes of numbers and of types agree, then each path leads to the same value at a number
-- and at the number's type. The faults and least faults at a number are the faults and least faults
-- at the number's type.
use Rattle.std.proofs.Common.{ℕ, ◌≡◌, ◌∙◌, ⊎_elim, inl, inr, List, [], ◌∷◌, Option, Some, None}
use Rattle.std.proofs.Common.{refl, sym, ap, subst}
use Rattle.std.specs.Prelude.{IsSomeAnd, option_map, option_and_then}
use Rattle.std.proofs.lemmas.Option.{same_Some, none-some}
use Rattle.base_data.specs.declared.model.value.Val.{Val}
use Rattle.base_data.specs.declared.model.value.Val.TheVariants as vals
use Rattle.base_data.specs.declared.model.value.Obj.{Obj}
use Rattle.types_spec.specs.declared.types.fault.Fault.{Fault}
use Rattle.types_spec.specs.declared.types.fault.Fault.TheVariants.{Mismatch, Conflict}
use Rattle.types_spec.specs.types.Shapes.{Shapes}
use Rattle.types_spec.specs.types.Fault.{field_of, type_of_field, step, value_at, IsConflict, IsFault}

module _ {T U : Type 0} (one : Shapes T) (other : Shapes U) (Of : T → U → Type 0) (graph : List Obj)
  where
    abbrev pub BothOf : Option T → Option U → Type 0
    BothOf None None = Unit {0}
    BothOf (Some i) (Some t) = Of i t
    BothOf i t = ⊥

    pub record SayTheSame : Type 0 where
      pub fits : (v : Val) (i : T) (t : U) → Of i t → one.fits graph v i → other.fits graph v t
      pub fits_back : (v : Val) (i : T) (t : U) → Of i t → other.fits graph v t → one.fits graph v i
      pub fields : (v : Val) (i : T) (t : U) (k : ℕ) → Of i t
          → BothOf (type_of_field (one.needs graph v i) k) (type_of_field (other.needs graph v t) k)
      pub mutable :
          (o : ℕ) (i : T) (t : U) → Of i t → one.mutable graph o i → other.mutable graph o t
      pub mutable_back :
          (o : ℕ) (i : T) (t : U) → Of i t → other.mutable graph o t → one.mutable graph o i
      pub equal : (i j : T) (t u : U) → Of i t → Of j u → one.equal i j → other.equal t u
      pub equal_back : (i j : T) (t u : U) → Of i t → Of j u → other.equal t u → one.equal i j

    -- Either neither position exists, or the two positions have the same value and related types.
    abbrev pub SamePosition : Option (Val × T) → Option (Val × U) → Type 0
    SamePosition None None = Unit {0}
    SamePosition (Some p) (Some q) = (p.0 ≡ q.0) × Of p.1 q.1
    SamePosition p q = ⊥

    module _ (same : SayTheSame) where
      typed_same : (w : Val) (i : Option T) (t : Option U) → BothOf i t
          → SamePosition (option_map (λ a. (w, a)) i) (option_map (λ b. (w, b)) t)
      typed_same w None None both = tt
      typed_same w (Some i) (Some t) both = (refl, both)
      typed_same w None (Some t) both = absurd both
      typed_same w (Some i) None both = absurd both

      field_same : (field : Option Val) (i : Option T) (t : Option U) → BothOf i t
          → SamePosition (option_and_then (λ w. option_map (λ a. (w, a)) i) field)
          (option_and_then (λ w. option_map (λ b. (w, b)) t) field)
      field_same None i t both = tt
      field_same (Some w) i t both = typed_same w i t both

      step_same : (v : Val) (i : T) (t : U) (k : ℕ) → Of i t → SamePosition (step one graph v i k)
          (step other graph v t k)
      step_same v i t k of =
          field_same (field_of graph v k) (type_of_field (one.needs graph v i) k)
          (type_of_field (other.needs graph v t) k) (same.fields v i t k of)

      along : (path : List ℕ) (p : Option (Val × T)) (q : Option (Val × U)) → SamePosition p q
          → ((v : Val) (i : T) (t : U) → Of i t → SamePosition (value_at one graph v i path)
          (value_at other graph v t path))
          → SamePosition (option_and_then (λ next. value_at one graph next.0 next.1 path) p)
          (option_and_then (λ next. value_at other graph next.0 next.1 path) q)
      along path None None positions rest = tt
      along path (Some p) (Some q) positions rest =
          subst (λ v. SamePosition (value_at one graph p.0 p.1 path) (value_at other graph v q.1 path))
          positions.0 (rest p.0 p.1 q.1 positions.1)
      along path None (Some q) positions rest = absurd positions
      along path (Some p) None positions rest = absurd positions

      pub position_same :
          (path : List ℕ) (v : Val) (i : T) (t : U) → Of i t
          → SamePosition (value_at one graph v i path)
          (value_at other graph v t path)
      position_same [] v i t of = (refl, of)
      position_same (k ∷ path) v i t of =
          along path (step one graph v i k) (step other graph v t k) (step_same v i t k of)
          (λ w j u of'. position_same path w j u of')

      -- If the first position has a value, then the second position has the same value at a related
      -- type.
      there : (p : Option (Val × T)) (q : Option (Val × U)) → SamePosition p q → (w : Val) (i : T)
          → p ≡ Some (w, i) → (t : U) × (q ≡ Some (w, t)) × Of i t
      there None q positions w i is = absurd (none-some (w, i) is)
      there (Some p) None positions w i is = absurd positions
      there (Some p) (Some q) positions w i is =
          let pair = same_Some p (w, i) is in (
            q.1,
            ap (λ v. Some (v, q.1)) (sym positions.0 ∙ ap (λ (x : Val × T). x.0) pair),
            subst
                (λ j. Of j q.1) (ap (λ (x : Val × T). x.1) pair) positions.1,
          )

      mismatch_on : (p : Option (Val × T)) (q : Option (Val × U)) → SamePosition p q
          → IsSomeAnd p (λ position. one.fits graph position.0 position.1 → ⊥)
          → IsSomeAnd q (λ position. other.fits graph position.0 position.1 → ⊥)
      mismatch_on None q positions unfit = absurd unfit
      mismatch_on (Some p) None positions unfit = absurd positions
      mismatch_on (Some p) (Some q) positions unfit =
          λ fits. unfit (same.fits_back p.0 p.1 q.1 positions.1 (subst (λ v. other.fits graph v q.1)
          (sym positions.0) fits))

      conflict_on : (v : Val) (i : T) (t : U) → Of i t → (first second : List ℕ)
          → IsConflict one graph v i first second → IsConflict other graph v t first second
      conflict_on v i t of first second c =
          let a = there (value_at one graph v i first) (value_at other graph v t first)
          (position_same first v i t of) (vals.Ref c.object) c.one c.at_first in
          let b = there (value_at one graph v i second) (value_at other graph v t second)
          (position_same second v i t of) (vals.Ref c.object) c.other c.at_second in
          record {
            object = c.object;
            one = a.0;
            other = b.0;
            before = c.before;
            at_first = a.1;
            at_second = b.1;
            unequal = λ equal. c.unequal (same.equal_back c.one c.other a.0 b.0 a.2 b.2 equal);
            mutable = ⊎_elim (λ m. inl (same.mutable c.object c.one a.0 a.2 m))
                (λ m. inr (same.mutable c.object c.other b.0 b.2 m)) c.mutable;
          }

      pub fault_on : (v : Val) (i : T) (t : U) → Of i t → (fault : Fault)
          → IsFault one graph v i fault → IsFault other graph v t fault
      fault_on v i t of (Mismatch path) is =
          mismatch_on (value_at one graph v i path) (value_at other graph v t path)
          (position_same path v i t of) is
      fault_on v i t of (Conflict first second) is = conflict_on v i t of first second is
