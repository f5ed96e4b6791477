-- A value has a declared type if and only if the value has the type's number in a table.
use Rattle.std.proofs.Common.{ℕ, zero, suc, ◌<◌, ◌≡◌, ◌⊎◌, ⊎_elim, inl, inr, List, [], ◌∷◌}
use Rattle.std.proofs.Common.{length}
use Rattle.std.proofs.Common.{true, false, Option, Some, None, refl, ap, subst, sym, arith}
use Rattle.std.specs.Prelude.{Contains, slice_get, IsSome, IsSomeAnd, IsTrue, option_map}
use Rattle.std.specs.List.{filter_map}
use Rattle.std.proofs.lemmas.Option.{same_Some, none-some, slice_get_within}
use Rattle.base_data.specs.declared.model.value.Val.{Val}
use Rattle.base_data.specs.declared.model.value.Val.TheVariants as vals
use Rattle.base_data.specs.declared.model.value.Obj.{Obj}
use Rattle.types_spec.specs.declared.types.decl.Decl.{Decl}
use Rattle.types_spec.specs.declared.types.fault.Fault.{Fault}
use Rattle.types_spec.specs.declared.types.shape.ShapeOf.{ShapeOf}
use Rattle.types_spec.specs.types.Ty.{Ty}
use Rattle.types_spec.specs.types.WellFormed.{AreKnownByHash}
use Rattle.types_spec.specs.types.Equal.{declared_shapes}
use Rattle.types_spec.specs.types.Fault.{IsFault}
use Rattle.types_spec.specs.types.Fitting.{or_none, fields_of, is_mutable}
use Rattle.types_spec.specs.types.Table.{Table, table_shapes, node_or_none, IsTableOf}
use Rattle.types_spec.specs.types.Typing.{field_at, IsListed, IsHeld, IsTyping, IsTyped, HasType}
use Rattle.base_data.proofs.model.Options.{Contains-first, Contains-later, Contains-none, same_or_not, true_or_not, slice_get-Contains, IsSomeAnd-weaker}
use Rattle.types_spec.proofs.types.TypeAskedLemmas.{asked_is}
use Rattle.types_spec.proofs.types.TypeFaultLemmas.{fault_excludes_type}
use Rattle.types_theory.specs.typing.Decidable.{AreDecidable, ReachesFew}
use Rattle.types_theory.specs.typing.CompleteFaults.{HasTypeOrFault}
use Rattle.types_theory.proofs.typing.Decision.{faults_are_complete}
use Rattle.types_theory.proofs.equality.EqualityLawfulLemmas.{reached_lawful}
use Rattle.types_theory.proofs.equality.EqualitySoundLemmas.{known_by_hash}
use Rattle.types_theory.proofs.equality.EqualityTableLemmas.{fit_known, need_known, need_forth, need_back, fits}
use Rattle.types_theory.proofs.equality.EqualityTableLemmas.{mutable_back}
use Rattle.types_theory.proofs.equality.EqualityTableLemmas.{fault_forth, table_is_lawful}
use Rattle.types_spec.proofs.types.TypeListLemmas.{Contains-filter_mapped, filter_mapped_is}
use Rattle.types_theory.specs.table.TableDecides.{TheRootIsFirst, IsMadeFor}
use Rattle.types_theory.proofs.table.TableFieldLemmas.{fields_there, fields_once}

-- ---- the number 0

pub root_is_first : TheRootIsFirst
root_is_first decls t types reached = ⊎_elim
    (λ seen. absurd (Contains-none t seen.0))
    (λ new. ap (λ all. slice_get all 0) new.2)
    reached.in_order

-- ---- the shapes of a table are decidable

some_or_none : {X : Type 0} (found : Option X) → IsSome found ⊎ (IsSome found → ⊥)
some_or_none None = inr never where
  never : false ≡ true → ⊥
  never is = cc
some_or_none (Some x) = inl refl

pub numbers_same_or_not : (a b : Option ℕ) → (a ≡ b) ⊎ (a ≡ b → ⊥)
numbers_same_or_not None None = inl refl
numbers_same_or_not None (Some n) = inr (λ same. none-some n same)
numbers_same_or_not (Some m) None = inr (λ same. none-some m (sym same))
numbers_same_or_not (Some m) (Some n) = ⊎_elim
    (λ same. inl (ap Some same))
    (λ different. inr (λ same. different (same_Some m n same)))
    (same_or_not m n)

both_or_not : (A B : Type 0) → A ⊎ (A → ⊥) → B ⊎ (B → ⊥) → (A × B) ⊎ (A × B → ⊥)
both_or_not A B (inl a) (inl b) = inl (a, b)
both_or_not A B (inr never) other = inr (λ both. never both.0)
both_or_not A B (inl a) (inr never) = inr (λ both. never both.1)

abbrev shape_at : Table → ℕ → ShapeOf ℕ
shape_at table i = node_or_none (slice_get table.nodes i)

pub tables_are_decidable : (table : Table) → AreDecidable (table_shapes table)
tables_are_decidable table = record {
  fits = λ graph v i. some_or_none (fields_of graph v (shape_at table i));
  mutable = λ graph o i. both_or_not (IsSome (fields_of graph (vals.Ref o) (shape_at table i)))
      (IsTrue (is_mutable (shape_at table i) (slice_get graph o)))
      (some_or_none (fields_of graph (vals.Ref o) (shape_at table i)))
      (true_or_not (is_mutable (shape_at table i) (slice_get graph o)));
  equal = λ i j. numbers_same_or_not (slice_get table.classes i) (slice_get table.classes j);
  there = λ graph v i k j need. fields_there (shape_at table i) graph v k j
      (named graph v i k j need);
  once = λ graph v i k j l one other. fields_once (shape_at table i) graph v k j l
      (named graph v i k j one) (named graph v i k l other);
} where
  -- Each field that a number of the table requires has a type in the shape at the number.
  named : (graph : List Obj) (v : Val) (i k j : ℕ)
      → Contains ((table_shapes table).needs graph v i) (k, j)
      → Contains (or_none (fields_of graph v (shape_at table i))) (k, j)
  named graph v i k j need =
      (asked_is (shape_at table) (or_none (fields_of graph v (shape_at table i))) k j need).0

-- ---- lists

below : ℕ → List ℕ
below zero = []
below (suc n) = n ∷ below n

below_has : (n i : ℕ) → i < n → Contains (below n) i
unfolding below
below_has zero i less = absurd (omega arith)
below_has (suc n) i less = ⊎_elim
    (λ same. subst (λ j. Contains (n ∷ below n) j) (sym same) (Contains-first n (below n)))
    (λ different. Contains-later n (below n) i (below_has n i (lesser different)))
    (same_or_not i n) where
      lesser : (i ≡ n → ⊥) → i < n
      lesser different = omega arith

-- ---- typings by numbers and by types

module _ (decls : List Decl) (types : List Ty) (table : Table) (made : IsTableOf decls types table)
    (graph : List Obj) where
  abbrev Is : ℕ → Ty → Type 0
  Is i u = slice_get types i ≡ Some u

  abbrev type_if : ℕ → Option Ty → Option (ℕ × Ty)
  type_if o found = option_map (λ u. (o, u)) found

  abbrev typed : ℕ × ℕ → Option (ℕ × Ty)
  typed pair = type_if pair.0 (slice_get types pair.1)

  abbrev pub all_typed : List (ℕ × ℕ) → List (ℕ × Ty)
  all_typed pairs = filter_map typed pairs

  pub typed_has : (pairs : List (ℕ × ℕ)) (o i : ℕ) (u : Ty) → Contains pairs (o, i) → Is i u
      → Contains (all_typed pairs) (o, u)
  typed_has pairs o i u among is =
      Contains-filter_mapped typed pairs (o, i) (o, u) among (ap (type_if o) is)

  typed_type : (p o : ℕ) (found : Option Ty) (u : Ty) → type_if p found ≡ Some (o, u) → (p ≡ o)
      × (found ≡ Some u)
  typed_type p o None u is = absurd (none-some (o, u) is)
  typed_type p o (Some w) u is =
      let pair = same_Some (p, w) (o, u) is in
      (ap (λ (x : ℕ × Ty). x.0) pair, ap (λ (x : ℕ × Ty). Some x.1) pair)

  pub typed_is : (pairs : List (ℕ × ℕ)) (o : ℕ) (u : Ty) → Contains (all_typed pairs) (o, u) → (i : ℕ)
      × Contains pairs (o, i) × Is i u
  typed_is pairs o u among =
      let source = filter_mapped_is typed pairs (o, u) among in
      let parts = typed_type source.0.0 o (slice_get types source.0.1) u source.2 in
      (source.0.1, subst (λ p. Contains pairs (p, source.0.1)) parts.0 source.1, parts.1)

  module _ (pairs : List (ℕ × ℕ)) (typing : IsTyping (table_shapes table) graph pairs) where
    listed_too : (v : Val) (j : ℕ) (a : Ty) → Is j a → IsListed (table_shapes table) pairs v j
        → IsListed (declared_shapes decls) (all_typed pairs) v a
    listed_too (vals.Int z) j a is listed = tt
    listed_too (vals.Atom tag) j a is listed = tt
    listed_too (vals.Ref p) j a is listed =
        let known = fit_known decls types table made graph (vals.Ref p) listed.0
        (typing.fits p listed.0 listed.1) in (
          known.0,
          typed_has pairs p listed.0 known.0 listed.1 known.1,
          made.same_class listed.0 j
              known.0 a known.1 is listed.2,
        )

    held_too : (v : Val) (j : ℕ) (a : Ty) → Is j a → IsHeld (table_shapes table) graph pairs v j
        → IsHeld (declared_shapes decls) graph (all_typed pairs) v a
    held_too v j a is held =
        record {
          fits = fits decls types table made graph v j a is held.fits;
          listed = listed_too v j a is held.listed;
        }

    needed_too : (o k : ℕ) (u a : Ty) → Contains (all_typed pairs) (o, u)
        → Contains ((declared_shapes decls).needs graph (vals.Ref o) u) (k, a)
        → IsSomeAnd (field_at graph o k) (λ v. IsHeld (declared_shapes decls) graph
        (all_typed pairs) v a)
    needed_too o k u a among need =
        let source = typed_is pairs o u among in
        let number = need_back decls types table made graph (vals.Ref o) source.0 u k a source.2
        need in
        IsSomeAnd-weaker (λ v. IsHeld (table_shapes table) graph pairs v number.0)
        (λ v. IsHeld (declared_shapes decls) graph (all_typed pairs) v a) (field_at graph o k)
        (λ v held. held_too v number.0 a number.2 held) (typing.held o source.0 k number.0 source.1
        number.1)

    pub typing_too : IsTyping (declared_shapes decls) graph (all_typed pairs)
    typing_too = record {
      fits = λ o u among. let source =
          typed_is pairs o u among in fits decls types table made graph (vals.Ref o) source.0 u
          source.2 (typing.fits o source.0 source.1);
      held = λ o u k a among need. needed_too o k u a among need;
      one_type = λ o u w among among' may.
          let source = typed_is pairs o u among in
          let other = typed_is pairs o w among' in
          made.same_class source.0 other.0 u w source.2 other.2 (typing.one_type o source.0 other.0
          source.1 other.1 (mutable_back decls types table made graph o source.0 u source.2
          may));
    }

  typed_forth : (v : Val) (i : ℕ) (u : Ty) → Is i u → IsTyped (table_shapes table) graph v i
      → IsTyped (declared_shapes decls) graph v u
  typed_forth (vals.Int z) i u is typed' = tt
  typed_forth (vals.Atom tag) i u is typed' = tt
  typed_forth (vals.Ref o) i u is typed' =
      (all_typed typed'.0, typing_too typed'.0 typed'.1, typed_has typed'.0 o i u typed'.2 is)

  pub has_forth : (v : Val) (i : ℕ) (u : Ty) → Is i u → HasType (table_shapes table) graph v i
      → HasType (declared_shapes decls) graph v u
  has_forth v i u is has =
      record {
        fits = fits decls types table made graph v i u is has.fits;
        typed = typed_forth v i u is has.typed;
      }

  -- From each number of the table, finitely many numbers are reachable.
  few : (i : ℕ) (u : Ty) → Is i u → ReachesFew (table_shapes table) i
  few i u is = record {
    types = below (length types);
    own = (i, below_has (length types) i (slice_get_within types i u is), refl);
    closed = λ graph' v j k w among need.
        let known = needed_number graph' v j k w need in
        (w, below_has (length types) w (slice_get_within types w known.0 known.1), refl);
  } where
    needed_number : (graph' : List Obj) (v : Val) (j k w : ℕ)
        → Contains ((table_shapes table).needs graph' v j) (k, w) → (a : Ty) × Is w a
    needed_number graph' v j k w need =
        let own = need_known decls types table made graph' v j k w need in
        let found = need_forth decls types table made graph' v j own.0 k w own.1 need in
        (found.0, found.2)

-- ---- the table decides

module _ (decls : List Decl) (t : Ty) (types : List Ty) (table : Table)
    (all : IsMadeFor decls t types table) (graph : List Obj) where
  hashed : AreKnownByHash decls types
  hashed = known_by_hash decls all.well t all.sound types all.reached

  decided : (v : Val) (i : ℕ) (u : Ty) → slice_get types i ≡ Some u
      → HasTypeOrFault (table_shapes table) graph v i
  decided v i u is =
      faults_are_complete ℕ (table_shapes table) (table_is_lawful decls all.well.sound t types
      all.reached hashed table all.made) (tables_are_decidable table) graph v i
      (few decls types table all.made graph i u is)

  pub never_both :
      (v : Val) (i : ℕ) (u : Ty) → slice_get types i ≡ Some u → (fault : Fault)
      → IsFault (declared_shapes decls) graph v u fault → HasType (declared_shapes decls) graph v u
      → ⊥
  never_both v i u is fault is_fault has =
      fault_excludes_type (declared_shapes decls) (λ w. Contains types w)
      (reached_lawful decls all.well.sound t types all.reached hashed) graph v u fault
      (slice_get-Contains types i u is) is_fault has

  pub has_back : (v : Val) (i : ℕ) (u : Ty) → slice_get types i ≡ Some u
      → HasType (declared_shapes decls) graph v u → HasType (table_shapes table) graph v i
  has_back v i u is has = ⊎_elim
      (λ by_number. by_number)
      (λ fault. absurd (never_both v i u is fault.0 (fault_forth decls types table all.made graph v
      i u is fault.0 fault.1) has))
      (decided v i u is)

  pub type_or_fault_lem :
      (v : Val) (i : ℕ) (u : Ty) → slice_get types i ≡ Some u → HasType (declared_shapes decls)
      graph v u ⊎ ((fault : Fault) × IsFault (declared_shapes decls) graph v u fault)
  type_or_fault_lem v i u is = ⊎_elim
      (λ has. inl (has_forth decls types table all.made graph v i u is has))
      (λ fault. inr (
        fault.0,
        fault_forth decls types table all.made graph v i u is fault.0
            fault.1,
      ))
      (decided v i u is)
