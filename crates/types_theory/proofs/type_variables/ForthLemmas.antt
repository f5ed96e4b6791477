-- If a value has a type, then the value has every closed instance of the type.
use Rattle.std.proofs.Common.{ℕ, ◌≡◌, List, Option, ap, subst, sym}
use Rattle.std.specs.Prelude.{Contains, map, IsSomeAnd, IsTrue}
use Rattle.base_data.proofs.model.Options.{Contains-map, slice_get-Contains, map-Contains, IsSomeAnd-weaker}
use Rattle.base_data.specs.declared.model.value.Val.{Val}
use Rattle.base_data.specs.declared.model.value.Val.TheVariants as vals
use Rattle.base_data.specs.declared.model.value.Obj.{Obj}
use Rattle.types_spec.specs.declared.types.decl.Decl.{Decl}
use Rattle.types_spec.specs.types.Ty.{Ty, instance}
use Rattle.types_spec.specs.types.Shape.{shape}
use Rattle.types_spec.specs.types.Fitting.{or_none, fields_of, is_asked}
use Rattle.types_spec.proofs.types.TypeAskedLemmas.{asked_is, is_needed}
use Rattle.types_spec.specs.types.WellFormed.{IsSoundType, AreWellFormed}
use Rattle.types_spec.specs.types.Equal.{declared_shapes}
use Rattle.types_spec.specs.types.Reached.{reached_from}
use Rattle.types_spec.specs.types.Typing.{field_at, IsListed, IsHeld, IsTyping, IsTyped, HasType}
use Rattle.types_spec.specs.types.Table.{Table, table_shapes}
use Rattle.types_theory.proofs.equality.EqualityReachedLemmas.{named_here, reached_listed, needs_named}
use Rattle.types_theory.proofs.equality.EqualitySoundLemmas.{all_reached_sound}
use Rattle.types_theory.specs.table.TableDecides.{IsMadeFor}
use Rattle.types_theory.proofs.table.TableDecideLemmas.{root_is_first, all_typed, typed_has, typed_is, typing_too, has_back}
use Rattle.types_theory.specs.type_variables.TypeVariables.{AreClosed}
use Rattle.types_theory.proofs.type_variables.InstanceFields.{some_is, fields_become, fits_become, mutable_becomes, asked_back}
use Rattle.types_theory.proofs.type_variables.EqualInstances.{instances_equal}

module _ (decls : List Decl) (well : AreWellFormed decls) (value : List ℕ → Ty) (closed : AreClosed decls value)
    (types : List Ty) (sound : (u : Ty) → Contains types u → IsSoundType decls u)
    (listed : (u a : Ty) → Contains types u → Contains (reached_from decls u) a → Contains types a) (graph : List Obj)
    (pairs : List (ℕ × Ty)) (typing : IsTyping (declared_shapes decls) graph pairs)
    (within : (o : ℕ) (u : Ty) → Contains pairs (o, u) → Contains types u) where
  abbrev new : Ty → Ty
  new t = instance value t

  abbrev moved : ℕ × Ty → ℕ × Ty
  moved p = (p.0, new p.1)

  abbrev list : List (ℕ × Ty)
  list = map moved pairs

  listed_becomes : (v : Val) (a : Ty) → Contains types a → IsListed (declared_shapes decls) pairs v a
      → IsListed (declared_shapes decls) list v (new a)
  listed_becomes (vals.Int z) a among is = tt
  listed_becomes (vals.Atom tag) a among is = tt
  listed_becomes (vals.Ref o) a among is = (
    new is.0,
    Contains-map moved pairs (o, is.0) is.1,
    instances_equal decls well value closed types sound listed is.0 a (within o is.0 is.1) among is.2,
  )

  held_becomes : (v : Val) (a : Ty) → Contains types a → IsHeld (declared_shapes decls) graph pairs v a
      → IsHeld (declared_shapes decls) graph list v (new a)
  held_becomes v a among held = record {
    fits = fits_become decls well value graph v a (sound a among) held.fits;
    listed = listed_becomes v a among held.listed;
  }

  source : (o : ℕ) (s : Ty) → Contains list (o, s) → (t : Ty) × Contains pairs (o, t) × (new t ≡ s)
  source o s among =
      let from = map-Contains moved pairs (o, s) among in
      let number : from.0.0 ≡ o = ap (λ (p : ℕ × Ty). p.0) from.2 in (
        from.0.1,
        subst (λ n. Contains pairs (n, from.0.1)) number from.1,
        ap (λ (p : ℕ × Ty). p.1) from.2,
      )

  -- Each required field of an instance is an instance of a required field of the type.
  field_source : (o : ℕ) (t : Ty) (i : ℕ) (b : Ty) → Contains pairs (o, t)
      → Contains (or_none (fields_of graph (vals.Ref o) (shape decls (new t)))) (i, b)
      → (a : Ty) × Contains (or_none (fields_of graph (vals.Ref o) (shape decls t))) (i, a) × (new a ≡ b)
  field_source o t i b among need =
      let found = some_is (fields_of graph (vals.Ref o) (shape decls t)) (typing.fits o t among) in
      let became = fields_become decls well value graph (vals.Ref o) t (sound t (within o t among)) found.0 found.1 in
      let from = map-Contains moved found.0 (i, b)
      (subst (λ (ns : Option (List (ℕ × Ty))). Contains (or_none ns) (i, b)) became need) in
      let number : from.0.0 ≡ i = ap (λ (p : ℕ × Ty). p.0) from.2 in (
        from.0.1,
        subst (λ (ns : Option (List (ℕ × Ty))). Contains (or_none ns) (i, from.0.1)) (sym found.1)
            (subst (λ n. Contains found.0 (n, from.0.1)) number from.1),
        ap (λ (p : ℕ × Ty). p.1) from.2,
      )

  abbrev needs_at : ℕ → Ty → List (ℕ × Ty)
  needs_at o t = (declared_shapes decls).needs graph (vals.Ref o) t

  need_source : (o : ℕ) (t : Ty) (i : ℕ) (b : Ty) → Contains pairs (o, t) → Contains (needs_at o (new t)) (i, b)
      → (a : Ty) × Contains (needs_at o t) (i, a) × (new a ≡ b) × Contains types a
  need_source o t i b among need =
      let is = asked_is (shape decls) (or_none (fields_of graph (vals.Ref o) (shape decls (new t)))) i b need in
      let from = field_source o t i b among is.0 in
      let known = named_here decls types listed t from.0 (within o t among)
      (needs_named (shape decls t) graph (vals.Ref o) i from.0 from.1) in
      let asked = asked_back decls well value graph from.0 (sound from.0 known)
      (subst (λ c. IsTrue (is_asked (shape decls c))) (sym from.2) is.1) in
      (from.0, is_needed (shape decls) (or_none (fields_of graph (vals.Ref o) (shape decls t))) i from.0 from.1 asked, from.2, known)

  held_at : (o : ℕ) (t : Ty) (i : ℕ) (b : Ty) → Contains pairs (o, t) → Contains (needs_at o (new t)) (i, b)
      → IsSomeAnd (field_at graph o i) (λ v. IsHeld (declared_shapes decls) graph list v b)
  held_at o t i b among need =
      let from = need_source o t i b among need in
      let known = from.3 in
      subst (λ c. IsSomeAnd (field_at graph o i) (λ v. IsHeld (declared_shapes decls) graph list v c)) from.2
      (IsSomeAnd-weaker (λ v. IsHeld (declared_shapes decls) graph pairs v from.0)
      (λ v. IsHeld (declared_shapes decls) graph list v (new from.0)) (field_at graph o i)
      (λ v held. held_becomes v from.0 known held) (typing.held o t i from.0 among from.1))

  one_type_at : (o : ℕ) (t u : Ty) → Contains pairs (o, t) → Contains pairs (o, u)
      → (declared_shapes decls).mutable graph o (new t) → (declared_shapes decls).equal (new t) (new u)
  one_type_at o t u among among' mutable =
      let fits = typing.fits o t among in
      instances_equal decls well value closed types sound listed t u (within o t among) (within o u among')
      (typing.one_type o t u among among'
      (fits, subst IsTrue (mutable_becomes decls well value graph o t (sound t (within o t among)) fits) mutable.1))

  -- If the types in the pairs of a typing are replaced by their instances, the result is a typing.
  pub typing_becomes : IsTyping (declared_shapes decls) graph list
  typing_becomes = record {
    fits = λ o s among. let from = source o s among in
        subst (λ c. (declared_shapes decls).fits graph (vals.Ref o) c) from.2
        (fits_become decls well value graph (vals.Ref o) from.0 (sound from.0 (within o from.0 from.1)) (typing.fits o from.0 from.1));
    held = λ o s i b among need. let from = source o s among in
        held_at o from.0 i b from.1
        (subst (λ c. Contains (needs_at o c) (i, b)) (sym from.2) need);
    one_type = λ o s r among among' mutable.
        let from = source o s among in
        let from' = source o r among' in
        subst (λ c. (declared_shapes decls).equal s c) from'.2
        (subst (λ c. (declared_shapes decls).equal c (new from'.0)) from.2
        (one_type_at o from.0 from'.0 from.1 from'.1
        (subst (λ c. (declared_shapes decls).mutable graph o c) (sym from.2) mutable)));
  }

module _ (decls : List Decl) (t : Ty) (types : List Ty) (table : Table) (made : IsMadeFor decls t types table) (graph : List Obj)
    (value : List ℕ → Ty) (closed : AreClosed decls value) where
  abbrev sound : (u : Ty) → Contains types u → IsSoundType decls u
  sound u among = all_reached_sound decls made.well t made.sound types made.reached u among

  typed_becomes : (v : Val) → IsTyped (table_shapes table) graph v 0 → IsTyped (declared_shapes decls) graph v (instance value t)
  typed_becomes (vals.Int z) typed = tt
  typed_becomes (vals.Atom tag) typed = tt
  typed_becomes (vals.Ref o) typed =
      let by_types : List (ℕ × Ty) = all_typed decls types table made.made graph typed.0 in (
        map (λ (p : ℕ × Ty). (p.0, instance value p.1)) by_types,
        typing_becomes decls made.well value closed types sound (reached_listed decls t types made.reached) graph by_types
            (typing_too decls types table made.made graph typed.0 typed.1)
            (λ p u among. let from = typed_is decls types table made.made graph typed.0 p u among in
            slice_get-Contains types from.0 u from.2),
        Contains-map (λ (p : ℕ × Ty). (p.0, instance value p.1)) by_types (o, t)
            (typed_has decls types table made.made graph typed.0 o 0 t typed.2 (root_is_first decls t types made.reached)),
      )

  pub has_instance : (v : Val) → HasType (declared_shapes decls) graph v t → HasType (declared_shapes decls) graph v (instance value t)
  has_instance v has =
      let number = has_back decls t types table made graph v 0 t (root_is_first decls t types made.reached) has in
      record {
        fits = fits_become decls made.well value graph v t made.sound has.fits;
        typed = typed_becomes v number.typed;
      }
