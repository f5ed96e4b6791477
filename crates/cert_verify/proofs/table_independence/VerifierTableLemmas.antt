-- Tables of one list of types give the same answers to a certificate entry.
use Rattle.std.proofs.Common.{ℕ, ◌≡◌, ◌∙◌, ◌<◌, ◌≤◌, ◌⊎◌, inl, inr, List, [], ◌∷◌, length, Some, None, sym, ap, subst, arith}
use Rattle.std.specs.Prelude.{slice_get, Contains, IsSomeAnd}
use Rattle.std.specs.List.{flat_map}
use Rattle.std.proofs.lemmas.List.{length-map}
use Rattle.std.proofs.lemmas.Option.{none-some, slice_get_within, slice_get_past}
use Rattle.base_data.proofs.model.Options.{none_or_some, IsSomeAnd-weaker, Contains-none, slice_get_there}
use Rattle.base_data.specs.declared.model.value.Val.{Val}
use Rattle.base_data.specs.declared.model.value.Val.TheVariants as vals
use Rattle.base_data.specs.declared.model.value.Obj.{Obj}
use Rattle.types_spec.specs.declared.types.decl.Decl.{Decl}
use Rattle.types_spec.specs.declared.types.fault.Fault.{Fault}
use Rattle.types_spec.specs.declared.types.fault.Fault.TheVariants as faults
use Rattle.types_spec.specs.types.Ty.{Ty}
use Rattle.types_spec.specs.types.Fault.{IsFault}
use Rattle.types_spec.specs.types.Reached.{IsWithoutRepeats, reached_from, IsReached}
use Rattle.types_spec.specs.types.Shape.{shape}
use Rattle.types_spec.specs.types.Table.{Table, with_parts, table_shapes, IsTableOf}
use Rattle.types_spec.specs.types.Typing.{field_at, IsListed, IsHeld, IsTyping}
use Rattle.types_theory.proofs.equality.EqualityTableLemmas.{fits, fits_back, fit_known, need_known, need_forth, need_back, mutable, mutable_back, fault_forth, fault_back}
use Rattle.cert_format.specs.declared.section.Section.{Section}
use Rattle.cert_format.specs.declared.section.Section.TheVariants as sections
use Rattle.cert_verify.specs.declared.certificate.verified.Why.{Why}
use Rattle.cert_verify.specs.declared.certificate.verified.Why.TheVariants.{Range, Unfit, Need, TwoTypes, Root, NotFault}
use Rattle.cert_verify.specs.declared.certificate.verified.Verified.{Verified}
use Rattle.cert_verify.specs.certificate.AcceptedEntry.{IsAccepted}
use Rattle.cert_verify.specs.certificate.Verified.{IsThere, LacksNeed, IsAtTwoTypes, IsWrong, IsWhy, IsVerified}
use Rattle.cert_verify.proofs.certificate.VerifiedLemmas.{one_answer}
use Rattle.cert_verify.specs.table_independence.ReachedTypes.{IsAnswerAt}
use Rattle.cert_verify.proofs.table_independence.OneListLemmas.{one_position, one_list}

-- The list of the types that a type reaches begins with the type itself.
pub first_is :
    (decls : List Decl) (t : Ty) (types : List Ty) → IsReached decls t types
    → slice_get types 0 ≡ Some t
first_is decls t types reached = by reached.in_order where
  by : IsWithoutRepeats [] (t ∷ flat_map (reached_from decls) types) types
      → slice_get types 0 ≡ Some t
  by (inl (again, h)) = absurd (Contains-none t again)
  by (inr (new, rest, is, h)) = ap (λ l. slice_get l 0) is

-- ---- from one table to another

module _ (decls : List Decl) (types : List Ty) (table other : Table)
    (made : IsTableOf decls types table) (again : IsTableOf decls types other)
    (apart : (i j : ℕ) (u : Ty) → slice_get types i ≡ Some u → slice_get types j ≡ Some u → i ≡ j)
    (graph : List Obj) where
  fits_too :
      (v : Val) (i : ℕ) → (table_shapes table).fits graph v i → (table_shapes other).fits graph v i
  fits_too v i is =
      let u = fit_known decls types table made graph v i is in
      fits_back decls types other again graph v i u.0 u.1
      (fits decls types table made graph v i u.0 u.1 is)

  needs_too :
      (v : Val) (i : ℕ) (need : ℕ × ℕ) → Contains ((table_shapes table).needs graph v i) need
      → Contains ((table_shapes other).needs graph v i) need
  needs_too v i need among =
      let u = need_known decls types table made graph v i need.0 need.1 among in
      let forth = need_forth decls types table made graph v i u.0 need.0 need.1 u.1 among in
      let back = need_back decls types other again graph v i u.0 need.0 forth.0 u.1 forth.1 in
      let same = apart back.0 need.1 forth.0 back.2 forth.2 in
      subst (λ j. Contains ((table_shapes other).needs graph v i) (need.0, j)) same back.1

  mutable_too :
      (o i : ℕ) → (table_shapes table).mutable graph o i → (table_shapes other).mutable graph o i
  mutable_too o i is =
      let u = fit_known decls types table made graph (vals.Ref o) i is.0 in
      mutable_back decls types other again graph o i u.0 u.1
      (mutable decls types table made graph o i u.0 u.1 is)

  -- If a number has no type, then it has no class.
  no_class :
      (classes : List ℕ) → length classes ≡ length types → (i : ℕ) → slice_get types i ≡ None
      → slice_get classes i ≡ None
  no_class classes many i none =
      slice_get_past classes i (at_most (not_less i none)) where
        not_less : (i : ℕ) → slice_get types i ≡ None → i < length types → ⊥
        not_less i none less =
            let u = slice_get_there types i less in none-some u.0 (sym none ∙ u.1)

        at_most : (i < length types → ⊥) → length classes ≤ i
        at_most not = omega (arith, many, not)

  some_class :
      (classes : List ℕ) → length classes ≡ length types → (i : ℕ) (u : Ty)
      → slice_get types i ≡ Some u → (c : ℕ) × (slice_get classes i ≡ Some c)
  some_class classes many i u of =
      let within = slice_get_within types i u of in
      slice_get_there classes i (omega (arith, within, many))

  pub equal_too : (i j : ℕ) → (table_shapes table).equal i j → (table_shapes other).equal i j
  equal_too i j same = by (none_or_some (slice_get types i)) (none_or_some (slice_get types j)) where
    Found : ℕ → Type 0
    Found k = (slice_get types k ≡ None) ⊎ ((u : Ty) × (slice_get types k ≡ Some u))

    by : Found i → Found j → (table_shapes other).equal i j
    by (inl none) (inl none') =
        no_class other.classes again.many i none
        ∙ sym (no_class other.classes again.many j none')
    by (inl none) (inr (u, of)) =
        let c = some_class table.classes made.many j u of in
        absurd (none-some c.0 (sym (no_class table.classes made.many i none) ∙ (same ∙ c.1)))
    by (inr (u, of)) (inl none) =
        let c = some_class table.classes made.many i u of in
        absurd (none-some c.0 (sym (no_class table.classes made.many j none) ∙ (sym same ∙ c.1)))
    by (inr (u, of)) (inr (w, of')) =
        again.equal_types i j u w of of' (made.same_class i j u w of of' same)

  pub sizes_too : length table.nodes ≡ length other.nodes
  sizes_too = size table made ∙ sym (size other again) where
    size : (table : Table) → IsTableOf decls types table → length table.nodes ≡ length types
    size table made =
        sym (length-map table.nodes (with_parts (slice_get types)))
        ∙ (ap length made.nodes
        ∙ length-map types (λ t. with_parts Some (shape decls t)))

  -- ---- held values

  listed_too :
      (pairs : List (ℕ × ℕ)) (v : Val) (t : ℕ) → IsListed (table_shapes table) pairs v t
      → IsListed (table_shapes other) pairs v t
  listed_too pairs (vals.Int z) t h = tt
  listed_too pairs (vals.Atom tag) t h = tt
  listed_too pairs (vals.Ref o) t (u, among, same) = (u, among, equal_too u t same)

  pub held_too :
      (pairs : List (ℕ × ℕ)) (v : Val) (t : ℕ) → IsHeld (table_shapes table) graph pairs v t
      → IsHeld (table_shapes other) graph pairs v t
  held_too pairs v t h =
      record { fits = fits_too v t h.fits; listed = listed_too pairs v t h.listed }

  pub fault_too :
      (t : Ty) → slice_get types 0 ≡ Some t → (root : Val) (fault : Fault)
      → IsFault (table_shapes table) graph root 0 fault
      → IsFault (table_shapes other) graph root 0 fault
  fault_too t of root fault is =
      fault_back decls types other again graph root 0 t of fault
      (fault_forth decls types table made graph root 0 t of fault is)

-- ---- both directions

module _ (decls : List Decl) (types : List Ty)
    (apart : (i j : ℕ) (u : Ty) → slice_get types i ≡ Some u → slice_get types j ≡ Some u → i ≡ j)
    (graph : List Obj) (t : Ty) (first : slice_get types 0 ≡ Some t) (root : Val) where
  module _ (table other : Table) (made : IsTableOf decls types table)
      (again : IsTableOf decls types other) where
    typing_too :
        (pairs : List (ℕ × ℕ)) → IsTyping (table_shapes table) graph pairs
        → IsTyping (table_shapes other) graph pairs
    typing_too pairs h = record {
      fits = λ o t among.
          fits_too decls types table other made again apart graph (vals.Ref o) t (h.fits o t among);
      held = λ o t i u among need.
          IsSomeAnd-weaker (λ v. IsHeld (table_shapes table) graph pairs v u)
          (λ v. IsHeld (table_shapes other) graph pairs v u) (field_at graph o i)
          (λ v held. held_too decls types table other made again apart graph pairs v u held)
          (h.held o t i u among
          (needs_too decls types other table again made apart graph (vals.Ref o) t (i, u) need));
      one_type = λ o t u among among' may.
          equal_too decls types table other made again apart graph t u
          (h.one_type o t u among among'
          (mutable_too decls types other table again made apart graph o t may));
    }

    accepted_too :
        (section : Section) → IsAccepted table graph root section
        → IsAccepted other graph root section
    accepted_too (sections.Pairs pairs) h = record {
      typing = typing_too pairs h.typing;
      held = held_too decls types table other made again apart graph pairs root 0 h.held;
    }
    accepted_too (sections.Mismatch path) h =
        fault_too decls types table other made again apart graph t first root (faults.Mismatch path) h
    accepted_too (sections.Conflict one two) h =
        fault_too decls types table other made again apart graph t first root (faults.Conflict one two) h

    -- ---- faults

    there_back : (pair : ℕ × ℕ) → IsThere other graph pair → IsThere table graph pair
    there_back pair (one, two) =
        let same = sizes_too decls types table other made again apart graph in
        (one, omega (arith, two, same))

    lacks_too :
        (pairs : List (ℕ × ℕ)) (pair : ℕ × ℕ) (field : ℕ)
        → LacksNeed table graph pairs pair field → LacksNeed other graph pairs pair field
    lacks_too pairs pair field h = record {
      type = h.type;
      needed = needs_too decls types table other made again apart graph (vals.Ref pair.0) pair.1
          (field, h.type) h.needed;
      lacks = λ held. h.lacks (IsSomeAnd-weaker
          (λ v. IsHeld (table_shapes other) graph pairs v h.type)
          (λ v. IsHeld (table_shapes table) graph pairs v h.type) (field_at graph pair.0 field)
          (λ v held. held_too decls types other table again made apart graph pairs v h.type held)
          held);
    }

    two_types_too :
        (pairs : List (ℕ × ℕ)) (pair : ℕ × ℕ) → IsAtTwoTypes table graph pairs pair
        → IsAtTwoTypes other graph pairs pair
    two_types_too pairs pair h = record {
      mutable = mutable_too decls types table other made again apart graph pair.0 pair.1 h.mutable;
      other = h.other;
      among = h.among;
      unequal = λ same. h.unequal
          (equal_too decls types other table again made apart graph pair.1 h.other same);
    }

    wrong_too :
        (pairs : List (ℕ × ℕ)) (why : Why) → IsWrong table graph root pairs why
        → IsWrong other graph root pairs why
    wrong_too pairs (Range i) h =
        IsSomeAnd-weaker (λ pair. ¬ IsThere table graph pair)
        (λ pair. ¬ IsThere other graph pair) (slice_get pairs i)
        (λ pair not there. not (there_back pair there)) h
    wrong_too pairs (Unfit i) h =
        IsSomeAnd-weaker
        (λ (pair : ℕ × ℕ). ¬ (table_shapes table).fits graph (vals.Ref pair.0) pair.1)
        (λ (pair : ℕ × ℕ). ¬ (table_shapes other).fits graph (vals.Ref pair.0) pair.1)
        (slice_get pairs i) (λ pair not fits. not
        (fits_too decls types other table again made apart graph (vals.Ref pair.0) pair.1 fits)) h
    wrong_too pairs (Need i field) h =
        IsSomeAnd-weaker (λ pair. LacksNeed table graph pairs pair field)
        (λ pair. LacksNeed other graph pairs pair field) (slice_get pairs i)
        (λ pair. lacks_too pairs pair field) h
    wrong_too pairs (TwoTypes i) h =
        IsSomeAnd-weaker (λ pair. IsAtTwoTypes table graph pairs pair)
        (λ pair. IsAtTwoTypes other graph pairs pair) (slice_get pairs i)
        (λ pair. two_types_too pairs pair) h
    wrong_too pairs Root h = λ held.
        h (held_too decls types other table again made apart graph pairs root 0 held)
    wrong_too pairs NotFault h = absurd h

    why_too :
        (section : Section) (why : Why) → IsWhy table graph root section why
        → IsWhy other graph root section why
    why_too (sections.Pairs pairs) why h = wrong_too pairs why h
    why_too (sections.Mismatch path) why (is, not) = (
      is,
      λ fault. not (fault_too decls types other table again made apart graph t first root
          (faults.Mismatch path) fault),
    )
    why_too (sections.Conflict one two) why (is, not) = (
      is,
      λ fault. not (fault_too decls types other table again made apart graph t first root
          (faults.Conflict one two) fault),
    )

  pub verified_too :
      (table other : Table) (made : IsTableOf decls types table)
      (again : IsTableOf decls types other) (section : Section) (answer : Verified)
      → IsVerified table graph root section answer → IsVerified other graph root section answer
  verified_too table other made again section answer (inl (accepted, is)) =
      inl (accepted_too table other made again section accepted, is)
  verified_too table other made again section answer (inr (why, f, is)) = inr (
    why,
    record {
      is = why_too table other made again section why f.is;
      first = λ else is_too. f.first else (why_too other table again made section else is_too);
    },
    is,
  )

-- A certificate entry has at most one answer.
pub answers_same :
    (decls : List Decl) (t : Ty) (graph : List Obj) (root : Val) (section : Section)
    (one other : Verified) → IsAnswerAt decls t graph root section one
    → IsAnswerAt decls t graph root section other → one ≡ other
answers_same decls t graph root section one other is its =
    let same = one_list decls t its.types is.types its.reached is.reached in
    let made : IsTableOf decls is.types its.table =
    subst (λ types. IsTableOf decls types its.table) same its.made in
    one_answer its.table graph root section one other
    (verified_too decls is.types (one_position decls t is.types is.reached) graph t
    (first_is decls t is.types is.reached) root is.table its.table is.made made section one
    is.verified)
    its.verified
