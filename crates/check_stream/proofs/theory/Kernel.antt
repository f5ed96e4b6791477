-- If the tokens of a value satisfy the requirements of their positions, then the value has the
-- type.
use Rattle.std.proofs.Common.{ℕ, zero, suc, ◌+◌, ◌≡◌, ◌∙◌, refl, List, [], ◌∷◌, ◌++◌, length, Bool, true, false, ◌⊎◌, inl, inr, ⊎_elim, Option, Some, None, sym, ap, subst, arith}
use Rattle.std.specs.Prelude.{slice_get, IsSome, IsSomeAnd, IsTrue, Contains, option_and_then}
use Rattle.std.proofs.lemmas.Bool.{false≢true}
use Rattle.std.proofs.lemmas.List.Elements.{Contains-append_left, Contains-append_right, Contains-append_cases}
use Rattle.std.proofs.lemmas.Option.{same_Some, none-some, slice_get_within}
use Rattle.base_data.proofs.model.Options.{slice_get_there}
use Rattle.base_data.specs.declared.model.value.Val.{Val}
use Rattle.base_data.specs.declared.model.value.Val.TheVariants as vals
use Rattle.base_data.specs.declared.model.value.Obj.{Obj}
use Rattle.types_spec.specs.types.Fitting.{fits_int, fits_atom, object_fields, or_none, numbered_from, none_if}
use Rattle.types_spec.specs.types.LawfulShapes.{AreLawful, Everything}
use Rattle.types_spec.specs.types.Table.{Table, table_shapes, is_asked_in}
use Rattle.types_spec.specs.types.Typing.{values_of, IsHeld, IsTyping}
use Rattle.types_spec.proofs.types.TypeAskedLemmas.{need_typed}
use Rattle.check_heap.proofs.scan.ScanLemmas.{pair_at, pair_there}
use Rattle.check_stream.specs.theory.AskedNeeds.{shape_at}
use Rattle.check_stream.specs.theory.Noted.{IsAt}

module _ (table : Table) (all : List ℕ) (noted : List (ℕ × ℕ)) where
  pub record IsGood (object : Obj) (t : ℕ) : Type 0 where
    pub fits : IsSome (object_fields (shape_at table t) object)
    pub held : (i a : ℕ) → Contains (or_none (object_fields (shape_at table t) object)) (i, a) → IsTrue (is_asked_in table a) → IsSomeAnd (slice_get (values_of object) i) (λ v. IsAt table all noted v a)

  -- The objects numbered from `c` on are good, each at the object's type.
  abbrev pub AreGood : ℕ → List Obj → Type 0
  AreGood c [] = Unit {0}
  AreGood c (object ∷ objects) = ((t : ℕ) × (slice_get all c ≡ Some t) × IsGood object t) × AreGood (suc c) objects

  pub good_append : (c : ℕ) (xs ys : List Obj) → AreGood c xs → AreGood (c + length xs) ys → AreGood c (xs ++ ys)
  good_append c [] ys h k = let same : c + 0 ≡ c = omega arith in subst (λ n. AreGood n ys) same k
  good_append c (x ∷ xs) ys h k =
      let same : c + suc (length xs) ≡ suc c + length xs = omega arith in
      (h.0, good_append (suc c) xs ys h.1 (subst (λ n. AreGood n ys) same k))

  pub good_at : (c : ℕ) (xs : List Obj) (k : ℕ) (object : Obj) → AreGood c xs → slice_get xs k ≡ Some object → (t : ℕ) × (slice_get all (c + k) ≡ Some t) × IsGood object t
  good_at c [] k object h at_k = absurd (none-some object at_k)
  good_at c (x ∷ xs) zero object h at_k =
      let same : c ≡ c + 0 = omega arith in
      let is = same_Some x object at_k in
      (h.0.0, subst (λ n. slice_get all n ≡ Some h.0.0) same h.0.1, subst (λ y. IsGood y h.0.0) is h.0.2)
  good_at c (x ∷ xs) (suc k) object h at_k =
      let same : suc c + k ≡ c + suc k = omega arith in
      let r = good_at (suc c) xs k object h.1 at_k in
      (r.0, subst (λ n. slice_get all n ≡ Some r.0) same r.1, r.2)

pub some_if : (test : Bool) → IsTrue test → IsSome (none_if {T = ℕ} test)
some_if true holds = refl
some_if false holds = holds

-- The recorded second types are valid. Each object matches its second type, the required fields of
-- the object are held, and the object is mutable at neither type.
pub record AreNoted (table : Table) (graph : List Obj) (all : List ℕ) (noted : List (ℕ × ℕ)) : Type 0 where
  pub good : (o t : ℕ) → Contains noted (o, t) → (object : Obj) × (slice_get graph o ≡ Some object) × IsGood table all noted object t
  pub fixed : (o t : ℕ) → Contains noted (o, t) → (table_shapes table).mutable graph o t → ⊥
  pub first_fixed : (o t u : ℕ) → Contains noted (o, t) → slice_get all o ≡ Some u → (table_shapes table).mutable graph o u → ⊥

module _ (table : Table) (graph : List Obj) (all : List ℕ) (noted : List (ℕ × ℕ)) (long : length all ≡ length graph) (lawful : AreLawful (table_shapes table) Everything) (good : AreGood table all noted 0 graph) (are_noted : AreNoted table graph all noted) where
  first_good : (o t : ℕ) → slice_get all o ≡ Some t → (object : Obj) × (slice_get graph o ≡ Some object) × IsGood table all noted object t
  first_good o t at_o =
      let short = slice_get_within all o t at_o in
      let there = slice_get_there graph o (omega (arith, short, long)) in
      let r = good_at table all noted 0 graph o there.0 good there.1 in
      let same : 0 + o ≡ o = omega arith in
      let is : r.0 ≡ t = same_Some r.0 t (sym r.1 ∙ ap (slice_get all) same ∙ at_o) in
      (there.0, there.1, subst (IsGood table all noted there.0) is r.2)

  object_good : (o t : ℕ) → (slice_get all o ≡ Some t) ⊎ Contains noted (o, t) → (object : Obj) × (slice_get graph o ≡ Some object) × IsGood table all noted object t
  object_good o t (inl at_o) = first_good o t at_o
  object_good o t (inr among) = are_noted.good o t among

  pub object_fits : (o t : ℕ) → (slice_get all o ≡ Some t) ⊎ Contains noted (o, t) → (table_shapes table).fits graph (vals.Ref o) t
  object_fits o t known =
      let r = object_good o t known in
      subst (λ x. IsSome (option_and_then (object_fields (shape_at table t)) x)) (sym r.1) r.2.fits

  pub in_pairs : (o t : ℕ) → (slice_get all o ≡ Some t) ⊎ Contains noted (o, t) → Contains (numbered_from 0 all ++ noted) (o, t)
  in_pairs o t (inl at_o) = Contains-append_left (numbered_from 0 all) noted (o, t) (pair_there all o t at_o)
  in_pairs o t (inr among) = Contains-append_right (numbered_from 0 all) noted (o, t) among

  known_by : (o t : ℕ) → Contains (numbered_from 0 all ++ noted) (o, t) → (slice_get all o ≡ Some t) ⊎ Contains noted (o, t)
  known_by o t among = ⊎_elim (λ first. inl (pair_at all o t first)) (λ second. inr second) (Contains-append_cases (numbered_from 0 all) noted (o, t) among)

  is_held : (v : Val) (t : ℕ) → IsTrue (is_asked_in table t) → IsAt table all noted v t → IsHeld (table_shapes table) graph (numbered_from 0 all ++ noted) v t
  is_held (vals.Int z) t asked at = record { fits = some_if (fits_int (shape_at table t) z) at; listed = tt }
  is_held (vals.Atom tag) t asked at = record { fits = some_if (fits_atom (shape_at table t) tag) at; listed = tt }
  is_held (vals.Ref o) t asked (inl wildcard) = absurd (false≢true (sym wildcard ∙ asked))
  is_held (vals.Ref o) t asked (inr at) = record {
    fits = lawful.fits graph (vals.Ref o) at.0 t (inl tt) at.2 (object_fits o at.0 at.1);
    listed = (at.0, in_pairs o at.0 at.1, at.2);
  }

  IsSomeAnd-weaker : (v : Option Val) (t : ℕ) → IsTrue (is_asked_in table t) → IsSomeAnd v (λ v. IsAt table all noted v t) → IsSomeAnd v (λ v. IsHeld (table_shapes table) graph (numbered_from 0 all ++ noted) v t)
  IsSomeAnd-weaker None t asked h = h
  IsSomeAnd-weaker (Some v) t asked h = is_held v t asked h

  one_type : (o t u : ℕ) → (slice_get all o ≡ Some t) ⊎ Contains noted (o, t) → (slice_get all o ≡ Some u) ⊎ Contains noted (o, u) → (table_shapes table).mutable graph o t → (table_shapes table).equal t u
  one_type o t u (inl first) (inl second) mutable =
      let is : t ≡ u = same_Some t u (sym first ∙ second) in
      subst (λ w. (table_shapes table).equal t w) is (lawful.reflexive t tt)
  one_type o t u (inl first) (inr second) mutable = absurd (are_noted.first_fixed o u t second first mutable)
  one_type o t u (inr first) second mutable = absurd (are_noted.fixed o t first mutable)

  pub is_typing : IsTyping (table_shapes table) graph (numbered_from 0 all ++ noted)
  is_typing = record {
    fits = λ o t among. object_fits o t (known_by o t among);
    held = λ o t i a among needed.
        let r = object_good o t (known_by o t among) in
        let typed = need_typed table graph (vals.Ref o) t i a needed in
        let typed' = subst (λ x. Contains (or_none (option_and_then (object_fields (shape_at table t)) x)) (i, a)) r.1 typed.0 in
        subst (λ x. IsSomeAnd (option_and_then (λ object. slice_get (values_of object) i) x) (λ v. IsHeld (table_shapes table) graph (numbered_from 0 all ++ noted) v a)) (sym r.1)
        (IsSomeAnd-weaker (slice_get (values_of r.0) i) a typed.1 (r.2.held i a typed' typed.1));
    one_type = λ o t u first second mutable. one_type o t u (known_by o t first) (known_by o u second) mutable;
  }
