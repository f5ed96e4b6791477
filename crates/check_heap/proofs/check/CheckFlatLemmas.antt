-- An object whose parts have no parts has its type.
use Rattle.std.proofs.Common.{ℕ, ◌+◌, ◌<◌, ◌≤◌, ◌≡◌, ◌∙◌, ◌⊎◌, inl, inr, ⊎_elim, List, [], ◌∷◌, length, drop, Bool, true, false, Option, Some, None, refl, sym, ap, subst, arith}
use Rattle.std.specs.Prelude.{slice_get, Contains, IsSomeAnd, IsTrue, option_and_then, is_some, ◌&&◌}
use Rattle.std.proofs.lemmas.Bool.{false≢true}
use Rattle.std.proofs.lemmas.List.{drop_more}
use Rattle.std.proofs.lemmas.Option.{same_Some, slice_get_within, get_or_from_slice_get}
use Rattle.base_data.specs.declared.model.value.Val.{Val}
use Rattle.base_data.specs.declared.model.value.Val.TheVariants as vals
use Rattle.base_data.specs.declared.model.value.Obj.{Obj}
use Rattle.base_data.proofs.model.Lists.{Contains-position}
use Rattle.base_data.proofs.model.Numbers.{less_same_more}
use Rattle.base_data.proofs.model.Options.{IsSomeAnd-at, IsSomeAnd-weaker, Contains-first, Contains-later, Contains-none, Contains-cases}
use Rattle.types_spec.specs.types.Table.{Table, table_shapes, typed_fields, is_asked_in}
use Rattle.types_spec.specs.types.Typing.{field_at, IsHeld, IsTyping, HasType}
use Rattle.types_spec.proofs.types.TypeAskedLemmas.{need_typed}
use Rattle.check_heap.specs.check.FlatValues.{IsFlat, last_behind, last_of_all}

-- ---- the parts so far

-- The pairs justify the first `k` parts of an object at type 0. The object number of each pair is
-- at most `last`.
pub record ArePartly (table : Table) (graph : List Obj) (o last k : ℕ) (pairs : List (ℕ × ℕ)) : Type 0 where
  pub root : Contains pairs (o, 0)
  pub below : (p t : ℕ) → Contains pairs (p, t) → p ≤ last
  pub fits : (p t : ℕ) → Contains pairs (p, t) → (table_shapes table).fits graph (vals.Ref p) t
  pub one : (p t u : ℕ) → Contains pairs (p, t) → Contains pairs (p, u) → t ≡ u
  pub flat : (p t : ℕ) → Contains pairs (p, t) → ((p ≡ o) × (t ≡ 0)) ⊎ (typed_fields table graph (vals.Ref p) t ≡ [])
  pub held : (j i u : ℕ) → j < k → slice_get (typed_fields table graph (vals.Ref o) 0) j ≡ Some (i, u) → IsTrue (is_asked_in table u) → IsSomeAnd (field_at graph o i) (λ v. IsHeld (table_shapes table) graph pairs v u)

abbrev pub IsPartly : Table → List Obj → ℕ → ℕ → ℕ → Type 0
IsPartly table graph o last k = (pairs : List (ℕ × ℕ)) × ArePartly table graph o last k pairs

module _ (table : Table) (graph : List Obj) (o : ℕ) where
  only : (p t : ℕ) → Contains {X = ℕ × ℕ} ((o, 0) ∷ []) (p, t) → (o ≡ p) × (0 ≡ t)
  only p t among = ⊎_elim
      (λ is. (ap (λ (pair : ℕ × ℕ). pair.0) is, ap (λ (pair : ℕ × ℕ). pair.1) is))
      (λ later. absurd (Contains-none {X = ℕ × ℕ} (p, t) later))
      (Contains-cases {X = ℕ × ℕ} (o, 0) [] (p, t) among)

  pub none_yet : (table_shapes table).fits graph (vals.Ref o) 0 → IsPartly table graph o o 0
  none_yet fit = (
    (o, 0) ∷ [],
    record {
      root = Contains-first {X = ℕ × ℕ} (o, 0) [];
      below = λ p t among. let is = (only p t among).0 in omega (arith, is);
      fits = λ p t among. subst (λ (pair : ℕ × ℕ). (table_shapes table).fits graph (vals.Ref pair.0) pair.1) (pair_is (only p t among).0 (only p t among).1) fit;
      one = λ p t u first second. sym (only p t first).1 ∙ (only p u second).1;
      flat = λ p t among. inl (sym (only p t among).0, sym (only p t among).1);
      held = λ j i u less at_j asked. absurd (omega (arith, less));
    },
  ) where
    pair_is : {p t : ℕ} → o ≡ p → 0 ≡ t → ◌≡◌ {A = ℕ × ℕ} (o, 0) (p, t)
    pair_is first second = cc

  -- ---- one more part

  held_later : (pairs : List (ℕ × ℕ)) (pair : ℕ × ℕ) (v : Val) (u : ℕ) → IsHeld (table_shapes table) graph pairs v u → IsHeld (table_shapes table) graph (pair ∷ pairs) v u
  held_later pairs pair (vals.Int z) u held = record { fits = held.fits; listed = tt }
  held_later pairs pair (vals.Atom tag) u held = record { fits = held.fits; listed = tt }
  held_later pairs pair (vals.Ref p) u held = record {
    fits = held.fits;
    listed = (held.listed.0, Contains-later pair pairs (p, held.listed.0) held.listed.1, held.listed.2);
  }

  module _ (last next k i a : ℕ) (at_k : slice_get (typed_fields table graph (vals.Ref o) 0) k ≡ Some (i, a)) (more : last ≤ next) where
    one_more : (pairs : List (ℕ × ℕ)) → ArePartly table graph o last k pairs
        → (IsTrue (is_asked_in table a) → IsSomeAnd (field_at graph o i) (λ v. IsHeld (table_shapes table) graph pairs v a))
        → ArePartly table graph o next (k + 1) pairs
    one_more pairs partly here = record {
      root = partly.root;
      below = λ p t among. let less = partly.below p t among in omega (arith, less, more);
      fits = partly.fits;
      one = partly.one;
      flat = partly.flat;
      held = λ j h u less at_j asked. ⊎_elim
          (λ before. partly.held j h u before at_j asked)
          (λ others. ⊎_elim (λ same. at_last j h u same at_j asked) (λ after. absurd (omega (arith, less, after))) others)
          (less_same_more j k);
    } where
      at_last : (j h u : ℕ) → j ≡ k → slice_get (typed_fields table graph (vals.Ref o) 0) j ≡ Some (h, u) → IsTrue (is_asked_in table u) → IsSomeAnd (field_at graph o h) (λ v. IsHeld (table_shapes table) graph pairs v u)
      at_last j h u same at_j asked =
          let pair = same_Some (i, a) (h, u) (sym at_k ∙ ap (slice_get (typed_fields table graph (vals.Ref o) 0)) (sym same) ∙ at_j) in
          subst (λ (need : ℕ × ℕ). IsTrue (is_asked_in table need.1) → IsSomeAnd (field_at graph o need.0) (λ v. IsHeld (table_shapes table) graph pairs v need.1)) pair here asked

  module _ (last next k i a : ℕ) (at_k : slice_get (typed_fields table graph (vals.Ref o) 0) k ≡ Some (i, a)) (more : last ≤ next) where
    new_pair : (pairs : List (ℕ × ℕ)) (p : ℕ) → ArePartly table graph o last k pairs → last < p → p ≡ next
        → (table_shapes table).fits graph (vals.Ref p) a → typed_fields table graph (vals.Ref p) a ≡ []
        → ArePartly table graph o next k ((p, a) ∷ pairs)
    new_pair pairs p partly above is_next fit none = record {
      root = Contains-later (p, a) pairs (o, 0) partly.root;
      below = λ q t among. by q t (λ r s. r ≤ next) (omega (arith, is_next)) (λ old. let less = partly.below q t old in omega (arith, less, more)) among;
      fits = λ q t among. by q t (λ r s. (table_shapes table).fits graph (vals.Ref r) s) fit (partly.fits q t) among;
      one = one_of;
      flat = λ q t among. by q t (λ r s. ((r ≡ o) × (s ≡ 0)) ⊎ (typed_fields table graph (vals.Ref r) s ≡ [])) (inr none) (partly.flat q t) among;
      held = λ j h u less at_j asked. IsSomeAnd-weaker (λ v. IsHeld (table_shapes table) graph pairs v u) (λ v. IsHeld (table_shapes table) graph ((p, a) ∷ pairs) v u) (field_at graph o h) (λ v held. held_later pairs (p, a) v u held) (partly.held j h u less at_j asked);
    } where
      by : (q t : ℕ) (P : ℕ → ℕ → Type 0) → P p a → (Contains pairs (q, t) → P q t) → Contains ((p, a) ∷ pairs) (q, t) → P q t
      by q t P here old among = ⊎_elim
          (λ is. subst (λ (pair : ℕ × ℕ). P pair.0 pair.1) is here)
          old
          (Contains-cases {X = ℕ × ℕ} (p, a) pairs (q, t) among)

      new_one : (q t : ℕ) → Contains pairs (q, t) → q ≡ p → ⊥
      new_one q t old same = let less = partly.below q t old in omega (arith, less, above, same)

      one_of : (q t u : ℕ) → Contains ((p, a) ∷ pairs) (q, t) → Contains ((p, a) ∷ pairs) (q, u) → t ≡ u
      one_of q t u first second = ⊎_elim
          (λ is. ⊎_elim
          (λ other. sym (ap (λ (pair : ℕ × ℕ). pair.1) is) ∙ ap (λ (pair : ℕ × ℕ). pair.1) other)
          (λ old. absurd (new_one q u old (sym (ap (λ (pair : ℕ × ℕ). pair.0) is))))
          (Contains-cases {X = ℕ × ℕ} (p, a) pairs (q, u) second))
          (λ before. ⊎_elim
          (λ other. absurd (new_one q t before (sym (ap (λ (pair : ℕ × ℕ). pair.0) other))))
          (λ old. partly.one q t u before old)
          (Contains-cases {X = ℕ × ℕ} (p, a) pairs (q, u) second))
          (Contains-cases {X = ℕ × ℕ} (p, a) pairs (q, t) first)

    -- Case: the part's type is unconstrained.
    pub wildcard_part : (IsTrue (is_asked_in table a) → ⊥) → IsPartly table graph o last k → IsPartly table graph o next (k + 1)
    wildcard_part wildcard partly = (partly.0, one_more last next k i a at_k more partly.0 partly.1 (λ asked. absurd (wildcard asked)))

    pub flat_part : (v : Val) → field_at graph o i ≡ Some v → IsFlat table graph v a last next → IsPartly table graph o last k → IsPartly table graph o next (k + 1)
    flat_part (vals.Int z) there flat partly =
        (partly.0, one_more last next k i a at_k more partly.0 partly.1 (λ asked. IsSomeAnd-at (field_at graph o i) (vals.Int z) (λ v. IsHeld (table_shapes table) graph partly.0 v a) there (record { fits = flat; listed = tt })))
    flat_part (vals.Atom tag) there flat partly =
        (partly.0, one_more last next k i a at_k more partly.0 partly.1 (λ asked. IsSomeAnd-at (field_at graph o i) (vals.Atom tag) (λ v. IsHeld (table_shapes table) graph partly.0 v a) there (record { fits = flat; listed = tt })))
    flat_part (vals.Ref p) there flat partly =
        let pairs : List (ℕ × ℕ) = (p, a) ∷ partly.0 in
        let grown = new_pair partly.0 p partly.1 flat.1 flat.2 flat.0 flat.3 in
        (pairs, after pairs grown (λ asked. IsSomeAnd-at (field_at graph o i) (vals.Ref p) (λ v. IsHeld (table_shapes table) graph pairs v a) there (record { fits = flat.0; listed = (a, Contains-first {X = ℕ × ℕ} (p, a) partly.0, refl) })))
      where
        after : (pairs : List (ℕ × ℕ)) → ArePartly table graph o next k pairs
            → (IsTrue (is_asked_in table a) → IsSomeAnd (field_at graph o i) (λ v. IsHeld (table_shapes table) graph pairs v a))
            → ArePartly table graph o next (k + 1) pairs
        after pairs grown here = one_more next next k i a at_k (omega arith) pairs grown here

  pub part_more :
      (last next k i a : ℕ) → slice_get (typed_fields table graph (vals.Ref o) 0) k ≡ Some (i, a) → last ≤ next
      → (v : Val) → field_at graph o i ≡ Some v
      → (IsTrue (is_asked_in table a) → IsFlat table graph v a last next) → IsPartly table graph o last k
      → IsPartly table graph o next (k + 1)
  part_more last next k i a at_k more v there flat partly = by (is_asked_in table a) refl where
    by : (b : Bool) → is_asked_in table a ≡ b → IsPartly table graph o next (k + 1)
    by true is = flat_part last next k i a at_k more v there (flat is) partly
    by false is = wildcard_part last next k i a at_k more (λ asked. false≢true (sym is ∙ asked)) partly

  -- ---- all parts

  pub all_parts : (last k : ℕ) → IsPartly table graph o last k → length (typed_fields table graph (vals.Ref o) 0) ≤ k → (table_shapes table).fits graph (vals.Ref o) 0 → HasType (table_shapes table) graph (vals.Ref o) 0
  all_parts last k partly all fit = record {
    fits = fit;
    typed = (partly.0, typing, partly.1.root);
  } where
    held_in : (p t i u : ℕ) → Contains partly.0 (p, t) → Contains ((table_shapes table).needs graph (vals.Ref p) t) (i, u) → IsSomeAnd (field_at graph p i) (λ v. IsHeld (table_shapes table) graph partly.0 v u)
    held_in p t i u among needed =
        let typed = need_typed table graph (vals.Ref p) t i u needed in
        ⊎_elim
        (λ is. subst (λ (q : ℕ). IsSomeAnd (field_at graph q i) (λ v. IsHeld (table_shapes table) graph partly.0 v u)) (sym is.0)
        (let there = subst (λ (pair : ℕ × ℕ). Contains (typed_fields table graph (vals.Ref pair.0) pair.1) (i, u)) (the_root p t is.0 is.1) typed.0 in
        let position = Contains-position (typed_fields table graph (vals.Ref o) 0) (i, u) there in
        let inside = slice_get_within (typed_fields table graph (vals.Ref o) 0) position.0 (i, u) position.1 in
        partly.1.held position.0 i u (omega (arith, inside, all)) position.1 typed.1))
        (λ none. absurd (Contains-none {X = ℕ × ℕ} (i, u) (subst (λ (fields : List (ℕ × ℕ)). Contains fields (i, u)) none typed.0)))
        (partly.1.flat p t among) where
          the_root : (p t : ℕ) → p ≡ o → t ≡ 0 → ◌≡◌ {A = ℕ × ℕ} (p, t) (o, 0)
          the_root p t first second = cc

    typing : IsTyping (table_shapes table) graph partly.0
    typing = record {
      fits = partly.1.fits;
      held = held_in;
      one_type = λ p t u first second mutable. ap (slice_get table.classes) (partly.1.one p t u first second);
    }

-- ---- the last object after all parts

module _ (table : Table) (graph : List Obj) (o : ℕ) (parts : List (ℕ × ℕ)) (k i a : ℕ) (at_k : slice_get parts k ≡ Some (i, a)) (v : Val) (field : field_at graph o i ≡ Some v) (last : ℕ) where
  left : drop k parts ≡ (i, a) ∷ drop (k + 1) parts
  left = drop_more parts k (i, a) (slice_get_within parts k (i, a) at_k) ∙ ap (λ part. part ∷ drop (k + 1) parts) (get_or_from_slice_get parts k (i, a) (i, a) at_k)

  step : (one : Option ℕ) → one ≡ last_behind table graph a last v → last_of_all table graph o (drop k parts) last ≡ option_and_then (λ (next : ℕ). last_of_all table graph o (drop (k + 1) parts) next) one
  step one is =
      ap (λ (rest : List (ℕ × ℕ)). last_of_all table graph o rest last) left
      ∙ ap (λ (found : Option Val). option_and_then (λ (next : ℕ). last_of_all table graph o (drop (k + 1) parts) next) (option_and_then (last_behind table graph a last) found)) field
      ∙ ap (option_and_then (λ (next : ℕ). last_of_all table graph o (drop (k + 1) parts) next)) (sym is)

  module _ (all : Option ℕ) (here : last_of_all table graph o (drop k parts) last ≡ all) where
    pub last_more : (next : ℕ) → Some next ≡ last_behind table graph a last v → last_of_all table graph o (drop (k + 1) parts) next ≡ all
    last_more next is = sym (step (Some next) is) ∙ here

    none_is : None ≡ last_behind table graph a last v → None ≡ all
    none_is is = sym (step None is) ∙ here

    pub not_flat : (few : Bool) → None ≡ last_behind table graph a last v → false ≡ (few && is_some all)
    not_flat few is = by few ∙ ap (λ (found : Option ℕ). few && is_some found) (none_is is) where
      by : (b : Bool) → false ≡ (b && false)
      by true = refl
      by false = refl
