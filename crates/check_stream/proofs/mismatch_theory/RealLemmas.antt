-- Positions whose trails lead to the positions by the last step of the trail.
use Rattle.std.proofs.Common.{ℕ, zero, suc, ◌+◌, ◌≡◌, ◌∙◌, List, [], ◌∷◌, length, Bool, true, false, Some, refl, sym, subst, arith}
use Rattle.std.specs.Prelude.{slice_get, IsTrue, map, replicate, if◌then◌else◌}
use Rattle.std.proofs.lemmas.Bool.{false≢true}
use Rattle.std.proofs.lemmas.Option.{same_Some}
use Rattle.base_data.specs.declared.model.value.Val.{Val}
use Rattle.base_data.specs.declared.model.value.Val.TheVariants as vals
use Rattle.base_data.specs.declared.model.value.Obj.{Obj}
use Rattle.base_data.specs.declared.model.value.Obj.TheVariants as objects
use Rattle.types_spec.specs.declared.types.shape.PolyTag.{PolyTag}
use Rattle.types_spec.specs.types.Fitting.{block_fields, tag_fields}
use Rattle.types_spec.specs.types.Table.{Table, table_shapes, is_asked_in}
use Rattle.types_spec.specs.types.Fault.{step}
use Rattle.check_stream.specs.theory.AskedNeeds.{Need, of_type, hash_of, shape_at, block_needs, fields_ask, IsWildcard}
use Rattle.check_stream.specs.mismatch_theory.PassedBut.{MadeObject}
use Rattle.check_stream.proofs.mismatch_theory.BridgeLemmas.{IsMadeAt, IsFrom}
use Rattle.check_stream.proofs.mismatch_theory.MismatchFieldLemmas.{AreFields, numbered, tagged, fields_are, step_to_field, step_to_argument}
use Rattle.check_stream.proofs.mismatch_theory.MismatchPlacedLemmas.{IsHashOf}

module _ (table : Table) (graph : List Obj) (all : List MadeObject) (whole : Val) where
  -- The last step of the trail leads to the value `v` at type `t`.
  abbrev pub IsReal : List (ℕ × ℕ) → Val → ℕ → Type 0
  IsReal [] v t = (whole ≡ v) × (0 ≡ t)
  IsReal (link ∷ trail) v t =
      (s : ℕ) × IsMadeAt all link.0 s trail × IsTrue (is_asked_in table s)
      × (step (table_shapes table) graph (vals.Ref link.0) s link.1 ≡ Some (v, t))

  -- If the type is no wildcard, then the last step of the trail leads to the value.
  abbrev pub IsRealIf : List (ℕ × ℕ) → Val → ℕ → Type 0
  IsRealIf trail v t = IsTrue (is_asked_in table t) → IsReal trail v t

  pub real_from : (back : List ℕ) (noted missed trail : List (ℕ × ℕ)) (o t : ℕ) → IsReal trail (vals.Ref o) t → IsFrom table graph all back noted whole missed trail o t
  real_from back noted missed [] o t real = real
  real_from back noted missed (link ∷ trail) o t real = real

  module _ (p : ℕ) (trail : List (ℕ × ℕ)) where
    -- The trails of the positions from field `k` on lead to the block's values.
    abbrev pub AreReal : ℕ → List Val → List Need → Type 0
    AreReal k [] needs = Unit {0}
    AreReal k (v ∷ vs) [] = Unit {0}
    AreReal k (v ∷ vs) (of_type t ∷ needs) = IsRealIf ((p, k) ∷ trail) v t × AreReal (suc k) vs needs
    AreReal k (v ∷ vs) (hash_of tags ∷ needs) = (t : ℕ) → IsHashOf tags v t → AreReal (suc k) vs (of_type t ∷ needs)

    listed_real : (ts : List ℕ) (k : ℕ) (values : List Val) → ((i t : ℕ) (v : Val) → slice_get ts i ≡ Some t → slice_get values i ≡ Some v → IsRealIf ((p, k + i) ∷ trail) v t) → AreReal k values (map of_type ts)
    listed_real ts k [] each = tt
    listed_real [] k (v ∷ vs) each = tt
    listed_real (t ∷ ts) k (v ∷ vs) each =
        let here : k + 0 ≡ k = omega arith in (
          subst (λ n. IsRealIf ((p, n) ∷ trail) v t) here (each 0 t v refl refl),
          listed_real ts (suc k) vs (λ i u w at_u at_w.
              let same : k + suc i ≡ suc k + i = omega arith in
              subst (λ n. IsRealIf ((p, n) ∷ trail) w u) same (each (suc i) u w at_u at_w)),
        )

    wildcard_real : (n k t : ℕ) (values : List Val) → IsWildcard table t → AreReal k values (map of_type (replicate n t))
    wildcard_real n k t [] wildcard = tt
    wildcard_real zero k t (v ∷ vs) wildcard = tt
    wildcard_real (suc n) k t (v ∷ vs) wildcard = (λ asked. absurd (false≢true (sym wildcard ∙ asked)), wildcard_real n (suc k) t vs wildcard)

    tagged_real : (s tag : ℕ) (tags : List (PolyTag ℕ)) (values : List Val) → slice_get graph p ≡ Some (objects.Block tag values) → IsMadeAt all p s trail → IsTrue (is_asked_in table s) → block_fields (shape_at table s) tag values ≡ tag_fields tags values → length values ≡ 2 → AreReal 0 values (hash_of tags ∷ [])
    tagged_real s tag tags [] at made asked is two = tt
    tagged_real s tag tags (v ∷ []) at made asked is two = λ t hash. tt
    tagged_real s tag tags (v ∷ w ∷ x ∷ vs) at made asked is two = absurd (omega (arith, two))
    tagged_real s tag tags (v ∷ w ∷ []) at made asked is two = λ t hash. (
      λ asked_t.
          let at' = subst (λ u. slice_get graph p ≡ Some (objects.Block tag (u ∷ w ∷ []))) hash.is_hash at in
          let is' = subst (λ u. block_fields (shape_at table s) tag (u ∷ w ∷ []) ≡ tag_fields tags (u ∷ w ∷ [])) hash.is_hash is in
          (s, made, asked, step_to_argument table graph p s tag tags hash.hash hash.tag t w at' is' hash.has_hash hash.has_argument asked_t),
      tt,
    )

    -- If a block was created at a type, then the trails of its positions lead to its values.
    pub block_real : (s tag : ℕ) (values : List Val) (needs : List Need) → slice_get graph p ≡ Some (objects.Block tag values) → IsMadeAt all p s trail → fields_ask table s tag (length values) ≡ Some needs → AreReal 0 values needs
    block_real s tag values needs at made is = by (is_asked_in table s) refl is where
      fields : IsTrue (is_asked_in table s) → AreFields values needs (block_fields (shape_at table s) tag values) → AreReal 0 values needs
      fields asked (numbered ts asks its) =
          subst (AreReal 0 values) (sym asks) (listed_real ts 0 values (λ i t v at_t at_v asked_t.
          let same : i ≡ 0 + i = omega arith in
          subst (λ n. IsReal ((p, n) ∷ trail) v t) same (s, made, asked, step_to_field table graph p s tag values ts i t v at its at_t asked_t at_v)))
      fields asked (tagged tags asks its two) =
          subst (AreReal 0 values) (sym asks) (tagged_real s tag tags values at made asked its two)

      by : (asked : Bool) → is_asked_in table s ≡ asked → (if asked then block_needs (shape_at table s) tag (length values) else Some (map of_type (replicate (length values) s))) ≡ Some needs → AreReal 0 values needs
      by true asked is = fields asked (fields_are (shape_at table s) tag values needs is)
      by false wildcard is = subst (AreReal 0 values) (same_Some (map of_type (replicate (length values) s)) needs is) (wildcard_real (length values) 0 s values wildcard)
