-- If each value of a block is placed, then each field that is not a wildcard is placed.
use Rattle.std.proofs.Common.{ℕ, zero, suc, ◌+◌, ◌≡◌, ◌∙◌, ⊎_elim, List, [], ◌∷◌, length, Some, refl, ap, subst, arith}
use Rattle.std.specs.Prelude.{slice_get, map, Contains, IsTrue, option_and_then, ℤ}
use Rattle.std.proofs.lemmas.Option.{same_Some, none-some}
use Rattle.base_data.proofs.model.Options.{Contains-cases, Contains-none}
use Rattle.base_data.specs.declared.model.value.Val.{Val}
use Rattle.base_data.specs.declared.model.value.Val.TheVariants as vals
use Rattle.base_data.specs.declared.model.value.Obj.{Obj}
use Rattle.types_spec.specs.declared.types.shape.PolyTag.{PolyTag}
use Rattle.types_spec.specs.declared.types.shape.ShapeOf.{ShapeOf}
use Rattle.types_spec.specs.types.Fitting.{argument_field, block_fields, or_none, tag_fields, tag_with}
use Rattle.types_spec.specs.types.Table.{Table, is_asked_in}
use Rattle.check_heap.proofs.scan.ScanLemmas.{pair_at}
use Rattle.check_stream.specs.theory.AskedNeeds.{Need, of_type, hash_of, block_needs}
use Rattle.check_stream.specs.mismatch_theory.PassedBut.{MadeObject}
use Rattle.check_stream.proofs.mismatch_theory.BridgeLemmas.{IsPlaced}
use Rattle.check_stream.proofs.mismatch_theory.MismatchFieldLemmas.{AreFields, numbered, tagged, fields_are}

-- The value is the hash of a tag whose argument has the type.
pub record IsHashOf (tags : List (PolyTag ℕ)) (v : Val) (type : ℕ) : Type 0 where
  pub hash : ℤ
  pub is_hash : v ≡ vals.Int hash
  pub tag : PolyTag ℕ
  pub has_hash : tag_with tags hash ≡ Some tag
  pub has_argument : tag.arg ≡ Some type

module _ (table : Table) (graph : List Obj) (made : List MadeObject) (back : List ℕ) (noted : List (ℕ × ℕ)) (root : Val) (missed : List (ℕ × ℕ)) where
  -- If the type is no wildcard, then the value is placed at the position.
  abbrev pub IsPlacedIf : List (ℕ × ℕ) → Val → ℕ → Type 0
  IsPlacedIf position v t = IsTrue (is_asked_in table t) → IsPlaced table graph made back noted root missed position v t

module _ (table : Table) (graph : List Obj) (made : List MadeObject) (back : List ℕ) (noted : List (ℕ × ℕ)) (root : Val) (missed : List (ℕ × ℕ)) (p : ℕ) (trail : List (ℕ × ℕ)) where
  -- Each value from field `k` on satisfies the field's requirement or is the mismatch.
  abbrev pub ArePlaced : ℕ → List Val → List Need → Type 0
  ArePlaced k [] [] = Unit {0}
  ArePlaced k [] (need ∷ needs) = ⊥
  ArePlaced k (v ∷ vs) [] = ⊥
  ArePlaced k (v ∷ vs) (of_type t ∷ needs) =
      IsPlacedIf table graph made back noted root missed ((p, k) ∷ trail) v t × ArePlaced (suc k) vs needs
  ArePlaced k (v ∷ vs) (hash_of tags ∷ needs) =
      (t : ℕ) × IsHashOf tags v t × ArePlaced (suc k) vs (of_type t ∷ needs)

  pub record IsPlacedAt (values : List Val) (i position a : ℕ) : Type 0 where
    pub value : Val
    pub at : slice_get values i ≡ Some value
    pub placed : IsPlacedIf table graph made back noted root missed ((p, position) ∷ trail) value a

  listed_placed : (ts : List ℕ) (k : ℕ) (values : List Val) (i a : ℕ) → ArePlaced k values (map of_type ts) → slice_get ts i ≡ Some a → IsPlacedAt values i (k + i) a
  listed_placed [] k values i a are at_i = absurd (none-some a at_i)
  listed_placed (t ∷ ts) k [] i a are at_i = absurd are
  listed_placed (t ∷ ts) k (v ∷ vs) zero a are at_i =
      let same : k ≡ k + zero = omega arith in
      let typed = subst (λ u. IsPlacedIf table graph made back noted root missed ((p, k) ∷ trail) v u) (same_Some t a at_i) are.0 in
      record { value = v; at = refl; placed = subst (λ n. IsPlacedIf table graph made back noted root missed ((p, n) ∷ trail) v a) same typed }
  listed_placed (t ∷ ts) k (v ∷ vs) (suc i) a are at_i =
      let same : suc k + i ≡ k + suc i = omega arith in
      let r = listed_placed ts (suc k) vs i a are.1 at_i in
      record { value = r.value; at = r.at; placed = subst (λ n. IsPlacedIf table graph made back noted root missed ((p, n) ∷ trail) r.value a) same r.placed }

  tagged_placed : (tags : List (PolyTag ℕ)) (values : List Val) (i a : ℕ) → ArePlaced 0 values (hash_of tags ∷ []) → Contains (or_none (tag_fields tags values)) (i, a) → IsPlacedAt values i i a
  tagged_placed tags [] i a are among = absurd are
  tagged_placed tags (v ∷ []) i a are among = absurd are.2
  tagged_placed tags (v ∷ w ∷ x ∷ vs) i a are among = absurd are.2.1
  tagged_placed tags (v ∷ w ∷ []) i a are among =
      let h = are.1 in
      let same : tag_fields tags (vals.Int h.hash ∷ w ∷ []) ≡ Some ((1, are.0) ∷ []) =
      ap (option_and_then (λ (tag : PolyTag ℕ). argument_field tag.arg)) h.has_hash ∙ ap argument_field h.has_argument in
      let fields : tag_fields tags (v ∷ w ∷ []) ≡ Some ((1, are.0) ∷ []) = ap (λ u. tag_fields tags (u ∷ w ∷ [])) h.is_hash ∙ same in
      let among' : Contains {X = ℕ × ℕ} ((1, are.0) ∷ []) (i, a) = subst (λ x. Contains (or_none x) (i, a)) fields among in
      ⊎_elim
      (λ is. subst (λ (f : ℕ × ℕ). IsPlacedAt (v ∷ w ∷ []) f.0 f.0 f.1) is record { value = w; at = refl; placed = are.2.0 })
      (λ none. absurd (Contains-none {X = ℕ × ℕ} (i, a) none))
      (Contains-cases {X = ℕ × ℕ} (1, are.0) [] (i, a) among')

  -- If the values of a block are placed, then each field with a type is placed.
  pub fields_placed : (shape : ShapeOf ℕ) (tag : ℕ) (values : List Val) (needs : List Need) (i a : ℕ) → block_needs shape tag (length values) ≡ Some needs → ArePlaced 0 values needs → Contains (or_none (block_fields shape tag values)) (i, a) → IsPlacedAt values i i a
  fields_placed shape tag values needs i a is are among = by (fields_are shape tag values needs is) where
    by : AreFields values needs (block_fields shape tag values) → IsPlacedAt values i i a
    by (numbered ts asks its) =
        let among' = subst (λ x. Contains (or_none x) (i, a)) its among in
        let same : 0 + i ≡ i = omega arith in
        subst (λ n. IsPlacedAt values i n a) same (listed_placed ts 0 values i a (subst (ArePlaced 0 values) asks are) (pair_at ts i a among'))
    by (tagged tags asks its two) =
        tagged_placed tags values i a (subst (ArePlaced 0 values) asks are) (subst (λ x. Contains (or_none x) (i, a)) its among)
