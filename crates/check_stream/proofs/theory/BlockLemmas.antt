-- The requirements of a block's fields in the pass, and the required fields of the block's type.
use Rattle.std.proofs.Common.{ℕ, zero, suc, ◌≡◌, ◌∙◌, refl, List, [], ◌∷◌, length, ◌⊎◌, inl, inr, Bool, true, false, Option, Some, None, sym, ap, subst}
use Rattle.std.specs.Prelude.{slice_get, IsSome, IsSomeAnd, IsTrue, Contains, ◌==◌, ◌&&◌, if◌then◌else◌, map, replicate, option_and_then}
use Rattle.std.proofs.lemmas.Bool.{false≢true}
use Rattle.std.proofs.lemmas.Bool.Decides.{Decides-eqb}
use Rattle.std.proofs.lemmas.List.{length-replicate}
use Rattle.std.proofs.lemmas.Option.{same_Some, none-some}
use Rattle.base_data.proofs.model.Options.{Contains-none, Contains-cases}
use Rattle.base_data.specs.declared.model.value.Val.{Val}
use Rattle.base_data.specs.declared.model.value.Val.TheVariants as vals
use Rattle.base_data.specs.declared.model.value.Obj.TheVariants as objects
use Rattle.types_spec.specs.declared.types.shape.Constr.{Constr}
use Rattle.types_spec.specs.declared.types.shape.PolyTag.{PolyTag}
use Rattle.types_spec.specs.declared.types.shape.ShapeOf.{ShapeOf}
use Rattle.types_spec.specs.declared.types.shape.ShapeOf.TheVariants as shapes
use Rattle.types_spec.specs.types.Fitting.{or_none, fields_if, constr_fields, block_fields, tag_fields, argument_field, is_asked}
use Rattle.types_spec.specs.types.Table.{Table, is_asked_in}
use Rattle.check_heap.proofs.scan.ScanLemmas.{pair_at}
use Rattle.check_stream.specs.theory.AskedNeeds.{Need, of_type, hash_of, shape_at, needs_if, constr_needs, block_needs, values_in, IsWildcard, fields_ask}
use Rattle.check_stream.specs.theory.Noted.{IsAt, AreAt}
use Rattle.check_stream.proofs.theory.Kernel.{IsGood}

both_true : (a b : Bool) → IsTrue (a && b) → IsTrue a × IsTrue b
both_true true b h = (refl, h)
both_true false b h = absurd (false≢true h)

pub values_of_types : (ts : List ℕ) → values_in (map of_type ts) ≡ length ts
values_of_types [] = refl
values_of_types (t ∷ ts) = ap suc (values_of_types ts)

fields_if_needed : (test : Bool) (ts : List ℕ) (next : List Need) → needs_if test ts ≡ Some next → IsTrue test × (values_in next ≡ length ts)
fields_if_needed true ts next is = (refl, ap values_in (sym (same_Some (map of_type ts) next is)) ∙ values_of_types ts)
fields_if_needed false ts next is = absurd (none-some next is)

constr_many : (o : Option (Constr ℕ)) (size : ℕ) (next : List Need) → constr_needs size o ≡ Some next → values_in next ≡ size
constr_many None size next is = absurd (none-some next is)
constr_many (Some constr) size next is =
    let r = fields_if_needed (length constr.fields == size) constr.fields next is in
    r.1 ∙ (Decides-eqb (length constr.fields) size).0 r.0

hash_many : (test : Bool) (tags : List (PolyTag ℕ)) (size : ℕ) (next : List Need) → (IsTrue test → size ≡ 2) → (if test then Some (hash_of tags ∷ []) else None) ≡ Some next → values_in next ≡ size
hash_many true tags size next two is = ap values_in (sym (same_Some (hash_of tags ∷ []) next is)) ∙ sym (two refl)
hash_many false tags size next two is = absurd (none-some next is)

needs_many : (shape : ShapeOf ℕ) (tag size : ℕ) (next : List Need) → block_needs shape tag size ≡ Some next → values_in next ≡ size
needs_many shapes.AnyInt tag size next is = absurd (none-some next is)
needs_many (shapes.Below k) tag size next is = absurd (none-some next is)
needs_many (shapes.Bytes mutable) tag size next is = absurd (none-some next is)
needs_many shapes.Double tag size next is = absurd (none-some next is)
needs_many shapes.Int32 tag size next is = absurd (none-some next is)
needs_many shapes.Int64 tag size next is = absurd (none-some next is)
needs_many shapes.Native tag size next is = absurd (none-some next is)
needs_many (shapes.Sum constants blocks) tag size next is = constr_many (slice_get blocks tag) size next is
needs_many (shapes.Product mutable ts) tag size next is =
    let r = fields_if_needed ((tag == 0) && (length ts == size)) ts next is in
    r.1 ∙ (Decides-eqb (length ts) size).0 (both_true (tag == 0) (length ts == size) r.0).1
needs_many (shapes.FlatFloats mutable k) tag size next is = absurd (none-some next is)
needs_many (shapes.ArrayOf t) tag size next is =
    let r = fields_if_needed (tag == 0) (replicate size t) next is in
    r.1 ∙ length-replicate size t
needs_many shapes.FloatArray tag size next is = absurd (none-some next is)
needs_many (shapes.Poly tags) tag size next is =
    hash_many ((tag == 0) && (size == 2)) tags size next (λ yes'. (Decides-eqb size 2).0 (both_true (tag == 0) (size == 2) yes').1) is
needs_many shapes.Variable tag size next is = absurd (none-some next is)
needs_many shapes.ArrayOfVariable tag size next is = absurd (none-some next is)
needs_many shapes.Anything tag size next is = absurd (none-some next is)
needs_many (shapes.ArrayOfAnything t) tag size next is =
    let r = fields_if_needed (tag == 0) (replicate size t) next is in
    r.1 ∙ length-replicate size t

-- The number of requirements is the number of fields, also at a wildcard.
pub fields_many : (table : Table) (t tag size : ℕ) (next : List Need) → fields_ask table t tag size ≡ Some next → values_in next ≡ size
fields_many table t tag size next is = by (is_asked_in table t) is where
  by : (asked : Bool) → (if asked then block_needs (shape_at table t) tag size else Some (map of_type (replicate size t))) ≡ Some next → values_in next ≡ size
  by true is = needs_many (shape_at table t) tag size next is
  by false is = ap values_in (sym (same_Some (map of_type (replicate size t)) next is)) ∙ values_of_types (replicate size t) ∙ length-replicate size t

module _ (table : Table) (all : List ℕ) (noted : List (ℕ × ℕ)) where
  -- The required fields exist, and the values satisfy the requirements of the fields.
  pub record AreMet (needs : Option (List (ℕ × ℕ))) (values : List Val) : Type 0 where
    pub some : IsSome needs
    pub held : (i a : ℕ) → Contains (or_none needs) (i, a) → IsSomeAnd (slice_get values i) (λ v. IsAt table all noted v a)

  listed_held : (ts : List ℕ) (values : List Val) (i a : ℕ) → AreAt table all noted values (map of_type ts) → slice_get ts i ≡ Some a → IsSomeAnd (slice_get values i) (λ v. IsAt table all noted v a)
  listed_held [] values i a at at_i = absurd (none-some a at_i)
  listed_held (t ∷ ts) [] i a at at_i = absurd at
  listed_held (t ∷ ts) (v ∷ vs) zero a at at_i = subst (IsAt table all noted v) (same_Some t a at_i) at.0
  listed_held (t ∷ ts) (v ∷ vs) (suc i) a at at_i = listed_held ts vs i a at.1 at_i

  listed_met : (test : Bool) (ts : List ℕ) (values : List Val) (next : List Need) → needs_if test ts ≡ Some next → AreAt table all noted values next → AreMet (fields_if test ts) values
  listed_met true ts values next is at = record {
    some = refl;
    held = λ i a needed. listed_held ts values i a (subst (AreAt table all noted values) (sym (same_Some (map of_type ts) next is)) at) (pair_at ts i a needed);
  }
  listed_met false ts values next is at = absurd (none-some next is)

  constr_met : (o : Option (Constr ℕ)) (values : List Val) (next : List Need) → constr_needs (length values) o ≡ Some next → AreAt table all noted values next → AreMet (constr_fields (length values) o) values
  constr_met None values next is at = absurd (none-some next is)
  constr_met (Some constr) values next is at = listed_met (length constr.fields == length values) constr.fields values next is at

  argument_met : (v w : Val) (t : ℕ) → IsAt table all noted w t → AreMet (Some ((1, t) ∷ [])) (v ∷ w ∷ [])
  argument_met v w t at = record { some = refl; held = λ i a needed. held i a (Contains-cases (1, t) [] (i, a) needed) } where
    held : (i a : ℕ) → (◌≡◌ {A = ℕ × ℕ} (1, t) (i, a)) ⊎ Contains {X = ℕ × ℕ} [] (i, a) → IsSomeAnd (slice_get (v ∷ w ∷ []) i) (λ v. IsAt table all noted v a)
    held i a (inl is) =
        subst (λ (p : ℕ × ℕ). IsSomeAnd (slice_get (v ∷ w ∷ []) p.0) (λ v. IsAt table all noted v p.1)) is at
    held i a (inr among) = absurd (Contains-none (i, a) among)

  hash_met : (tags : List (PolyTag ℕ)) (values : List Val) → AreAt table all noted values (hash_of tags ∷ []) → AreMet (tag_fields tags values) values
  hash_met tags [] at = absurd at
  hash_met tags (v ∷ []) at = absurd at.2
  hash_met tags (v ∷ w ∷ x ∷ vs) at = absurd at.2.1
  hash_met tags (v ∷ w ∷ []) at =
      let h = at.1 in
      let same : tag_fields tags (vals.Int h.hash ∷ w ∷ []) ≡ Some ((1, at.0) ∷ []) =
      ap (option_and_then (λ (tag : PolyTag ℕ). argument_field tag.arg)) h.has_hash ∙ ap argument_field h.has_argument in
      subst (λ u. AreMet (tag_fields tags (u ∷ w ∷ [])) (u ∷ w ∷ [])) (sym h.is_hash)
      (subst (λ needs. AreMet needs (vals.Int h.hash ∷ w ∷ [])) (sym same) (argument_met (vals.Int h.hash) w at.0 at.2.0))

  poly_met : (first second : Bool) (tags : List (PolyTag ℕ)) (values : List Val) (next : List Need) → (if first && second then Some (hash_of tags ∷ []) else None) ≡ Some next → AreAt table all noted values next → AreMet (if first then tag_fields tags values else None) values
  poly_met true true tags values next is at = hash_met tags values (subst (AreAt table all noted values) (sym (same_Some (hash_of tags ∷ []) next is)) at)
  poly_met true false tags values next is at = absurd (none-some next is)
  poly_met false second tags values next is at = absurd (none-some next is)

  shape_met : (shape : ShapeOf ℕ) (tag : ℕ) (values : List Val) (next : List Need) → block_needs shape tag (length values) ≡ Some next → AreAt table all noted values next → AreMet (block_fields shape tag values) values
  shape_met shapes.AnyInt tag values next is at = absurd (none-some next is)
  shape_met (shapes.Below k) tag values next is at = absurd (none-some next is)
  shape_met (shapes.Bytes mutable) tag values next is at = absurd (none-some next is)
  shape_met shapes.Double tag values next is at = absurd (none-some next is)
  shape_met shapes.Int32 tag values next is at = absurd (none-some next is)
  shape_met shapes.Int64 tag values next is at = absurd (none-some next is)
  shape_met shapes.Native tag values next is at = absurd (none-some next is)
  shape_met (shapes.Sum constants blocks) tag values next is at = constr_met (slice_get blocks tag) values next is at
  shape_met (shapes.Product mutable ts) tag values next is at = listed_met ((tag == 0) && (length ts == length values)) ts values next is at
  shape_met (shapes.FlatFloats mutable k) tag values next is at = absurd (none-some next is)
  shape_met (shapes.ArrayOf t) tag values next is at = listed_met (tag == 0) (replicate (length values) t) values next is at
  shape_met shapes.FloatArray tag values next is at = absurd (none-some next is)
  shape_met (shapes.Poly tags) tag values next is at = poly_met (tag == 0) (length values == 2) tags values next is at
  shape_met shapes.Variable tag values next is at = absurd (none-some next is)
  shape_met shapes.ArrayOfVariable tag values next is at = absurd (none-some next is)
  shape_met shapes.Anything tag values next is at = absurd (none-some next is)
  shape_met (shapes.ArrayOfAnything t) tag values next is at = listed_met (tag == 0) (replicate (length values) t) values next is at

  -- If the fields of a block satisfy their requirements, then the block is good.
  pub block_good : (t tag : ℕ) (values : List Val) (next : List Need) → block_needs (shape_at table t) tag (length values) ≡ Some next → AreAt table all noted values next → IsGood table all noted (objects.Block tag values) t
  block_good t tag values next is at =
      let met = shape_met (shape_at table t) tag values next is at in
      record { fits = met.some; held = λ i a typed asked. met.held i a typed }

  -- A block at a wildcard is good at its type.
  wildcard_good : (t tag : ℕ) (values : List Val) → IsWildcard table t → IsGood table all noted (objects.Block tag values) t
  wildcard_good t tag values wildcard = by (shape_at table t) wildcard refl where
    by : (shape : ShapeOf ℕ) → is_asked shape ≡ false → shape_at table t ≡ shape → IsGood table all noted (objects.Block tag values) t
    by shapes.Anything wildcard is =
        let none' : block_fields (shape_at table t) tag values ≡ Some [] = ap (λ shape. block_fields shape tag values) is in
        record {
          fits = subst IsSome (sym none') refl;
          held = λ i a typed asked. absurd (Contains-none (i, a) (subst (λ fields. Contains (or_none fields) (i, a)) none' typed));
        }
    by shape wildcard is = absurd (false≢true (sym wildcard))

  -- If the fields of a block satisfy the requirements of the type, then the block is good, also if
  -- the type is a wildcard.
  pub asked_good : (t tag : ℕ) (values : List Val) (next : List Need) → fields_ask table t tag (length values) ≡ Some next → AreAt table all noted values next → IsGood table all noted (objects.Block tag values) t
  asked_good t tag values next is at = by (is_asked_in table t) refl is where
    by : (asked : Bool) → is_asked_in table t ≡ asked → (if asked then block_needs (shape_at table t) tag (length values) else Some (map of_type (replicate (length values) t))) ≡ Some next → IsGood table all noted (objects.Block tag values) t
    by true asked is = block_good t tag values next is at
    by false wildcard is = wildcard_good t tag values wildcard
