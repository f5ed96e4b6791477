-- If a token certainly does not match a type, then the encoded value does not match the type.
use Rattle.std.proofs.Common.{ℕ, ◌≡◌, ◌∙◌, List, [], ◌∷◌, length, Bool, true, false, Option, Some, None, refl, sym, subst}
use Rattle.std.specs.Prelude.{ℤ, slice_get, IsSome, IsTrue, ◌==◌, ◌&&◌, if◌then◌else◌, map, replicate, option_and_then}
use Rattle.std.proofs.lemmas.Bool.{false≢true}
use Rattle.std.proofs.lemmas.Option.{none-some}
use Rattle.base_data.specs.declared.model.value.Val.{Val}
use Rattle.base_data.specs.declared.model.value.Val.TheVariants as vals
use Rattle.base_data.specs.declared.model.value.Obj.{Obj}
use Rattle.types_spec.specs.declared.types.shape.Constr.{Constr}
use Rattle.types_spec.specs.declared.types.shape.PolyTag.{PolyTag}
use Rattle.types_spec.specs.declared.types.shape.ShapeOf.{ShapeOf}
use Rattle.types_spec.specs.declared.types.shape.ShapeOf.TheVariants as shapes
use Rattle.types_spec.specs.types.Fitting.{none_if, fits_int, fits_atom, object_fields, fields_if, constr_fields, block_fields, tag_fields, is_asked}
use Rattle.types_spec.specs.types.Table.{Table, table_shapes, is_asked_in}
use Rattle.marshal_spec.specs.format.Token.{Token, integer, atom, shared, block, leaf}
use Rattle.check_heap.proofs.scan.ScanPathLemmas.{any_object}
use Rattle.check_stream.specs.theory.AskedNeeds.{of_type, hash_of, shape_at, needs_if, constr_needs, block_needs, shape_asks, fields_ask}
use Rattle.check_stream.specs.mismatch_theory.PassedBut.{Misses}
use Rattle.check_stream.specs.mismatch_theory.MissedLaw.{IsEncodedBy}

not_some_if : (test : Bool) → test ≡ false → IsSome (none_if {T = ℕ} test) → ⊥
not_some_if true is some = false≢true (sym is)
not_some_if false is some = false≢true some

listed_missed : (test : Bool) (ts : List ℕ) → needs_if test ts ≡ None → IsSome (fields_if test ts) → ⊥
listed_missed true ts is some = none-some (map of_type ts) (sym is)
listed_missed false ts is some = false≢true some

constr_missed : (o : Option (Constr ℕ)) (size : ℕ) → constr_needs size o ≡ None → IsSome (constr_fields size o) → ⊥
constr_missed None size is some = false≢true some
constr_missed (Some constr) size is some = listed_missed (length constr.fields == size) constr.fields is some

tags_missed : (tags : List (PolyTag ℕ)) (values : List Val) → (length values == 2) ≡ false → IsSome (tag_fields tags values) → ⊥
tags_missed tags [] two some = false≢true some
tags_missed tags (vals.Int z ∷ []) two some = false≢true some
tags_missed tags (vals.Atom tag ∷ []) two some = false≢true some
tags_missed tags (vals.Ref o ∷ []) two some = false≢true some
tags_missed tags (v ∷ w ∷ []) two some = false≢true (sym two)
tags_missed tags (vals.Int z ∷ w ∷ x ∷ vs) two some = false≢true some
tags_missed tags (vals.Atom tag ∷ w ∷ x ∷ vs) two some = false≢true some
tags_missed tags (vals.Ref o ∷ w ∷ x ∷ vs) two some = false≢true some

poly_missed : (first second : Bool) (tags : List (PolyTag ℕ)) (values : List Val) → (length values == 2) ≡ second → (if first && second then Some (hash_of tags ∷ []) else None) ≡ None → IsSome (if first then tag_fields tags values else None) → ⊥
poly_missed true true tags values two is some = none-some (hash_of tags ∷ []) (sym is)
poly_missed true false tags values two is some = tags_missed tags values two some
poly_missed false second tags values two is some = false≢true some

shape_missed : (shape : ShapeOf ℕ) (tag : ℕ) (values : List Val) → IsTrue (is_asked shape) → block_needs shape tag (length values) ≡ None → IsSome (block_fields shape tag values) → ⊥
shape_missed shapes.AnyInt tag values asked is some = false≢true some
shape_missed (shapes.Below k) tag values asked is some = false≢true some
shape_missed (shapes.Bytes mutable) tag values asked is some = false≢true some
shape_missed shapes.Double tag values asked is some = false≢true some
shape_missed shapes.Int32 tag values asked is some = false≢true some
shape_missed shapes.Int64 tag values asked is some = false≢true some
shape_missed shapes.Native tag values asked is some = false≢true some
shape_missed (shapes.Sum constants blocks) tag values asked is some = constr_missed (slice_get blocks tag) (length values) is some
shape_missed (shapes.Product mutable ts) tag values asked is some = listed_missed ((tag == 0) && (length ts == length values)) ts is some
shape_missed (shapes.FlatFloats mutable k) tag values asked is some = false≢true some
shape_missed (shapes.ArrayOf t) tag values asked is some = listed_missed (tag == 0) (replicate (length values) t) is some
shape_missed shapes.FloatArray tag values asked is some = false≢true some
shape_missed (shapes.Poly tags) tag values asked is some = poly_missed (tag == 0) (length values == 2) tags values refl is some
shape_missed shapes.Variable tag values asked is some = false≢true some
shape_missed shapes.ArrayOfVariable tag values asked is some = false≢true some
shape_missed shapes.Anything tag values asked is some = false≢true asked
shape_missed (shapes.ArrayOfAnything t) tag values asked is some = listed_missed (tag == 0) (replicate (length values) t) is some

block_missed : (table : Table) (t tag : ℕ) (values : List Val) → fields_ask table t tag (length values) ≡ None → IsSome (block_fields (shape_at table t) tag values) → ⊥
block_missed table t tag values is some = by (is_asked_in table t) refl is where
  by : (asked : Bool) → is_asked_in table t ≡ asked → (if asked then block_needs (shape_at table t) tag (length values) else Some (map of_type (replicate (length values) t))) ≡ None → ⊥
  by true asked is = shape_missed (shape_at table t) tag values asked is some
  by false asked is = none-some (map of_type (replicate (length values) t)) (sym is)

-- If the token of a value certainly does not match a type, then the value does not match the type.
pub misses_do_not_fit : (table : Table) (graph : List Obj) (w : Val) (t : ℕ) (token : Token) → Misses table t token → IsEncodedBy graph w token → (table_shapes table).fits graph w t → ⊥
misses_do_not_fit table graph w t (integer z) misses is fits =
    not_some_if (fits_int (shape_at table t) z) misses (subst (λ v. (table_shapes table).fits graph v t) is fits)
misses_do_not_fit table graph w t (atom tag) misses is fits =
    not_some_if (fits_atom (shape_at table t) tag) misses (subst (λ v. (table_shapes table).fits graph v t) is fits)
misses_do_not_fit table graph w t (shared offset) misses is fits = misses
misses_do_not_fit table graph w t (block tag size) misses (o, values, is, at, long) fits =
    let there = subst (λ v. (table_shapes table).fits graph v t) is fits in
    let some = subst (λ x. IsSome (option_and_then (object_fields (shape_at table t)) x)) at there in
    block_missed table t tag values (subst (λ n. fields_ask table t tag n ≡ None) (sym long) misses) some
misses_do_not_fit table graph w t (leaf object) misses (o, is, at) fits =
    let there = subst (λ v. (table_shapes table).fits graph v t) is fits in
    let some = subst (λ x. IsSome (option_and_then (object_fields (shape_at table t)) x)) at there in
    false≢true (subst IsSome misses some)

-- ---- no token mismatches a wildcard

accepts_int : (shape : ShapeOf ℕ) (z : ℤ) → is_asked shape ≡ false → fits_int shape z ≡ false → ⊥
accepts_int shapes.Anything z wildcard is = false≢true (sym is)
accepts_int shape z wildcard is = false≢true (sym wildcard)

accepts_atom : (shape : ShapeOf ℕ) (tag : ℕ) → is_asked shape ≡ false → fits_atom shape tag ≡ false → ⊥
accepts_atom shapes.Anything tag wildcard is = false≢true (sym is)
accepts_atom shape tag wildcard is = false≢true (sym wildcard)

accepts_block : (shape : ShapeOf ℕ) (t tag size : ℕ) → is_asked shape ≡ false → shape_asks shape t tag size ≡ None → ⊥
accepts_block shapes.Anything t tag size wildcard is = none-some (map of_type (replicate size t)) (sym is)
accepts_block shape t tag size wildcard is = false≢true (sym wildcard)

accepts_leaf : (shape : ShapeOf ℕ) (object : Obj) → is_asked shape ≡ false → object_fields shape object ≡ None → ⊥
accepts_leaf shapes.Anything object wildcard is = none-some [] (sym is ∙ any_object object)
accepts_leaf shape object wildcard is = false≢true (sym wildcard)

-- If a token mismatches a type, then the type is no wildcard.
pub missed_is_asked : (table : Table) (t : ℕ) (token : Token) → Misses table t token → IsTrue (is_asked_in table t)
missed_is_asked table t token misses = by (is_asked_in table t) refl where
  never : (token : Token) → Misses table t token → is_asked_in table t ≡ false → ⊥
  never (integer z) misses wildcard = accepts_int (shape_at table t) z wildcard misses
  never (atom tag) misses wildcard = accepts_atom (shape_at table t) tag wildcard misses
  never (shared offset) misses wildcard = misses
  never (block tag size) misses wildcard = accepts_block (shape_at table t) t tag size wildcard misses
  never (leaf object) misses wildcard = accepts_leaf (shape_at table t) object wildcard misses

  by : (asked : Bool) → is_asked_in table t ≡ asked → IsTrue (is_asked_in table t)
  by true is = is
  by false wildcard = absurd (never token misses wildcard)
