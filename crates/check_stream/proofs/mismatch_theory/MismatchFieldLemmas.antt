-- The fields of a block at its type, given by the requirements of the fields, and the step to a
-- field.
use Rattle.std.proofs.Common.{ℕ, ◌≡◌, ◌∙◌, ⊎_elim, List, [], ◌∷◌, length, Bool, true, false, Option, Some, None, refl, sym, ap, subst}
use Rattle.std.specs.Prelude.{slice_get, IsTrue, ◌==◌, ◌&&◌, if◌then◌else◌, map, replicate, option_and_then, option_map, Contains, ℤ}
use Rattle.std.proofs.lemmas.Bool.Decides.{Decides-eqb}
use Rattle.std.proofs.lemmas.Option.{same_Some, none-some}
use Rattle.base_data.proofs.model.Options.{Contains-first, Contains-cases, Contains-none}
use Rattle.base_data.specs.declared.model.value.Val.{Val}
use Rattle.base_data.specs.declared.model.value.Val.TheVariants as vals
use Rattle.base_data.specs.declared.model.value.Obj.{Obj}
use Rattle.base_data.specs.declared.model.value.Obj.TheVariants as objects
use Rattle.types_spec.specs.declared.types.shape.Constr.{Constr}
use Rattle.types_spec.specs.declared.types.shape.PolyTag.{PolyTag}
use Rattle.types_spec.specs.declared.types.shape.ShapeOf.{ShapeOf}
use Rattle.types_spec.specs.declared.types.shape.ShapeOf.TheVariants as shapes
use Rattle.types_spec.specs.types.Fault.{type_of_field, step}
use Rattle.types_spec.specs.types.Fitting.{object_fields, fields_if, constr_fields, block_fields, tag_fields, argument_field, tag_with, numbered_from, or_none, asked_of}
use Rattle.types_spec.specs.types.Table.{Table, table_shapes, is_asked_in}
use Rattle.types_spec.specs.types.Typing.{values_of, field_at}
use Rattle.types_spec.proofs.types.TypeAskedLemmas.{AreOnce, asked_is, is_needed}
use Rattle.types_spec.proofs.types.TypeFaultLemmas.{named_is_needed}
use Rattle.types_theory.proofs.typing.TypingNeedLemmas.{needed_is_named}
use Rattle.check_heap.proofs.scan.ScanLemmas.{pair_at, pair_there}
use Rattle.check_stream.specs.theory.AskedNeeds.{Need, of_type, hash_of, shape_at, needs_if, constr_needs, block_needs}

-- ---- the fields

-- The requirements are the types of the fields in order, or the hash of a tag with an argument.
pub data AreFields (values : List Val) (needs : List Need) (fields : Option (List (ℕ × ℕ))) : Type 0 where
  numbered : (ts : List ℕ) → needs ≡ map of_type ts → fields ≡ Some (numbered_from 0 ts) → AreFields values needs fields
  tagged : (tags : List (PolyTag ℕ)) → needs ≡ hash_of tags ∷ [] → fields ≡ tag_fields tags values → length values ≡ 2 → AreFields values needs fields

listed_are : (test : Bool) (ts : List ℕ) (values : List Val) (needs : List Need) → needs_if test ts ≡ Some needs → AreFields values needs (fields_if test ts)
listed_are true ts values needs is = numbered ts (sym (same_Some (map of_type ts) needs is)) refl
listed_are false ts values needs is = absurd (none-some needs is)

constr_are : (o : Option (Constr ℕ)) (values : List Val) (needs : List Need) → constr_needs (length values) o ≡ Some needs → AreFields values needs (constr_fields (length values) o)
constr_are None values needs is = absurd (none-some needs is)
constr_are (Some constr) values needs is = listed_are (length constr.fields == length values) constr.fields values needs is

poly_are : (first second : Bool) (tags : List (PolyTag ℕ)) (values : List Val) (needs : List Need) → (length values == 2) ≡ second → (if first && second then Some (hash_of tags ∷ []) else None) ≡ Some needs → AreFields values needs (if first then tag_fields tags values else None)
poly_are true true tags values needs two is = tagged tags (sym (same_Some (hash_of tags ∷ []) needs is)) refl ((Decides-eqb (length values) 2).0 two)
poly_are true false tags values needs two is = absurd (none-some needs is)
poly_are false second tags values needs two is = absurd (none-some needs is)

-- The requirements of a block's fields at a shape describe the fields of the shape.
pub fields_are : (shape : ShapeOf ℕ) (tag : ℕ) (values : List Val) (needs : List Need) → block_needs shape tag (length values) ≡ Some needs → AreFields values needs (block_fields shape tag values)
fields_are shapes.AnyInt tag values needs is = absurd (none-some needs is)
fields_are (shapes.Below k) tag values needs is = absurd (none-some needs is)
fields_are (shapes.Bytes mutable) tag values needs is = absurd (none-some needs is)
fields_are shapes.Double tag values needs is = absurd (none-some needs is)
fields_are shapes.Int32 tag values needs is = absurd (none-some needs is)
fields_are shapes.Int64 tag values needs is = absurd (none-some needs is)
fields_are shapes.Native tag values needs is = absurd (none-some needs is)
fields_are (shapes.Sum constants blocks) tag values needs is = constr_are (slice_get blocks tag) values needs is
fields_are (shapes.Product mutable ts) tag values needs is = listed_are ((tag == 0) && (length ts == length values)) ts values needs is
fields_are (shapes.FlatFloats mutable k) tag values needs is = absurd (none-some needs is)
fields_are (shapes.ArrayOf t) tag values needs is = listed_are (tag == 0) (replicate (length values) t) values needs is
fields_are shapes.FloatArray tag values needs is = absurd (none-some needs is)
fields_are (shapes.Poly tags) tag values needs is = poly_are (tag == 0) (length values == 2) tags values needs refl is
fields_are shapes.Variable tag values needs is = absurd (none-some needs is)
fields_are shapes.ArrayOfVariable tag values needs is = absurd (none-some needs is)
fields_are shapes.Anything tag values needs is = absurd (none-some needs is)
fields_are (shapes.ArrayOfAnything t) tag values needs is = listed_are (tag == 0) (replicate (length values) t) values needs is

-- ---- a step to a field

pub numbered_once : (ts : List ℕ) → AreOnce (numbered_from 0 ts)
numbered_once ts i a b first second = same_Some a b (sym (pair_at ts i a first) ∙ pair_at ts i b second)

pub argument_once : (t : ℕ) → AreOnce {T = ℕ} ((1, t) ∷ [])
argument_once t i a b first second = its i a first ∙ sym (its i b second) where
  its : (i a : ℕ) → Contains {X = ℕ × ℕ} ((1, t) ∷ []) (i, a) → a ≡ t
  its i a among = ⊎_elim
      (λ same. sym (ap (λ (p : ℕ × ℕ). p.1) same))
      (λ none. absurd (Contains-none {X = ℕ × ℕ} (i, a) none))
      (Contains-cases {X = ℕ × ℕ} (1, t) [] (i, a) among)

module _ (table : Table) where
  -- If the type of a listed field is no wildcard, then the type is the required type of the field.
  named_once : (fields : List (ℕ × ℕ)) (i t : ℕ) → AreOnce fields → Contains fields (i, t) → IsTrue (is_asked_in table t) → type_of_field (asked_of (shape_at table) fields) i ≡ Some t
  named_once fields i t once among asked =
      let needs = asked_of (shape_at table) fields in
      let named = needed_is_named needs i t (is_needed (shape_at table) fields i t among asked) in
      let other = asked_is (shape_at table) fields i named.0 (named_is_needed needs i named.0 named.1) in
      subst (λ u. type_of_field needs i ≡ Some u) (once i named.0 t other.0 among) named.1

  -- If the type of a field is no wildcard, then a step leads from the block to the field.
  pub step_there : (graph : List Obj) (p s tag : ℕ) (values : List Val) (fields : List (ℕ × ℕ)) (i t : ℕ) (v : Val) → slice_get graph p ≡ Some (objects.Block tag values) → block_fields (shape_at table s) tag values ≡ Some fields → AreOnce fields → Contains fields (i, t) → IsTrue (is_asked_in table t) → slice_get values i ≡ Some v → step (table_shapes table) graph (vals.Ref p) s i ≡ Some (v, t)
  step_there graph p s tag values fields i t v at its once among asked at_i =
      let named = named_once fields i t once among asked in
      let field : field_at graph p i ≡ Some v = ap (option_and_then (λ object. slice_get (values_of object) i)) at ∙ at_i in
      let needs : (table_shapes table).needs graph (vals.Ref p) s ≡ asked_of (shape_at table) fields =
      ap (λ x. asked_of (shape_at table) (or_none (option_and_then (object_fields (shape_at table s)) x))) at
      ∙ ap (λ x. asked_of (shape_at table) (or_none x)) its in
      let type : type_of_field ((table_shapes table).needs graph (vals.Ref p) s) i ≡ Some t = ap (λ x. type_of_field x i) needs ∙ named in
      ap (option_and_then (λ w. option_map (λ u. (w, u)) (type_of_field ((table_shapes table).needs graph (vals.Ref p) s) i))) field
      ∙ ap (option_map (λ u. (v, u))) type

  -- If field `i` has a listed type that is no wildcard, then a step leads to the field.
  pub step_to_field : (graph : List Obj) (p s tag : ℕ) (values : List Val) (ts : List ℕ) (i t : ℕ) (v : Val) → slice_get graph p ≡ Some (objects.Block tag values) → block_fields (shape_at table s) tag values ≡ Some (numbered_from 0 ts) → slice_get ts i ≡ Some t → IsTrue (is_asked_in table t) → slice_get values i ≡ Some v → step (table_shapes table) graph (vals.Ref p) s i ≡ Some (v, t)
  step_to_field graph p s tag values ts i t v at its at_t asked at_i =
      step_there graph p s tag values (numbered_from 0 ts) i t v at its (numbered_once ts) (pair_there ts i t at_t) asked at_i

  -- If the type of a tag's argument is no wildcard, then a step leads to the argument.
  pub step_to_argument : (graph : List Obj) (p s tag : ℕ) (tags : List (PolyTag ℕ)) (z : ℤ) (its : PolyTag ℕ) (t : ℕ) (v : Val) → slice_get graph p ≡ Some (objects.Block tag (vals.Int z ∷ v ∷ [])) → block_fields (shape_at table s) tag (vals.Int z ∷ v ∷ []) ≡ tag_fields tags (vals.Int z ∷ v ∷ []) → tag_with tags z ≡ Some its → its.arg ≡ Some t → IsTrue (is_asked_in table t) → step (table_shapes table) graph (vals.Ref p) s 1 ≡ Some (v, t)
  step_to_argument graph p s tag tags z its t v at fields hash argument asked =
      let same : tag_fields tags (vals.Int z ∷ v ∷ []) ≡ Some ((1, t) ∷ []) =
      ap (option_and_then (λ (tag : PolyTag ℕ). argument_field tag.arg)) hash ∙ ap argument_field argument in
      step_there graph p s tag (vals.Int z ∷ v ∷ []) ((1, t) ∷ []) 1 t v at (fields ∙ same) (argument_once t) (Contains-first {X = ℕ × ℕ} (1, t) []) asked refl
