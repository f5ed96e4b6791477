-- Paths to the objects that a scan marks.
use Rattle.std.proofs.Common.{ℕ, ◌<◌, ◌≡◌, ◌∙◌, ⊎_elim, ◌++◌, Bool, true, false, List, [], ◌∷◌, length, Some, refl, sym, ap, subst, arith}
use Rattle.std.specs.Prelude.{slice_get, option_map, option_and_then, IsTrue, IsSome}
use Rattle.std.proofs.lemmas.Option.{none-some}
use Rattle.base_data.proofs.model.Options.{slice_get_there, slice_get-Contains}
use Rattle.base_data.specs.model.Graph.{IsGraph}
use Rattle.base_data.specs.declared.model.value.Val.{Val}
use Rattle.base_data.specs.declared.model.value.Val.TheVariants as vals
use Rattle.base_data.specs.declared.model.value.Obj.{Obj}
use Rattle.base_data.proofs.model.Numbers.{less_same_more}
use Rattle.base_data.specs.declared.model.value.Obj.TheVariants as objects
use Rattle.types_spec.specs.declared.types.shape.ShapeOf.TheVariants as shapes
use Rattle.types_spec.specs.types.Fitting.{object_fields, fields_of, or_none}
use Rattle.types_spec.specs.types.Fault.{type_of_field, step}
use Rattle.types_spec.specs.types.Table.{Table, table_shapes, node_or_none, is_asked_in}
use Rattle.types_spec.proofs.types.TypeAskedLemmas.{need_typed, typed_needed}
use Rattle.types_spec.proofs.types.TypeFaultLemmas.{named_is_needed}
use Rattle.types_spec.proofs.types.TypeWildcardLemmas.{wildcard_is}
use Rattle.types_theory.proofs.typing.TypingNeedLemmas.{needed_is_named}
use Rattle.types_theory.proofs.typing.TypingPathLemmas.{value_at-push}
use Rattle.types_theory.proofs.table.TableFieldLemmas.{fields_once}
use Rattle.marshal_heap.specs.heap.Heap.{key_of, field_at}
use Rattle.marshal_heap.proofs.heap.HeapPositionLemmas.{position_grows}
use Rattle.check_heap.specs.scan.Paths.{HasPath}
use Rattle.check_heap.specs.scan.Scanned.{object_needs, object_typed}
use Rattle.check_heap.proofs.scan.ScanFieldLemmas.{field_there}
use Rattle.check_heap.proofs.scan.ScanNeedLemmas.{need_field}

-- Distinct objects have distinct keys.
pub same_from_key :
    (graph : List Obj) (o p : ℕ) → IsGraph graph → o < length graph → p < length graph → key_of graph o ≡ key_of graph p → o ≡ p
same_from_key graph o p valid here there same = ⊎_elim
    (λ less. let grows = position_grows graph o p valid less here in absurd (omega (arith, grows, same)))
    (λ others. ⊎_elim
    (λ is. is)
    (λ more. let grows = position_grows graph p o valid more there in absurd (omega (arith, grows, same)))
    others)
    (less_same_more o p)

pub any_object : (object : Obj) → object_fields {T = ℕ} shapes.Anything object ≡ Some []
any_object (objects.Block tag values) = refl
any_object (objects.Bytes bytes) = refl
any_object (objects.Double bits) = refl
any_object (objects.Doubles all) = refl
any_object (objects.I32 z) = refl
any_object (objects.I64 z) = refl
any_object (objects.Native z) = refl

module _ (table : Table) (graph : List Obj) where
  -- If the type of a typed field constrains its values, then the lookup of the field's type
  -- succeeds.
  pub need_is_named : (o t k i a : ℕ) → slice_get (object_typed table graph o t) k ≡ Some (i, a) → IsTrue (is_asked_in table a)
      → type_of_field (object_needs table graph o t) i ≡ Some a
  need_is_named o t k i a at asked =
      let among = slice_get-Contains (object_typed table graph o t) k (i, a) at in
      let named = needed_is_named (object_needs table graph o t) i a (typed_needed table graph (vals.Ref o) t i a among asked) in
      let there = (need_typed table graph (vals.Ref o) t i named.0 (named_is_needed (object_needs table graph o t) i named.0 named.1)).0 in
      let same : named.0 ≡ a = fields_once (node_or_none (slice_get table.nodes t)) graph (vals.Ref o) i named.0 a there among in
      named.1 ∙ ap (λ u. Some u) same

  pub root_path : (root : ℕ) → HasPath table graph (vals.Ref root) root 0
  root_path root = ([], refl)

  -- If some path leads to an object, then some path leads to the value of each required field.
  pub need_path :
      (root : Val) (o t k i a p : ℕ) → o < length graph → HasPath table graph root o t
      → slice_get (object_typed table graph o t) k ≡ Some (i, a) → IsTrue (is_asked_in table a) → field_at graph o i ≡ vals.Ref p
      → HasPath table graph root p a
  need_path root o t k i a p inside led at_k asked is =
      let named = need_is_named o t k i a at_k asked in
      let field = field_there graph o i inside (need_field table graph o t k i a inside at_k) ∙ ap (λ v. Some v) is in
      let stepped : step (table_shapes table) graph (vals.Ref o) t i ≡ Some (vals.Ref p, a) =
      ap (λ x. option_and_then (λ y. option_map (λ u. (y, u)) (type_of_field (object_needs table graph o t) i)) x) field
      ∙ ap (λ u. option_map (λ b. (vals.Ref p, b)) u) named in
      (led.0 ++ i ∷ [], value_at-push (table_shapes table) graph led.0 root 0 i (vals.Ref o, t) (vals.Ref p, a) led.1 stepped)

  -- If a type does not constrain its values, then every object matches the type and has no typed
  -- fields.
  pub wildcard_fields : (o t : ℕ) → o < length graph → is_asked_in table t ≡ false
      → fields_of graph (vals.Ref o) (node_or_none (slice_get table.nodes t)) ≡ Some []
  wildcard_fields o t inside wildcard =
      let there = slice_get_there graph o inside in
      ap (fields_of graph (vals.Ref o)) (wildcard_is (node_or_none (slice_get table.nodes t)) wildcard)
      ∙ ap (option_and_then (object_fields {T = ℕ} shapes.Anything)) there.1 ∙ any_object there.0

  pub wildcard_typed : (o t : ℕ) → o < length graph → is_asked_in table t ≡ false → object_typed table graph o t ≡ []
  wildcard_typed o t inside wildcard = ap or_none (wildcard_fields o t inside wildcard)

  pub wildcard_fits : (o t : ℕ) → o < length graph → is_asked_in table t ≡ false → (table_shapes table).fits graph (vals.Ref o) t
  wildcard_fits o t inside wildcard = subst IsSome (sym (wildcard_fields o t inside wildcard)) refl

  -- If an object has typed fields at a type, then the type constrains its values.
  pub typed_asked : (o t k : ℕ) (need : ℕ × ℕ) → o < length graph → slice_get (object_typed table graph o t) k ≡ Some need → IsTrue (is_asked_in table t)
  typed_asked o t k need inside at_k = by (is_asked_in table t) refl where
    by : (asked : Bool) → is_asked_in table t ≡ asked → IsTrue (is_asked_in table t)
    by true is = is
    by false is = absurd (none-some need (ap (λ needs. slice_get needs k) (sym (wildcard_typed o t inside is)) ∙ at_k))
