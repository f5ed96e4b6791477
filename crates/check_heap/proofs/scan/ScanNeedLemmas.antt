-- Facts about the typed fields of an object.
use Rattle.std.proofs.Common.{ℕ, zero, suc, ◌<◌, ◌≤◌, ◌≡◌, ◌∙◌, refl, List, length, Option, Some, None, true, false, sym, ap, subst, arith}
use Rattle.std.specs.Prelude.{slice_get, option_map, IsSome, All, Contains, pos}
use Rattle.std.proofs.lemmas.Bool.{false≢true}
use Rattle.std.proofs.lemmas.List.Elements.{All-contains}
use Rattle.std.proofs.lemmas.Option.{slice_get_within, get_or_from_slice_get, option_and_then_some}
use Rattle.base_data.proofs.model.Options.{slice_get_there, slice_get-Contains}
use Rattle.base_data.specs.declared.model.value.Val.TheVariants as vals
use Rattle.base_data.specs.declared.model.value.Obj.{Obj}
use Rattle.base_data.specs.declared.model.value.Obj.TheVariants as objects
use Rattle.types_spec.specs.declared.types.shape.ShapeOf.{ShapeOf}
use Rattle.types_spec.specs.types.Fitting as fitting
use Rattle.types_spec.specs.types.Fitting.{or_none, is_asked}
use Rattle.types_spec.specs.types.Reached.{named_in}
use Rattle.types_spec.specs.types.Table.{Table, table_shapes, node_or_none}
use Rattle.types_spec.specs.types.Typing.{values_of}
use Rattle.marshal_heap.specs.heap.Heap.{object_at, fields_of}
use Rattle.types_table.specs.type_table.Made.{IsLawful}
use Rattle.types_theory.proofs.equality.EqualityReachedLemmas.{needs_named}
use Rattle.types_theory.proofs.table.TableFieldLemmas.{fields_there}
use Rattle.check_heap.specs.declared.fits.needs.Needs.{Needs}
use Rattle.check_heap.specs.fits.Needs.{needs_in}
use Rattle.check_heap.specs.scan.TakenObjects.{size_of}
use Rattle.check_heap.specs.scan.Scanned.{object_typed}
use Rattle.check_heap.proofs.scan.IncreaseLemmas.{Increase, position_within, needs_increase}
use Rattle.check_heap.proofs.scan.ScanFieldLemmas.{fields_are_values}

module _ (table : Table) (graph : List Obj) where
  -- Every typed field of an object is a field of the object.
  pub need_field : (o t k i a : ℕ) → o < length graph → slice_get (object_typed table graph o t) k ≡ Some (i, a) → i < length (fields_of (object_at graph o))
  need_field o t k i a inside at_k =
      let needs = object_typed table graph o t in
      let there = fields_there (node_or_none (slice_get table.nodes t)) graph (vals.Ref o) i a (slice_get-Contains needs k (i, a) at_k) in
      option_and_then_some (λ object. slice_get (values_of object) i) (slice_get graph o) there.0 there.1 (λ object at_o at_i.
      let is : object_at graph o ≡ object = get_or_from_slice_get graph o object (objects.I32 (pos 0)) at_o in
      let short = slice_get_within (values_of object) i there.0 at_i in
      subst (λ x. i < length (fields_of x)) (sym is) (subst (λ vs. i < length vs) (fields_are_values object) short))

  -- If an object has typed fields, then it has fields.
  pub some_fields : (o t : ℕ) → o < length graph → 0 < length (object_typed table graph o t) → 0 < length (fields_of (object_at graph o))
  some_fields o t inside some =
      let first = slice_get_there (object_typed table graph o t) 0 some in
      let field = need_field o t 0 first.0.0 first.0.1 inside first.1 in omega (arith, field)

  -- The indices of the typed fields increase.
  pub increase : (o t : ℕ) → Increase (object_typed table graph o t)
  increase o t = needs_increase (node_or_none (slice_get table.nodes t)) graph (vals.Ref o)

  -- There are at most as many typed fields as fields.
  pub needs_few : (o t : ℕ) → o < length graph → length (object_typed table graph o t) ≤ size_of graph o
  needs_few o t inside = by_length (length (object_typed table graph o t)) refl where
    by_length : (n : ℕ) → length (object_typed table graph o t) ≡ n → n ≤ size_of graph o
    by_length zero is = omega arith
    by_length (suc n) is =
        let last = slice_get_there (object_typed table graph o t) n (omega (arith, is)) in
        let position = position_within (object_typed table graph o t) (increase o t) n last.0.0 last.0.1 last.1 in
        let field = need_field o t n last.0.0 last.0.1 inside last.1 in
        omega (arith, position, field)

  -- The type of each typed field is in the table.
  pub need_node : IsLawful table → (o t k i a : ℕ) → t < length table.nodes → slice_get (object_typed table graph o t) k ≡ Some (i, a) → a < length table.nodes
  need_node lawful o t k i a inside at_k =
      let node = slice_get_there table.nodes t inside in
      let needs = object_typed table graph o t in
      let named = needs_named (node_or_none (slice_get table.nodes t)) graph (vals.Ref o) i a (slice_get-Contains needs k (i, a) at_k) in
      let named' = subst (λ n. Contains (named_in (node_or_none n)) a) node.1 named in
      All-contains (λ j. j < length table.nodes) (named_in node.0) a
      (All-contains (λ s. All (λ j. j < length table.nodes) (named_in s)) table.nodes node.0 lawful.closed (slice_get-Contains table.nodes t node.0 node.1)) named'

  -- ---- the result for a shape

  fields_are :
      (o t : ℕ) (shape : ShapeOf ℕ) (answer : Option Needs) → slice_get table.nodes t ≡ Some shape
      → option_map needs_in answer ≡ fitting.fields_of graph (vals.Ref o) shape
      → fitting.fields_of graph (vals.Ref o) (node_or_none (slice_get table.nodes t)) ≡ option_map needs_in answer
  fields_are o t shape answer at_type is = ap (λ n. fitting.fields_of graph (vals.Ref o) (node_or_none n)) at_type ∙ sym is

  pub needs_are :
      (o t : ℕ) (shape : ShapeOf ℕ) (answer : Option Needs) (needs : Needs) → slice_get table.nodes t ≡ Some shape
      → option_map needs_in answer ≡ fitting.fields_of graph (vals.Ref o) shape → answer ≡ Some needs
      → object_typed table graph o t ≡ needs_in needs
  needs_are o t shape answer needs at_type is some =
      ap or_none (fields_are o t shape answer at_type is) ∙ ap (λ a. or_none (option_map needs_in a)) some

  -- If an object matches, then the result is not `None`.
  pub never_unfit :
      (o t : ℕ) (shape : ShapeOf ℕ) (answer : Option Needs) → slice_get table.nodes t ≡ Some shape
      → option_map needs_in answer ≡ fitting.fields_of graph (vals.Ref o) shape → answer ≡ None
      → (table_shapes table).fits graph (vals.Ref o) t → ⊥
  never_unfit o t shape answer at_type is none fit = no_some
      (subst IsSome (fields_are o t shape answer at_type is ∙ ap (option_map needs_in) none) fit) where
        no_some : IsSome {T = List (ℕ × ℕ)} None → ⊥
        no_some some = false≢true some

-- ---- the shape of a type

pub shape_asked :
    (nodes : List (ShapeOf ℕ)) (t : ℕ) (shape : ShapeOf ℕ) → slice_get nodes t ≡ Some shape → is_asked shape ≡ true
    → is_asked (node_or_none (slice_get nodes t)) ≡ true
shape_asked nodes t shape at is = ap (λ n. is_asked (node_or_none n)) at ∙ is

pub shape_wildcard :
    (nodes : List (ShapeOf ℕ)) (t : ℕ) (shape : ShapeOf ℕ) → slice_get nodes t ≡ Some shape → is_asked shape ≡ false
    → is_asked (node_or_none (slice_get nodes t)) ≡ false
shape_wildcard nodes t shape at is = ap (λ n. is_asked (node_or_none n)) at ∙ is
