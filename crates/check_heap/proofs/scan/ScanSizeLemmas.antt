-- The bound on the steps, if each object is counted once per class with its fields.
use Rattle.std.proofs.Common.{ℕ, ◌+◌, ◌*◌, ◌<◌, ◌≤◌, ◌≡◌, ◌∙◌, List, [], ◌∷◌, length, Some, refl, sym, ap, subst, arith, zero, suc, true, cond}
use Rattle.std.specs.Prelude.{slice_get, option_map, map, sum_by, Contains, replicate, pos}
use Rattle.std.proofs.lemmas.List.{length-map, length-replicate}
use Rattle.std.proofs.lemmas.List.Sums.{sum_by-cons}
use Rattle.std.proofs.lemmas.Option.{get_or_from_slice_get, slice_get-map}
use Rattle.base_data.proofs.model.Options.{slice_get_there, Contains-first, Contains-later}
use Rattle.base_data.specs.declared.model.value.Val.TheVariants as vals
use Rattle.base_data.specs.declared.model.value.Obj.{Obj}
use Rattle.base_data.specs.declared.model.value.Obj.TheVariants as objects
use Rattle.types_spec.specs.declared.types.shape.ShapeOf.TheVariants as shapes
use Rattle.types_spec.specs.declared.types.shape.ShapeOf.{ShapeOf}
use Rattle.types_spec.specs.types.Fitting.{numbered_from, is_asked, asked_of}
use Rattle.types_spec.specs.types.StepBounds.{class_count, field_count, most_steps}
use Rattle.types_spec.specs.types.Table.{Table, table_shapes, node_or_none}
use Rattle.types_spec.specs.types.Typing.{values_of}
use Rattle.types_theory.specs.typing.StepLaws.{AreEntries}
use Rattle.types_theory.proofs.typing.TypingStepLemmas.{steps_are_few, length-numbered_from}
use Rattle.marshal_heap.specs.heap.Heap as heap
use Rattle.marshal_heap.specs.heap.Heap.{object_at}
use Rattle.check_heap.specs.scan.TakenObjects.{size_of}
use Rattle.check_heap.proofs.scan.ScanFieldLemmas.{fields_are_values}

sum_same : {X : Type 0} (f g : X → ℕ) (xs : List X) → ((x : X) → Contains xs x → f x ≡ g x) → sum_by f xs ≡ sum_by g xs
sum_same f g [] same = refl
sum_same f g (x ∷ xs) same =
    let first = same x (Contains-first x xs) in
    let rest = sum_same f g xs (λ y among. same y (Contains-later x xs y among)) in
    omega (arith, sum_by-cons f x xs, sum_by-cons g x xs, first, rest)

-- The object as a block that requires all its fields at each type.
abbrev plain : Obj → Obj
plain object = objects.Block 0 (values_of object)

abbrev plain_table : Table → Table
plain_table table = record { nodes = map (λ (class : ℕ). shapes.ArrayOf 0) table.classes; classes = table.classes }

same_fields : (graph : List Obj) → field_count (map plain graph) ≡ field_count graph
same_fields [] = refl
same_fields (object ∷ graph) =
    let rest = same_fields graph in
    omega (arith, rest, sum_by-cons (λ o. length (values_of o)) (plain object) (map plain graph), sum_by-cons (λ o. length (values_of o)) object graph)

-- Each type of the plain table constrains its values.
plain_asked : (classes : List ℕ) → is_asked (node_or_none (slice_get (map (λ (class : ℕ). shapes.ArrayOf 0) classes) 0)) ≡ true
plain_asked [] = refl
plain_asked (class ∷ classes) = refl

abbrev plain_node : Table → ℕ → ShapeOf ℕ
plain_node table i = node_or_none (slice_get (plain_table table).nodes i)

plain_kept : (table : Table) (i n : ℕ) → asked_of (plain_node table) (numbered_from i (replicate n 0)) ≡ numbered_from i (replicate n 0)
plain_kept table i zero = refl
plain_kept table i (suc n) =
    let rest = asked_of (plain_node table) (numbered_from (suc i) (replicate n 0)) in
    ap (λ b. cond b ((i, 0) ∷ rest) rest) (plain_asked table.classes)
    ∙ ap (λ (fields : List (ℕ × ℕ)). (i, 0) ∷ fields) (plain_kept table (suc i) n)

plain_needs :
    (table : Table) (graph : List Obj) (o t : ℕ) → o < length graph → t < length table.classes
    → length ((table_shapes (plain_table table)).needs (map plain graph) (vals.Ref o) t) ≡ size_of graph o
plain_needs table graph o t inside typed =
    let object = slice_get_there graph o inside in
    let class = slice_get_there table.classes t typed in
    let node : slice_get (plain_table table).nodes t ≡ Some (shapes.ArrayOf 0) = slice_get-map (λ (c : ℕ). shapes.ArrayOf 0) table.classes t ∙ ap (option_map (λ (c : ℕ). shapes.ArrayOf 0)) class.1 in
    let own : slice_get (map plain graph) o ≡ Some (plain object.0) = slice_get-map plain graph o ∙ ap (option_map plain) object.1 in
    let is : object_at graph o ≡ object.0 = get_or_from_slice_get graph o object.0 (objects.I32 (pos 0)) object.1 in
    rw node (rw own (ap length (plain_kept table 0 (length (values_of object.0))) ∙ length-numbered_from 0 (replicate (length (values_of object.0)) 0) ∙ length-replicate (length (values_of object.0)) 0
    ∙ ap length (fields_are_values object.0) ∙ ap (λ x. length (heap.fields_of x)) (sym is)))

pub sizes_are_few :
    (table : Table) (graph : List Obj) (entries : List (ℕ × ℕ)) → AreEntries table graph entries
    → 1 + sum_by (λ (entry : ℕ × ℕ). 1 + size_of graph entry.0) entries ≤ most_steps table graph
sizes_are_few table graph entries all =
    let same = sum_same (λ (entry : ℕ × ℕ). 1 + size_of graph entry.0)
    (λ (entry : ℕ × ℕ). 1 + length ((table_shapes (plain_table table)).needs (map plain graph) (vals.Ref entry.0) entry.1)) entries (λ entry among.
    ap (λ n. 1 + n) (sym (plain_needs table graph entry.0 entry.1 (all.objects entry.0 entry.1 among) (all.types entry.0 entry.1 among)))) in
    let few = steps_are_few (plain_table table) (map plain graph) entries (record {
      objects = λ o t among. subst (λ n. o < n) (sym (length-map graph plain)) (all.objects o t among);
      types = all.types;
      apart = all.apart;
    }) in
    let counts : length (map plain graph) + field_count (map plain graph) ≡ length graph + field_count graph = omega (arith, length-map graph plain, same_fields graph) in
    let most : most_steps (plain_table table) (map plain graph) ≡ most_steps table graph = ap (λ n. 1 + class_count table * n) counts in
    omega (arith, same, few, most)
