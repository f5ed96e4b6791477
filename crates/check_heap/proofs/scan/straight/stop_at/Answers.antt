use Rattle.std.proofs.Common.{ℕ, suc, ◌+◌, ◌<◌, ◌≡◌, ◌∙◌, ◌++◌, List, [], ◌∷◌, length, take, Some, refl, ap, subst, arith, eqb-true}
use Rattle.std.specs.Prelude.{slice_get}
use Rattle.std.proofs.lemmas.Option.{get_or_from_slice_get}
use Rattle.std.proofs.lemmas.Bool.{false≢true}
use Rattle.std.proofs.lemmas.List.{take_more}
use Rattle.base_data.specs.declared.model.value.Val.TheVariants as vals
use Rattle.types_spec.specs.types.Table.{table_shapes}
use Rattle.types_table.specs.type_table.Made.{table_of}
use Rattle.check_heap.specs.declared.scan.taken_objects.ScanMismatch.TheVariants as unfits
use Rattle.check_heap.specs.scan.Scanned.{object_typed}
use Rattle.check_heap.specs.scan.Scan.{mark_of, Stops, IsInRow}
use Rattle.check_heap.proofs.scan.IncreaseLemmas.{position_within}
use Rattle.check_heap.proofs.scan.ScanNeedLemmas.{increase, need_field}
use Rattle.check_heap.proofs.scan.StopLemmas.{before_taken, until_taken, until_few, field_sees, nothing_sees}
use Rattle.check_heap.proofs.scan.straight.stop_at.Goals as goal

-- The first `o + 1` types are the first `o` types and the type of object `o`.
behind : (types : List ℕ) (o t : ℕ) → o < length types → slice_get types o ≡ Some t → take (o + 1) types ≡ take o types ++ t ∷ []
behind types o t inside at_o = take_more types o 0 inside ∙ ap (λ u. take o types ++ u ∷ []) (get_or_from_slice_get types o t 0 at_o)

pub returns-then-unmet-clause-types : goal.returns-then-unmet-clause-types
returns-then-unmet-clause-types c =
    let t = table_of c.args.table.now in
    let graph = c.args._heap.now in
    let stops = subst (Stops t graph c.args._marks.now [] c.args.o) c.in-Needs.is c.requires.stops in
    until_taken t graph c.holds.ensures.lawful c.args._marks.now _ (take c.args.o c.args.types) c.args.o c.in-Needs._ty c.args.taken c.in-Needs.unmet c.requires.object
    (behind c.args.types c.args.o c.in-Needs._ty (omega (arith, c.requires.object, c.requires.many)) (subst (IsInRow c.args.types c.args.o) c.in-Needs.is c.requires.row))
    c.requires.scanning stops.0 stops.1.0 stops.1.1 (field_sees c.args.types c.args.o c.in-Needs.unmet c.if-unmet.true)

pub returns-then-unmet-clause-steps : goal.returns-then-unmet-clause-steps
returns-then-unmet-clause-steps c =
    let t = table_of c.args.table.now in
    let graph = c.args._heap.now in
    let stops = subst (Stops t graph c.args._marks.now [] c.args.o) c.in-Needs.is c.requires.stops in
    let unmet = stops.1.1 in
    let position = position_within (object_typed t graph c.args.o c.in-Needs._ty) (increase t graph c.args.o c.in-Needs._ty) c.in-Needs.unmet.position c.in-Needs.unmet.field unmet.type unmet.at in
    let field = need_field t graph c.args.o c.in-Needs._ty c.in-Needs.unmet.position c.in-Needs.unmet.field unmet.type c.requires.object unmet.at in
    until_few graph (record { types = c.args.types; objects = c.args.o + 1; seen = c.in-Needs.unmet.field + 1; unfit = unfits.Field c.args.o c.in-Needs.unmet.field }) (take c.args.o c.args.types) c.args.o c.in-Needs._ty c.args.taken _ (c.in-Needs.unmet.position + 1) refl
    (behind c.args.types c.args.o c.in-Needs._ty (omega (arith, c.requires.object, c.requires.many)) (subst (IsInRow c.args.types c.args.o) c.in-Needs.is c.requires.row))
    c.requires.scanning.many c.requires.scanning.few
    (omega (arith, c.raise.ensures.more, c.raise_by.ensures.more, c.raise-then-unmet.ensures.more, c.taken.ensures)) (omega (arith, position)) (omega (arith, position, field))

pub returns-else-unmet-clause-types : goal.returns-else-unmet-clause-types
returns-else-unmet-clause-types c =
    let t = table_of c.args.table.now in
    let graph = c.args._heap.now in
    let stops = subst (Stops t graph c.args._marks.now [] c.args.o) c.in-Needs.is c.requires.stops in
    until_taken t graph c.holds.ensures.lawful c.args._marks.now _ (take c.args.o c.args.types) c.args.o c.in-Needs._ty c.args.taken c.in-Needs.unmet c.requires.object
    (behind c.args.types c.args.o c.in-Needs._ty (omega (arith, c.requires.object, c.requires.many)) (subst (IsInRow c.args.types c.args.o) c.in-Needs.is c.requires.row))
    c.requires.scanning stops.0 stops.1.0 stops.1.1 (nothing_sees c.args.types c.args.o c.in-Needs.unmet)

pub returns-else-unmet-clause-steps : goal.returns-else-unmet-clause-steps
returns-else-unmet-clause-steps c =
    let t = table_of c.args.table.now in
    let graph = c.args._heap.now in
    let stops = subst (Stops t graph c.args._marks.now [] c.args.o) c.in-Needs.is c.requires.stops in
    let unmet = stops.1.1 in
    let position = position_within (object_typed t graph c.args.o c.in-Needs._ty) (increase t graph c.args.o c.in-Needs._ty) c.in-Needs.unmet.position c.in-Needs.unmet.field unmet.type unmet.at in
    let field = need_field t graph c.args.o c.in-Needs._ty c.in-Needs.unmet.position c.in-Needs.unmet.field unmet.type c.requires.object unmet.at in
    until_few graph (record { types = c.args.types; objects = c.args.o + 1; seen = c.in-Needs.unmet.field; unfit = unfits.Nothing }) (take c.args.o c.args.types) c.args.o c.in-Needs._ty c.args.taken _ c.in-Needs.unmet.position refl
    (behind c.args.types c.args.o c.in-Needs._ty (omega (arith, c.requires.object, c.requires.many)) (subst (IsInRow c.args.types c.args.o) c.in-Needs.is c.requires.row))
    c.requires.scanning.many c.requires.scanning.few
    (omega (arith, c.raise.ensures.more, c.raise_by.ensures.more, c.taken-in-Needs.ensures)) (omega (arith, position)) (omega (arith, position, field))

pub returns-in-Mismatches-clause-types : goal.returns-in-Mismatches-clause-types
returns-in-Mismatches-clause-types c =
    let t = table_of c.args.table.now in
    let graph = c.args._heap.now in
    let stops = subst (Stops t graph c.args._marks.now [] c.args.o) c.in-Mismatches.is c.requires.stops in
    before_taken t graph c.holds.ensures.lawful c.args._marks.now _ c.args.o c.args.taken (omega (arith, c.requires.object)) c.requires.scanning
    (λ p found. subst (λ n. (u : ℕ) × (mark_of graph c.args._marks.now n ≡ suc u) × ¬ (table_shapes t).fits graph (vals.Ref n) u) (eqb-true c.args.o p found) stops)
    (λ o i. refl)

pub returns-in-Unmarked-clause-types : goal.returns-in-Unmarked-clause-types
returns-in-Unmarked-clause-types c =
    before_taken (table_of c.args.table.now) c.args._heap.now c.holds.ensures.lawful c.args._marks.now _ c.args.o c.args.taken (omega (arith, c.requires.object)) c.requires.scanning
    (λ p found. absurd (false≢true found)) (λ o i. refl)
