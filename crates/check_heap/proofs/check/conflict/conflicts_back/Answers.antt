use Rattle.std.proofs.Common.{◌-◌, ◌∙◌, inl, inr, ⊎_elim, Some, refl, sym, ap, arith}
use Rattle.std.proofs.lemmas.Bool.{false≢true}
use Rattle.std.proofs.lemmas.Option.{same_Some}
use Rattle.types_table.specs.type_table.Made.{table_of}
use Rattle.check_heap.specs.declared.check.visits.Visit.{Visit}
use Rattle.check_heap.specs.check.Visits.{listed}
use Rattle.check_heap.proofs.check.ConflictLemmas.{first_read, first_within, own_within, conflict_from, conflict_to, no_conflict}
use Rattle.check_heap.proofs.check.conflict.conflicts_back.Goals as goal

pub class-requires : goal.class-requires
class-requires c =
    let all = listed c.args.visits.now in
    let read = first_read (table_of c.args.table.now) c.args.heap.now c.args.visits.now c.args.k c.get.result c.get-visit.result c.requires.linked c.requires.within c.get-visit.ensures c.get.ensures in
    let node = first_within (table_of c.args.table.now) c.args.heap.now (listed c.args.visits.now) c.get-visit.result.object (c.get.result - 1) c.requires.within read.1 in
    omega (arith, node, c.holds.ensures.lawful.classed)

pub class-requires-2 : goal.class-requires-2
class-requires-2 c =
    let own = own_within (table_of c.args.table.now) c.args.heap.now (listed c.args.visits.now) c.args.k c.get-visit.result c.requires.within c.get-visit.ensures in
    omega (arith, own.1, c.holds.ensures.lawful.classed)

pub returns-then-class : goal.returns-then-class
returns-then-class c =
    let read = first_read (table_of c.args.table.now) c.args.heap.now c.args.visits.now c.args.k c.get.result c.get-visit.result c.requires.linked c.requires.within c.get-visit.ensures c.get.ensures in (
      λ never. absurd (false≢true never),
      λ back. absurd (no_conflict (table_of c.args.table.now) c.args.heap.now (listed c.args.visits.now) c.args.k (c.get.result - 1) c.get-visit.result c.get-visit.ensures read.1 c.requires.apart
          (c.class.ensures ∙ ap (λ m. Some m) c.if-class.true ∙ sym c.class-2.ensures) back),
    )

pub is_mutable_at-requires : goal.is_mutable_at-requires
is_mutable_at-requires c = own_within (table_of c.args.table.now) c.args.heap.now (listed c.args.visits.now) c.args.k c.get-visit.result c.requires.within c.get-visit.ensures

pub is_mutable_at-requires-else-is_mutable_at : goal.is_mutable_at-requires-else-is_mutable_at
is_mutable_at-requires-else-is_mutable_at c =
    let own = own_within (table_of c.args.table.now) c.args.heap.now (listed c.args.visits.now) c.args.k c.get-visit.result c.requires.within c.get-visit.ensures in
    let read = first_read (table_of c.args.table.now) c.args.heap.now c.args.visits.now c.args.k c.get.result c.get-visit.result c.requires.linked c.requires.within c.get-visit.ensures c.get.ensures in
    (own.0, first_within (table_of c.args.table.now) c.args.heap.now (listed c.args.visits.now) c.get-visit.result.object (c.get.result - 1) c.requires.within read.1)

pub returns-then-is_mutable_at : goal.returns-then-is_mutable_at
returns-then-is_mutable_at c =
    let read = first_read (table_of c.args.table.now) c.args.heap.now c.args.visits.now c.args.k c.get.result c.get-visit.result c.requires.linked c.requires.within c.get-visit.ensures c.get.ensures in
    let w : Visit = record { object = c.get-visit.result.object; ty = c.get.result - 1; parent = c.get-visit.result.parent; step = c.get-visit.result.step } in (
      λ mutable. conflict_from (table_of c.args.table.now) c.args.heap.now (listed c.args.visits.now) c.args.k (c.get.result - 1) c.get-visit.result c.get-visit.ensures read.1 w refl refl
          (λ same. c.if-class.false (same_Some c.class.result c.class-2.result (sym c.class.ensures ∙ same ∙ c.class-2.ensures)))
          (inr (sym c.is_mutable_at.ensures ∙ mutable)),
      λ back. c.if-is_mutable_at.true,
    )

pub returns-else-is_mutable_at : goal.returns-else-is_mutable_at
returns-else-is_mutable_at c =
    let read = first_read (table_of c.args.table.now) c.args.heap.now c.args.visits.now c.args.k c.get.result c.get-visit.result c.requires.linked c.requires.within c.get-visit.ensures c.get.ensures in
    let w : Visit = record { object = c.get-visit.result.object; ty = c.get.result - 1; parent = c.get-visit.result.parent; step = c.get-visit.result.step } in (
      λ mutable. conflict_from (table_of c.args.table.now) c.args.heap.now (listed c.args.visits.now) c.args.k (c.get.result - 1) c.get-visit.result c.get-visit.ensures read.1 w refl refl
          (λ same. c.if-class.false (same_Some c.class.result c.class-2.result (sym c.class.ensures ∙ same ∙ c.class-2.ensures)))
          (inl (sym c.is_mutable_at-else-is_mutable_at.ensures ∙ mutable)),
      λ back. ⊎_elim
          (λ one. c.is_mutable_at-else-is_mutable_at.ensures ∙ one)
          (λ own. absurd (false≢true (sym c.if-is_mutable_at.false ∙ c.is_mutable_at.ensures ∙ own)))
          (conflict_to (table_of c.args.table.now) c.args.heap.now (listed c.args.visits.now) c.args.k (c.get.result - 1) c.get-visit.result c.get-visit.ensures read.1 w refl refl back),
    )
