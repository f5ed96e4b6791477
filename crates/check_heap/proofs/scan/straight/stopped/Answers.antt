use Rattle.std.proofs.Common.{ℕ, List, take, subst, arith}
use Rattle.types_table.specs.type_table.Made.{table_of}
use Rattle.check_heap.specs.scan.Scan.{IsScanning, Stops}
use Rattle.check_heap.proofs.scan.NoteLemmas.{stopped_within, none_noted, first_stopped}
use Rattle.check_heap.proofs.scan.straight.stopped.Goals as goal

pub until_first-requires-clause-stopped : goal.until_first-requires-clause-stopped
until_first-requires-clause-stopped c =
    let t = table_of c.args.table.now in
    stopped_within t c.args.heap.now c.args.marks.now c.args.types _ _ c.in-Some.first (omega (arith, c.requires.object))
    (first_stopped t c.args.heap.now c.args.marks.now c.args.types _ c.args.notes.now c.in-Some.first c.requires.stopped.noted c.in-Some.is)

pub stop_at-requires-clause-scanning : goal.stop_at-requires-clause-scanning
stop_at-requires-clause-scanning c =
    let t = table_of c.args.table.now in
    let none = none_noted t c.args.heap.now c.args.marks.now c.args.types _ c.args.notes.now c.requires.stopped.noted c.in-None.is in
    subst (λ (xs : List (ℕ × ℕ)). IsScanning t c.args.heap.now c.args.marks.now xs (take c.args.o c.args.types) c.args.o c.args.taken) none c.requires.stopped.scanning

pub stop_at-requires-clause-stops : goal.stop_at-requires-clause-stops
stop_at-requires-clause-stops c =
    let t = table_of c.args.table.now in
    let none = none_noted t c.args.heap.now c.args.marks.now c.args.types _ c.args.notes.now c.requires.stopped.noted c.in-None.is in
    subst (λ (xs : List (ℕ × ℕ)). Stops t c.args.heap.now c.args.marks.now xs c.args.o c.args.stop) none c.requires.stopped.stops

pub stop_at-requires-clause-row : goal.stop_at-requires-clause-row
stop_at-requires-clause-row c = c.requires.stopped.row
