use Rattle.std.proofs.Common.{[], take, refl, arith}
use Rattle.types_table.specs.type_table.Made.{table_of}
use Rattle.check_heap.proofs.scan.ScanLemmas.{scanning_kept}
use Rattle.check_heap.proofs.scan.straight.until_first.Goals as goal

pub stop_at-requires-clause-object : goal.stop_at-requires-clause-object
stop_at-requires-clause-object c = c.requires.stopped.before

pub stop_at-requires-clause-scanning : goal.stop_at-requires-clause-scanning
stop_at-requires-clause-scanning c =
    let is = c.requires.stopped in
    scanning_kept (table_of c.args.table.now) c.args.heap.now c.args.marks.now c.args.marks.now [] [] (take c.args.first.object c.args.types) c.args.first.object c.args.first.steps _
    (omega (arith, c.raise_by.ensures.more, c.new-before.ensures)) is.scanning is.scanning.valid (λ key some. refl) (λ p among. among)

pub stop_at-requires-clause-stops : goal.stop_at-requires-clause-stops
stop_at-requires-clause-stops c = c.requires.stopped.stops

pub stop_at-requires-clause-row : goal.stop_at-requires-clause-row
stop_at-requires-clause-row c = c.requires.stopped.row
