use Rattle.std.proofs.Common.{◌≡◌, ◌+◌, ◌∙◌, suc, sym, ap, arith}
use Rattle.std.specs.Prelude.{slice_set}
use Rattle.std.specs.Vec.{with_item}
use Rattle.check_heap.proofs.scan.ClassedLemmas.{shifts}
use Rattle.check_heap.proofs.scan.classed.Classed.shift.Goals as goal

pub returns-then-remove : goal.returns-then-remove
returns-then-remove c =
    let old = c.args.self.now in
    let pair = c.in-Some.pair.now in
    let next : pair.1 + 1 ≡ suc pair.1 = omega arith in
    shifts old (record { cells = with_item old.cells pair.0 (pair.1 + 1); more = c.remove.new.self }) pair.0 pair.1
    (c.has_free_cell.ensures.0 c.if-has_free_cell.true).0 (ap (slice_set old.cells.items pair.0) next)
    (sym c.remove.ensures.test ∙ c.if-remove.true) c.remove.ensures.updates
