use Rattle.std.proofs.Common.{◌++◌}
use Rattle.std.specs.Prelude.{codes}
use Rattle.std.proofs.lemmas.Result.{on_ok_weaker}
use Rattle.base_data.specs.model.PathText.{path_text}
use Rattle.check_fault.specs.FaultText.{text_at}
use Rattle.check_fault.proofs.ConflictTexts.{more, conflict_written}
use Rattle.check_fault.proofs.fault_printer.write_conflict.Goals as goal

pub returns : goal.returns
returns c =
    let table = c.args.table.now in
    let old = c.args.text.now.items in
    let a = path_text c.args.first.now in
    let b = a ++ codes " and " in
    let d = b ++ path_text c.args.second.now in
    let e = d ++ codes ": " in
    let f = e ++ text_at table c.in-Some.one in
    let g = f ++ codes " and " in
    let h = g ++ text_at table c.in-Some-walk.other in
    let x1 = c.write_path.new.text.items in
    let x2 = c.write.new.text.items in
    let x3 = c.write_path-2.new.text.items in
    let x4 = c.write-2.new.text.items in
    let x5 = c.write_type.new.text.items in
    let x6 = c.write-3.new.text.items in
    let x7 = c.write_type-2.new.text.items in
    let p1 = c.in_ok-write_path.ensures in
    let p2 = more old a (codes " and ") x1 x2 p1 c.in_ok-write.ensures in
    let p3 = more old b (path_text c.args.second.now) x2 x3 p2 c.in_ok-write_path-2.ensures in
    let p4 = more old d (codes ": ") x3 x4 p3 c.in_ok-write-2.ensures in
    let p5 = more old e (text_at table c.in-Some.one) x4 x5 p4 c.in_ok-write_type.ensures in
    let p6 = more old f (codes " and ") x5 x6 p5 c.in_ok-write-3.ensures in
    let p7 = more old g (text_at table c.in-Some-walk.other) x6 x7 p6 c.in_ok-write_type-2.ensures in
    on_ok_weaker c.write-4.result
    (λ write. conflict_written table c.args.value.now.heap.now c.args.value.now.root c.args.first.now c.args.second.now c.requires.conflict
    (c.in-Some.field-0-0, c.in-Some.one) (c.in-Some-walk.field-0-0, c.in-Some-walk.other) old c.write-4.new.text.items
    c.in-Some.ensures.position c.in-Some-walk.ensures.position
    (more old h (codes " share a mutable object") x7 c.write-4.new.text.items p7 write))
    c.write-4.ensures
