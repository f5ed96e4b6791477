use Rattle.std.proofs.Common.{◌++◌}
use Rattle.std.specs.Prelude.{codes}
use Rattle.std.proofs.lemmas.Result.{on_ok_weaker}
use Rattle.types_spec.specs.types.VerdictText.{kind_text}
use Rattle.check_fault.specs.FaultText.{text_at}
use Rattle.check_fault.proofs.ConflictTexts.{more}
use Rattle.check_fault.proofs.fault_printer.write_found.Goals as goal

pub returns : goal.returns
returns c =
    let table = c.args.table.now in
    let old = c.args.text.now.items in
    let a = codes ": expected " in
    let b = a ++ text_at table c.args.expected in
    let d = b ++ codes ", found " in
    let x1 = c.write.new.text.items in
    let x2 = c.write_type.new.text.items in
    let x3 = c.write-2.new.text.items in
    let p1 = c.in_ok-write.ensures in
    let p2 = more old a (text_at table c.args.expected) x1 x2 p1 c.in_ok-write_type.ensures in
    let p3 = more old b (codes ", found ") x2 x3 p2 c.in_ok-write-2.ensures in
    on_ok_weaker c.write_kind.result
    (λ write. more old d (kind_text c.args.heap.now c.args.found) x3 c.write_kind.new.text.items p3 write)
    c.write_kind.ensures
