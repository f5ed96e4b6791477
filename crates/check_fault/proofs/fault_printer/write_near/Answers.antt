use Rattle.std.proofs.lemmas.Result.{on_ok_weaker}
use Rattle.check_fault.specs.Near.{path_in}
use Rattle.check_fault.proofs.MismatchTexts.{mismatch_added}
use Rattle.check_fault.proofs.fault_printer.write_near.Goals as goal

pub returns : goal.returns
returns c =
    on_ok_weaker c.write_found.result
    (λ write. mismatch_added c.args.table.now c.args.heap.now c.args.near.value c.args.near.at (path_in c.args.near.way)
    c.args.text.now.items c.write_way.new.text.items c.write_found.new.text.items c.in_ok-write_way.ensures write)
    c.write_found.ensures
