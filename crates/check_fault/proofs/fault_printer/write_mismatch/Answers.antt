use Rattle.std.proofs.lemmas.Result.{on_ok_weaker}
use Rattle.check_fault.proofs.MismatchTexts.{mismatch_added, mismatch_written}
use Rattle.check_fault.proofs.fault_printer.write_mismatch.Goals as goal

pub returns : goal.returns
returns c =
    let table = c.args.table.now in
    let graph = c.args.value.now.heap.now in
    let path = c.args.path.now in
    let old = c.args.text.now.items in
    on_ok_weaker c.write_found.result
    (λ write. mismatch_written table graph c.in-Some.found c.in-Some.expected c.args.value.now.root path old c.write_found.new.text.items
    c.in-Some.ensures.position
    (mismatch_added table graph c.in-Some.found c.in-Some.expected path old c.write_path.new.text.items
    c.write_found.new.text.items c.in_ok-write_path.ensures write))
    c.write_found.ensures
