use Rattle.std.proofs.Common.{◌++◌}
use Rattle.std.specs.Prelude.{codes}
use Rattle.std.proofs.lemmas.Result.{on_ok_weaker}
use Rattle.base_data.specs.lines.Positions.{reported_by}
use Rattle.check_fault.specs.FaultText.{text_at}
use Rattle.check_fault.proofs.ConflictTexts.{more}
use Rattle.edit_values.proofs.refusal_printer.write_mismatch.Goals as goal

pub returns : goal.returns
returns c =
    let old = c.args.text.now.items in
    let a = codes "Misfit at " ++ reported_by c.args.positions.now c.args.position in
    let b = a ++ codes ": expected " in
    let one = c.write_at.new.text.items in
    let two = c.write.new.text.items in
    let three = c.write_type.new.text.items in
    on_ok_weaker c.write_type.result
    (λ write. more old b (text_at c.args.table.now c.args.ty) two three
    (more old a (codes ": expected ") one two c.in_ok-write_at.ensures c.in_ok-write.ensures) write)
    c.write_type.ensures
