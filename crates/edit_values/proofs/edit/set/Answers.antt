use Rattle.edit_values.proofs.ApplyLemmas.{set_applied, misread_result}
use Rattle.edit_values.proofs.edit.set.Goals as goal

pub returns-in_err-value-clause-answer : goal.returns-in_err-value-clause-answer
returns-in_err-value-clause-answer c =
    misread_result c.args.table.now c.args.path.now c.args.lexemes.now c.args.end c.args.heap.now c.args.root.now c.in_ok-position.position c.in_ok-position.ensures.position
    c.read_literal.new.heap c.in_err-value.field-0.0 c.from_residual-in_err-value.result c.in_err-value.ensures.answer c.from_residual-in_err-value.ensures.1

pub returns-clause-answer : goal.returns-clause-answer
returns-clause-answer c =
    set_applied c.args.table.now c.args.path.now c.args.lexemes.now c.args.end c.args.heap.now c.args.root.now c.in_ok-position.position c.in_ok-position.ensures.position
    c.count-count.result c.read_literal.new.heap c.in_ok-value.value c.count-count.ensures.count c.in_ok-value.ensures.answer
    c.write_if_typed.new.heap c.write_if_typed.new.root c.write_if_typed.result c.write_if_typed.ensures.kept
