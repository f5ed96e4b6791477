use Rattle.std.proofs.Common.{inr}
use Rattle.session.proofs.EditLemmas.{line_applied, refused_by}
use Rattle.session.proofs.edit_lines.edit_by_line.Goals as goal

pub returns-in-Ok : goal.returns-in-Ok
returns-in-Ok c = λ others are.
    line_applied c.args.requested.now others c.args.number c.args.line.now c.holds.ensures c.tables_answer_lines_agree.ensures c.if-line-number.false c.args.value.now
    c.act.new.value c.act.ensures.value (c.in-Ok.ensures.applied others are)

pub returns-in_ok-line_exit-in-Err : goal.returns-in_ok-line_exit-in-Err
returns-in_ok-line_exit-in-Err c = λ others are. inr
    (refused_by c.args.requested.now others c.args.number c.args.line.now c.holds.ensures c.tables_answer_lines_agree.ensures c.if-line-number.false c.args.value.now
    c.act.new.value c.in-Err.refusal c.in_ok-line_exit-in-Err.field-0 c.in_ok-line_exit-in-Err.ensures (c.in-Err.ensures.applied others are))
