use Rattle.base_io.specs.StreamState.{change}
use Rattle.session.proofs.EditLemmas.{checked_error, lines_error, edited_writes, made_where_written}
use Rattle.session.proofs.edit_lines.edit_value.Goals as goal

pub returns-in_err-check_type-clause-writes : goal.returns-in_err-check_type-clause-writes
returns-in_err-check_type-clause-writes g c = λ others are.
    checked_error c.args.edits others c.args.number c.args.value.now (g.K.Sink.state c.args.out.now) c.in_err-check_type.field-0.0 c.from_residual.result c.from_residual.ensures.1 c.in_err-check_type.ensures

pub returns-in_err-edit_by_lines-clause-writes : goal.returns-in_err-edit_by_lines-clause-writes
returns-in_err-edit_by_lines-clause-writes g c = λ others are.
    let error = c.in_err-edit_by_lines.field-0.0 in
    lines_error c.args.edits others c.args.number c.args.value.now c.in_ok-check_type.ensures c.edit_by_lines.new.value (g.K.Sink.state c.args.out.now) error
    c.from_residual-in_err-edit_by_lines.result c.from_residual-in_err-edit_by_lines.ensures.1 (c.in_err-edit_by_lines.ensures others are)

pub invariant_of-new : goal.invariant_of-new
invariant_of-new g c = record { value = (c.in_ok-edit_by_lines.ensures c.requires.kept.0 c.requires.kept.1).valid }

pub returns-clause-writes : goal.returns-clause-writes
returns-clause-writes g c = λ others are.
    edited_writes c.args.edits others c.args.number c.args.value.now c.in_ok-check_type.ensures c.edit_by_lines.new.value (c.in_ok-edit_by_lines.ensures others are)
    (change (g.K.Sink.state c.args.out.now) (g.K.Sink.state c.write_bytes.new.out)) c.write_bytes.result c.write_bytes.ensures

pub returns-clause-made : goal.returns-clause-made
returns-clause-made g c = λ others are. made_where_written c.write_bytes.result (c.in_ok-edit_by_lines.ensures others are)
