use Rattle.std.proofs.Common.{sym, subst}
use Rattle.std.proofs.lemmas.List.Elements.{All-head, All-tail}
use Rattle.text_path.specs.declared.edits.ScriptLine.{ScriptLine}
use Rattle.session.specs.Earlier.{IsServed, AreServed}
use Rattle.session.proofs.EditLemmas.{edits_begin, edits_more, edits_end, edits_error}
use Rattle.session.proofs.edit_lines.edit_by_lines.Goals as goal

pub loop-line-init : goal.loop-line-init
loop-line-init c = (
  λ others are. edits_begin c.args.requested.now others c.args.number c.args.script.now.lines c.args.value.now c.requires.value c.lines_of-rest.result c.lines_of-rest.ensures,
  subst (AreServed c.args.kept.now) (sym c.lines_of-rest.ensures) c.requires.served,
)

pub edit_by_line-requires-clause-served : goal.edit_by_line-requires-clause-served
edit_by_line-requires-clause-served c =
    All-head (λ (line : ScriptLine). IsServed c.args.kept.now line.action) c.in-Some.line.now c.next.new.self (subst (AreServed c.args.kept.now) c.in-Some.ensures c.loop-line.invariant.1)

pub edit_by_line-requires-clause-value : goal.edit_by_line-requires-clause-value
edit_by_line-requires-clause-value c = (c.loop-line.invariant.0 c.requires.kept.0 c.requires.kept.1).valid

pub loop-line-preserved : goal.loop-line-preserved
loop-line-preserved c = (
  λ others are. edits_more c.args.requested.now others c.args.number c.args.script.now.lines c.args.value.now c.loop-line.rest c.loop-line.value (c.loop-line.invariant.0 others are)
      c.in-Some.line.now c.next.new.self c.in-Some.ensures c.edit_by_line.new.value (c.in_ok-edit_by_line.ensures others are),
  All-tail (λ (line : ScriptLine). IsServed c.args.kept.now line.action) c.in-Some.line.now c.next.new.self (subst (AreServed c.args.kept.now) c.in-Some.ensures c.loop-line.invariant.1),
)

pub returns : goal.returns
returns c = λ others are.
    edits_end c.args.requested.now others c.args.number c.args.script.now.lines c.args.value.now c.loop-line.rest c.loop-line.value (c.loop-line.invariant.0 others are) c.in_default.ensures

pub returns-in_err-edit_by_line : goal.returns-in_err-edit_by_line
returns-in_err-edit_by_line c = λ others are.
    edits_error c.args.requested.now others c.args.number c.args.script.now.lines c.args.value.now c.loop-line.rest c.loop-line.value (c.loop-line.invariant.0 others are)
    c.in-Some.line.now c.next.new.self c.in-Some.ensures c.edit_by_line.new.value c.in_err-edit_by_line.field-0.0 c.from_residual.result
    c.from_residual.ensures.1 (c.in_err-edit_by_line.ensures others are)
