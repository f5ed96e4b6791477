use Rattle.std.proofs.Common.{Ok, Err, subst, sym}
use Rattle.text_path.specs.ScriptAnswer.{AreEdits}
use Rattle.text_path.proofs.PathScriptLemmas.{reports_script}
use Rattle.text_path.proofs.script_parser.read_script.Goals as goal

pub returns-in_ok-of-in-Ok-clause-only : goal.returns-in_ok-of-in-Ok-clause-only
returns-in_ok-of-in-Ok-clause-only c =
    let text = c.args.text.now in
    reports_script text (Ok c.in_ok-of-in-Ok.field-0) (subst (λ lines. AreEdits 1 text (Ok lines)) (sym c.in_ok-of-in-Ok.ensures) c.in-Ok.ensures.lines) tt

pub returns-in-Err-clause-only : goal.returns-in-Err-clause-only
returns-in-Err-clause-only c = reports_script c.args.text.now (Err c.in-Err.fault) tt c.in-Err.ensures.fault
