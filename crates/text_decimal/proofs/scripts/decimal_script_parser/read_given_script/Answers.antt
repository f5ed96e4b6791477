use Rattle.std.proofs.Common.{ap, subst, ◌∙◌, map, Ok, Err}
use Rattle.text_path.specs.ScriptAnswer.{AreEdits, UnlessMemory}
use Rattle.text_decimal.specs.scripts.Scripts.{given_line, given_fault}
use Rattle.text_decimal.proofs.scripts.DecimalScriptReadLemmas.{lines_read, fault_read}
use Rattle.text_decimal.proofs.scripts.decimal_script_parser.read_given_script.Goals as goal

pub returns-in-Ok-clause-script : goal.returns-in-Ok-clause-script
returns-in-Ok-clause-script c =
    lines_read c.args.text.now c.in_ok-plain.plain c.in_ok-plain.ensures c.in-Ok.script.lines c.in_ok-of-in-Ok.field-0.lines
    (subst (λ text. AreEdits 1 text (Ok c.in-Ok.script.lines)) c.as_slice.ensures.value c.in-Ok.ensures.script)
    (c.in_ok-of-in-Ok.ensures ∙ c.in_ok-lines-in-Ok.ensures
    ∙ ap (λ ds. map (given_line ds) c.as_slice-in-Ok-2.result.now) c.as_slice-in-Ok.ensures.value
    ∙ ap (λ lines. map (given_line c.in_ok-plain.plain.decimals.items) lines) c.as_slice-in-Ok-2.ensures)

pub returns-clause-fault : goal.returns-clause-fault
returns-clause-fault c =
    fault_read c.args.text.now c.in_ok-plain.plain c.in_ok-plain.ensures c.in-Err.fault c.given_fault.result
    (subst (λ text. UnlessMemory (λ f. AreEdits 1 text (Err f)) c.in-Err.fault) c.as_slice.ensures.value c.in-Err.ensures.fault)
    (c.given_fault.ensures ∙ ap (λ ds. given_fault ds c.in-Err.fault) c.as_slice-in-Err.ensures.value)
