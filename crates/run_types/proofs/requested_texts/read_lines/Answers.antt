use Rattle.std.proofs.Common.{Ok, Err, ap, subst}
use Rattle.cli_spec.specs.Outcome.{fault_of}
use Rattle.cli_spec.specs.declared.exit.Exit.TheVariants.{ReadFault as read_fault, TooLong as too_long}
use Rattle.text_path.specs.ScriptAnswer.{UnlessMemory}
use Rattle.run_types.specs.RequestedTexts.{IsAnswerOf}
use Rattle.run_types.specs.GatheredFile.{taken_of, until_of}
use Rattle.run_types.proofs.RequestedTypeLemmas.{script_fault, script_read, script_refused}
use Rattle.run_types.proofs.requested_texts.read_lines.Goals as goal

pub returns-in-Fault : goal.returns-in-Fault
returns-in-Fault c = λ name. script_fault c.args.lines c.args.decimal name (taken_of c.args.gathered.now) read_fault (ap (λ u. fault_of (until_of u)) c.in-Fault.is)

pub returns-in-Length : goal.returns-in-Length
returns-in-Length c = λ name. script_fault c.args.lines c.args.decimal name (taken_of c.args.gathered.now) too_long (ap (λ u. fault_of (until_of u)) c.in-Length.is)

pub returns-in-Ok : goal.returns-in-Ok
returns-in-Ok c = λ name.
    script_read c.args.lines c.args.decimal name (taken_of c.args.gathered.now) (ap until_of c.in-End.is) c.in-Ok.script
    (subst (λ text. IsAnswerOf c.args.decimal text (Ok c.in-Ok.script)) c.as_slice.ensures.value c.in-Ok.ensures.script)

pub returns-in-Err : goal.returns-in-Err
returns-in-Err c = λ name.
    script_refused c.args.lines c.args.decimal name (taken_of c.args.gathered.now) (ap until_of c.in-End.is) c.in-Err.fault
    (subst (λ text. UnlessMemory (λ f. IsAnswerOf c.args.decimal text (Err f)) c.in-Err.fault) c.as_slice.ensures.value c.in-Err.ensures.fault) c.script_exit.result c.script_exit.ensures
