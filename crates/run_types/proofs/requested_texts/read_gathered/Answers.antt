use Rattle.std.proofs.Common.{Ok, Err, ap, subst}
use Rattle.cli_spec.specs.Outcome.{fault_of, asked_with}
use Rattle.cli_spec.specs.declared.exit.Exit.TheVariants.{ReadFault as read_fault, TooLong as too_long}
use Rattle.run_types.specs.GatheredFile.{taken_of, until_of}
use Rattle.run_types.specs.RequestedTexts.{GivesDeclarations, GivesRequested}
use Rattle.run_types.proofs.RequestedTypeLemmas.{reads_fault, reads_declarations, reads_type}
use Rattle.run_types.proofs.requested_texts.read_gathered.Goals as goal

pub returns-in-Fault : goal.returns-in-Fault
returns-in-Fault c = λ file. reads_fault file (asked_with c.args.type_text.now c.args.lines c.args.decimal) (taken_of c.args.gathered.now) read_fault (ap (λ u. fault_of (until_of u)) c.in-Fault.is)

pub returns-in-Length : goal.returns-in-Length
returns-in-Length c = λ file. reads_fault file (asked_with c.args.type_text.now c.args.lines c.args.decimal) (taken_of c.args.gathered.now) too_long (ap (λ u. fault_of (until_of u)) c.in-Length.is)

pub returns-in-Ok : goal.returns-in-Ok
returns-in-Ok c = λ file.
    reads_type file (asked_with c.args.type_text.now c.args.lines c.args.decimal) (taken_of c.args.gathered.now) (ap until_of c.in-End.is) c.in-Ok.decls
    (subst (λ text. GivesDeclarations c.args.lines text (Ok c.in-Ok.decls)) c.as_slice.ensures.value c.in-Ok.ensures)
    c.read_requested.result
    (subst (λ text. GivesRequested c.in-Ok.decls (asked_with text c.args.lines c.args.decimal) c.read_requested.result) c.as_bytes.ensures.value c.read_requested.ensures)

pub returns-in-Err : goal.returns-in-Err
returns-in-Err c = λ file.
    reads_declarations file (asked_with c.args.type_text.now c.args.lines c.args.decimal) (taken_of c.args.gathered.now) (ap until_of c.in-End.is) c.in-Err.exit
    (subst (λ text. GivesDeclarations c.args.lines text (Err c.in-Err.exit)) c.as_slice.ensures.value c.in-Err.ensures)
