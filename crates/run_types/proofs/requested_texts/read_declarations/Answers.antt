use Rattle.run_types.proofs.RequestedTypeLemmas.{declarations_refused}
use Rattle.run_types.proofs.requested_texts.read_declarations.Goals as goal

pub returns-in-Err : goal.returns-in-Err
returns-in-Err c = declarations_refused c.args.lines c.args.text.now c.in-Err.fault c.declarations_exit.result c.in-Err.ensures.fault c.declarations_exit.ensures
