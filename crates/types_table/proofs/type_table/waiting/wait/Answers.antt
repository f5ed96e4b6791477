use Rattle.types_table.proofs.type_table.TypeTableTextLemmas.{waiting_text-push}
use Rattle.types_table.proofs.type_table.waiting.wait.Goals as goal

pub returns-clause-text : goal.returns-clause-text
returns-clause-text c types =
    rw c.in_ok-push.ensures.items (waiting_text-push types c.args.waiting.now.items c.args.next)
