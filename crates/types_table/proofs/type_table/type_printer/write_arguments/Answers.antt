use Rattle.std.proofs.lemmas.Result.{on_ok_weaker}
use Rattle.types_table.proofs.type_table.type_printer.write_arguments.Goals as goal

pub push_parts-requires-clause-within : goal.push_parts-requires-clause-within
push_parts-requires-clause-within c = c.in_ok-wait-2.ensures.within c.args.types.now tt c.requires.within

pub returns-in_ok-wait-clause-within : goal.returns-in_ok-wait-clause-within
returns-in_ok-wait-clause-within c =
    on_ok_weaker c.wait-then-is_none.result
    (λ waits. waits c.args.types.now c.requires.number (c.in_ok-wait.ensures.within c.args.types.now tt c.requires.within))
    c.wait-then-is_none.ensures.within
