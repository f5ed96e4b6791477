use Rattle.types_table.proofs.type_table.type_printer.write_part.Goals as goal

pub write_type-requires-clause-within : goal.write_type-requires-clause-within
write_type-requires-clause-within c = c.in_ok-wait.ensures.within c.args.types.now tt c.requires.within
