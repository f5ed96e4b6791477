use Rattle.edit_values.proofs.refusal_printer.write_fault.Goals as goal

pub returns-in-Syntax : goal.returns-in-Syntax
returns-in-Syntax c = rw c.in-Syntax.is c.write_at.ensures

pub returns-in-Label : goal.returns-in-Label
returns-in-Label c = rw c.in-Label.is c.write_at-in-Label.ensures
