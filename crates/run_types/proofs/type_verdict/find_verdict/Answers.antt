use Rattle.run_types.proofs.type_verdict.find_verdict.Goals as goal

pub returns : goal.returns
returns c = rw c.table.ensures.same at c.check.ensures.verdict
