use Rattle.thm_outcome.proofs.TotalValueLemmas.{untyped_total, dump_answer, same_answer}
use Rattle.thm_outcome.proofs.laws.untyped_commands_are_total.Goals as goal

pub returns-clause-total : goal.returns-clause-total
returns-clause-total g c = untyped_total g.L.Prints.language

pub returns-clause-dump : goal.returns-clause-dump
returns-clause-dump g c = λ limit. dump_answer g.L.Prints.language limit

pub returns-clause-same : goal.returns-clause-same
returns-clause-same g c = λ limit. same_answer g.L.Prints.language limit
