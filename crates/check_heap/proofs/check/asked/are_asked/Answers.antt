use Rattle.check_heap.proofs.check.asked.are_asked.Goals as goal

pub returns-then-all_asked : goal.returns-then-all_asked
returns-then-all_asked c = λ _ o t at. c.all_asked.ensures c.if-all_asked.true t (c.requires o t at)
