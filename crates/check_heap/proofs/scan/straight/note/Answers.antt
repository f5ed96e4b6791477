use Rattle.check_heap.proofs.scan.straight.note.Goals as goal

pub returns-clause-noted : goal.returns-clause-noted
returns-clause-noted c = (c.number.result, c.number.ensures.in_range, c.number.ensures.named, c.in_ok-note.ensures.notes)
