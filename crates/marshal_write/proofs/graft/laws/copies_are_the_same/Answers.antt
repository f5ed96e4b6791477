use Rattle.marshal_write.proofs.graft.GraftCopyLemmas.{copies_are_the_same_lem, one_copy_follows, copies_are_closed}
use Rattle.marshal_write.proofs.graft.laws.copies_are_the_same.Goals as goal

pub returns-clause-same : goal.returns-clause-same
returns-clause-same c = copies_are_the_same_lem

pub returns-clause-one : goal.returns-clause-one
returns-clause-one c = one_copy_follows

pub returns-clause-new : goal.returns-clause-new
returns-clause-new c = copies_are_closed
