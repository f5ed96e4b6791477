use Rattle.std.proofs.Common.{◌-◌}
use Rattle.check_heap.specs.fits.ObjectRow.{AgreeTo}
use Rattle.check_heap.proofs.fits.word_conditions.more_agree.Given as goal

abbrev pub invariant-loop-more : goal.invariant-loop-more
invariant-loop-more l = AgreeTo l.blocks l.more

abbrev pub decreases-loop-more : goal.decreases-loop-more
decreases-loop-more l = 244 - l.more
