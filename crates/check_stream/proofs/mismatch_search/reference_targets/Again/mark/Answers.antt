use Rattle.std.proofs.Common.{refl}
use Rattle.check_stream.proofs.mismatch_search.reference_targets.Again.mark.Goals as goal

pub returns : goal.returns
returns c = record { all = c.reach.new.self.marks.items; reaches = c.in_ok-reach.ensures; marks = refl }
