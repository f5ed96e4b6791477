use Rattle.std.proofs.Common.{length, ap, arith}
use Rattle.check_heap.proofs.check.ScannedLemmas.{length_pairs}
use Rattle.check_heap.proofs.check.settled_objects.SettledObjects.len.Goals as goal

pub returns : goal.returns
returns c =
    let both = length_pairs c.self.inside.types c.self.inside.seconds in
    let all = ap length c.self.view_is in
    omega (arith, both, all, c.len.ensures, c.len-2.ensures)
