use Rattle.std.proofs.Common.{◌≤◌}
use Rattle.check_stream.specs.mismatch_theory.PassedBut.{values_at}
use Rattle.check_stream.specs.mismatch_search.SearchTrail.{way_positions}
use Rattle.check_stream.proofs.checker.Weaker.{on_true_weaker}
use Rattle.check_stream.proofs.chunk_check.StreamCheckLemmas.{missed_prefix}
use Rattle.check_stream.proofs.chunk_check.value_inspection.is_prefix_but.Goals as goal

pub returns : goal.returns
returns c =
    let s = c.args.seeking.now in
    on_true_weaker c.are_within.result
    (λ (within : values_at (way_positions s.finding.way) ≤ c.in-Some.most) table limit sought some.
    missed_prefix table limit c.args.bytes.now s c.in-Some.most sought some c.in-Some.ensures within)
    c.are_within.ensures
