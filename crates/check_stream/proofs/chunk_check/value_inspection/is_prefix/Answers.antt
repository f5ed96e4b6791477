use Rattle.std.proofs.Common.{◌≤◌}
use Rattle.check_stream.specs.theory.AskedNeeds.{values_in}
use Rattle.check_stream.specs.checker.CheckerState.{needs_in}
use Rattle.check_stream.proofs.checker.Weaker.{on_true_weaker}
use Rattle.check_stream.proofs.chunk_check.StreamCheckLemmas.{leads_prefix}
use Rattle.check_stream.proofs.chunk_check.value_inspection.is_prefix.Goals as goal

pub returns : goal.returns
returns c =
    let p = c.args.passing.now in
    on_true_weaker c.are_within.result
    (λ (within : values_in (needs_in p.state) ≤ c.in-Some.most) table limit underway some.
    leads_prefix table limit c.args.bytes.now p c.in-Some.most underway some c.in-Some.ensures within)
    c.are_within.ensures
