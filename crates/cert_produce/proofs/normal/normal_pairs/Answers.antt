use Rattle.std.proofs.Common.{subst}
use Rattle.std.specs.Prelude.{Contains, ◌↔◌}
use Rattle.cert_produce.proofs.normal.normal_pairs.Goals as goal

pub returns-clause-same : goal.returns-clause-same
returns-clause-same c = λ pair. subst (λ all. Contains c.in_order.result pair ↔ Contains all pair) c.in_ok-pairs.ensures (c.in_order.ensures.same pair)

pub returns-clause-increasing : goal.returns-clause-increasing
returns-clause-increasing c = c.in_order.ensures.increasing
