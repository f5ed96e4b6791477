use Rattle.std.proofs.Common.{◌-◌, length}
use Rattle.types_table.specs.type_table.Made.{table_of}
use Rattle.cert_verify.specs.certificate.Testing.{IsPassing, IsSame}
use Rattle.cert_verify.proofs.certificate.held.is_elsewhere_behind.Given as goal

abbrev pub invariant-loop-at : goal.invariant-loop-at
invariant-loop-at l = IsPassing l.pairs l.object l.at (λ u. ¬ IsSame (table_of l.table) l.ty u)

abbrev pub decreases-loop-at : goal.decreases-loop-at
decreases-loop-at l = length l.pairs - l.at
