use Rattle.std.proofs.Common.{ℕ, ◌≡◌, ◌<◌, length}
use Rattle.std.specs.Prelude.{slice_index}
use Rattle.types_table.specs.type_table.Made.{table_of}
use Rattle.cert_produce.specs.LeastFaults.{IsLeastOf, AreNoted, noted_in}
use Rattle.cert_produce.proofs.least_faults.least_faults_of.Given as goal

abbrev pub invariant-loop-ty : goal.invariant-loop-ty
invariant-loop-ty l = record {
  noted : AreNoted (table_of l.table) l.ty (noted_in l.firsts);
  many : length l.least_faults.items ≡ l.ty;
  least : (t : ℕ) → t < l.ty → IsLeastOf (table_of l.table) t (slice_index l.least_faults.items t);
}
