use Rattle.types_table.specs.type_table.Made.{table_of}
use Rattle.cert_verify.specs.certificate.Testing.{AreRight}
use Rattle.cert_verify.proofs.certificate.entry_verdict.verify_each.Given as goal

abbrev pub invariant-loop-i : goal.invariant-loop-i
invariant-loop-i l = AreRight (table_of l.stated.fitting.table.now) l.stated.heap.now l.stated.pairs.now l.i
