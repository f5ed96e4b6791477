use Rattle.types_table.specs.type_table.Made.{table_of}
use Rattle.cert_verify.specs.certificate.Testing.{AreThere}
use Rattle.cert_verify.proofs.certificate.entry_verdict.first_out.Given as goal

abbrev pub invariant-loop-i : goal.invariant-loop-i
invariant-loop-i l = AreThere (table_of l.table) l.heap l.pairs l.i
