use Rattle.types_table.specs.type_table.Made.{table_of}
use Rattle.cert_verify.specs.certificate.Testing.{AreCrowded, is_in}
use Rattle.cert_verify.proofs.certificate.held.frequent_of.Given as goal

abbrev pub invariant-loop-i : goal.invariant-loop-i
invariant-loop-i l = AreCrowded (table_of l.table) l.pairs l.i (is_in l.frequent)
