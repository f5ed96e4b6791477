use Rattle.types_table.specs.type_table.Made.{table_of}
use Rattle.cert_verify.specs.certificate.Right.{IsWorded, AreRightWithAll}
use Rattle.cert_verify.proofs.certificate.right.are_right.Given as goal

abbrev pub invariant-loop-i : goal.invariant-loop-i
invariant-loop-i l = IsWorded l.stated.heap.now l.stated.pairs.now l.i l.own × AreRightWithAll (table_of l.stated.fitting.table.now) l.stated.heap.now l.stated.pairs.now l.i
