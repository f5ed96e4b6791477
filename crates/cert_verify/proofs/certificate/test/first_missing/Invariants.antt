use Rattle.types_table.specs.type_table.Made.{table_of}
use Rattle.check_heap.specs.fits.Needs.{needs_in}
use Rattle.cert_verify.specs.certificate.Testing.{HoldsFirst}
use Rattle.cert_verify.proofs.certificate.test.first_missing.Given as goal

abbrev pub invariant-loop-k : goal.invariant-loop-k
invariant-loop-k l = HoldsFirst (table_of l.stated.fitting.table.now) l.stated.heap.now l.stated.pairs.now l._object (needs_in l.needs) l.k
