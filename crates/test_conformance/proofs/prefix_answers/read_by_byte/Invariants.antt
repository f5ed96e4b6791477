use Rattle.marshal_read.specs.Reader.{IsReader}
use Rattle.test_conformance.proofs.prefix_answers.read_by_byte.Given as goal

abbrev pub invariant-loop-i : goal.invariant-loop-i
invariant-loop-i l = IsReader l.reader
