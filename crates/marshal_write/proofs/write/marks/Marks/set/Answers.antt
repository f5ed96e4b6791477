use Rattle.std.proofs.Common.{refl, arith}
use Rattle.marshal_write.proofs.write.WriterMarkLemmas.{next_marked}
use Rattle.marshal_write.proofs.write.marks.Marks.set.Goals as goal

pub returns-then-k-mark-clause-marks : goal.returns-then-k-mark-clause-marks
returns-then-k-mark-clause-marks c =
    next_marked c.args.self.now (record c.args.self.now { met = c.args.mark }) c.args.k c.args.mark c.if-self.true refl refl refl (omega arith) (omega (arith, c.requires.some)) c.requires.inside
