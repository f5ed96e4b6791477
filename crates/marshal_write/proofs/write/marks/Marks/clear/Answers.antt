use Rattle.std.proofs.Common.{◌∙◌, ap, refl, replicate}
use Rattle.marshal_write.proofs.write.WriterMarkLemmas.{none_marked}
use Rattle.marshal_write.proofs.write.marks.Marks.clear.Goals as goal

pub returns-clause-marks : goal.returns-clause-marks
returns-clause-marks c = none_marked c.args.self.now (record c.args.self.now { met = 0; table = c.fill.new.self }) refl refl refl (c.fill.ensures.items (λ y same. same) ∙ ap (λ n. replicate n 0) c.args.self.now.table.ok.0)
