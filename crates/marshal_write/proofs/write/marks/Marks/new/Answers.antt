use Rattle.marshal_write.proofs.write.WriterMarkLemmas.{none_in_order}
use Rattle.marshal_write.proofs.write.marks.Marks.new.Goals as goal

pub returns-clause-marks : goal.returns-clause-marks
returns-clause-marks c = none_in_order c.args.objects
